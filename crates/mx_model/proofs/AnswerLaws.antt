-- What a request is answered on a state, by the first test that it fails.
use Rattle.std.proofs.Common.{◌≡◌, ℕ, ◌<◌, ◌^◌, Some, None, Ok, Bool, true, false, List, ◌++◌, refl, inr, zero, suc, [], length, sym, ap, ◌∙◌, ◌⊎◌, inl, ◌∷◌, subst, ◌≤◌}
use Rattle.std.specs.Prelude.{Option, Result, Err, nat_lt, if◌then◌else◌}
use Rattle.std.proofs.lemmas.Bool.{ne_eqb, lt-ltb, le-ltb}
use Rattle.std.specs.Option.{option_map, unwrap_or}
use Rattle.mx_row.specs.declared.row.Row.{Row}
use Rattle.mx_row.specs.Rows.{IsRow}
use Rattle.mx_schema.specs.Sound.{IsSound}
use Rattle.mx_schema.specs.State.{State, source_of}
use Rattle.mx_write.specs.Change.{state_after_changed}
use Rattle.mx_write.specs.Judge.{judged_write, row_change, row_refusal}
use Rattle.mx_write.specs.Made.{Made}
use Rattle.mx_write.specs.Writes.{HasBytes, Write, IsWellFormed, Insert, Replace, Update, Delete, Upsert, write_in}
use Rattle.mx_write.specs.declared.writable.Writer.TheVariants.{Client}
use Rattle.mx_base.specs.declared.kinds.Unsupported.TheVariants.{HashIterator}
use Rattle.mx_base.specs.declared.refusal.Refusal.TheVariants.{ResultTooLong, Unsupported, KeyPartCount, SpaceMissing, IndexMissing}
use Rattle.mx_key.specs.declared.fault.Misfit.{Misfit}
use Rattle.mx_key.specs.declared.iterator.IterKind.{IterKind}
use Rattle.mx_key.specs.Keys.{Key}
use Rattle.mx_key.specs.Ranges.{Range, range_of}
use Rattle.mx_schema.specs.declared.index_def.IndexDef.{IndexDef}
use Rattle.mx_schema.specs.declared.schema.Schema.{Schema}
use Rattle.mx_schema.specs.Catalogues.{index_with, schema_of}
use Rattle.mx_schema.specs.Picks.{Selection, pick, entries_of, total_bytes, max_result_size}
use Rattle.mx_write.specs.Reads.{schema_reads, space_read}
use Rattle.mx_model.specs.statements.Answer.{refusal_after, tuples_after, Answer}
use Rattle.mx_model.specs.statements.Lookup.{in_def, in_schema, in_index, in_space}
use Rattle.mx_model.specs.statements.Select.{asked_key, part_count, range_reads, select_found, select_by_key, select_in_index, select_answer, select_answer_in, takes_iterator, key_by_kind, iterator_of}
use Rattle.mx_base.specs.declared.refusal.Refusal.{Refusal}
use Rattle.mx_msgpack.specs.Items.{after_value, array_of, items_of, values_from}
use Rattle.mx_key.specs.declared.fault.Misfit.TheVariants.{TooLong}
use Rattle.mx_key.specs.declared.part.Part.{Part}
use Rattle.mx_key.specs.Parts.{parts_of_items, whole_key, whole_key_of_items, key_of_array}
use Rattle.mx_schema.specs.declared.index_def.IndexKind.TheVariants.{Hash}
use Rattle.mx_model.specs.SelectSteps.{RefusesKey, TakesKey}
use Rattle.mx_request.specs.declared.request.Request.{Request}
use Rattle.mx_request.specs.Spelling.{IsAskable}
use Rattle.mx_model.specs.Answers.{answer_to, state_after_row}
use Rattle.mx_model.specs.statements.Write.{answer_of_outcome, write_answer_in}
use Rattle.mx_write.specs.Lookup.{misfit_refusal}
use Rattle.mx_write.proofs.RowJudgeLaws as judge
use Rattle.mx_write.proofs.SoundLaws as sound
use Rattle.mx_request.specs.declared.request.Request.TheVariants as request

-- ---- what the rows of writes change, whether they can be written, and that a state stays sound

module _ (before : State) (space : ℕ) (write : Write) (made : Made) where
  pub changes_nothing : (judged_write Client before space write).outcome ≡ Ok made → made.row ≡ None → made.change ≡ None
  changes_nothing = judge.no_row_no_change before space write made

  pub changes_again : (row : Row) → IsSound before → (judged_write Client before space write).outcome ≡ Ok made → made.row ≡ Some row → row_change before row ≡ made.change
  changes_again row sound outcome leaves = (judge.takes_again before space made row sound leaves write outcome).1

  pub takes_again : (row : Row) → IsSound before → (judged_write Client before space write).outcome ≡ Ok made → made.row ≡ Some row → row_refusal before row ≡ None
  takes_again row sound outcome leaves = (judge.takes_again before space made row sound leaves write outcome).0

  pub row_written : (row : Row) → IsSound before → IsWellFormed write → space < 2 ^ 32 → (judged_write Client before space write).outcome ≡ Ok made → made.row ≡ Some row → IsRow row
  row_written = judge.leaves_row before space write made

  pub stays_sound : IsSound before → HasBytes write → (judged_write Client before space write).outcome ≡ Ok made → IsSound (state_after_changed before made.change)
  stays_sound = sound.stays_sound Client before space write made

-- ---- a SELECT writes no row

answered_no_row : (space source index : ℕ) (whole : Range) (found : Selection) → (select_found space source index whole found).row ≡ None
answered_no_row space source index whole found = by_test (nat_lt max_result_size (total_bytes found.tuples))
  where
    by_test : (long : Bool)
        → (if long then refusal_after (schema_reads space ++ range_reads source index (Some whole)) ResultTooLong
        else tuples_after (schema_reads space ++ range_reads source index found.read) found.tuples).row ≡ None
    by_test true = refl
    by_test false = refl

selected_by_no_row : (before : State) (space limit offset : ℕ) (iterator : IterKind) (def : IndexDef) (key : Result Key Misfit)
    → (select_by_key before space limit offset iterator def key).row ≡ None
selected_by_no_row before space limit offset iterator def (Err misfit) = refl
selected_by_no_row before space limit offset iterator def (Ok key) =
    answered_no_row space (source_of space) def.id.0 (range_of iterator key) (pick (entries_of before space def) iterator key offset limit)

-- a SELECT writes no row
pub select_no_row : (before : State) (space index limit offset : ℕ) (iterator : IterKind) (key : List ℕ)
    → (select_answer_in before space index limit offset iterator key).row ≡ None
select_no_row before space index limit offset iterator key = by_schema (schema_of before space)
  where
    by_def : (schema : Schema) (def : Option IndexDef) → (in_def space schema index def (select_in_index before space limit offset iterator key)).row ≡ None
    by_def schema None = refl
    by_def schema (Some def) = by_test (takes_iterator def.kind iterator (part_count key))
      where
        by_test : (taken : Bool)
            → (if taken then select_by_key before space limit offset iterator def (asked_key def key) else refusal_after (schema_reads space) (Unsupported HashIterator)).row ≡ None
        by_test true = selected_by_no_row before space limit offset iterator def (asked_key def key)
        by_test false = refl

    by_schema : (schema : Option Schema) → (in_schema space schema (select_answer before space index limit offset iterator key)).row ≡ None
    by_schema None = refl
    by_schema (Some schema) = by_def schema (index_with index schema.indexes)

-- ---- how many parts a key has

length_of_values : (count : ℕ) (bytes : List ℕ) → length (values_from count bytes) ≡ count
length_of_values zero bytes = refl
length_of_values (suc count) bytes = ap suc (length_of_values count (after_value bytes))

-- as many as its array has items
pub parts_are_counted : (key : List ℕ) (count : ℕ) (bytes : List ℕ) → array_of key ≡ Some (count, bytes) → part_count key ≡ count
parts_are_counted key count bytes is =
    ap (λ found. length (unwrap_or (option_map (λ array. values_from array.0 array.1) found) [])) is ∙ length_of_values count bytes

-- ---- a hash index

other_key : (parts : List Part) (items : List (List ℕ)) → (length items ≡ length parts → ⊥) → whole_key_of_items parts items ≡ Err (TooLong (length items))
other_key parts items other = ap (λ b. if b then parts_of_items 0 parts items else Err (TooLong (length items))) (ne_eqb (length items) (length parts) other)

-- it refuses a key that is neither empty nor whole
pub hash_refuses : (def : IndexDef) (iterator : IterKind) (key : List ℕ) (parts : ℕ) (refusal : Refusal) → def.kind ≡ Hash → parts ≡ part_count key
    → takes_iterator def.kind iterator parts ≡ true → (parts ≡ 0 → ⊥) → (parts ≡ length def.key → ⊥) → refusal ≡ KeyPartCount parts (length def.key)
    → RefusesKey def iterator key refusal
hash_refuses def iterator key parts refusal hash same taken some other is =
    inr (
      TooLong (part_count key),
      ap (takes_iterator def.kind iterator) (sym same) ∙ taken,
      ap (λ kind. key_by_kind kind def.key key) hash
          ∙ ap (λ none. if none then Ok [] else whole_key def.key key) (ne_eqb (part_count key) 0 (λ none. some (same ∙ none)))
          ∙ other_key def.key (unwrap_or (items_of key) []) (λ many. other (same ∙ many)),
      is ∙ ap (λ n. KeyPartCount n (length def.key)) same,
    )

-- ---- a space, and an index of it

module _ (before : State) (space : ℕ) (answer : Schema → Answer) where
  -- the space is missing
  pub space_is_missing : schema_of before space ≡ None → in_space before space answer ≡ refusal_after (space_read space ∷ []) (SpaceMissing (record { 0 = space }))
  space_is_missing none = ap (λ found. in_schema space found answer) none

  -- the space that is there has its answer
  pub space_is_there : (schema : Schema) → schema_of before space ≡ Some schema → in_space before space answer ≡ answer schema
  space_is_there schema is = ap (λ found. in_schema space found answer) is

module _ (space : ℕ) (schema : Schema) (index : ℕ) (answer : IndexDef → Answer) where
  pub index_is_missing : index_with index schema.indexes ≡ None
      → in_index space schema index answer ≡ refusal_after (schema_reads space) (IndexMissing (record { 0 = index }) schema.def.name)
  index_is_missing none = ap (λ found. in_def space schema index found answer) none

  pub index_is_there : (def : IndexDef) → index_with index schema.indexes ≡ Some def → in_index space schema index answer ≡ answer def
  index_is_there def is = ap (λ found. in_def space schema index found answer) is

-- ---- a SELECT

module _ (before : State) (space index limit offset : ℕ) (iterator : IterKind) (key : List ℕ) where
  abbrev select : Answer
  select = select_answer_in before space index limit offset iterator key

  abbrev by_index : IndexDef → Answer
  by_index = select_in_index before space limit offset iterator key

  pub select_misses_space : schema_of before space ≡ None → select ≡ refusal_after (space_read space ∷ []) (SpaceMissing (record { 0 = space }))
  select_misses_space none = space_is_missing before space (λ schema. in_index space schema index by_index) none

  module _ (schema : Schema) (described : schema_of before space ≡ Some schema) where
    in_it : select ≡ in_index space schema index by_index
    in_it = space_is_there before space (λ schema. in_index space schema index by_index) schema described

    pub select_misses_index : index_with index schema.indexes ≡ None → select ≡ refusal_after (schema_reads space) (IndexMissing (record { 0 = index }) schema.def.name)
    select_misses_index none = in_it ∙ index_is_missing space schema index by_index none

    module _ (def : IndexDef) (is : index_with index schema.indexes ≡ Some def) where
      by_index_found : select ≡ by_index def
      by_index_found = in_it ∙ index_is_there space schema index by_index def is

      abbrev by_test : Bool → Answer
      by_test taken =
          if taken then select_by_key before space limit offset iterator def (asked_key def key) else refusal_after (schema_reads space) (Unsupported HashIterator)

      by_asked : takes_iterator def.kind iterator (part_count key) ≡ true → select ≡ select_by_key before space limit offset iterator def (asked_key def key)
      by_asked taken = by_index_found ∙ ap by_test taken

      -- the index doesn't take the iterator, or the key
      pub key_is_refused : (refusal : Refusal) → RefusesKey def iterator key refusal → select ≡ refusal_after (schema_reads space) refusal
      key_is_refused refusal (inl (other, told)) = by_index_found ∙ ap by_test other ∙ ap (refusal_after (schema_reads space)) (sym told)
      key_is_refused refusal (inr (misfit, taken, fails, told)) =
          by_asked taken ∙ ap (select_by_key before space limit offset iterator def) fails ∙ ap (refusal_after (schema_reads space)) (sym told)

      -- it takes both
      module _ (taken : TakesKey def iterator key) where
        by_key : select ≡ select_by_key before space limit offset iterator def (key_of_array def.key key)
        by_key = by_asked taken.0 ∙ ap (select_by_key before space limit offset iterator def) taken.1

        -- the key doesn't fit the index
        pub key_is_misfit : (misfit : Misfit) → key_of_array def.key key ≡ Err misfit → select ≡ refusal_after (schema_reads space) (misfit_refusal (length def.key) misfit)
        key_is_misfit misfit fits = by_key ∙ ap (select_by_key before space limit offset iterator def) fits

        module _ (fitting : Key) (fits : key_of_array def.key key ≡ Ok fitting) where
          abbrev found : Selection
          found = pick (entries_of before space def) iterator fitting offset limit

          by_range : select ≡ select_found space (source_of space) def.id.0 (range_of iterator fitting) found
          by_range = by_key ∙ ap (select_by_key before space limit offset iterator def) fits

          abbrev answer_by : Bool → Answer
          answer_by long =
              if long then refusal_after (schema_reads space ++ range_reads (source_of space) def.id.0 (Some (range_of iterator fitting))) ResultTooLong
              else tuples_after (schema_reads space ++ range_reads (source_of space) def.id.0 found.read) found.tuples

          -- the tuples have too many bytes
          pub result_is_too_long : max_result_size < total_bytes found.tuples
              → select ≡ refusal_after (schema_reads space ++ range_reads (source_of space) def.id.0 (Some (range_of iterator fitting))) ResultTooLong
          result_is_too_long above = by_range ∙ ap answer_by (lt-ltb max_result_size (total_bytes found.tuples) above)

          -- they are answered
          pub tuples_are_picked : total_bytes found.tuples ≤ max_result_size
              → select ≡ tuples_after (schema_reads space ++ range_reads (source_of space) def.id.0 found.read) found.tuples
          tuples_are_picked short = by_range ∙ ap answer_by (le-ltb max_result_size (total_bytes found.tuples) short)

-- ---- rows and changes

-- an answer writes nothing and changes nothing, or it writes a row and, on a sound state, changes what that row does
abbrev pub Agrees : State → Answer → Type 0
Agrees before answer =
    ((answer.row ≡ None) × (answer.change ≡ None)) ⊎ ((row : Row) × (answer.row ≡ Some row) × (IsSound before → answer.change ≡ row_change before row))

pub write_agrees : (before : State) (space : ℕ) (write : Write) → Agrees before (write_answer_in before space write)
write_agrees before space write = by_outcome (judged_write Client before space write).outcome refl
  where
    by_outcome : (outcome : Result Made Refusal) → (judged_write Client before space write).outcome ≡ outcome
        → Agrees before (answer_of_outcome (judged_write Client before space write).reads outcome)
    by_outcome (Err refusal) is = inl (refl, refl)
    by_outcome (Ok made) is = by_row made.row refl
      where
        by_row : (row : Option Row) → made.row ≡ row → Agrees before (answer_of_outcome (judged_write Client before space write).reads (Ok made))
        by_row None none = inl (none, changes_nothing before space write made is none)
        by_row (Some row) its = inr (row, its, λ sound. sym (changes_again before space write made row sound is its))

pub select_agrees : (before : State) (space index limit offset : ℕ) (iterator : IterKind) (key : List ℕ) → Agrees before (select_answer_in before space index limit offset iterator key)
select_agrees before space index limit offset iterator key = by_schema (schema_of before space)
  where
    by_size : (source : ℕ) (def : IndexDef) (found : Selection) (whole : Range) (long : Bool) → Agrees before
        (if long then refusal_after (schema_reads space ++ range_reads source def.id.0 (Some whole)) ResultTooLong
        else tuples_after (schema_reads space ++ range_reads source def.id.0 found.read) found.tuples)
    by_size source def found whole true = inl (refl, refl)
    by_size source def found whole false = inl (refl, refl)

    by_key : (def : IndexDef) (sought : Result Key Misfit) → Agrees before (select_by_key before space limit offset iterator def sought)
    by_key def (Err misfit) = inl (refl, refl)
    by_key def (Ok sought) =
        let found = pick (entries_of before space def) iterator sought offset limit in
        by_size (source_of space) def found (range_of iterator sought) (nat_lt max_result_size (total_bytes found.tuples))

    by_def : (schema : Schema) (def : Option IndexDef) → Agrees before (in_def space schema index def (select_in_index before space limit offset iterator key))
    by_def schema None = inl (refl, refl)
    by_def schema (Some def) = by_test (takes_iterator def.kind iterator (part_count key))
      where
        by_test : (taken : Bool) → Agrees before
            (if taken then select_by_key before space limit offset iterator def (asked_key def key) else refusal_after (schema_reads space) (Unsupported HashIterator))
        by_test true = by_key def (asked_key def key)
        by_test false = inl (refl, refl)

    by_schema : (schema : Option Schema) → Agrees before (in_schema space schema (select_answer before space index limit offset iterator key))
    by_schema None = inl (refl, refl)
    by_schema (Some schema) = by_def schema (index_with index schema.indexes)

answer_agrees : (before : State) (asked : Request) → Agrees before (answer_to before asked)
unfolding answer_to
answer_agrees before (request.Select space index limit offset iterator key) = select_agrees before space.0 index.0 limit offset (iterator_of iterator) key
answer_agrees before (request.Insert space tuple) = write_agrees before space.0 (Insert tuple)
answer_agrees before (request.Replace space tuple) = write_agrees before space.0 (Replace tuple)
answer_agrees before (request.Update space index first key operations) = write_agrees before space.0 (Update index.0 first key operations)
answer_agrees before (request.Delete space index key) = write_agrees before space.0 (Delete index.0 key)
answer_agrees before (request.Upsert space first tuple operations) = write_agrees before space.0 (Upsert first tuple operations)
answer_agrees before request.Nop = inl (refl, refl)
answer_agrees before request.Ping = inl (refl, refl)
answer_agrees before request.Begin = inl (refl, refl)
answer_agrees before request.Commit = inl (refl, refl)
answer_agrees before request.Rollback = inl (refl, refl)
answer_agrees before request.Id = inl (refl, refl)
answer_agrees before (request.Join instance) = inl (refl, refl)
answer_agrees before (request.Subscribe instance set clock) = inl (refl, refl)
answer_agrees before (request.Ack clock) = inl (refl, refl)

pub row_changes : (before : State) (asked : Request) (row : Row) → IsSound before → (answer_to before asked).row ≡ Some row
    → ((answer_to before asked).change ≡ row_change before row) × (state_after_row before row ≡ state_after_changed before (answer_to before asked).change)
unfolding state_after_row
row_changes before asked row sound is = by_answer (answer_agrees before asked)
  where
    by_answer : Agrees before (answer_to before asked)
        → ((answer_to before asked).change ≡ row_change before row) × (state_after_row before row ≡ state_after_changed before (answer_to before asked).change)
    by_answer (inl (none, change)) = absurd cc
    by_answer (inr (other, its, change)) =
        let same : other ≡ row = cc in
        let changes : (answer_to before asked).change ≡ row_change before row = change sound ∙ ap (row_change before) same in
        (changes, ap (state_after_changed before) (sym changes))

pub no_row_no_change : (before : State) (asked : Request) → (answer_to before asked).row ≡ None → (answer_to before asked).change ≡ None
no_row_no_change before asked none = by_answer (answer_agrees before asked)
  where
    by_answer : Agrees before (answer_to before asked) → (answer_to before asked).change ≡ None
    by_answer (inl (also, change)) = change
    by_answer (inr (row, its, change)) = absurd cc

-- ---- which requests are writes

one_write : (one other : ℕ × Write) → Some one ≡ Some other → one ≡ other
one_write one other e = cc

-- a write is answered as it is judged
pub write_answered : (before : State) (asked : Request) (space : ℕ) (write : Write) → write_in asked ≡ Some (space, write)
    → answer_to before asked ≡ write_answer_in before space write
unfolding answer_to
write_answered before (request.Insert in_space tuple) space write e = ap (λ w. write_answer_in before w.0 w.1) (one_write _ _ e)
write_answered before (request.Replace in_space tuple) space write e = ap (λ w. write_answer_in before w.0 w.1) (one_write _ _ e)
write_answered before (request.Update in_space index first key operations) space write e = ap (λ w. write_answer_in before w.0 w.1) (one_write _ _ e)
write_answered before (request.Delete in_space index key) space write e = ap (λ w. write_answer_in before w.0 w.1) (one_write _ _ e)
write_answered before (request.Upsert in_space first tuple operations) space write e = ap (λ w. write_answer_in before w.0 w.1) (one_write _ _ e)
write_answered before (request.Select in_space index limit offset iterator key) space write e = absurd cc
write_answered before request.Nop space write e = absurd cc
write_answered before request.Ping space write e = absurd cc
write_answered before request.Begin space write e = absurd cc
write_answered before request.Commit space write e = absurd cc
write_answered before request.Rollback space write e = absurd cc
write_answered before request.Id space write e = absurd cc
write_answered before (request.Join instance) space write e = absurd cc
write_answered before (request.Subscribe instance set clock) space write e = absurd cc
write_answered before (request.Ack clock) space write e = absurd cc

abbrev Fits : ℕ × Write → Type 0
Fits (space, write) = (space < 2 ^ 32) × IsWellFormed write

pub write_fits : (asked : Request) (space : ℕ) (write : Write) → IsAskable asked → write_in asked ≡ Some (space, write) → (space < 2 ^ 32) × IsWellFormed write
write_fits (request.Insert in_space tuple) space write can e = subst Fits (one_write _ _ e) (can.0, can.1)
write_fits (request.Replace in_space tuple) space write can e = subst Fits (one_write _ _ e) (can.0, can.1)
write_fits (request.Update in_space index first key operations) space write can e = subst Fits (one_write _ _ e) (can.0, (can.2, can.3, can.4))
write_fits (request.Delete in_space index key) space write can e = subst Fits (one_write _ _ e) (can.0, can.2)
write_fits (request.Upsert in_space first tuple operations) space write can e = subst Fits (one_write _ _ e) (can.0, (can.1, can.2, can.3))
write_fits (request.Select in_space index limit offset iterator key) space write can e = absurd cc
write_fits request.Nop space write can e = absurd cc
write_fits request.Ping space write can e = absurd cc
write_fits request.Begin space write can e = absurd cc
write_fits request.Commit space write can e = absurd cc
write_fits request.Rollback space write can e = absurd cc
write_fits request.Id space write can e = absurd cc
write_fits (request.Join instance) space write can e = absurd cc
write_fits (request.Subscribe instance set clock) space write can e = absurd cc
write_fits (request.Ack clock) space write can e = absurd cc
