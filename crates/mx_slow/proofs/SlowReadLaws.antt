-- What the plain slow program reads.
use Rattle.std.proofs.Common.{◌≡◌, inl, inr, ℕ, ◌-◌, ◌<◌, Bool, true, false, cond, List, [], ◌∷◌, ◌++◌, map, filter, take, length, ◌≤◌, Option, Some, None, Result, Ok, Err, refl, sym, ap, ◌∙◌, subst}
use Rattle.std.specs.Prelude.{nat_lt, if◌then◌else◌}
use Rattle.std.specs.FinMap.{entries}
use Rattle.std.specs.Option.{option_map}
use Rattle.std.proofs.lemmas.Bool.{lt-ltb, le-ltb, ltb-true, ltb-false}
use Rattle.mx_base.specs.declared.ids.IndexId.{IndexId}
use Rattle.mx_base.specs.declared.ids.SpaceId.{SpaceId}
use Rattle.mx_base.specs.declared.refusal.Refusal.{Refusal}
use Rattle.mx_request.specs.declared.request.Request.{Request}
use Rattle.mx_request.specs.declared.request.Request.TheVariants as request
use Rattle.mx_msgpack.proofs.Options.{same_some}
use Rattle.mx_key.specs.declared.iterator.IterKind.{IterKind}
use Rattle.mx_key.specs.declared.edge.KeyRange.{KeyRange}
use Rattle.mx_key.specs.Comparable.{comparable_of, edges_of}
use Rattle.mx_key.specs.Keys.{Key, AreFit}
use Rattle.mx_key.specs.Parts.{key_of_array}
use Rattle.mx_key.specs.Ranges.{Range, descends, range_of, range_until}
use Rattle.mx_key.proofs.RangeLaws.{range_holds}
use Rattle.mx_schema.specs.declared.index_def.IndexDef.{IndexDef}
use Rattle.mx_entries.specs.declared.pick.Pick.{Pick}
use Rattle.mx_entries.specs.declared.pick.SelectStop.{SelectStop}
use Rattle.mx_entries.specs.declared.pick.SelectStop.TheVariants.{TooLong}
use Rattle.mx_schema.specs.declared.schema.Schema.{Schema}
use Rattle.mx_schema.specs.Catalogues.{index_with, schema_of}
use Rattle.mx_schema.specs.Picks.{Selection, directed, entries_of, max_result_size, total_bytes, window}
use Rattle.mx_entries.specs.Scans.{picked_of}
use Rattle.mx_entries.specs.Windows.{IsStopped, found_in, last_key_of}
use Rattle.mx_schema.specs.State as plain
use Rattle.mx_schema.specs.State.{State, source_of}
use Rattle.mx_schema.specs.Stored.{StoredTuple, StoresTuples}
use Rattle.mx_entries.proofs.PickLaws as picks
use Rattle.mx_entries.proofs.PickLaws.{HoldsItsKeys, fit_ends}
use Rattle.mx_entries.proofs.WindowLaws.{drop_one, filter-directed, last_after, took_last}
use Rattle.mx_write.specs.declared.writable.Writer.TheVariants.{Client}
use Rattle.mx_write.specs.Judge.{judged_write}
use Rattle.mx_write.specs.Made.{Made}
use Rattle.mx_write.specs.Writes.{Write, write_in}
use Rattle.mx_write.specs.Reads.{Read, index_read, schema_reads, space_read}
use Rattle.mx_model.specs.Answers.{answer_to}
use Rattle.mx_slow.specs.SlowTouches.{AreFitReads, IsFitRange}
use Rattle.mx_slow.proofs.ReadFitLaws.{fit_both, range_fit}
use Rattle.mx_slow.specs.SlowReads.{read_view, reads_view}
use Rattle.mx_slow.specs.SlowReadSteps.{scan_read}
use Rattle.mx_model.specs.SelectSteps.{TakesKey}
use Rattle.mx_model.specs.statements.Answer.{Answer}
use Rattle.mx_model.specs.statements.Select.{iterator_of, range_reads, select_answer_in}
use Rattle.mx_model.specs.statements.Write.{answer_of_outcome}
use Rattle.mx_model.proofs.AnswerLaws.{result_is_too_long, tuples_are_picked, write_answered}

-- ---- the last tuple that is picked

module _ (p : StoredTuple → Bool) (down : Bool) (next : StoredTuple) (entries others : List StoredTuple) (is : directed down entries ≡ next ∷ directed down others) where
  left_out : p next ≡ false → directed down (filter p entries) ≡ directed down (filter p others)
  left_out missed =
      filter-directed p down entries ∙ ap (filter p) is ∙ ap (λ b. cond b (next ∷ filter p (directed down others)) (filter p (directed down others))) missed
      ∙ sym (filter-directed p down others)

  let_in : p next ≡ true → directed down (filter p entries) ≡ next ∷ directed down (filter p others)
  let_in held =
      filter-directed p down entries ∙ ap (filter p) is ∙ ap (λ b. cond b (next ∷ filter p (directed down others)) (filter p (directed down others))) held
      ∙ ap (λ l. next ∷ l) (sym (filter-directed p down others))

  module _ (last earlier : Option (List ℕ)) (offset left : ℕ) (before : last ≡ last_after earlier (window offset left (directed down (filter p entries)))) where
    -- a tuple outside the range is none
    pub last_outside : p next ≡ false → last ≡ last_after earlier (window offset left (directed down (filter p others)))
    last_outside missed = before ∙ ap (λ l. last_after earlier (window offset left l)) (left_out missed)

    -- nor one that the offset passes over
    pub last_past : p next ≡ true → 0 < offset → last ≡ last_after earlier (window (offset - 1) left (directed down (filter p others)))
    last_past held more =
        before ∙ ap (λ l. last_after earlier (take left l)) (drop_one offset next (directed down (filter p entries)) (directed down (filter p others)) more (let_in held))

    -- another one may be
    pub last_on : p next ≡ true → offset ≡ 0 → 0 < left → last ≡ last_after (Some next.0) (window offset (left - 1) (directed down (filter p others)))
    last_on held none more =
        took_last last earlier left next (directed down (filter p entries)) (directed down (filter p others)) more (let_in held)
        (before ∙ ap (λ n. last_after earlier (window n left (directed down (filter p entries)))) none)
        ∙ ap (λ n. last_after (Some next.0) (window n (left - 1) (directed down (filter p others)))) (sym none)

-- ---- what a scan reads

pub is_too_long : (stop : SelectStop) (found : List StoredTuple) → stop ≡ TooLong → IsStopped stop found → max_result_size < total_bytes (map (λ (entry : StoredTuple). entry.1) found)
is_too_long stop found long (inl (is, above)) = above
is_too_long stop found long (inr none) = absurd cc

module _ (all : plain.Tuples) (wanted : Pick) (key : Key) (kept : List StoredTuple) (range : KeyRange) (stores : StoresTuples kept all) (fit : AreFit key)
    (edges : range ≡ edges_of (range_of wanted.iterator key)) where
  abbrev picked : List StoredTuple
  picked = found_in kept range wanted.iterator wanted.offset wanted.limit

  abbrev selected : Selection
  selected = picked_of (entries all) wanted key

  law : HoldsItsKeys (range_of wanted.iterator key)
  law sought f = range_holds (range_of wanted.iterator key) sought (fit_ends wanted.iterator key fit) f

  in_range : picked ≡ found_in kept (edges_of (range_of wanted.iterator key)) wanted.iterator wanted.offset wanted.limit
  in_range = ap (λ r. found_in kept r wanted.iterator wanted.offset wanted.limit) edges

  same_tuples : map (λ (entry : StoredTuple). entry.1) picked ≡ selected.tuples
  same_tuples = ap (map (λ (entry : StoredTuple). entry.1)) in_range ∙ picks.tuples_are_picked wanted.iterator key law (entries all) stores.fit kept stores.same wanted.offset wanted.limit

  by_size : (long : Bool) → nat_lt max_result_size (total_bytes selected.tuples) ≡ long
      → scan_read (entries all) wanted key ≡ (if long then Some (range_of wanted.iterator key) else selected.read)
  by_size long test = ap (λ b. if b then Some (range_of wanted.iterator key) else selected.read) test

  -- all of the range, where the tuples have too many bytes
  pub reads_all : max_result_size < total_bytes (map (λ (entry : StoredTuple). entry.1) picked) → Some range ≡ option_map edges_of (scan_read (entries all) wanted key)
  reads_all above =
      ap Some edges ∙ ap (option_map edges_of) (sym (by_size true (lt-ltb max_result_size (total_bytes selected.tuples) (subst (λ t. max_result_size < total_bytes t) same_tuples above))))

  module _ (tuples : List (List ℕ)) (are : tuples ≡ map (λ (entry : StoredTuple). entry.1) picked) (short : total_bytes tuples ≤ max_result_size) (more : 0 < wanted.limit) where
    read_is : scan_read (entries all) wanted key ≡ selected.read
    read_is = by_size false (le-ltb max_result_size (total_bytes selected.tuples) (subst (λ t. total_bytes t ≤ max_result_size) (are ∙ same_tuples) short))

    -- or where the limit isn't reached
    pub reads_to_its_end : (length tuples ≡ wanted.limit → ⊥) → Some range ≡ option_map edges_of (scan_read (entries all) wanted key)
    reads_to_its_end fewer =
        ap Some edges
        ∙ ap (option_map edges_of) (sym (read_is ∙ picks.reads_to_end wanted.iterator key law (entries all) stores.fit kept stores.same wanted.offset wanted.limit more
        (λ full. fewer (ap length (are ∙ same_tuples) ∙ full))))

    -- and else up to the last tuple
    pub reads_up_to_last : length tuples ≡ wanted.limit → (bytes : List ℕ) → last_key_of picked ≡ Some bytes → (ended : KeyRange)
        → ((last : Key) → bytes ≡ comparable_of last → ended ≡ edges_of (range_until (descends wanted.iterator) last (range_of wanted.iterator key)))
        → Some ended ≡ option_map edges_of (scan_read (entries all) wanted key)
    reads_up_to_last full bytes is ended ends =
        let to = picks.reads_to_last wanted.iterator key law (entries all) stores.fit kept stores.same wanted.offset wanted.limit more (ap length (sym (are ∙ same_tuples)) ∙ full) in
        ap Some (ends to.last (same_some bytes (comparable_of to.last) (sym is ∙ ap last_key_of in_range ∙ to.is)))
        ∙ ap (option_map edges_of) (sym (read_is ∙ to.read_is))

-- ---- a SELECT

module _ (before : State) (space index : ℕ) (wanted : Pick) (schema : Schema) (described : schema_of before space ≡ Some schema)
    (def : IndexDef) (is : index_with index schema.indexes ≡ Some def) (taken : TakesKey def wanted.iterator wanted.key.now)
    (fitting : Key) (fits : key_of_array def.key wanted.key.now ≡ Ok fitting) where
  abbrev selects : Answer
  selects = select_answer_in before space index wanted.limit wanted.offset wanted.iterator wanted.key.now

  abbrev found : Selection
  found = picked_of (entries_of before space def) wanted fitting

  -- it reads the rows that describe the space, and what it scans
  reads_range : selects.reads ≡ schema_reads space ++ range_reads (source_of space) def.id.0 (scan_read (entries_of before space def) wanted fitting)
  reads_range = by_test (nat_lt max_result_size (total_bytes found.tuples)) refl
    where
      by_test : (long : Bool) → nat_lt max_result_size (total_bytes found.tuples) ≡ long
          → selects.reads ≡ schema_reads space ++ range_reads (source_of space) def.id.0 (if long then Some (range_of wanted.iterator fitting) else found.read)
      by_test true test =
          ap (λ a. a.reads)
          (result_is_too_long before space index wanted.limit wanted.offset wanted.iterator wanted.key.now schema described def is taken fitting fits (ltb-true _ _ test))
      by_test false test =
          ap (λ a. a.reads)
          (tuples_are_picked before space index wanted.limit wanted.offset wanted.iterator wanted.key.now schema described def is taken fitting fits (ltb-false _ _ test))

  -- in whose ends the numbers have 64 bits
  pub select_fit : AreFitReads (schema_reads space) → IsFitRange (scan_read (entries_of before space def) wanted fitting) → AreFitReads selects.reads
  select_fit first second =
      subst AreFitReads (sym reads_range) (fit_both (schema_reads space) _ first (range_fit (source_of space) def.id.0 (scan_read (entries_of before space def) wanted fitting) second))

  pub select_reads_none : None ≡ option_map edges_of (scan_read (entries_of before space def) wanted fitting) → selects.reads ≡ schema_reads space
  select_reads_none none = reads_range ∙ by_read (scan_read (entries_of before space def) wanted fitting) none
    where
      by_read : (o : Option Range) → None ≡ option_map edges_of o → schema_reads space ++ range_reads (source_of space) def.id.0 o ≡ schema_reads space
      by_read None e = refl
      by_read (Some range) e = absurd cc

  pub select_reads_range : (read : KeyRange) → Some read ≡ option_map edges_of (scan_read (entries_of before space def) wanted fitting)
      → reads_view selects.reads ≡ read_view (space_read space) ∷ read_view (index_read space) ∷ record { space = record { 0 = source_of space }; index = def.id; range = read } ∷ []
  select_reads_range read e = ap reads_view reads_range ∙ by_read (scan_read (entries_of before space def) wanted fitting) e
    where
      by_read : (o : Option Range) → Some read ≡ option_map edges_of o
          → reads_view (schema_reads space ++ range_reads (source_of space) def.id.0 o)
          ≡ read_view (space_read space) ∷ read_view (index_read space) ∷ record { space = record { 0 = source_of space }; index = def.id; range = read } ∷ []
      by_read None e = absurd cc
      by_read (Some range) e =
          ap (λ (r : KeyRange). read_view (space_read space) ∷ read_view (index_read space) ∷ record { space = record { 0 = source_of space }; index = def.id; range = r } ∷ [])
          (sym (same_some read (edges_of range) e))

-- ---- what a statement reads

pub written_reads : (before : State) (asked : Request) (space : ℕ) (write : Write) → write_in asked ≡ Some (space, write)
    → (answer_to before asked).reads ≡ (judged_write Client before space write).reads
written_reads before asked space write writes =
    let judged = judged_write Client before space write in
    ap (λ a. a.reads) (write_answered before asked space write writes) ∙ by_outcome judged.reads judged.outcome
  where
    by_outcome : (reads : List Read) (outcome : Result Made Refusal) → (answer_of_outcome reads outcome).reads ≡ reads
    by_outcome reads (Ok made) = refl
    by_outcome reads (Err refusal) = refl

pub selected_reads : (before : State) (asked : Request) (space : SpaceId) (index : IndexId) (limit offset iterator : ℕ) (key sought : List ℕ) (kind : IterKind)
    → asked ≡ request.Select space index limit offset iterator key → sought ≡ key → kind ≡ iterator_of iterator
    → (answer_to before asked).reads ≡ (select_answer_in before space.0 index.0 limit offset kind sought).reads
unfolding answer_to
selected_reads before asked space index limit offset iterator key sought kind same sought_is kind_is =
    ap (λ a. (answer_to before a).reads) same
    ∙ ap (λ k. (select_answer_in before space.0 index.0 limit offset k key).reads) (sym kind_is)
    ∙ ap (λ k. (select_answer_in before space.0 index.0 limit offset kind k).reads) (sym sought_is)
