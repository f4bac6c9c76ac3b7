-- What a write makes, its row makes again: judged as a row of a journal, it comes to the same.
use Rattle.std.proofs.Common.{◌≡◌, ◌⊎◌, ℕ, Bool, true, false, List, Option, Some, None, Result, Ok, Err, inl, inr, refl, sym, ap, ◌∙◌, ◌≤◌, [], ◌∷◌, length, arith, ◌<◌, ◌^◌, subst}
use Rattle.std.specs.Prelude.{not, ◌&&◌, ◌==◌, if◌then◌else◌, ◌||◌}
use Rattle.std.specs.Option.{option_map}
use Rattle.mx_base.specs.declared.kinds.Unsupported.TheVariants.{SystemSpaceWrite}
use Rattle.mx_base.specs.declared.refusal.Refusal.{Refusal}
use Rattle.mx_base.specs.declared.refusal.Refusal.TheVariants.{OutOfMemory, Unsupported, IndexMissing, IndexNotUnique, SpaceMissing}
use Rattle.mx_schema.specs.Bootstrap.{cluster, settings}
use Rattle.mx_schema.specs.Members.{is_member}
use Rattle.mx_write.specs.declared.writable.Writer.{Writer}
use Rattle.mx_write.specs.declared.writable.Writer.TheVariants.{Client, Journal}
use Rattle.mx_write.specs.Judged.{Judged, judged_as, next_stage, ◌>>=◌, found, unless}
use Rattle.mx_write.specs.Writable.{describes_schema, is_read_only, leader_refusal, schema_refusal, tuple_in_space, write_refusal, begins_with_system_number, own_row_refusal, primary_name, unless_member}
use Rattle.mx_msgpack.specs.Items.{items_of}
use Rattle.mx_key.specs.Arrays.{key_array}
use Rattle.mx_key.specs.Keys.{Key, AreFit}
use Rattle.mx_key.specs.Parts.{whole_key}
use Rattle.mx_key.proofs.KeyArrayLaws.{whole_again, array_spelled}
use Rattle.mx_row.specs.declared.row.Row.{Row}
use Rattle.mx_row.specs.Rows.{delete_row, delete_type, insert_type, max_body_size, replace_type, row_body_text, update_row, update_type, upsert_type, IsDelete, IsInsert, IsReplace, IsRow, IsUpdate, IsUpsert}
use Rattle.mx_row.proofs.SizeLaws.{delete_size, update_size}
use Rattle.mx_schema.specs.declared.index_def.IndexDef.{IndexDef}
use Rattle.mx_schema.specs.declared.schema.Schema.{Schema}
use Rattle.mx_schema.specs.Catalogues.{index_with, schema_of}
use Rattle.mx_schema.specs.Picks.{Indexed}
use Rattle.mx_schema.specs.Sound.{IsSound}
use Rattle.mx_schema.specs.State.{State}
use Rattle.mx_schema.proofs.SoundLaws.{sound_key}
use Rattle.mx_tuple.specs.Fields.{tuple_of}
use Rattle.mx_write.specs.Delete.{delete_found, deletes}
use Rattle.mx_write.specs.Descriptions.{drop_fault}
use Rattle.mx_write.specs.Checks.{tuple_fault}
use Rattle.mx_write.specs.Insert.{inserts}
use Rattle.mx_write.specs.Judge.{change_in, judged_row, judged_write, refusal_in, row_change, row_refusal}
use Rattle.mx_write.specs.Lookup.{entry_under, entry_with, holder_of, key_or_refusal, own_key, primary_key_of, the_index, the_key, the_primary, the_space, the_unique_index, tuple_under, unless_unique}
use Rattle.mx_write.specs.Made.{Made, nothing, row_with}
use Rattle.mx_write.specs.Replace.{replaces}
use Rattle.mx_update.specs.Updates.{updated, upserted}
use Rattle.mx_write.specs.Update.{the_operations, tuple_or_refusal, update_found, updates}
use Rattle.mx_write.specs.Upsert.{upsert_found, upserts}
use Rattle.mx_write.specs.Writes.{Write, Insert, Replace, Update, Delete, Upsert, IsWellFormed}
use Rattle.mx_write.proofs.KeyNameLaws.{key_of_users}
use Rattle.mx_write.proofs.StageLaws.{came_by, goes_on, is_found, none_refuses, passed_so}
use Rattle.mx_write.proofs.UniqueLaws.{number_is}
use Rattle.mx_write.proofs.WrittenLaws.{Sought, SoughtSo, entry_there, by_space, in_place_elsewhere, makes, of_users, placed, sought_by, sought_so, wrote_row, Wrote, wrote}
use Rattle.mx_request.specs.Spelling.{IsInnerArray}

-- ---- a tuple that an update made, where it may stand in its space

-- what wasn't made stands nowhere
pub none_made : (writer : Writer) (space : ℕ) (why : Refusal) → tuple_in_space writer space (Err why) ≡ Err why
none_made Client space why = refl
none_made Journal space why = refl

module _ {X : Type 0} (writer : Writer) (space : ℕ) (judged : Judged X) (make : X → Result (List ℕ) Refusal) where
  abbrev made_there : Judged (List ℕ)
  made_there = judged >>= λ x. judged_as (tuple_in_space writer space (make x))

  abbrev made_somewhere : Judged (List ℕ)
  made_somewhere = judged >>= λ x. judged_as (make x)

  -- the place is looked at last
  pub placed_last : made_there.outcome ≡ tuple_in_space writer space made_somewhere.outcome
  placed_last = by_outcome judged.outcome
    where
      by_outcome : (outcome : Result X Refusal)
          → (next_stage judged.reads outcome (λ x. judged_as (tuple_in_space writer space (make x)))).outcome
          ≡ tuple_in_space writer space (next_stage judged.reads outcome (λ x. judged_as (make x))).outcome
      by_outcome (Err why) = sym (none_made writer space why)
      by_outcome (Ok x) = refl

  pub refused_anywhere : (why : Refusal) → (made_somewhere.outcome ≡ Err why) ⊎ (why ≡ OutOfMemory) → (made_there.outcome ≡ Err why) ⊎ (why ≡ OutOfMemory)
  refused_anywhere why (inl is) = inl (placed_last ∙ ap (tuple_in_space writer space) is ∙ none_made writer space why)
  refused_anywhere why (inr none) = inr none

  pub made_so : (tuple : List ℕ) (outcome : Result (List ℕ) Refusal) → made_somewhere.outcome ≡ Ok tuple → outcome ≡ tuple_in_space writer space (Ok tuple) → made_there.outcome ≡ outcome
  made_so tuple outcome is there = placed_last ∙ ap (tuple_in_space writer space) is ∙ sym there

-- a client writes elsewhere
pub client_elsewhere : (space type : ℕ) (named : Option (List ℕ)) → describes_schema space ≡ false → write_refusal Client space type named ≡ None → (space == cluster) ≡ false
client_elsewhere space type named elsewhere e = by_tests (describes_schema space) (is_read_only space) (space == cluster) elsewhere e
  where
    by_tests : (rows read_only nodes : Bool) → rows ≡ false
        → (if rows then schema_refusal type named else if read_only then Some (Unsupported SystemSpaceWrite) else if nodes then Some (Unsupported SystemSpaceWrite)
        else if space == settings then leader_refusal Client named else None) ≡ None → nodes ≡ false
    by_tests true read_only nodes elsewhere e = absurd cc
    by_tests false true nodes elsewhere e = absurd cc
    by_tests false false true elsewhere e = absurd cc
    by_tests false false false elsewhere e = refl

-- so a journal's tuple may stand where a client's does
pub journal_stands : (space : ℕ) (made : Result (List ℕ) Refusal) → (space == cluster) ≡ false → tuple_in_space Journal space made ≡ made
journal_stands space (Err why) elsewhere = refl
journal_stands space (Ok tuple) elsewhere = ap (λ b. if b && not (is_member tuple) then Err (Unsupported SystemSpaceWrite) else Ok tuple) elsewhere

-- ---- what a client may write, a journal may

-- by the tests of a space
may_by : (schema read_only nodes setting : Bool) (one other client member : Option Refusal) (why : Refusal) → schema ≡ false
    → (if schema then one else if read_only then Some why else if nodes then Some why else if setting then client else None) ≡ None
    → (if schema then other else if read_only then Some why else if nodes then member else if setting then None else None) ≡ None
may_by true read_only nodes setting one other client member why elsewhere e = absurd cc
may_by false true nodes setting one other client member why elsewhere e = absurd cc
may_by false false true setting one other client member why elsewhere e = absurd cc
may_by false false false true one other client member why elsewhere e = refl
may_by false false false false one other client member why elsewhere e = refl

may_here : (schema read_only nodes setting : Bool) (one client member : Option Refusal) (why : Refusal)
    → (if schema then one else if read_only then Some why else if nodes then Some why else if setting then client else None) ≡ None
    → (if schema then one else if read_only then Some why else if nodes then member else if setting then None else None) ≡ None
may_here true read_only nodes setting one client member why e = e
may_here false true nodes setting one client member why e = absurd cc
may_here false false true setting one client member why e = absurd cc
may_here false false false true one client member why e = refl
may_here false false false false one client member why e = refl

-- where the space describes nothing, whatever the name is
pub journal_may : (space type : ℕ) (named other : Option (List ℕ)) → describes_schema space ≡ false → write_refusal Client space type named ≡ None
    → write_refusal Journal space type other ≡ None
journal_may space type named other =
    may_by (describes_schema space) (is_read_only space) (space == cluster) (space == settings) (schema_refusal type named) (schema_refusal type other) (leader_refusal Client named)
    (unless_member type other) (Unsupported SystemSpaceWrite)

-- by the same name
pub journal_may_so : (space type : ℕ) (named : Option (List ℕ)) → write_refusal Client space type named ≡ None → write_refusal Journal space type named ≡ None
journal_may_so space type named =
    may_here (describes_schema space) (is_read_only space) (space == cluster) (space == settings) (schema_refusal type named) (leader_refusal Client named) (unless_member type named)
    (Unsupported SystemSpaceWrite)

-- the row of a user's space or index may be dropped by its key
pub journal_drops : (space : ℕ) (named : List ℕ) → describes_schema space ≡ true → begins_with_system_number (items_of named) ≡ false
    → write_refusal Journal space delete_type (Some named) ≡ None
journal_drops space named describes of_user =
    ap (λ b. if b then own_row_refusal (Some named) else otherwise) describes ∙ ap (λ b. if b then Some (Unsupported SystemSpaceWrite) else None) of_user
  where
    otherwise : Option Refusal
    otherwise =
        if is_read_only space then Some (Unsupported SystemSpaceWrite)
        else if space == cluster then unless_member delete_type (Some named)
        else if space == settings then leader_refusal Journal (Some named)
        else None

-- ---- INSERT, REPLACE and UPSERT, whose rows are as they were sent

module _ (before : State) (space : ℕ) (tuple : List ℕ) (is : Made) where
  pub inserted_again : (inserts Client before space tuple).outcome ≡ Ok is → (inserts Journal before space tuple).outcome ≡ Ok is
  unfolding inserts
  inserted_again e =
      let (schema, e1, r1) = came_by (the_space before space) _ is e in
      let (u2, e2, r2) = came_by (unless (write_refusal Client space insert_type (Some tuple))) _ is r1 in
      let writable = passed_so _ u2 e2 in
      let may = none_refuses _ (journal_may_so space insert_type (Some tuple) writable) in
      goes_on (the_space before space) _ schema e1 ∙ goes_on (unless (write_refusal Journal space insert_type (Some tuple))) _ tt may ∙ r2

  pub replaced_again : (replaces Client before space tuple).outcome ≡ Ok is → (replaces Journal before space tuple).outcome ≡ Ok is
  unfolding replaces
  replaced_again e =
      let (schema, e1, r1) = came_by (the_space before space) _ is e in
      let (u2, e2, r2) = came_by (unless (write_refusal Client space replace_type (Some tuple))) _ is r1 in
      let writable = passed_so _ u2 e2 in
      let may = none_refuses _ (journal_may_so space replace_type (Some tuple) writable) in
      goes_on (the_space before space) _ schema e1 ∙ goes_on (unless (write_refusal Journal space replace_type (Some tuple))) _ tt may ∙ r2

  pub upserted_again : (base : ℕ) (operations : List ℕ) → (upserts Client before space base tuple operations).outcome ≡ Ok is
      → (upserts Journal before space base tuple operations).outcome ≡ Ok is
  unfolding upserts
  upserted_again base operations e =
      let (schema, e1, r1) = came_by (the_space before space) _ is e in
      let (u2, e2, r2) = came_by (unless (write_refusal Client space upsert_type (Some tuple))) _ is r1 in
      let writable = passed_so _ u2 e2 in
      let elsewhere = client_elsewhere space upsert_type (Some tuple) (in_place_elsewhere Client space upsert_type (Some tuple) refl writable) writable in
      let may = none_refuses _ (journal_may_so space upsert_type (Some tuple) writable) in
      let (primary, e3, r3) = came_by (the_index space schema 0) _ is r2 in
      let (u4, e4, r4) = came_by (unless (tuple_fault schema primary tuple)) _ is r3 in
      goes_on (the_space before space) _ schema e1 ∙ goes_on (unless (write_refusal Journal space upsert_type (Some tuple))) _ tt may
      ∙ goes_on (the_index space schema 0) _ primary e3 ∙ goes_on (unless (tuple_fault schema primary tuple)) _ tt e4
      ∙ by_old schema primary elsewhere (tuple_under before space (own_key primary tuple)) r4
    where
      by_old : (schema : Schema) (primary : IndexDef) → (space == cluster) ≡ false → (old : Option (List ℕ))
          → (upsert_found Client before space base tuple operations schema primary old).outcome ≡ Ok is
          → (upsert_found Journal before space base tuple operations schema primary old).outcome ≡ Ok is
      by_old schema primary elsewhere None e = e
      by_old schema primary elsewhere (Some old) e =
          let (applied, e1, r1) = came_by (the_operations operations) _ is e in
          let (new, e2, r2) = came_by (judged_as (tuple_or_refusal (upserted base old applied))) _ is r1 in
          goes_on (the_operations operations) _ applied e1
          ∙ goes_on (judged_as (tuple_in_space Journal space (tuple_or_refusal (upserted base old applied)))) _ new
          (journal_stands space (tuple_or_refusal (upserted base old applied)) elsewhere ∙ e2)
          ∙ r2

-- ---- UPDATE and DELETE, whose rows have the primary key

module _ (before : State) (space : ℕ) (schema : Schema) (primary : IndexDef) (own : Key) (old : List ℕ) (described : schema_of before space ≡ Some schema)
    (there : index_with 0 schema.indexes ≡ Some primary) (stands : tuple_under before space own ≡ Some old) (whole : whole_key primary.key (key_array own) ≡ Ok own) where
  first : (primary.id.0 == 0) ≡ true
  first = number_is 0 schema.indexes primary there

  -- the primary index is there, and unique
  primary_there : (the_unique_index space schema 0).outcome ≡ Ok primary
  primary_there =
      goes_on (the_index space schema 0) _ primary (is_found (IndexMissing (record { 0 = 0 }) schema.def.name) (index_with 0 schema.indexes) primary there)
      ∙ goes_on (unless (unless_unique schema primary)) (λ _. found primary) tt (none_refuses _ unique)
    where
      unique : unless_unique schema primary ≡ None
      unique = ap (λ b. if b || primary.unique then None else Some (IndexNotUnique primary.name schema.def.name)) first

  -- the tuple is found under its own key
  found_under : entry_with before space primary primary own ≡ Some (own, old)
  found_under =
      ap (λ b. entry_under before space (if b then Some own else primary_key_of primary (holder_of before space primary own))) first
      ∙ ap (option_map (λ (tuple : List ℕ). (own, tuple))) stands

  sought_again : (type : ℕ) (stage : Sought) → write_refusal Journal space type (Some (key_array own)) ≡ None
      → (sought_by Journal before space type 0 (key_array own) stage).outcome ≡ (stage schema primary (Some (own, old))).outcome
  sought_again type stage may =
      goes_on (the_space before space) _ schema (is_found (SpaceMissing (record { 0 = space })) (schema_of before space) schema described)
      ∙ goes_on (unless (write_refusal Journal space type (primary_name 0 (key_array own)))) _ tt (none_refuses _ may)
      ∙ goes_on (the_unique_index space schema 0) _ primary primary_there
      ∙ goes_on (the_primary schema) _ primary (is_found (IndexMissing (record { 0 = 0 }) schema.def.name) (index_with 0 schema.indexes) primary there)
      ∙ goes_on (the_key primary (key_array own)) _ own (ap (key_or_refusal (length primary.key)) whole)
      ∙ ap (λ entry. (stage schema primary entry).outcome) found_under

-- the key that is in a row of so many bytes at most is read again
key_whole : (before : State) (space : ℕ) (schema : Schema) (primary : IndexDef) (own : Key) (old : List ℕ) → IsSound before → schema_of before space ≡ Some schema
    → index_with 0 schema.indexes ≡ Some primary → tuple_under before space own ≡ Some old → length (key_array own) ≤ max_body_size
    → whole_key primary.key (key_array own) ≡ Ok own
key_whole before space schema primary own old sound described there stands few =
    let (keyed, fit) = sound_key before space schema primary own old sound described there stands in
    whole_again primary.key (tuple_of old).fields own keyed fit (omega arith)

-- a row is longer than the key in it
pub delete_key_short : (space : ℕ) (key : List ℕ) → length (row_body_text (delete_row space key)) ≤ max_body_size → length key ≤ max_body_size
delete_key_short space key short = let size = delete_size (delete_row space key) _ refl (λ e. absurd (omega (arith, e))) refl in omega arith

pub update_key_short : (space base : ℕ) (key operations : List ℕ) → length (row_body_text (update_row space base key operations)) ≤ max_body_size → length key ≤ max_body_size
update_key_short space base key operations short = let size = update_size (update_row space base key operations) _ refl _ refl refl in omega arith

no_row : (row : Row) (is : Made) → is ≡ nothing → is.row ≡ Some row → ⊥
no_row row is none left = let no : ◌≡◌ {A = Option Row} None (Some row) = ap (λ (m : Made). m.row) (sym none) ∙ left in absurd cc

pub one_row : (row other : Row) (is : Made) → is.row ≡ Some other → is.row ≡ Some row → row ≡ other
one_row row other is e left = let same : Some row ≡ Some other = sym left ∙ e in cc

module _ (before : State) (space : ℕ) (is : Made) (row : Row) (sound : IsSound before) (left : is.row ≡ Some row) where
  deleted_again : (index : ℕ) (key : List ℕ) → (deletes Client before space index key).outcome ≡ Ok is → (judged_row before row).outcome ≡ Ok is
  unfolding deletes
  deleted_again index key e =
      let so = sought_so Client before space delete_type index key (λ schema primary. delete_found Client before space index key) is e in
      by_entry so (entry_with before space so.primary so.def so.asked) refl so.rest
    where
      by_entry : (so : SoughtSo Client before space delete_type index key (λ schema primary. delete_found Client before space index key) is) (entry : Option Indexed)
          → entry_with before space so.primary so.def so.asked ≡ entry → (delete_found Client before space index key entry).outcome ≡ Ok is
          → (judged_row before row).outcome ≡ Ok is
      by_entry so None at e = let none : is ≡ nothing = cc in absurd (no_row row is none left)
      by_entry so (Some (own, old)) at e =
          let (u1, e1, r1) = came_by (unless (write_refusal Client space delete_type (Some old))) _ is e in
          let (u2, e2, r2) = came_by (unless (drop_fault before space old)) _ is r1 in
          let found = passed_so _ u1 e1 in
          let (short, is_so) = makes space (Delete index key) own None (old ∷ []) is r2 in
          let stands = entry_there before space so.primary so.def so.asked own old at in
          let whole = key_whole before space so.schema so.primary own old sound so.described so.there stands (delete_key_short space (key_array own) short) in
          let may : write_refusal Journal space delete_type (Some (key_array own)) ≡ None = by_space space
          (λ elsewhere. journal_may space delete_type (Some old) (Some (key_array own)) elsewhere found)
          (λ describes. journal_drops space (key_array own) describes
          (key_of_users before sound space so.schema so.primary own old describes so.described so.there stands whole (of_users Client space delete_type old describes found))) in
          let again : (deletes Journal before space 0 (key_array own)).outcome ≡ Ok is =
          sought_again before space so.schema so.primary own old so.described so.there stands whole delete_type
          (λ schema primary. delete_found Journal before space 0 (key_array own)) may
          ∙ goes_on (unless (write_refusal Journal space delete_type (Some old))) _ tt (none_refuses _ (journal_may_so space delete_type (Some old) found))
          ∙ r1 in
          ap (λ r. (judged_row before r).outcome) (one_row row (delete_row space (key_array own)) is (ap (λ (m : Made). m.row) is_so) left) ∙ again

  updated_again : (index base : ℕ) (key operations : List ℕ) → (updates Client before space index base key operations).outcome ≡ Ok is → (judged_row before row).outcome ≡ Ok is
  unfolding updates
  updated_again index base key operations e =
      let so = sought_so Client before space update_type index key (update_found Client before space index base key operations) is e in
      by_entry so (entry_with before space so.primary so.def so.asked) refl so.rest
    where
      by_entry : (so : SoughtSo Client before space update_type index key (update_found Client before space index base key operations) is) (entry : Option Indexed)
          → entry_with before space so.primary so.def so.asked ≡ entry
          → (update_found Client before space index base key operations so.schema so.primary entry).outcome ≡ Ok is
          → (judged_row before row).outcome ≡ Ok is
      by_entry so None at e = let none : is ≡ nothing = cc in absurd (no_row row is none left)
      by_entry so (Some (own, old)) at e =
          let (u1, e1, r1) = came_by (unless (write_refusal Client space update_type (Some old))) _ is e in
          let found = passed_so _ u1 e1 in
          let elsewhere = in_place_elsewhere Client space update_type (Some old) refl found in
          let (applied, e2, r2) = came_by (the_operations operations) _ is r1 in
          let (new, e3, r3) = came_by (judged_as (tuple_or_refusal (updated base old applied))) _ is r2 in
          let stays = journal_stands space (tuple_or_refusal (updated base old applied)) (client_elsewhere space update_type (Some old) elsewhere found) in
          let (keyed, at_last) = placed Client before space is so.schema so.primary (Update index base key operations) own new (new ∷ []) r3 in
          let (short, is_so) = makes space (Update index base key operations) own (Some new) (new ∷ []) is at_last in
          let stands = entry_there before space so.primary so.def so.asked own old at in
          let whole = key_whole before space so.schema so.primary own old sound so.described so.there stands (update_key_short space base (key_array own) operations short) in
          let again : (updates Journal before space 0 base (key_array own) operations).outcome ≡ Ok is =
          sought_again before space so.schema so.primary own old so.described so.there stands whole update_type
          (update_found Journal before space 0 base (key_array own) operations) (journal_may space update_type (Some old) (Some (key_array own)) elsewhere found)
          ∙ goes_on (unless (write_refusal Journal space update_type (Some old))) _ tt (none_refuses _ (journal_may_so space update_type (Some old) found))
          ∙ goes_on (the_operations operations) _ applied e2
          ∙ goes_on (judged_as (tuple_in_space Journal space (tuple_or_refusal (updated base old applied)))) _ new (stays ∙ e3)
          ∙ r3 in
          ap (λ r. (judged_row before r).outcome) (one_row row (update_row space base (key_array own) operations) is (ap (λ (m : Made). m.row) is_so) left) ∙ again

-- ---- all writes

module _ (before : State) (space : ℕ) (is : Made) (row : Row) (sound : IsSound before) (left : is.row ≡ Some row) where
  -- the row of a write that was judged again as it was sent
  as_sent : (write : Write) → (judged_write Client before space write).outcome ≡ Ok is → ((key : List ℕ) → (judged_row before (row_with space write key)).outcome ≡ Ok is)
      → (judged_row before row).outcome ≡ Ok is
  as_sent write e again =
      let so = wrote_row Client before space is write row e left in
      let (short, is_so) = makes space write so.key so.tuple so.shown is so.made in
      ap (λ r. (judged_row before r).outcome) (one_row row (row_with space write (key_array so.key)) is (ap (λ (m : Made). m.row) is_so) left) ∙ again (key_array so.key)

  pub made_again : (write : Write) → (judged_write Client before space write).outcome ≡ Ok is → (judged_row before row).outcome ≡ Ok is
  made_again (Insert tuple) e = as_sent (Insert tuple) e (λ key. inserted_again before space tuple is e)
  made_again (Replace tuple) e = as_sent (Replace tuple) e (λ key. replaced_again before space tuple is e)
  made_again (Update index base key operations) e = updated_again before space is row sound left index base key operations e
  made_again (Delete index key) e = deleted_again before space is row sound left index key e
  made_again (Upsert base tuple operations) e = as_sent (Upsert base tuple operations) e (λ key. upserted_again before space tuple is base operations e)

  -- so a state takes the row of a write, and changes as by the write
  pub takes_again : (write : Write) → (judged_write Client before space write).outcome ≡ Ok is → (row_refusal before row ≡ None) × (row_change before row ≡ is.change)
  takes_again write e = let again = made_again write e in (ap refusal_in again, ap change_in again)

-- ---- the row that a write leaves can be written to a journal

-- a row is one of the five
abbrev IsOfType : Row → Type 0
IsOfType row = IsInsert row ⊎ IsReplace row ⊎ IsUpdate row ⊎ IsDelete row ⊎ IsUpsert row

-- a key that fits is spelled as an array that may stand in a body
key_inner : (key : Key) → AreFit key → length (key_array key) ≤ max_body_size → IsInnerArray (key_array key)
key_inner key fit short = array_spelled key fit (omega arith)

-- a tuple that stands under a key of a sound state tells that the key fits
key_fit : (before : State) (space : ℕ) (write : Write) (is : Made) (so : Wrote before space write is) (old : List ℕ) → IsSound before → tuple_under before space so.key ≡ Some old
    → AreFit so.key
key_fit before space write is so old sound stands = (sound_key before space so.changes.schema so.changes.primary so.key old sound so.changes.described so.changes.there stands).1

parts : (before : State) (space : ℕ) (write : Write) (is : Made) (so : Wrote before space write is) → IsSound before → IsWellFormed write
    → length (row_body_text (row_with space write (key_array so.key))) ≤ max_body_size → IsOfType (row_with space write (key_array so.key))
parts before space (Insert tuple) is so sound well short = inl (refl, well)
parts before space (Replace tuple) is so sound well short = inr (inl (refl, well))
parts before space (Update index base key operations) is so sound (low, array, spelled) short =
    let fit = key_fit before space (Update index base key operations) is so so.key_is.0 sound so.key_is.1 in
    inr (inr (inl (refl, low, key_inner so.key fit (update_key_short space base (key_array so.key) operations short), spelled)))
parts before space (Delete index key) is so sound well short =
    let fit = key_fit before space (Delete index key) is so so.key_is.0 sound so.key_is.1 in
    inr (inr (inr (inl (refl, key_inner so.key fit (delete_key_short space (key_array so.key) short)))))
parts before space (Upsert base tuple operations) is so sound (low, array, spelled) short = inr (inr (inr (inr (refl, low, array, spelled))))

-- the space of a write's row is the write's
space_kept : (space : ℕ) (write : Write) (key : List ℕ) → (row_with space write key).space.0 ≡ space
space_kept space (Insert tuple) key = refl
space_kept space (Replace tuple) key = refl
space_kept space (Update index base asked operations) key = refl
space_kept space (Delete index asked) key = refl
space_kept space (Upsert base tuple operations) key = refl

module _ (before : State) (space : ℕ) (write : Write) (is : Made) where
  pub leaves_row : (row : Row) → IsSound before → IsWellFormed write → space < 2 ^ 32 → (judged_write Client before space write).outcome ≡ Ok is → is.row ≡ Some row → IsRow row
  leaves_row row sound well low e left =
      let so = wrote_row Client before space is write row e left in
      let (short, is_so) = makes space write so.key so.tuple so.shown is so.made in
      let same : row ≡ row_with space write (key_array so.key) = one_row row (row_with space write (key_array so.key)) is (ap (λ (m : Made). m.row) is_so) left in
      subst IsRow (sym same) (record {
        space = subst (λ (n : ℕ). n < 2 ^ 32) (sym (space_kept space write (key_array so.key))) low;
        parts = parts before space write is so sound well short;
        short = short;
      })

  -- what leaves no row changes nothing
  pub no_row_no_change : (judged_write Client before space write).outcome ≡ Ok is → is.row ≡ None → is.change ≡ None
  no_row_no_change e none = by_case (wrote Client before space is write e)
    where
      by_case : (is ≡ nothing) ⊎ Wrote before space write is → is.change ≡ None
      by_case (inl found_none) = ap (λ (m : Made). m.change) found_none
      by_case (inr so) =
          let is_so = (makes space write so.key so.tuple so.shown is so.made).1 in
          let left : ◌≡◌ {A = Option Row} None (Some (row_with space write (key_array so.key))) = sym none ∙ ap (λ (m : Made). m.row) is_so in
          absurd cc

  -- the row is of the write's space
  pub row_of_space : (row : Row) → (judged_write Client before space write).outcome ≡ Ok is → is.row ≡ Some row → row.space.0 ≡ space
  row_of_space row e left =
      let so = wrote_row Client before space is write row e left in
      let is_so = (makes space write so.key so.tuple so.shown is so.made).1 in
      let same : row ≡ row_with space write (key_array so.key) = one_row row (row_with space write (key_array so.key)) is (ap (λ (m : Made). m.row) is_so) left in
      ap (λ (r : Row). r.space.0) same ∙ space_kept space write (key_array so.key)
