-- A state stays sound where a write changes it, and the tuple of the write is bytes.
use Rattle.std.proofs.Common.{◌≡◌, ℕ, Bool, true, false, cond, not, List, [], ◌∷◌, Option, Some, None, Result, Ok, Err, refl, sym, ap, ◌∙◌, subst, eqb-true, arith, ◌⊎◌, inl, inr}
use Rattle.std.specs.Prelude.{◌==◌, ◌||◌, if◌then◌else◌, IfSome, ◌&&◌}
use Rattle.std.specs.FinMap.{empty, entries, get, insert, remove}
use Rattle.std.specs.List.{AllByRecursion}
use Rattle.std.proofs.lemmas.Bool.Decides.{nat_tests}
use Rattle.mx_base.specs.declared.refusal.Refusal.{Refusal}
use Rattle.mx_key.specs.declared.fault.NoKey.{NoKey}
use Rattle.mx_key.specs.Keys.{Key, AreFit}
use Rattle.mx_schema.specs.declared.index_def.IndexDef.{IndexDef}
use Rattle.mx_schema.specs.declared.schema.Schema.{Schema}
use Rattle.mx_schema.specs.Catalogues.{StandByKey, index_with, schema_of}
use Rattle.mx_schema.specs.Picks.{indexed_with}
use Rattle.mx_schema.specs.Sound.{HaveKeys, AreKeyed, IsSound}
use Rattle.mx_schema.specs.State.{State, Tuples, key_in, key_or_none, tuples_in, index_rows, space_rows}
use Rattle.mx_schema.proofs.TakenLaws.{each_found, each_left}
use Rattle.mx_entries.proofs.HolderKeyLaws.{entry_key_is, unique_apart}
use Rattle.mx_entries.proofs.IndexedLaws.{held_is}
use Rattle.mx_write.specs.Checks.{key_fault, keys_fault}
use Rattle.mx_write.specs.Judged.{Judged, found}
use Rattle.mx_write.specs.Lookup.{holder_of, is_unique, other_indexes, own_key}
use Rattle.mx_write.specs.Unique.{are_free, duplicate, held_refusal, is_another, is_free, is_free_if_unique, is_same_key}
use Rattle.mx_schema.proofs.AloneLaws.{Alone, Takes, same_key, indexed_left, indexed_put}
use Rattle.mx_write.proofs.StageLaws.{came_by, passed_so}
use Rattle.mx_write.proofs.WrittenLaws.{same_by_order, Wrote, makes, wrote}
use Rattle.mx_key.proofs.TupleFitLaws.{tuple_key_fits}
use Rattle.mx_schema.specs.declared.index_def.IndexRow.{IndexRow}
use Rattle.mx_schema.specs.SchemaChanges.{without_index}
use Rattle.mx_schema.proofs.DescribedLaws.{its_keyed}
use Rattle.mx_schema.proofs.KeyedLaws.{two_key}
use Rattle.mx_schema.proofs.SoundLaws.{sound_key, sound_set}
use Rattle.mx_schema.proofs.SoundRowLaws.{index_added, last_index_dropped, other_index_dropped, space_added, space_dropped}
use Rattle.mx_schema.proofs.StateLaws.{stands_after, stands_left}
use Rattle.mx_schema.proofs.StoredLaws.{each_put}
use Rattle.mx_write.specs.declared.writable.Writer.{Writer}
use Rattle.mx_write.specs.Change.{state_after_change, state_after_changed, state_with}
use Rattle.mx_write.specs.Descriptions.{index_named_by, space_named_by}
use Rattle.mx_write.specs.Installs.{MayChange}
use Rattle.mx_write.specs.Judge.{judged_write}
use Rattle.mx_write.specs.Made.{Made, nothing}
use Rattle.mx_write.specs.Writes.{HasBytes, Write, Insert, Replace, Update, Delete, Upsert}
use Rattle.mx_write.proofs.DescriptionLaws.{DroppedIndex, added_index, added_space, dropped_index, dropped_space}

-- ---- what a tuple has that passed the checks of its space: each index takes it

-- an index whose key is there
key_there : (read : Result Key NoKey) (rest : Option Refusal) → key_fault read rest ≡ None → (read ≡ Ok (key_or_none read)) × (rest ≡ None)
key_there (Ok key) rest e = (refl, e)
key_there (Err why) rest e = absurd cc

no_duplicate : (space : ℕ) (schema : Schema) (def : IndexDef) (holder : Option (List ℕ)) (is : Bool) → duplicate space schema def holder is ≡ None → is ≡ false
no_duplicate space schema def holder false e = refl
no_duplicate space schema def holder true e = absurd cc

not_false : (b : Bool) → not b ≡ false → b ≡ true
not_false true e = refl
not_false false e = absurd cc

same_def : (one other : IndexDef) → Some one ≡ Some other → one ≡ other
same_def one other e = cc

module _ (before : State) (space : ℕ) (schema : Schema) (primary : IndexDef) (there : index_with 0 schema.indexes ≡ Some primary)
    (stands : StandByKey primary.key (tuples_in before space)) (key : Key) (put : List ℕ) (own : key_in primary.key put ≡ Ok key) where
  abbrev tuples : Tuples
  tuples = tuples_in before space

  its_key : (other : Key) (held : List ℕ) → get tuples other ≡ Some held → key_in primary.key held ≡ Ok other
  its_key other held at = each_found other (λ entry. key_in primary.key entry.1 ≡ Ok entry.0) tuples held at stands

  primary_takes : Takes tuples key put primary
  primary_takes = (key, own, λ u other held at has. same_key other key (sym (its_key other held at) ∙ has))

  module _ (def : IndexDef) (other : (def.id.0 == 0) ≡ false) (have : HaveKeys def tuples) (alone : Alone tuples def) where
    abbrev by_unique : Bool → Judged (Unit {0})
    by_unique b = if b then is_free before space schema primary (Some key) put def else found tt

    -- the tuple that has the key is the one in whose place this is put
    replaced : def.unique ≡ true → (is_free_if_unique before space schema primary (Some key) put def).outcome ≡ Ok tt → (second : Key) (held : List ℕ)
        → get tuples second ≡ Some held → key_in def.key held ≡ Ok (own_key def put) → second ≡ key
    replaced u free second held at has =
        let tested : is_unique def ≡ true = ap (λ b. b || def.unique) other ∙ u in
        let passes : (is_free before space schema primary (Some key) put def).outcome ≡ Ok tt = ap (λ b. (by_unique b).outcome) (sym tested) ∙ free in
        let holder = holder_of before space def (own_key def put) in
        let none : held_refusal before space schema primary (Some key) put def holder ≡ None = passed_so (held_refusal before space schema primary (Some key) put def holder) tt passes in
        let is : holder ≡ Some held =
        ap (λ (t : Tuples). get t (own_key def put)) (ap (λ b. if b then tuples else indexed_with def empty (entries tuples)) other)
        ∙ held_is def tuples (unique_apart def u tuples (alone u) have) (own_key def put) second held at (entry_key_is def u tuples (alone u) have second held ∙ ap key_or_none has) in
        let same : is_same_key (own_key primary held) key ≡ true =
        not_false (is_same_key (own_key primary held) key)
        (ap (is_another primary (Some key)) (sym is) ∙ no_duplicate space schema def holder (is_another primary (Some key) holder) none) in
        sym (ap key_or_none (its_key second held at)) ∙ same_by_order (own_key primary held) key same

    other_takes : key_in def.key put ≡ Ok (own_key def put) → (is_free_if_unique before space schema primary (Some key) put def).outcome ≡ Ok tt → Takes tuples key put def
    other_takes has free = (own_key def put, has, λ u. replaced u free)

  abbrev Found : IndexDef → Type 0
  Found def = index_with def.id.0 schema.indexes ≡ Some def

  pub all_take : (defs : List IndexDef) → AllByRecursion Found defs → AllByRecursion (λ def. HaveKeys def tuples) defs → AllByRecursion (Alone tuples) defs
      → keys_fault (other_indexes defs) put ≡ None → (are_free before space schema primary (Some key) put (other_indexes defs)).outcome ≡ Ok tt
      → AllByRecursion (Takes tuples key put) defs
  all_take [] at have alone keyed free = tt
  all_take (def ∷ defs) (at, ats) (have, haves) (alone, alones) keyed free =
      by_number (def.id.0 == 0) refl keyed free (all_take defs ats haves alones)
    where
      by_number : (b : Bool) → (def.id.0 == 0) ≡ b → keys_fault (cond (not b) (def ∷ other_indexes defs) (other_indexes defs)) put ≡ None
          → (are_free before space schema primary (Some key) put (cond (not b) (def ∷ other_indexes defs) (other_indexes defs))).outcome ≡ Ok tt
          → (keys_fault (other_indexes defs) put ≡ None → (are_free before space schema primary (Some key) put (other_indexes defs)).outcome ≡ Ok tt
          → AllByRecursion (Takes tuples key put) defs)
          → AllByRecursion (Takes tuples key put) (def ∷ defs)
      by_number true zero keyed free later =
          let same : primary ≡ def = same_def primary def (sym there ∙ ap (λ n. index_with n schema.indexes) (sym (eqb-true def.id.0 0 zero)) ∙ at) in
          (subst (Takes tuples key put) same primary_takes, later keyed free)
      by_number false other keyed free later =
          let (has, rest) = key_there (key_in def.key put) (keys_fault (other_indexes defs) put) keyed in
          let (u, first, others) = came_by (is_free_if_unique before space schema primary (Some key) put def) _ tt free in
          (other_takes def other have alone has first, later rest others)

-- ---- one change

module _ (before : State) (sound : IsSound before) where
  module _ (space : ℕ) (key : Key) (fit : AreFit key) where
    -- the space's tuples after it
    abbrev tuples_after : Option (List ℕ) → Tuples
    tuples_after None = remove (tuples_in before space) key
    tuples_after (Some put) = insert (tuples_in before space) key put

    keyed_after : (tuple : Option (List ℕ)) (changes : MayChange before space key tuple) → AreKeyed (Some changes.schema) (tuples_after tuple)
    keyed_after None changes =
        let was = its_keyed before sound space changes.schema changes.described in (
          stands_left changes.schema (tuples_in before space) key was.0,
          each_left key (λ row. AreFit row.0) (tuples_in before space) was.1,
          indexed_left changes.schema (tuples_in before space) key was.2,
        )
    keyed_after (Some put) changes =
        let was = its_keyed before sound space changes.schema changes.described in
        let stands : StandByKey changes.primary.key (tuples_in before space) =
        subst (λ (o : Option IndexDef). IfSome o (λ def. StandByKey def.key (tuples_in before space))) changes.there was.0 in (
          stands_after changes.schema (tuples_in before space) key put
              (subst (λ (o : Option IndexDef). IfSome o (λ def. key_in def.key put ≡ Ok key)) (sym changes.there) changes.fits.own) was.0,
          each_put (λ row. AreFit row.0) (tuples_in before space) key put fit was.1,
          indexed_put (tuples_in before space) key put changes.schema changes.primary changes.there was.2
              (all_take before space changes.schema changes.primary changes.there stands key put changes.fits.own changes.schema.indexes was.2.apart was.2.have was.2.unique
              changes.fits.keyed changes.fits.free),
        )

    -- as the state describes it
    pub keyed_so : (tuple : Option (List ℕ)) (changes : MayChange before space key tuple) → AreKeyed (schema_of before space) (tuples_after tuple)
    keyed_so tuple changes = subst (λ s. AreKeyed s (tuples_after tuple)) (sym changes.described) (keyed_after tuple changes)

    -- in a space that describes nothing
    plain_sound : (tuple : Option (List ℕ)) → MayChange before space key tuple → (space == space_rows) ≡ false → (space == index_rows) ≡ false
        → IsSound (state_after_change before (record { space = space; key = key; tuple = tuple }))
    plain_sound None changes no_space no_index =
        subst (λ b. IsSound (state_with (if b && true then without_index before (space_named_by key) (index_named_by key) else before) space key None)) (sym no_index)
        (sound_set before space (tuples_after None) no_space no_index sound (keyed_so None changes))
    plain_sound (Some put) changes no_space no_index =
        subst (λ b. IsSound (state_with (if b && false then without_index before (space_named_by key) (index_named_by key) else before) space key (Some put))) (sym no_index)
        (sound_set before space (tuples_after (Some put)) no_space no_index sound (keyed_so (Some put) changes))

  -- in the two spaces whose rows describe others

  space_put_sound : (key : Key) (row : List ℕ) → AreFit key → MayChange before space_rows key (Some row)
      → IsSound (state_after_change before (record { space = space_rows; key = key; tuple = Some row }))
  space_put_sound key row fit changes =
      let (def, new) = added_space before sound key row changes in
      subst (λ k. IsSound (state_with before space_rows k (Some row))) (sym new.same)
      (space_added before sound row def new.is new.high new.absent
      (subst (λ k. AreKeyed (schema_of before space_rows) (insert (tuples_in before space_rows) k row)) new.same (keyed_so space_rows key fit (Some row) changes)))

  space_removed_sound : (key : Key) → AreFit key → MayChange before space_rows key None → IsSound (state_after_change before (record { space = space_rows; key = key; tuple = None }))
  space_removed_sound key fit changes =
      let (row, def, old) = dropped_space before sound key changes in
      subst (λ k. IsSound (state_with before space_rows k None)) (sym old.same)
      (space_dropped before sound def.id.0 old.high old.without old.no_tuples
      (subst (λ k. AreKeyed (schema_of before space_rows) (remove (tuples_in before space_rows) k)) old.same (keyed_so space_rows key fit None changes)))

  index_put_sound : (key : Key) (row : List ℕ) → AreFit key → MayChange before index_rows key (Some row)
      → IsSound (state_after_change before (record { space = index_rows; key = key; tuple = Some row }))
  index_put_sound key row fit changes =
      let (index, new) = added_index before sound key row changes in
      subst (λ k. IsSound (state_with before index_rows k (Some row))) (sym new.same)
      (index_added before sound row index new.schema new.is new.high new.there new.no_row new.no_index new.first new.have new.alone
      (subst (λ k. AreKeyed (schema_of before index_rows) (insert (tuples_in before index_rows) k row)) new.same (keyed_so index_rows key fit (Some row) changes)))

  index_removed_sound : (key : Key) → AreFit key → MayChange before index_rows key None → IsSound (state_after_change before (record { space = index_rows; key = key; tuple = None }))
  index_removed_sound key fit changes =
      let (row, index, old) = dropped_index before sound key changes in
      subst (λ k. IsSound (after k)) (sym old.same)
      (by_number row index old (subst (λ k. AreKeyed (schema_of before index_rows) (remove (tuples_in before index_rows) k)) old.same (keyed_so index_rows key fit None changes))
      (index.def.id.0 == 0) refl)
    where
      after : Key → State
      after k = state_after_change before (record { space = index_rows; key = k; tuple = None })

      turned : (n : ℕ) → (n == 0) ≡ false → (0 == n) ≡ false
      turned n e = grind (arith, nat_tests)

      by_number : (row : List ℕ) (index : IndexRow) (old : DroppedIndex before key row index)
          → AreKeyed (schema_of before index_rows) (remove (tuples_in before index_rows) (two_key index.space.0 index.def.id.0)) → (b : Bool)
          → (index.def.id.0 == 0) ≡ b → IsSound (after (two_key index.space.0 index.def.id.0))
      by_number row index old keyed true zero =
          let is_zero : index.def.id.0 ≡ 0 = eqb-true index.def.id.0 0 zero in
          subst (λ n. IsSound (after (two_key index.space.0 n))) (sym is_zero)
          (last_index_dropped before index.space.0 old.schema sound old.high old.there (old.last is_zero)
          (subst (λ n. AreKeyed (schema_of before index_rows) (remove (tuples_in before index_rows) (two_key index.space.0 n))) is_zero keyed))
      by_number row index old keyed false other =
          subst (λ b. IsSound (state_with (if b then insert before index.space.0 empty else before) index_rows (two_key index.space.0 index.def.id.0) None)) (sym other)
          (other_index_dropped before sound index.space.0 index.def.id.0 old.schema old.high old.there (turned index.def.id.0 other) keyed)

  -- ---- any space

  pub change_sound : (space : ℕ) (key : Key) (tuple : Option (List ℕ)) → AreFit key → MayChange before space key tuple
      → IsSound (state_after_change before (record { space = space; key = key; tuple = tuple }))
  change_sound space key tuple fit changes = by_tests (space == space_rows) refl (space == index_rows) refl
    where
      of_spaces : (tuple : Option (List ℕ)) → MayChange before space_rows key tuple → IsSound (state_after_change before (record { space = space_rows; key = key; tuple = tuple }))
      of_spaces None changes = space_removed_sound key fit changes
      of_spaces (Some row) changes = space_put_sound key row fit changes

      of_indexes : (tuple : Option (List ℕ)) → MayChange before index_rows key tuple → IsSound (state_after_change before (record { space = index_rows; key = key; tuple = tuple }))
      of_indexes None changes = index_removed_sound key fit changes
      of_indexes (Some row) changes = index_put_sound key row fit changes

      by_tests : (spaces : Bool) → (space == space_rows) ≡ spaces → (indexes : Bool) → (space == index_rows) ≡ indexes
          → IsSound (state_after_change before (record { space = space; key = key; tuple = tuple }))
      by_tests true is indexes other =
          let same = eqb-true space space_rows is in
          subst (λ n. IsSound (state_after_change before (record { space = n; key = key; tuple = tuple }))) (sym same)
          (of_spaces tuple (subst (λ n. MayChange before n key tuple) same changes))
      by_tests false apart true is =
          let same = eqb-true space index_rows is in
          subst (λ n. IsSound (state_after_change before (record { space = n; key = key; tuple = tuple }))) (sym same)
          (of_indexes tuple (subst (λ n. MayChange before n key tuple) same changes))
      by_tests false apart false other = plain_sound space key fit tuple changes apart other

  -- ---- a write

  -- the key of a write has numbers of 64 bits
  write_key_fits : (space : ℕ) (write : Write) (is : Made) (so : Wrote before space write is) → HasBytes write → AreFit so.key
  write_key_fits space (Insert tuple) is so bytes = tuple_key_fits so.changes.primary.key tuple so.key bytes so.key_is
  write_key_fits space (Replace tuple) is so bytes = tuple_key_fits so.changes.primary.key tuple so.key bytes so.key_is
  write_key_fits space (Update index base asked operations) is so bytes =
      (sound_key before space so.changes.schema so.changes.primary so.key so.key_is.0 sound so.changes.described so.changes.there so.key_is.1).1
  write_key_fits space (Delete index asked) is so bytes =
      (sound_key before space so.changes.schema so.changes.primary so.key so.key_is.0 sound so.changes.described so.changes.there so.key_is.1).1
  write_key_fits space (Upsert base tuple operations) is so bytes = tuple_key_fits so.changes.primary.key tuple so.key bytes so.key_is

-- so a write of bytes keeps a state sound
pub stays_sound : (writer : Writer) (before : State) (space : ℕ) (write : Write) (is : Made) → IsSound before → HasBytes write
    → (judged_write writer before space write).outcome ≡ Ok is → IsSound (state_after_changed before is.change)
stays_sound writer before space write is sound bytes e = by_case (wrote writer before space is write e)
  where
    by_case : (is ≡ nothing) ⊎ Wrote before space write is → IsSound (state_after_changed before is.change)
    by_case (inl none) = subst (λ (m : Made). IsSound (state_after_changed before m.change)) (sym none) sound
    by_case (inr so) =
        let is_so = (makes space write so.key so.tuple so.shown is so.made).1 in
        subst (λ (m : Made). IsSound (state_after_changed before m.change)) (sym is_so)
        (change_sound before sound space so.key so.tuple (write_key_fits before sound space write is so bytes) so.changes)
