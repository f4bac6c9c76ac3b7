-- A state stays sound where a space or an index comes or goes with its row.
use Rattle.std.proofs.lemmas.Bool.Decides.{nat_tests}
use Rattle.std.proofs.Common.{arith, ◌≡◌, ℕ, ◌<◌, ◌≤◌, Bool, true, false, List, [], ◌∷◌, Option, Some, None, refl, sym, ap, ◌∙◌, subst, eqb-true}
use Rattle.std.specs.Prelude.{IfSome, ◌==◌, if◌then◌else◌}
use Rattle.std.specs.FinMap.{empty, entries, get, get-empty, insert, remove}
use Rattle.std.specs.List.{AllByRecursion}
use Rattle.std.specs.Option.{option_map}
use Rattle.mx_key.specs.Keys.{Key, AreFit, key_cmp}
use Rattle.mx_schema.specs.declared.index_def.IndexDef.{IndexDef}
use Rattle.mx_schema.specs.declared.index_def.IndexRow.{IndexRow}
use Rattle.mx_schema.specs.declared.schema.Schema.{Schema}
use Rattle.mx_schema.specs.declared.space_def.SpaceDef.{SpaceDef}
use Rattle.mx_schema.specs.Catalogues.{StandByKey, index_with, indexes_of, schema_of}
use Rattle.mx_schema.specs.IndexRows.{index_in}
use Rattle.mx_schema.specs.Picks.{Indexed}
use Rattle.mx_schema.specs.SchemaChanges.{IndexesHaveSpaces, RowsStand, indexes_without, schema_with_index, schema_without_index, with_schema}
use Rattle.mx_schema.specs.SchemaChecks.{first_user_space, indexes_with}
use Rattle.mx_schema.specs.Sound.{AreIndexed, AreKeyed, HaveKeys, IsSound, SpaceRowStands}
use Rattle.mx_schema.specs.SpaceRows.{space_in}
use Rattle.mx_schema.specs.State.{State, Tuples, index_rows, space_rows, tuples_in, with_tuple, without_tuple}
use Rattle.mx_schema.specs.Stored.{StandByPrimary}
use Rattle.mx_schema.proofs.AloneLaws.{Alone}
use Rattle.mx_schema.proofs.IndexListLaws.{apart_less, apart_more, each_less, each_more, found_less, found_more}
use Rattle.mx_schema.proofs.KeyedLaws.{one_key, two_key}
use Rattle.mx_schema.proofs.SchemaChangeLaws.{have_index_put, have_index_removed, have_space_put, have_space_removed, index_row_put, index_row_removed, new_space_put, rows_stand_elsewhere, rows_stand_put, rows_stand_removed, space_row_removed}
use Rattle.mx_schema.proofs.SoundLaws.{sound_set}
use Rattle.mx_schema.proofs.StateLaws.{none_stand, schema_set, tuples_set}
use Rattle.mx_schema.proofs.StoredLaws.{each_none, each_put}
use Rattle.mx_schema.proofs.TakenLaws.{each_left}

-- what is so of each number that isn't this one, and of this one, is so of each
by_number : {P : ℕ → Type 0} (space : ℕ) → P space → ((q : ℕ) → (q == space) ≡ false → P q) → (q : ℕ) → P q
by_number {P} space here elsewhere q = by_test (q == space) refl
  where
    by_test : (b : Bool) → (q == space) ≡ b → P q
    by_test true e = subst P (sym (eqb-true q space e)) here
    by_test false e = elsewhere q e

above : (id : ℕ) → first_user_space ≤ id → (q : ℕ) → q < first_user_space → (q == id) ≡ false
above id high q low = grind (arith, nat_tests)

-- no tuples are kept by any description that has as many indexes as numbers
pub none_keyed : (schema : Schema) → AllByRecursion (λ def. index_with def.id.0 schema.indexes ≡ Some def) schema.indexes → AreKeyed (Some schema) empty
none_keyed schema apart = (
  none_stand schema,
  each_none (λ (entry : Indexed). AreFit entry.0),
  record {
    apart = apart;
    have = each_def schema.indexes;
    unique = each_alone schema.indexes;
    primary = λ none. refl;
  },
)
  where
    no_tuples : Tuples
    no_tuples = empty

    each_def : (defs : List IndexDef) → AllByRecursion (λ def. HaveKeys def no_tuples) defs
    each_def [] = tt
    each_def (def ∷ defs) = (each_none _, each_def defs)

    none_found : (key : Key) (tuple : List ℕ) → get no_tuples key ≡ Some tuple → ⊥
    none_found key tuple e = let no : Some tuple ≡ None = sym e ∙ get-empty key_cmp key in absurd cc

    each_alone : (defs : List IndexDef) → AllByRecursion (Alone no_tuples) defs
    each_alone [] = tt
    each_alone (def ∷ defs) = (λ u one other first second key here. absurd (none_found one first here), each_alone defs)

module _ (before : State) (sound : IsSound before) where
  -- a space whose description and tuples are as before
  abbrev Same : State → (q : ℕ) → Type 0
  Same after q = (schema_of after q ≡ schema_of before q) × (tuples_in after q ≡ tuples_in before q)

  keyed_same : (after : State) (q : ℕ) → Same after q → AreKeyed (schema_of after q) (tuples_in after q)
  keyed_same after q (schema, tuples) =
      subst (λ s. AreKeyed s (tuples_in after q)) (sym schema) (subst (AreKeyed (schema_of before q)) (sym tuples) (sound.keyed q))

  keyed_so : (after : State) (q : ℕ) (schema : Option Schema) (tuples : Tuples) → schema_of after q ≡ schema → tuples_in after q ≡ tuples → AreKeyed schema tuples
      → AreKeyed (schema_of after q) (tuples_in after q)
  keyed_so after q schema tuples is are keyed = subst (λ s. AreKeyed s (tuples_in after q)) (sym is) (subst (AreKeyed schema) (sym are) keyed)

  changed_here : (schemas : ℕ → Option Schema) (space : ℕ) (schema : Option Schema) → with_schema schemas space schema space ≡ schema
  changed_here schemas space schema = ap (λ b. if b then schema else schemas space) (itself space)
    where
      itself : (n : ℕ) → (n == n) ≡ true
      itself n = grind (arith, nat_tests)

  changed_elsewhere : (schemas : ℕ → Option Schema) (space : ℕ) (schema : Option Schema) (q : ℕ) → (q == space) ≡ false → with_schema schemas space schema q ≡ schemas q
  changed_elsewhere schemas space schema q e = ap (λ b. if b then schema else schemas q) e

  pub tuples_here : (space : ℕ) (all : Tuples) → tuples_in (insert before space all) space ≡ all
  tuples_here space all = tuples_set before space all space ∙ ap (λ b. if b then all else tuples_in before space) (itself space)
    where
      itself : (n : ℕ) → (n == n) ≡ true
      itself n = grind (arith, nat_tests)

  pub tuples_elsewhere : (space : ℕ) (all : Tuples) (q : ℕ) → (q == space) ≡ false → tuples_in (insert before space all) q ≡ tuples_in before q
  tuples_elsewhere space all q e = tuples_set before space all q ∙ ap (λ b. if b then all else tuples_in before q) e

  no_schema_no_tuples : (q : ℕ) → schema_of before q ≡ None → tuples_in before q ≡ empty
  no_schema_no_tuples q none = subst (λ s. AreKeyed s (tuples_in before q)) none (sound.keyed q)

  -- ---- the row of a space

  -- the rows of spaces are others, each under its number, and one user's space is described otherwise and has no tuples
  space_rows_changed : (rows : Tuples) (id : ℕ) (schema : Option Schema) → first_user_space ≤ id
      → ((q : ℕ) → schema_of (insert before space_rows rows) q ≡ with_schema (schema_of before) id schema q)
      → AreKeyed (schema_of before space_rows) rows → AreKeyed schema empty → tuples_in before id ≡ empty
      → AllByRecursion SpaceRowStands (entries rows) → IndexesHaveSpaces (insert before space_rows rows) → IsSound (insert before space_rows rows)
  space_rows_changed rows id schema high schemas keyed none no_tuples stand have = record {
    keyed = by_number space_rows keyed_rows (by_number_too);
    described = record {
      own = λ q low. schemas q ∙ changed_elsewhere (schema_of before) id schema q (above id high q low) ∙ sound.described.own q low;
      spaces = subst (λ (r : Tuples). AllByRecursion SpaceRowStands (entries r)) (sym (tuples_here space_rows rows)) stand;
      indexes = rows_stand_elsewhere before space_rows rows refl sound.described.indexes;
      have = have;
    };
  }
    where
      after : State
      after = insert before space_rows rows

      keyed_rows : AreKeyed (schema_of after space_rows) (tuples_in after space_rows)
      keyed_rows =
          keyed_so after space_rows (schema_of before space_rows) rows
          (schemas space_rows ∙ changed_elsewhere (schema_of before) id schema space_rows (above id high space_rows (omega arith))) (tuples_here space_rows rows) keyed

      other : (q : ℕ) → (q == space_rows) ≡ false → (b : Bool) → (q == id) ≡ b → AreKeyed (schema_of after q) (tuples_in after q)
      other q rows_apart true e =
          keyed_so after q schema empty (schemas q ∙ ap (λ b. if b then schema else schema_of before q) e)
          (tuples_elsewhere space_rows rows q rows_apart ∙ ap (tuples_in before) (eqb-true q id e) ∙ no_tuples) none
      other q rows_apart false e =
          keyed_same after q (schemas q ∙ changed_elsewhere (schema_of before) id schema q e, tuples_elsewhere space_rows rows q rows_apart)

      by_number_too : (q : ℕ) → (q == space_rows) ≡ false → AreKeyed (schema_of after q) (tuples_in after q)
      by_number_too q apart = other q apart (q == id) refl

  -- a user's space that isn't there comes with its row
  pub space_added : (row : List ℕ) (def : SpaceDef) → space_in row ≡ Some def → first_user_space ≤ def.id.0 → schema_of before def.id.0 ≡ None
      → AreKeyed (schema_of before space_rows) (insert (tuples_in before space_rows) (one_key def.id.0) row) → IsSound (with_tuple before space_rows (one_key def.id.0) row)
  space_added row def described high absent keyed =
      space_rows_changed (insert (tuples_in before space_rows) (one_key def.id.0) row) def.id.0 (Some (record { def = def; indexes = [] })) high
      (new_space_put before def.id.0 row def sound.described.have absent described) keyed (none_keyed (record { def = def; indexes = [] }) tt)
      (no_schema_no_tuples def.id.0 absent)
      (each_put SpaceRowStands (tuples_in before space_rows) (one_key def.id.0) row (def, described, refl) sound.described.spaces)
      (have_space_put before sound.described.have def.id.0 row def described)

  -- a user's space without indexes goes with its row
  pub space_dropped : (id : ℕ) → first_user_space ≤ id → indexes_of before id ≡ [] → tuples_in before id ≡ empty
      → AreKeyed (schema_of before space_rows) (remove (tuples_in before space_rows) (one_key id)) → IsSound (without_tuple before space_rows (one_key id))
  space_dropped id high without no_tuples keyed =
      space_rows_changed (remove (tuples_in before space_rows) (one_key id)) id None high (space_row_removed before id) keyed refl no_tuples
      (each_left (one_key id) SpaceRowStands (tuples_in before space_rows) sound.described.spaces) (have_space_removed before sound.described.have id without)

  -- ---- the row of an index

  -- the rows of indexes are others, each under its numbers, and one user's space is described otherwise
  index_rows_changed : (rows : Tuples) (space : ℕ) (schema : Option Schema) → first_user_space ≤ space
      → ((q : ℕ) → schema_of (insert before index_rows rows) q ≡ with_schema (schema_of before) space schema q)
      → AreKeyed (schema_of before index_rows) rows → AreKeyed schema (tuples_in before space)
      → RowsStand (insert before index_rows rows) → IndexesHaveSpaces (insert before index_rows rows) → IsSound (insert before index_rows rows)
  index_rows_changed rows space schema high schemas keyed keyed_here stand have = record {
    keyed = by_number index_rows keyed_rows (λ q apart. other q apart (q == space) refl);
    described = record {
      own = λ q low. schemas q ∙ changed_elsewhere (schema_of before) space schema q (above space high q low) ∙ sound.described.own q low;
      spaces = subst (λ (r : Tuples). AllByRecursion SpaceRowStands (entries r)) (sym (tuples_elsewhere index_rows rows space_rows refl)) sound.described.spaces;
      indexes = stand;
      have = have;
    };
  }
    where
      after : State
      after = insert before index_rows rows

      keyed_rows : AreKeyed (schema_of after index_rows) (tuples_in after index_rows)
      keyed_rows =
          keyed_so after index_rows (schema_of before index_rows) rows
          (schemas index_rows ∙ changed_elsewhere (schema_of before) space schema index_rows (above space high index_rows (omega arith))) (tuples_here index_rows rows) keyed

      other : (q : ℕ) → (q == index_rows) ≡ false → (b : Bool) → (q == space) ≡ b → AreKeyed (schema_of after q) (tuples_in after q)
      other q rows_apart true e =
          keyed_so after q schema (tuples_in before space) (schemas q ∙ ap (λ b. if b then schema else schema_of before q) e)
          (tuples_elsewhere index_rows rows q rows_apart ∙ ap (tuples_in before) (eqb-true q space e)) keyed_here
      other q rows_apart false e =
          keyed_same after q (schemas q ∙ changed_elsewhere (schema_of before) space schema q e, tuples_elsewhere index_rows rows q rows_apart)

  -- an index more of a space whose tuples it takes
  keyed_more : (schema : Schema) (def : IndexDef) (tuples : Tuples) → AreKeyed (Some schema) tuples → index_with def.id.0 schema.indexes ≡ None
      → (def.id.0 ≡ 0 → tuples ≡ empty) → HaveKeys def tuples → Alone tuples def → AreKeyed (Some (schema_with_index def schema)) tuples
  keyed_more schema def tuples (stands, fit, indexed) absent first have alone = (stand_more, fit, indexed_more)
    where
      found_first : index_with 0 (indexes_with def schema.indexes) ≡ (if def.id.0 == 0 then Some def else index_with 0 schema.indexes)
      found_first = found_more def schema.indexes 0 absent

      stand_more : StandByPrimary (schema_with_index def schema) tuples
      stand_more = by_test (def.id.0 == 0) refl
        where
          by_test : (b : Bool) → (def.id.0 == 0) ≡ b → StandByPrimary (schema_with_index def schema) tuples
          by_test true e = subst (StandByPrimary (schema_with_index def schema)) (sym (first (eqb-true def.id.0 0 e))) (none_stand (schema_with_index def schema))
          by_test false e =
              subst (λ (o : Option IndexDef). IfSome o (λ d. StandByKey d.key tuples)) (sym (found_first ∙ ap (λ b. if b then Some def else index_with 0 schema.indexes) e)) stands

      indexed_more : AreIndexed (schema_with_index def schema) tuples
      indexed_more = record {
        apart = apart_more def schema.indexes absent indexed.apart;
        have = each_more (λ d. HaveKeys d tuples) def schema.indexes have indexed.have;
        unique = each_more (Alone tuples) def schema.indexes alone indexed.unique;
        primary = λ none. by_test (def.id.0 == 0) (sym found_first ∙ none);
      }
        where
          by_test : (b : Bool) → (if b then Some def else index_with 0 schema.indexes) ≡ None → tuples ≡ empty
          by_test true e = absurd cc
          by_test false e = indexed.primary e

  -- an index that a user's space hasn't got comes with its row
  pub index_added : (row : List ℕ) (index : IndexRow) (schema : Schema) → index_in row ≡ Some index → first_user_space ≤ index.space.0
      → schema_of before index.space.0 ≡ Some schema → get (tuples_in before index_rows) (two_key index.space.0 index.def.id.0) ≡ None
      → index_with index.def.id.0 schema.indexes ≡ None → (index.def.id.0 ≡ 0 → tuples_in before index.space.0 ≡ empty)
      → HaveKeys index.def (tuples_in before index.space.0) → Alone (tuples_in before index.space.0) index.def
      → AreKeyed (schema_of before index_rows) (insert (tuples_in before index_rows) (two_key index.space.0 index.def.id.0) row)
      → IsSound (with_tuple before index_rows (two_key index.space.0 index.def.id.0) row)
  index_added row index schema described high there absent no_index first have alone keyed =
      index_rows_changed (insert (tuples_in before index_rows) (two_key index.space.0 index.def.id.0) row) index.space.0 (Some (schema_with_index index.def schema)) high
      (λ q. index_row_put before index.space.0 index.def.id.0 row index sound.described.indexes absent described refl q
      ∙ ap (λ (o : Option Schema). with_schema (schema_of before) index.space.0 (option_map (schema_with_index index.def) o) q) there)
      keyed
      (keyed_more schema index.def (tuples_in before index.space.0) (subst (λ s. AreKeyed s (tuples_in before index.space.0)) there (sound.keyed index.space.0)) no_index first have alone)
      (rows_stand_put before row index sound.described.indexes described)
      (have_index_put before sound.described.have index.space.0 index.def.id.0 row index schema sound.described.indexes absent described refl there)

  -- an index less, which isn't the primary one
  keyed_less : (schema : Schema) (id : ℕ) (tuples : Tuples) → AreKeyed (Some schema) tuples → (0 == id) ≡ false → AreKeyed (Some (schema_without_index id schema)) tuples
  keyed_less schema id tuples (stands, fit, indexed) other = (
    subst (λ (o : Option IndexDef). IfSome o (λ d. StandByKey d.key tuples)) (sym first) stands,
    fit,
    record {
      apart = apart_less id schema.indexes indexed.apart;
      have = each_less (λ d. HaveKeys d tuples) id schema.indexes indexed.have;
      unique = each_less (Alone tuples) id schema.indexes indexed.unique;
      primary = λ none. indexed.primary (sym first ∙ none);
    },
  )
    where
      first : index_with 0 (indexes_without id schema.indexes) ≡ index_with 0 schema.indexes
      first = found_less id schema.indexes 0 ∙ ap (λ b. if b then None else index_with 0 schema.indexes) other

  -- a user's index goes with its row
  pub other_index_dropped : (space id : ℕ) (schema : Schema) → first_user_space ≤ space → schema_of before space ≡ Some schema → (0 == id) ≡ false
      → AreKeyed (schema_of before index_rows) (remove (tuples_in before index_rows) (two_key space id)) → IsSound (without_tuple before index_rows (two_key space id))
  other_index_dropped space id schema high there other keyed =
      index_rows_changed (remove (tuples_in before index_rows) (two_key space id)) space (Some (schema_without_index id schema)) high
      (λ q. index_row_removed before space id sound.described.indexes q
      ∙ ap (λ (o : Option Schema). with_schema (schema_of before) space (option_map (schema_without_index id) o) q) there)
      keyed (keyed_less schema id (tuples_in before space) (subst (λ s. AreKeyed s (tuples_in before space)) there (sound.keyed space)) other)
      (rows_stand_removed before (two_key space id) sound.described.indexes) (have_index_removed before sound.described.have space id sound.described.indexes)

-- the last index of a user's space goes with its row, after the space's tuples
pub last_index_dropped : (before : State) (space : ℕ) (schema : Schema) → IsSound before → first_user_space ≤ space → schema_of before space ≡ Some schema
    → indexes_without 0 schema.indexes ≡ [] → AreKeyed (schema_of before index_rows) (remove (tuples_in before index_rows) (two_key space 0))
    → IsSound (without_tuple (insert before space empty) index_rows (two_key space 0))
last_index_dropped before space schema sound high there none keyed =
    index_rows_changed cleared cleared_sound (remove (tuples_in cleared index_rows) (two_key space 0)) space (Some (schema_without_index 0 schema)) high
    (λ q. index_row_removed cleared space 0 cleared_sound.described.indexes q
    ∙ ap (λ (o : Option Schema). with_schema (schema_of cleared) space (option_map (schema_without_index 0) o) q) (as_before space ∙ there))
    (subst (λ s. AreKeyed s (remove (tuples_in cleared index_rows) (two_key space 0))) (sym (as_before index_rows))
    (subst (λ (rows : Tuples). AreKeyed (schema_of before index_rows) (remove rows (two_key space 0))) (sym (tuples_elsewhere before sound space empty index_rows apart_indexes)) keyed))
    (subst (AreKeyed (Some (schema_without_index 0 schema))) (sym (tuples_here before sound space empty)) (none_keyed (schema_without_index 0 schema) (subst (λ defs. AllByRecursion (λ def. index_with def.id.0 (indexes_without 0 schema.indexes) ≡ Some def) defs) (sym none) tt)))
    (rows_stand_removed cleared (two_key space 0) cleared_sound.described.indexes)
    (have_index_removed cleared cleared_sound.described.have space 0 cleared_sound.described.indexes)
  where
    cleared : State
    cleared = insert before space empty

    apart_spaces : (space == space_rows) ≡ false
    apart_spaces = grind (arith, nat_tests)

    apart_rows : (space == index_rows) ≡ false
    apart_rows = grind (arith, nat_tests)

    apart_indexes : (index_rows == space) ≡ false
    apart_indexes = grind (arith, nat_tests)

    its : AreKeyed (Some schema) (tuples_in before space)
    its = subst (λ s. AreKeyed s (tuples_in before space)) there (sound.keyed space)

    cleared_sound : IsSound cleared
    cleared_sound = sound_set before space empty apart_spaces apart_rows sound (subst (λ s. AreKeyed s empty) (sym there) (none_keyed schema its.2.apart))

    as_before : (q : ℕ) → schema_of cleared q ≡ schema_of before q
    as_before = schema_set before space empty apart_spaces apart_rows
