-- What each space has by its description and its tuples, where a row of a space or an index comes or goes.
use Rattle.std.proofs.lemmas.Bool.Decides.{nat_tests}
use Rattle.std.proofs.Common.{arith, ◌≡◌, ℕ, ◌≤◌, Bool, true, false, not, ◌&&◌, List, [], Option, Some, None, refl, sym, ap, ◌∙◌, subst, eqb-true, true≢false}
use Rattle.std.specs.Prelude.{◌≢◌, is_none, ◌==◌, if◌then◌else◌}
use Rattle.std.specs.FinMap.{empty, entries, insert, remove}
use Rattle.std.specs.List.{AllByRecursion}
use Rattle.std.specs.Option.{option_map}
use Rattle.mx_key.specs.Keys.{Key}
use Rattle.mx_schema.specs.declared.index_def.IndexRow.{IndexRow}
use Rattle.mx_schema.specs.declared.schema.Schema.{Schema}
use Rattle.mx_schema.specs.declared.space_def.SpaceDef.{SpaceDef}
use Rattle.mx_schema.specs.Catalogues.{index_with, schema_of}
use Rattle.mx_schema.specs.SchemaChanges.{IndexRowStands, schema_with_index, schema_without_index, with_schema, without_index}
use Rattle.mx_schema.specs.SchemaChecks.{first_user_space}
use Rattle.mx_schema.specs.Sound.{IsSound}
use Rattle.mx_schema.specs.State.{State, Tuples, index_rows, space_rows, tuples_in, with_tuple, without_tuple}
use Rattle.mx_schema.proofs.IndexListLaws.{more_and_less}
use Rattle.mx_schema.proofs.SchemaChangeLaws.{index_row_put, index_row_removed, new_space_put, space_row_removed}
use Rattle.mx_schema.proofs.SoundRowLaws.{tuples_elsewhere}
use Rattle.mx_schema.proofs.StateLaws.{schema_set, tuples_set}
use Rattle.mx_write.specs.Change.{Change, state_after_change}
use Rattle.mx_write.specs.Descriptions.{index_named_by, lacks_primary, space_named_by}
use Rattle.mx_write.proofs.DescriptionLaws.{AddedIndex, AddedSpace, DroppedIndex, DroppedSpace}

abbrev pub change_of : (space : ℕ) → Key → Option (List ℕ) → Change
change_of space key tuple = record { space = space; key = key; tuple = tuple }

-- what there is of a space that is described so and has these tuples
abbrev pub OfSpace : Type 1
OfSpace = (space : ℕ) → Option Schema → Tuples → Type 0

-- it is there of each space
abbrev pub OfEach : OfSpace → (schemas : ℕ → Option Schema) → State → Type 0
OfEach P schemas state = (q : ℕ) → P q (schemas q) (tuples_in state q)

-- by the same descriptions
pub described_same : (P : OfSpace) (one other : ℕ → Option Schema) (state : State) → ((q : ℕ) → one q ≡ other q) → OfEach P one state → OfEach P other state
described_same P one other state same each q = subst (λ s. P q s (tuples_in state q)) (same q) (each q)

-- and of the same tuples
pub tuples_same : (P : OfSpace) (schemas : ℕ → Option Schema) (one other : State) → ((q : ℕ) → tuples_in one q ≡ tuples_in other q) → OfEach P schemas one → OfEach P schemas other
tuples_same P schemas one other same each q = subst (P q (schemas q)) (same q) (each q)

-- ---- a tuple of a space that describes nothing

module _ (before : State) (space : ℕ) (key : Key) where
  -- no index goes where a tuple is put, or with a row of another space
  pub after_put : (tuple : List ℕ) → state_after_change before (change_of space key (Some tuple)) ≡ with_tuple before space key tuple
  after_put tuple = by_test (space == index_rows)
    where
      by_test : (b : Bool) → with_tuple (if b && false then without_index before (space_named_by key) (index_named_by key) else before) space key tuple ≡ with_tuple before space key tuple
      by_test true = refl
      by_test false = refl

  after_removed : (space == index_rows) ≡ false → state_after_change before (change_of space key None) ≡ without_tuple before space key
  after_removed e = ap (λ b. without_tuple (if b && true then without_index before (space_named_by key) (index_named_by key) else before) space key) e

module _ (P : OfSpace) (before : State) (space : ℕ) (key : Key) (no_space : (space == space_rows) ≡ false) (no_index : (space == index_rows) ≡ false) where
  pub tuple_put : (tuple : List ℕ) → OfEach P (schema_of before) (with_tuple before space key tuple)
      → OfEach P (schema_of (state_after_change before (change_of space key (Some tuple)))) (state_after_change before (change_of space key (Some tuple)))
  tuple_put tuple each =
      subst (λ (s : State). OfEach P (schema_of s) s) (sym (after_put before space key tuple))
      (described_same P (schema_of before) (schema_of (with_tuple before space key tuple)) (with_tuple before space key tuple)
      (λ q. sym (schema_set before space (insert (tuples_in before space) key tuple) no_space no_index q)) each)

  pub tuple_removed : OfEach P (schema_of before) (without_tuple before space key)
      → OfEach P (schema_of (state_after_change before (change_of space key None))) (state_after_change before (change_of space key None))
  tuple_removed each =
      subst (λ (s : State). OfEach P (schema_of s) s) (sym (after_removed before space key no_index))
      (described_same P (schema_of before) (schema_of (without_tuple before space key)) (without_tuple before space key)
      (λ q. sym (schema_set before space (remove (tuples_in before space) key) no_space no_index q)) each)

-- ---- descriptions of one space

pub itself : (n : ℕ) → (n == n) ≡ true
itself n = grind (arith, nat_tests)

-- the descriptions are as before where one was changed twice
changed_back : (schemas : ℕ → Option Schema) (space : ℕ) (one other : Option Schema) → other ≡ schemas space → (q : ℕ)
    → with_schema (with_schema schemas space one) space other q ≡ schemas q
changed_back schemas space one other same q = by_test (q == space) refl
  where
    by_test : (b : Bool) → (q == space) ≡ b → (if b then other else if b then one else schemas q) ≡ schemas q
    by_test true e = same ∙ ap schemas (sym (eqb-true q space e))
    by_test false e = refl

elsewhere : (schemas : ℕ → Option Schema) (space : ℕ) (schema : Option Schema) (q : ℕ) → (q == space) ≡ false → with_schema schemas space schema q ≡ schemas q
elsewhere schemas space schema q e = ap (λ b. if b then schema else schemas q) e

-- ---- the row of a space

module _ (before : State) (key : Key) (row : List ℕ) (def : SpaceDef) (new : AddedSpace before key row def) where
  abbrev pub with_space : ℕ → Option Schema
  with_space = with_schema (schema_of before) def.id.0 (Some (record { def = def; indexes = [] }))

  pub space_rows_there : (schema : Schema) → schema_of before space_rows ≡ Some schema → with_space space_rows ≡ Some schema
  space_rows_there schema described =
      elsewhere (schema_of before) def.id.0 (Some (record { def = def; indexes = [] })) space_rows (grind (arith, nat_tests)) ∙ described

  module _ (P : OfSpace) where
    pub space_came : IsSound before → OfEach P with_space (with_tuple before space_rows key row)
        → OfEach P (schema_of (with_tuple before space_rows key row)) (with_tuple before space_rows key row)
    space_came have =
        described_same P with_space (schema_of (with_tuple before space_rows key row)) (with_tuple before space_rows key row)
        (λ q. sym (ap (λ k. schema_of (with_tuple before space_rows k row) q) new.same ∙ new_space_put before def.id.0 row def have.described.have new.absent new.is q))

    pub space_taken_back : OfEach P (with_schema with_space def.id.0 None) before → OfEach P (schema_of before) before
    space_taken_back =
        described_same P (with_schema with_space def.id.0 None) (schema_of before) before
        (changed_back (schema_of before) def.id.0 (Some (record { def = def; indexes = [] })) None (sym new.absent))

module _ (before : State) (key : Key) (row : List ℕ) (def : SpaceDef) (old : DroppedSpace before key row def) where
  pub no_tuples_left : IsSound before → tuples_in (without_tuple before space_rows key) def.id.0 ≡ empty
  no_tuples_left sound = tuples_elsewhere before sound space_rows (remove (tuples_in before space_rows) key) def.id.0 (above def.id.0 old.high) ∙ old.no_tuples
    where
      above : (id : ℕ) → first_user_space ≤ id → (id == space_rows) ≡ false
      above id high = grind (arith, nat_tests)

  pub space_went : (P : OfSpace) → OfEach P (with_schema (schema_of before) def.id.0 None) (without_tuple before space_rows key)
      → OfEach P (schema_of (without_tuple before space_rows key)) (without_tuple before space_rows key)
  space_went P =
      described_same P (with_schema (schema_of before) def.id.0 None) (schema_of (without_tuple before space_rows key)) (without_tuple before space_rows key)
      (λ q. sym (ap (λ k. schema_of (without_tuple before space_rows k) q) old.same ∙ space_row_removed before def.id.0 q))

-- ---- the row of an index

module _ (before : State) (key : Key) (row : List ℕ) (index : IndexRow) (new : AddedIndex before key row index) where
  abbrev pub with_index : ℕ → Option Schema
  with_index = with_schema (schema_of before) index.space.0 (Some (schema_with_index index.def new.schema))

  pub beside_primary : index.def.id.0 ≢ 0 → index_with 0 new.schema.indexes ≢ None
  beside_primary other none = by_tests (index.def.id.0 == 0) refl (λ b. not b && is_none (index_with 0 new.schema.indexes)) new.beside
    where
      by_tests : (b : Bool) → (index.def.id.0 == 0) ≡ b → (lacks : Bool → Bool) → lacks_primary new.schema.indexes index.def ≡ false → ⊥
      by_tests true zero lacks beside = other (eqb-true index.def.id.0 0 zero)
      by_tests false apart lacks beside =
          absurd (true≢false (sym ((λ i. not (apart i) && is_none (none i))) ∙ beside))

  pub index_rows_there : (schema : Schema) → schema_of before index_rows ≡ Some schema → with_index index_rows ≡ Some schema
  index_rows_there schema described =
      elsewhere (schema_of before) index.space.0 (Some (schema_with_index index.def new.schema)) index_rows (above index.space.0 new.high) ∙ described
    where
      above : (id : ℕ) → first_user_space ≤ id → (index_rows == id) ≡ false
      above id high = grind (arith, nat_tests)

  -- its space is described with it
  pub indexed_there : with_index index.space.0 ≡ Some (schema_with_index index.def new.schema)
  indexed_there = ap (λ b. if b then Some (schema_with_index index.def new.schema) else schema_of before index.space.0) (itself index.space.0)

  module _ (P : OfSpace) (sound : IsSound before) where
    pub index_came : OfEach P with_index (with_tuple before index_rows key row) → OfEach P (schema_of (with_tuple before index_rows key row)) (with_tuple before index_rows key row)
    index_came =
        described_same P with_index (schema_of (with_tuple before index_rows key row)) (with_tuple before index_rows key row)
        (λ q. sym (ap (λ k. schema_of (with_tuple before index_rows k row) q) new.same
        ∙ index_row_put before index.space.0 index.def.id.0 row index sound.described.indexes new.no_row new.is refl q
        ∙ ap (λ (o : Option Schema). with_schema (schema_of before) index.space.0 (option_map (schema_with_index index.def) o) q) new.there))

    pub index_taken_back : OfEach P (with_schema with_index index.space.0 (Some (schema_without_index index.def.id.0 (schema_with_index index.def new.schema))))
        (without_index before index.space.0 index.def.id.0)
        → OfEach P (schema_of before) before
    index_taken_back each =
        tuples_same P (schema_of before) (without_index before index.space.0 index.def.id.0) before (by_number (index.def.id.0 == 0) refl)
        (described_same P (with_schema with_index index.space.0 (Some (schema_without_index index.def.id.0 (schema_with_index index.def new.schema)))) (schema_of before)
        (without_index before index.space.0 index.def.id.0)
        (changed_back (schema_of before) index.space.0 (Some (schema_with_index index.def new.schema))
        (Some (schema_without_index index.def.id.0 (schema_with_index index.def new.schema)))
        (ap (λ defs. Some (record { def = new.schema.def; indexes = defs })) (more_and_less index.def new.schema.indexes new.no_index) ∙ sym new.there)) each)
      where
        space : ℕ
        space = index.space.0

        cleared : (q : ℕ) (b : Bool) → (q == space) ≡ b → tuples_in before space ≡ empty → (if b then empty else tuples_in before q) ≡ tuples_in before q
        cleared q true e none = sym (ap (tuples_in before) (eqb-true q space e) ∙ none)
        cleared q false e none = refl

        by_number : (b : Bool) → (index.def.id.0 == 0) ≡ b → (q : ℕ) → tuples_in (if b then insert before space empty else before) q ≡ tuples_in before q
        by_number true zero q =
            tuples_set before space empty q ∙ cleared q (q == space) refl (new.first (eqb-true index.def.id.0 0 zero))
        by_number false other q = refl

module _ (before : State) (key : Key) (row : List ℕ) (index : IndexRow) (old : DroppedIndex before key row index) where
  abbrev cleared_state : State
  cleared_state = without_index before index.space.0 index.def.id.0

  after_dropped : state_after_change before (change_of index_rows key None) ≡ without_tuple cleared_state index_rows key
  after_dropped = ap (λ k. without_tuple (without_index before (space_named_by k) (index_named_by k)) index_rows key) old.same

  apart : (space : ℕ) → first_user_space ≤ space → (space == index_rows) ≡ false
  apart space high = grind (arith, nat_tests)

  apart_spaces : (space : ℕ) → first_user_space ≤ space → (space == space_rows) ≡ false
  apart_spaces space high = grind (arith, nat_tests)

  -- the tuples go before the row or after it
  same_tuples : IsSound before → (q : ℕ) → tuples_in (without_index (without_tuple before index_rows key) index.space.0 index.def.id.0) q ≡ tuples_in (without_tuple cleared_state index_rows key) q
  same_tuples sound q = by_number (index.def.id.0 == 0)
    where
      space : ℕ
      space = index.space.0

      rows_kept : tuples_in (insert before space empty) index_rows ≡ tuples_in before index_rows
      rows_kept = tuples_elsewhere before sound space empty index_rows (turned space old.high)
        where
          turned : (space : ℕ) → first_user_space ≤ space → (index_rows == space) ≡ false
          turned space high = grind (arith, nat_tests)

      by_tests : (here rows : Bool) → (q == space) ≡ here → (q == index_rows) ≡ rows
          → (if here then empty else if rows then remove (tuples_in before index_rows) key else tuples_in before q)
          ≡ (if rows then remove (tuples_in before index_rows) key else if here then empty else tuples_in before q)
      by_tests true true h r = absurd (true≢false (sym (ap (λ n. n == index_rows) (sym (eqb-true q space h)) ∙ r) ∙ apart space old.high))
      by_tests true false h r = refl
      by_tests false rows h r = refl

      by_number : (b : Bool) → tuples_in (if b then insert (without_tuple before index_rows key) space empty else without_tuple before index_rows key) q
          ≡ tuples_in (without_tuple (if b then insert before space empty else before) index_rows key) q
      by_number true =
          tuples_set (without_tuple before index_rows key) space empty q
          ∙ ap (λ t. if q == space then empty else t) (tuples_set before index_rows (remove (tuples_in before index_rows) key) q)
          ∙ by_tests (q == space) (q == index_rows) refl refl
          ∙ sym (tuples_set (insert before space empty) index_rows (remove (tuples_in (insert before space empty) index_rows) key) q
          ∙ (λ i. if q == index_rows then remove (rows_kept i) key else tuples_set before space empty q i))
      by_number false = refl

  pub index_went : (P : OfSpace) → IsSound before
      → OfEach P (with_schema (schema_of before) index.space.0 (Some (schema_without_index index.def.id.0 old.schema))) (without_index (without_tuple before index_rows key) index.space.0 index.def.id.0)
      → OfEach P (schema_of (state_after_change before (change_of index_rows key None))) (state_after_change before (change_of index_rows key None))
  index_went P sound each =
      subst (λ (s : State). OfEach P (schema_of s) s) (sym after_dropped)
      (described_same P described (schema_of (without_tuple cleared_state index_rows key)) (without_tuple cleared_state index_rows key) (λ q. sym (schemas q))
      (tuples_same P described (without_index (without_tuple before index_rows key) index.space.0 index.def.id.0) (without_tuple cleared_state index_rows key) (same_tuples sound) each))
    where
      described : ℕ → Option Schema
      described = with_schema (schema_of before) index.space.0 (Some (schema_without_index index.def.id.0 old.schema))

      as_before : (b : Bool) (q : ℕ) → schema_of (if b then insert before index.space.0 empty else before) q ≡ schema_of before q
      as_before true q = schema_set before index.space.0 empty (apart_spaces index.space.0 old.high) (apart index.space.0 old.high) q
      as_before false q = refl

      rows_there : (b : Bool) → tuples_in (if b then insert before index.space.0 empty else before) index_rows ≡ tuples_in before index_rows
      rows_there true = tuples_elsewhere before sound index.space.0 empty index_rows (turned index.space.0 old.high)
        where
          turned : (space : ℕ) → first_user_space ≤ space → (index_rows == space) ≡ false
          turned space high = grind (arith, nat_tests)
      rows_there false = refl

      schemas : (q : ℕ) → schema_of (without_tuple cleared_state index_rows key) q ≡ described q
      schemas q =
          ap (λ k. schema_of (without_tuple cleared_state index_rows k) q) old.same
          ∙ index_row_removed cleared_state index.space.0 index.def.id.0
          (subst (λ (rows : Tuples). AllByRecursion IndexRowStands (entries rows)) (sym (rows_there (index.def.id.0 == 0))) sound.described.indexes) q
          ∙ by_test (q == index.space.0)
        where
          by_test : (b : Bool)
              → (if b then option_map (schema_without_index index.def.id.0) (schema_of cleared_state index.space.0) else schema_of cleared_state q)
              ≡ (if b then Some (schema_without_index index.def.id.0 old.schema) else schema_of before q)
          by_test true = ap (λ (o : Option Schema). option_map (schema_without_index index.def.id.0) o) (as_before (index.def.id.0 == 0) index.space.0 ∙ old.there)
          by_test false = as_before (index.def.id.0 == 0) q
