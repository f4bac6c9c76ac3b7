-- What the rows of a sound state say of its spaces, and under which keys they stand.
use Rattle.std.proofs.Common.{◌≡◌, ℕ, List, [], ◌∷◌, Option, Some, None, refl, sym, ap, ◌∙◌, subst, arith}
use Rattle.std.specs.Prelude.{IfSome}
use Rattle.std.specs.FinMap.{empty, get}
use Rattle.std.specs.Option.{unwrap_or}
use Rattle.mx_msgpack.specs.Items.{items_of}
use Rattle.mx_msgpack.specs.Readers.{◌>>=◌, unsigned_in}
use Rattle.mx_key.specs.declared.part.Part.{Part}
use Rattle.mx_key.specs.Keys.{Key}
use Rattle.mx_schema.specs.declared.index_def.IndexDef.{IndexDef}
use Rattle.mx_schema.specs.declared.index_def.IndexRow.{IndexRow}
use Rattle.mx_schema.specs.declared.schema.Schema.{Schema}
use Rattle.mx_schema.specs.declared.space_def.SpaceDef.{SpaceDef}
use Rattle.mx_schema.specs.Bootstrap.{first_state, part_of_numbers}
use Rattle.mx_schema.specs.Catalogues.{index_with, indexes_of, schema_by, schema_of, space_of}
use Rattle.mx_schema.specs.IndexRows.{index_in, index_of_fields}
use Rattle.mx_schema.specs.SchemaChanges.{IndexRowStands}
use Rattle.mx_schema.specs.SchemaChecks.{fields_in, first_number}
use Rattle.mx_schema.specs.Sound.{AreKeyed, IsSound, SpaceRowStands}
use Rattle.mx_schema.specs.SpaceRows.{space_in, space_of_fields}
use Rattle.mx_schema.specs.State.{State, index_rows, space_rows, tuples_in}
use Rattle.mx_schema.specs.Stored.{IsKeyedBy}
use Rattle.mx_schema.proofs.FirstStateLaws.{index_rows_keyed, space_rows_keyed}
use Rattle.mx_schema.proofs.KeptLaws.{index_numbers_first, index_space_first, space_number_first}
use Rattle.mx_schema.proofs.KeyedLaws.{one_key}
use Rattle.mx_schema.proofs.TakenLaws.{each_found}

-- ---- what stands first in a row

abbrev pub BeginsWith : (row : List ℕ) → (number : ℕ) → Type 0
BeginsWith row number = (first : List ℕ) × (others : List (List ℕ)) × (items_of row ≡ Some (first ∷ others)) × (unsigned_in first ≡ Some number)

pub space_begins : (row : List ℕ) (def : SpaceDef) → space_in row ≡ Some def → BeginsWith row def.id.0
unfolding space_in
space_begins row def is = by_items (items_of row) refl is
  where
    by_items : (items : Option (List (List ℕ))) → items_of row ≡ items → (items >>= space_of_fields) ≡ Some def → BeginsWith row def.id.0
    by_items None are is = absurd cc
    by_items (Some fields) are is = let f = space_number_first fields def is in (f.0, f.1, are ∙ ap (λ l. Some l) f.2, f.3)

pub index_begins : (row : List ℕ) (index : IndexRow) → index_in row ≡ Some index → BeginsWith row index.space.0
unfolding index_in
index_begins row index is = by_items (items_of row) refl is
  where
    by_items : (items : Option (List (List ℕ))) → items_of row ≡ items → (items >>= index_of_fields) ≡ Some index → BeginsWith row index.space.0
    by_items None are is = absurd cc
    by_items (Some fields) are is =
        let f = index_numbers_first fields index is in (f.0, f.1 ∷ f.2, are ∙ ap (λ l. Some l) f.3, f.4)

pub index_space : (row : List ℕ) (index : IndexRow) → index_in row ≡ Some index → first_number (fields_in row) ≡ Some index.space.0
unfolding index_in
index_space row index is = by_items (items_of row) is
  where
    by_items : (items : Option (List (List ℕ))) → (items >>= index_of_fields) ≡ Some index → first_number (unwrap_or items []) ≡ Some index.space.0
    by_items None is = absurd cc
    by_items (Some fields) is = index_space_first fields index is

-- ---- the keys of the two spaces

module _ (state : State) (sound : IsSound state) where
  key_parts : (space : ℕ) (parts : List Part) (schema : Schema) (primary : IndexDef) → schema_of state space ≡ schema_of first_state space
      → IsKeyedBy parts (schema_of first_state space) → schema_of state space ≡ Some schema → index_with 0 schema.indexes ≡ Some primary → primary.key ≡ parts
  key_parts space parts schema primary own keyed described there =
      let by_schema : IfSome (index_with 0 schema.indexes) (λ def. def.key ≡ parts) = subst (IsKeyedBy parts) (sym own ∙ described) keyed in
      subst (λ (o : Option IndexDef). IfSome o (λ def. def.key ≡ parts)) there by_schema

  pub space_rows_key : (schema : Schema) (primary : IndexDef) → schema_of state space_rows ≡ Some schema → index_with 0 schema.indexes ≡ Some primary
      → primary.key ≡ part_of_numbers 0 ∷ []
  space_rows_key schema primary = key_parts space_rows (part_of_numbers 0 ∷ []) schema primary (sound.described.own space_rows (omega arith)) space_rows_keyed

  pub index_rows_key : (schema : Schema) (primary : IndexDef) → schema_of state index_rows ≡ Some schema → index_with 0 schema.indexes ≡ Some primary
      → primary.key ≡ part_of_numbers 0 ∷ part_of_numbers 1 ∷ []
  index_rows_key schema primary =
      key_parts index_rows (part_of_numbers 0 ∷ part_of_numbers 1 ∷ []) schema primary (sound.described.own index_rows (omega arith)) index_rows_keyed

  -- a row that is found describes what stands under its key
  pub space_row_found : (key : Key) (row : List ℕ) → get (tuples_in state space_rows) key ≡ Some row → SpaceRowStands (key, row)
  space_row_found key row there = each_found key SpaceRowStands (tuples_in state space_rows) row there sound.described.spaces

  pub index_row_found : (key : Key) (row : List ℕ) → get (tuples_in state index_rows) key ≡ Some row → IndexRowStands (key, row)
  index_row_found key row there = each_found key IndexRowStands (tuples_in state index_rows) row there sound.described.indexes

-- ---- what a state describes

-- without a row there is no space
pub no_space_there : (state : State) (id : ℕ) → get (tuples_in state space_rows) (one_key id) ≡ None → schema_of state id ≡ None
unfolding schema_of
no_space_there state id none = ap (λ (o : Option (List ℕ)). schema_by state id (o >>= space_in)) none

pub indexes_are : (state : State) (id : ℕ) (schema : Schema) → schema_of state id ≡ Some schema → schema.indexes ≡ indexes_of state id
unfolding schema_of
indexes_are state id schema is = by_def (space_of state id) is
  where
    by_def : (def : Option SpaceDef) → schema_by state id def ≡ Some schema → schema.indexes ≡ indexes_of state id
    by_def None is = absurd cc
    by_def (Some def) is = let same : record { def = def; indexes = indexes_of state id } ≡ schema = cc in sym (ap (λ (s : Schema). s.indexes) same)

module _ (state : State) (sound : IsSound state) where
  pub its_keyed : (space : ℕ) (schema : Schema) → schema_of state space ≡ Some schema → AreKeyed (Some schema) (tuples_in state space)
  its_keyed space schema is = subst (λ s. AreKeyed s (tuples_in state space)) is (sound.keyed space)

  -- a space without a primary index has no tuples
  pub no_primary_no_tuples : (space : ℕ) (schema : Schema) → schema_of state space ≡ Some schema → index_with 0 schema.indexes ≡ None → tuples_in state space ≡ empty
  no_primary_no_tuples space schema is none = (its_keyed space schema is).2.primary none
