-- What a sound state has of an index: its entries are apart, and the rows of spaces and indexes have a first one.
use Rattle.std.proofs.Common.{◌≡◌, ℕ, ◌<◌, Bool, true, false, List, [], ◌∷◌, length, Option, Some, None, refl, sym, ap, ◌∙◌, subst, arith, eqb-true}
use Rattle.std.specs.Prelude.{is_some, ◌==◌, if◌then◌else◌}
use Rattle.std.specs.List.{AllByRecursion}
use Rattle.std.specs.Option.{option_map}
use Rattle.mx_key.specs.Parts.{part_in}
use Rattle.mx_msgpack.specs.Items.{array_of}
use Rattle.mx_msgpack.specs.Reading.{after_first, head_at, measured, reading_of}
use Rattle.mx_msgpack.specs.Readers.{◌>>=◌, unsigned_at}
use Rattle.mx_msgpack.specs.Spelling.{array_head, map_head, shortest_unsigned, str_head}
use Rattle.mx_schema.specs.declared.index_def.IndexDef.{IndexDef}
use Rattle.mx_schema.specs.declared.schema.Schema.{Schema}
use Rattle.mx_schema.specs.Bootstrap.{first_state}
use Rattle.mx_schema.specs.Catalogues.{index_with, schema_of}
use Rattle.mx_schema.specs.IndexRows as rows
use Rattle.mx_schema.specs.SchemaChecks.{first_user_space}
use Rattle.mx_schema.specs.Sound.{AreKeyed, AreUnique, HaveKeys, IsSound}
use Rattle.mx_schema.specs.SpaceRows.{space_in}
use Rattle.mx_schema.specs.State.{State, Tuples, index_rows, shown_index_rows, shown_space_rows, source_of, space_rows}
use Rattle.mx_schema.proofs.FirstSoundLaws.{first_primary, first_there}
use Rattle.mx_schema.proofs.FirstStateLaws.{first_ids, has_number, schema_is, schema_listed}
use Rattle.mx_schema.proofs.PartLaws.{own_whole}
use Rattle.mx_schema.proofs.StoredLaws.{each_none}
use Rattle.mx_entries.specs.Built.{AreLong}
use Rattle.mx_entries.proofs.HolderKeyLaws.{unique_apart}
use Rattle.mx_entries.proofs.IndexedLaws.{AreApart}
use Rattle.mx_entries.proofs.ScanLaws.{many_apart}
use Rattle.mx_write.proofs.UniqueLaws.{number_is}
use Rattle.mx_write.specs.Touches.{index_by_state}

-- what each index has, that of a number has
pub index_has : (P : IndexDef → Type 0) (id : ℕ) (defs : List IndexDef) (def : IndexDef) → index_with id defs ≡ Some def → AllByRecursion P defs → P def
index_has P id [] def there have = absurd cc
index_has P id (first ∷ defs) def there have = by_test (first.id.0 == id) there (λ later. index_has P id defs def later have.1)
  where
    by_test : (b : Bool) → (if b then Some first else index_with id defs) ≡ Some def → (index_with id defs ≡ Some def → P def) → P def
    by_test true here later = let same : first ≡ def = cc in subst P same have.0
    by_test false there later = later there

module _ (schema : Schema) (tuples : Tuples) (keyed : AreKeyed (Some schema) tuples) where
  -- the primary keys have one number of parts
  are_long : (long : ℕ) × AreLong long tuples
  are_long = by_index (index_with 0 schema.indexes) refl
    where
      by_index : (o : Option IndexDef) → index_with 0 schema.indexes ≡ o → (long : ℕ) × AreLong long tuples
      by_index None none = (0, subst (AreLong 0) (sym (keyed.2.primary none)) (each_none (λ entry. length entry.0 ≡ 0)))
      by_index (Some primary) is =
          let first : primary.id.0 ≡ 0 = eqb-true primary.id.0 0 (number_is 0 schema.indexes primary is) in
          (length primary.key, own_whole schema tuples primary keyed.0 (ap (λ id. index_with id schema.indexes) first ∙ is) first)

  -- no two tuples have one entry of an index
  pub are_apart : (def : IndexDef) → index_with def.id.0 schema.indexes ≡ Some def → AreApart def tuples
  are_apart def there = by_test def.unique refl
    where
      by_test : (b : Bool) → def.unique ≡ b → AreApart def tuples
      by_test true is =
          unique_apart def is tuples (index_has (λ one. one.unique ≡ true → AreUnique one tuples) def.id.0 schema.indexes def there keyed.2.unique is)
          (index_has (λ one. HaveKeys one tuples) def.id.0 schema.indexes def there keyed.2.have)
      by_test false is = many_apart def tuples are_long.0 are_long.1 is

-- an index of a space as a state describes it
pub index_known : (state : State) (space id : ℕ) (schema : Schema) (def : IndexDef) → schema_of state space ≡ Some schema → index_with id schema.indexes ≡ Some def
    → index_by_state state space id ≡ Some def
index_known state space id schema def described there = ap (λ (o : Option Schema). o >>= (λ schema. index_with id schema.indexes)) described ∙ there

-- ---- the database's own spaces

-- one of them has a primary index
pub record HasFirst (state : State) (space : ℕ) : Type 0 where
  pub def : IndexDef
  pub known : index_by_state state space 0 ≡ Some def
  pub first : (def.id.0 == 0) ≡ true

module _ (state : State) (sound : IsSound state) where
  own_first : (space : ℕ) → space < first_user_space → has_number space first_ids ≡ true → HasFirst state space
  own_first space own has = by_schema (schema_of first_state space) refl (first_there space has)
    where
      by_schema : (found : Option Schema) → schema_of first_state space ≡ found → is_some found ≡ true → HasFirst state space
      by_schema None is there = absurd cc
      by_schema (Some schema) is there = by_index (index_with 0 schema.indexes) refl (first_primary space schema is)
        where
          by_index : (found : Option IndexDef) → index_with 0 schema.indexes ≡ found → is_some found ≡ true → HasFirst state space
          by_index None at there = absurd cc
          by_index (Some def) at there = record {
            def = def;
            known = index_known state space 0 schema def (sound.described.own space own ∙ is) at;
            first = number_is 0 schema.indexes def at;
          }

  -- so have the rows of spaces and those of indexes
  pub spaces_first : HasFirst state space_rows
  spaces_first = own_first space_rows (omega arith) refl

  pub indexes_first : HasFirst state index_rows
  indexes_first = own_first index_rows (omega arith) refl

-- ---- spaces that show the rows of others

abbrev indexes_in : Option Schema → Option (List IndexDef)
indexes_in found = option_map (λ (schema : Schema). schema.indexes) found

spaces_shown : indexes_in (schema_listed shown_space_rows) ≡ indexes_in (schema_listed space_rows)
unfolding space_in rows.index_in array_of reading_of head_at after_first measured unsigned_at part_in shortest_unsigned str_head array_head map_head
spaces_shown = refl

indexes_shown : indexes_in (schema_listed shown_index_rows) ≡ indexes_in (schema_listed index_rows)
unfolding space_in rows.index_in array_of reading_of head_at after_first measured unsigned_at part_in shortest_unsigned str_head array_head map_head
indexes_shown = refl

-- a space whose tuples a space has, and which has the same indexes
pub record HasSource (state : State) (space : ℕ) (indexes : List IndexDef) : Type 0 where
  pub schema : Schema
  pub described : schema_of state space ≡ Some schema
  pub same : schema.indexes ≡ indexes

module _ (state : State) (sound : IsSound state) (space : ℕ) (schema : Schema) (described : schema_of state space ≡ Some schema) where
  shows : (source : ℕ) → source < first_user_space → space < first_user_space → indexes_in (schema_listed space) ≡ indexes_in (schema_listed source) → HasSource state source schema.indexes
  shows source own below same =
      by_schema (schema_of state source) refl
      (ap indexes_in (sym described ∙ sound.described.own space below ∙ schema_is space) ∙ same ∙ ap indexes_in (sym (sound.described.own source own ∙ schema_is source)))
    where
      by_schema : (found : Option Schema) → schema_of state source ≡ found → Some schema.indexes ≡ indexes_in found → HasSource state source schema.indexes
      by_schema None is e = absurd cc
      by_schema (Some of) is e = record { schema = of; described = is; same = let one : schema.indexes ≡ of.indexes = cc in sym one }

  -- the space whose tuples this one has is described, with the same indexes
  pub source_described : HasSource state (source_of space) schema.indexes
  source_described = by_tests (space == shown_space_rows) refl (space == shown_index_rows) refl
    where
      below : (other : ℕ) → (space == other) ≡ true → other < first_user_space → space < first_user_space
      below other is less = subst (λ n. n < first_user_space) (sym (eqb-true space other is)) less

      by_tests : (spaces : Bool) → (space == shown_space_rows) ≡ spaces → (indexes : Bool) → (space == shown_index_rows) ≡ indexes
          → HasSource state (if spaces then space_rows else if indexes then index_rows else space) schema.indexes
      by_tests true is indexes are =
          shows space_rows (omega arith) (below shown_space_rows is (omega arith)) (ap (λ n. indexes_in (schema_listed n)) (eqb-true space shown_space_rows is) ∙ spaces_shown)
      by_tests false is true are =
          shows index_rows (omega arith) (below shown_index_rows are (omega arith)) (ap (λ n. indexes_in (schema_listed n)) (eqb-true space shown_index_rows are) ∙ indexes_shown)
      by_tests false is false are = record { schema = schema; described = described; same = refl }
