-- Rows that are put into a space one after the other.
use Rattle.std.proofs.Common.{◌≡◌, ℕ, suc, ◌<◌, ◌≤◌, List, [], ◌∷◌, length, drop, get_or, true, Option, Some, None, Result, Ok, refl, sym, ap, ◌∙◌, subst}
use Rattle.std.specs.Prelude.{IfSome, is_some}
use Rattle.std.proofs.Math.Seq.{drop-cons}
use Rattle.std.proofs.lemmas.List.{drop_all}
use Rattle.mx_key.specs.declared.part.Part.{Part}
use Rattle.mx_key.specs.Comparable.{comparable_of}
use Rattle.mx_key.specs.Keys.{Key, AreFit}
use Rattle.mx_schema.specs.declared.keyed.Keyed.{Keyed}
use Rattle.mx_schema.specs.declared.schema.Schema.{Schema}
use Rattle.mx_space.specs.declared.space.Space.{Space}
use Rattle.mx_space.specs.declared.state.State as coded
use Rattle.mx_schema.specs.declared.index_def.IndexDef.{IndexDef}
use Rattle.mx_schema.specs.Bootstrap.{first_state, part_of_numbers, part_of_texts, settings, with_rows}
use Rattle.mx_schema.specs.Catalogues.{index_with, schema_of}
use Rattle.mx_schema.specs.Sound.{AreIndexed, AreKeyed, IsDescribed, IsSound}
use Rattle.mx_schema.specs.State.{State, index_rows, key_in, key_or_none, space_rows, tuples_in, with_tuple}
use Rattle.mx_schema.specs.Stored.{IsKeyedBy}
use Rattle.mx_schema.proofs.FirstSoundLaws.{first_primary, first_there}
use Rattle.mx_schema.proofs.FirstStateLaws.{index_rows_keyed, settings_keyed, space_rows_keyed}
use Rattle.mx_space.specs.Spaces.{space_under}
use Rattle.mx_space.specs.Stored.{HoldsBy, HoldsSpace}

-- some of the rows were put, and the others make of the state what all make of the first one
pub record PutSoFar (schemas : ℕ → Option Schema) (space : ℕ) (parts : List Part) (before : State) (rows : List (List ℕ)) (place : ℕ) (memory : coded.State) : Type 0 where
  pub now : State
  pub holds : HoldsBy schemas memory now
  pub rest : with_rows space parts now (drop place rows) ≡ with_rows space parts before rows

module _ (schemas : ℕ → Option Schema) (space : ℕ) (parts : List Part) (before : State) (rows : List (List ℕ)) where
  pub none_put : (memory : coded.State) → HoldsBy schemas memory before → PutSoFar schemas space parts before rows 0 memory
  none_put memory holds = record { now = before; holds = holds; rest = refl }

  -- one more
  pub one_put : (place : ℕ) (row : List ℕ) (keyed : Keyed) (memory after : coded.State) (schema : Schema) (primary : IndexDef) → schemas space ≡ Some schema
      → index_with 0 schema.indexes ≡ Some primary → primary.key ≡ parts → place < length rows → row ≡ get_or rows place []
      → (key : Key) × (key_in parts row ≡ Ok key) × AreFit key × (keyed.key ≡ comparable_of key) × (keyed.tuple ≡ row)
      → ((state : State) (schema : Schema) (primary : IndexDef) (key : Key) → HoldsBy schemas memory state → schemas space ≡ Some schema → index_with 0 schema.indexes ≡ Some primary
      → key_in primary.key keyed.tuple ≡ Ok key → AreFit key → keyed.key ≡ comparable_of key → HoldsBy schemas after (with_tuple state space key keyed.tuple))
      → PutSoFar schemas space parts before rows place memory → PutSoFar schemas space parts before rows (suc place) after
  one_put place row keyed memory after schema primary described there own in_range stands (key, keys, fit, bytes, copied) puts part =
      let next = with_tuple part.now space (key_or_none (key_in parts row)) row in
      let put = puts part.now schema primary key part.holds described there ((λ i. key_in (own i) (copied i)) ∙ keys) fit bytes in
      let same : with_tuple part.now space key keyed.tuple ≡ next = λ i. with_tuple part.now space (sym (ap key_or_none keys) i) (copied i) in
      record {
        now = next;
        holds = subst (HoldsBy schemas after) same put;
        rest = ap (λ (r : List ℕ). with_rows space parts (with_tuple part.now space (key_or_none (key_in parts r)) r) (drop (suc place) rows)) stands
            ∙ ap (with_rows space parts part.now) (sym (drop-cons rows place [] in_range)) ∙ part.rest;
      }

  -- all of them
  pub all_put : (place : ℕ) (memory : coded.State) → length rows ≤ place → PutSoFar schemas space parts before rows place memory → HoldsBy schemas memory (with_rows space parts before rows)
  all_put place memory over part =
      subst (HoldsBy schemas memory) (ap (with_rows space parts part.now) (sym (drop_all place rows over)) ∙ part.rest) part.holds

-- two answers of one call
abbrev answer : {A E : Type 0} → A → Result A E
answer x = Ok x

pub same_answer : {A E : Type 0} (x y : A) → answer {A = A} {E = E} x ≡ answer {A = A} {E = E} y → x ≡ y
same_answer x y e = cc

-- ---- a new database

-- a state that memory holds is sound where it is indexed, and its rows describe it
pub sound_by : (state : State) (memory : coded.State) → HoldsBy (schema_of state) memory state
    → ((id : ℕ) (schema : Schema) → schema_of state id ≡ Some schema → AreIndexed schema (tuples_in state id)) → IsDescribed state → IsSound state
sound_by state memory holds indexed described = record { keyed = λ id. by_space id (space_under id memory.spaces.entries.items) (holds id); described = described }
  where
    by_space : (id : ℕ) (space : Option Space) → HoldsSpace (schema_of state id) space (tuples_in state id) → AreKeyed (schema_of state id) (tuples_in state id)
    by_space id None none = subst (λ s. AreKeyed s (tuples_in state id)) (sym none.none) none.no_tuples
    by_space id (Some space) stored =
        subst (λ s. AreKeyed s (tuples_in state id)) (sym stored.holds.is) (stored.holds.stands, stored.holds.keeps.fit, indexed id space.schema stored.holds.is)

-- a space whose primary index has these parts
pub record HasKeys (space : ℕ) (parts : List Part) : Type 0 where
  pub schema : Schema
  pub primary : IndexDef
  pub described : schema_of first_state space ≡ Some schema
  pub there : index_with 0 schema.indexes ≡ Some primary
  pub own : primary.key ≡ parts

pub has_keys : (space : ℕ) (parts : List Part) → IsKeyedBy parts (schema_of first_state space) → is_some (schema_of first_state space) ≡ true
    → ((schema : Schema) → schema_of first_state space ≡ Some schema → is_some (index_with 0 schema.indexes) ≡ true) → HasKeys space parts
has_keys space parts keyed described primary = by_schema (schema_of first_state space) refl keyed described
  where
    by_index : (schema : Schema) (def : Option IndexDef) → schema_of first_state space ≡ Some schema → index_with 0 schema.indexes ≡ def → IfSome def (λ d. d.key ≡ parts)
        → is_some def ≡ true → HasKeys space parts
    by_index schema None is there own some = absurd cc
    by_index schema (Some def) is there own some = record { schema = schema; primary = def; described = is; there = there; own = own }

    by_schema : (schema : Option Schema) → schema_of first_state space ≡ schema → IsKeyedBy parts schema → is_some schema ≡ true → HasKeys space parts
    by_schema None is keyed some = absurd cc
    by_schema (Some schema) is keyed some = by_index schema (index_with 0 schema.indexes) is refl keyed (primary schema is)

pub first_settings_keys : HasKeys settings (part_of_texts 0 ∷ [])
first_settings_keys = has_keys settings (part_of_texts 0 ∷ []) settings_keyed (first_there settings refl) (first_primary settings)

pub first_space_rows_keys : HasKeys space_rows (part_of_numbers 0 ∷ [])
first_space_rows_keys = has_keys space_rows (part_of_numbers 0 ∷ []) space_rows_keyed (first_there space_rows refl) (first_primary space_rows)

pub first_index_rows_keys : HasKeys index_rows (part_of_numbers 0 ∷ part_of_numbers 1 ∷ [])
first_index_rows_keys = has_keys index_rows (part_of_numbers 0 ∷ part_of_numbers 1 ∷ []) index_rows_keyed (first_there index_rows refl) (first_primary index_rows)
