-- What stands where in a state after a tuple is put.
use Rattle.std.proofs.Common.{◌≡◌, ℕ, Bool, true, false, List, [], cond, Option, refl, ap, ◌∙◌, arith, nat_cmp}
use Rattle.mx_msgpack.specs.Readers.{◌>>=◌}
use Rattle.std.specs.List.{filter}
use Rattle.mx_key.specs.Keys.{Integer, is_key_prefix}
use Rattle.std.specs.Prelude.{pos, ◌∷◌, ◌==◌, Some, None, Ok, IfSome, if◌then◌else◌}
use Rattle.std.specs.Option.{unwrap_or}
use Rattle.std.specs.Ordering.{eq_by_cmp}
use Rattle.std.specs.FinMap.{empty, entries, get, insert, remove, get-empty, get-insert}
use Rattle.std.proofs.lemmas.Cmp.{nat_cmp_total}
use Rattle.std.proofs.lemmas.Bool.Decides.{nat_tests}
use Rattle.mx_key.specs.Keys.{Key}
use Rattle.mx_schema.specs.declared.index_def.IndexDef.{IndexDef}
use Rattle.mx_schema.specs.declared.schema.Schema.{Schema}
use Rattle.mx_schema.specs.declared.space_def.SpaceDef.{SpaceDef}
use Rattle.mx_schema.specs.Catalogues.{StandByKey, index_defs, index_with, schema_of}
use Rattle.mx_schema.specs.SpaceRows.{space_in}
use Rattle.mx_schema.specs.State as state
use Rattle.mx_schema.specs.State.{State, key_in, tuples_in, with_tuple, space_rows, index_rows}
use Rattle.mx_schema.specs.Stored.{StandByPrimary}
use Rattle.mx_schema.proofs.StoredLaws.{each_none, each_put}
use Rattle.mx_schema.proofs.TakenLaws.{each_left}

-- two spaces tie where their numbers are the same
pub spaces_tie : (a b : ℕ) → eq_by_cmp nat_cmp a b ≡ (a == b)
spaces_tie a b = grind (arith, nat_tests)

-- after a space is given other tuples, it has them, and the others are as before
pub tuples_set : (before : State) (space : ℕ) (all : state.Tuples) (q : ℕ) → tuples_in (insert before space all) q ≡ (if q == space then all else tuples_in before q)
tuples_set before space all q =
    ap (λ o. unwrap_or o empty) (get-insert nat_cmp_total before space all q ∙ ap (λ b. cond b (Some all) (get before q)) (spaces_tie q space))
    ∙ by_test (q == space)
  where
    by_test : (b : Bool) → unwrap_or (cond b (Some all) (get before q)) empty ≡ (if b then all else tuples_in before q)
    by_test true = refl
    by_test false = refl

-- after a tuple is put into a space, that space has it
pub tuples_after : (before : State) (space : ℕ) (key : Key) (tuple : List ℕ) (q : ℕ)
    → tuples_in (with_tuple before space key tuple) q ≡ (if q == space then insert (tuples_in before space) key tuple else tuples_in before q)
tuples_after before space key tuple q = tuples_set before space (insert (tuples_in before space) key tuple) q

pub no_tuples : (q : ℕ) → tuples_in empty q ≡ empty
no_tuples q = ap (λ o. unwrap_or o empty) (get-empty nat_cmp q)

-- ---- tuples that stand under their keys

-- a tuple more stands under its key too
pub stands_after : (schema : Schema) (tuples : state.Tuples) (key : Key) (tuple : List ℕ) → IfSome (index_with 0 schema.indexes) (λ def. key_in def.key tuple ≡ Ok key)
    → StandByPrimary schema tuples → StandByPrimary schema (insert tuples key tuple)
stands_after schema tuples key tuple keyed stands = by_index (index_with 0 schema.indexes) keyed stands
  where
    by_index : (def : Option IndexDef) → IfSome def (λ def. key_in def.key tuple ≡ Ok key) → IfSome def (λ def. StandByKey def.key tuples)
        → IfSome def (λ def. StandByKey def.key (insert tuples key tuple))
    by_index None keyed stands = tt
    by_index (Some def) keyed stands = each_put (λ entry. key_in def.key entry.1 ≡ Ok entry.0) tuples key tuple keyed stands

-- and so where there is one less
pub stands_left : (schema : Schema) (tuples : state.Tuples) (key : Key) → StandByPrimary schema tuples → StandByPrimary schema (remove tuples key)
stands_left schema tuples key stands = by_index (index_with 0 schema.indexes) stands
  where
    by_index : (def : Option IndexDef) → IfSome def (λ def. StandByKey def.key tuples) → IfSome def (λ def. StandByKey def.key (remove tuples key))
    by_index None stands = tt
    by_index (Some def) stands = each_left key (λ entry. key_in def.key entry.1 ≡ Ok entry.0) tuples stands

-- no tuples stand under any key
pub none_stand : (schema : Schema) → StandByPrimary schema empty
none_stand schema = by_index (index_with 0 schema.indexes)
  where
    none : state.Tuples
    none = empty

    by_index : (def : Option IndexDef) → IfSome def (λ def. StandByKey def.key none)
    by_index None = tt
    by_index (Some def) = each_none (λ entry. key_in def.key entry.1 ≡ Ok entry.0)

-- ---- what describes spaces

-- what describes spaces stays where a space of others is given other tuples
pub schema_set : (before : State) (space : ℕ) (all : state.Tuples) → (space == space_rows) ≡ false → (space == index_rows) ≡ false
    → (q : ℕ) → schema_of (insert before space all) q ≡ schema_of before q
unfolding schema_of
schema_set before space all no_space no_index q =
    let spaces : tuples_in (insert before space all) space_rows ≡ tuples_in before space_rows =
    tuples_set before space all space_rows ∙ ap (λ b. if b then all else tuples_in before space_rows) (other_way space_rows space no_space) in
    let indexes : tuples_in (insert before space all) index_rows ≡ tuples_in before index_rows =
    tuples_set before space all index_rows ∙ ap (λ b. if b then all else tuples_in before index_rows) (other_way index_rows space no_index) in
    λ i. described (spaces i) (indexes i) q
  where
    described : state.Tuples → state.Tuples → ℕ → Option Schema
    described spaces indexes q = by_def (get spaces (Integer (pos q) ∷ []) >>= space_in)
      where
        by_def : Option SpaceDef → Option Schema
        by_def None = None
        by_def (Some def) = Some (record { def = def; indexes = index_defs (filter (λ entry. is_key_prefix (Integer (pos q) ∷ []) entry.0) (entries indexes)) })

    other_way : (a b : ℕ) → (b == a) ≡ false → (a == b) ≡ false
    other_way a b e = grind (arith, nat_tests)
