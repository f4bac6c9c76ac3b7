-- The indexes of a space by ascending numbers.
use Rattle.std.proofs.Common.{◌≡◌, ℕ, suc, ◌≤◌, Bool, true, false, cond, List, [], ◌∷◌, length, refl, ap, arith}
use Rattle.std.specs.Prelude.{nat_lt}
use Rattle.std.specs.List.{insert}
use Rattle.mx_schema.specs.declared.index_def.IndexDef.{IndexDef}
use Rattle.mx_schema.specs.RowParts.{index_place}
use Rattle.mx_schema.specs.SchemaChecks.{indexes_with}

pub place_within : (id : ℕ) (defs : List IndexDef) → index_place id defs ≤ length defs
place_within id [] = omega arith
place_within id (other ∷ others) = by_test (nat_lt id other.id.0) (place_within id others)
  where
    by_test : (b : Bool) → index_place id others ≤ length others → cond b 0 (suc (index_place id others)) ≤ suc (length others)
    by_test true within = omega arith
    by_test false within = omega arith

pub inserted : (def : IndexDef) (defs : List IndexDef) → indexes_with def defs ≡ insert defs (index_place def.id.0 defs) def
inserted def [] = refl
inserted def (other ∷ others) = by_test (nat_lt def.id.0 other.id.0) (inserted def others)
  where
    by_test : (b : Bool) → indexes_with def others ≡ insert others (index_place def.id.0 others) def
        → cond b (def ∷ other ∷ others) (other ∷ indexes_with def others) ≡ insert (other ∷ others) (cond b 0 (suc (index_place def.id.0 others))) def
    by_test true e = refl
    by_test false e = ap (λ l. other ∷ l) e
