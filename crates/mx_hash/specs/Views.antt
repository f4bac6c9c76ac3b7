-- How a hash map is seen as a `Table`, which only its type and the proofs need.
use Rattle.std.specs.Prelude.{ℕ, List, refl}
use Rattle.std.specs.Cmp.Lexicographic.{slice_cmp}
use Rattle.std.specs.Coded.{Coded, code_by, coded×, coded_ℕ, coded_list}
use Rattle.std.specs.FinMap as finite
use Rattle.std.specs.FinMap.{FinMap}
use Rattle.std.specs.Ordering.{nat_cmp}
use Rattle.mx_hash.specs.Tables.{Table}

abbrev pub table : FinMap (slice_cmp nat_cmp) ℕ → ℕ → Table
table numbers room = record { map = numbers; spare = room }

-- a table coded as its two fields
abbrev pub table_code : Coded Table
table_code =
    code_by (FinMap (slice_cmp nat_cmp) ℕ × ℕ) (coded× (finite.code (coded_list coded_ℕ) coded_ℕ) coded_ℕ) (λ t. (t.map, t.spare)) (λ p. record { map = p.0; spare = p.1 }) (λ _. refl)

module _ {X : Type 0} where
  -- a list of entries as a map
  abbrev pub map_of : List (List ℕ × X) → FinMap (slice_cmp nat_cmp) X
  map_of entries = finite.from_entries entries
