-- A hash map as a value.
use Rattle.std.specs.Prelude.{ℕ}
use Rattle.std.specs.Cmp.Lexicographic.{slice_cmp}
use Rattle.std.specs.FinMap.{FinMap}
use Rattle.std.specs.Ordering.{nat_cmp}

-- the number of each key, and how many further keys may be inserted before more memory is needed
pub record Table : Type 0 where
  pub map : FinMap (slice_cmp nat_cmp) ℕ
  pub spare : ℕ
