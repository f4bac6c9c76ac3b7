-- A vclock: for each replica id from 0 to 31 the lsn that it has reached, 0 where it has none.
use Rattle.std.specs.Prelude.{◌≡◌, ℕ, suc, ◌<◌, ◌≤◌, ◌^◌, List, length, All, slice_index, Option, Some, None}
use Rattle.std.specs.declared.cmp.Ordering.{Ordering}
use Rattle.std.specs.declared.cmp.Ordering.TheVariants.{Less, Equal, Greater}

-- how many replica ids there are
abbrev pub replicas : ℕ
replicas = 32

-- the greatest lsn
abbrev pub max_lsn : ℕ
max_lsn = 2 ^ 58

-- an lsn for each replica id, none above the limit
pub record IsVclock (clock : List ℕ) : Type 0 where
  pub whole : length clock ≡ replicas
  pub bounded : All (λ lsn. lsn ≤ max_lsn) clock

-- for no replica id less than the other clock
abbrev pub Covers : List ℕ → List ℕ → Type 0
Covers clock other = (id : ℕ) → id < replicas → slice_index other id ≤ slice_index clock id

-- the lsn is the next one of this replica id
pub record IsNext (clock : List ℕ) (id lsn : ℕ) : Type 0 where
  pub follows : lsn ≡ suc (slice_index clock id)
  pub allowed : lsn ≤ max_lsn

-- how the clock compares to the other one; no answer where neither covers the other
abbrev pub Compares : List ℕ → List ℕ → Option Ordering → Type 0
Compares clock other None = ¬ Covers clock other × ¬ Covers other clock
Compares clock other (Some Less) = ¬ Covers clock other × Covers other clock
Compares clock other (Some Equal) = Covers clock other × Covers other clock
Compares clock other (Some Greater) = Covers clock other × ¬ Covers other clock
