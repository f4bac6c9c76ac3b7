use Rattle.std.proofs.Common.{◌≡◌, true, take, All}
use Rattle.std.specs.Ordering.{nat_cmp, is_lt}
use Rattle.std.specs.Cmp.Lexicographic.{slice_cmp}
use Rattle.mx_slow_state.proofs.slow_state.place_of.Given as goal

-- all that were looked at are below
abbrev pub invariant-loop-one : goal.invariant-loop-one
invariant-loop-one l = (l.place ≡ l.one-index) × All (λ one. is_lt (slice_cmp nat_cmp one.key l.fn.key) ≡ true) (take l.place l.fn.kept)
