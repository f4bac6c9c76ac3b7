use Rattle.std.proofs.Common.{◌≡◌, ◌++◌, length}
use Rattle.mx_key.specs.Comparable.{with_escapes}
use Rattle.mx_key.proofs.writing.write_escaped.Given as goal

-- what was written, and the bytes yet to come
abbrev pub invariant-loop-place : goal.invariant-loop-place
invariant-loop-place l = l.out ++ with_escapes l.rest ≡ l.initial.out ++ with_escapes l.content

abbrev pub decreases-loop-place : goal.decreases-loop-place
decreases-loop-place l = length l.rest
