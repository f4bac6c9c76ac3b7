use Rattle.std.proofs.Common.{false, arith}
use Rattle.mx_tracker.proofs.MarkLaws.{copy_at}
use Rattle.mx_tracker.proofs.mark_set.MarkSet.new.Goals as goal

pub invariant_of-result : goal.invariant_of-result
invariant_of-result c = record { bounded = omega arith; none = λ slot within. copy_at 1024 slot false }

pub returns : goal.returns
returns c = λ slot. copy_at 1024 slot false
