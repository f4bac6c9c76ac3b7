use Rattle.std.proofs.Common.{length}
use Rattle.mx_completion.proofs.sums.+least_sum.Given as goal

abbrev pub decreases-least_sum : goal.decreases-least_sum
decreases-least_sum l = length l.choices.now
