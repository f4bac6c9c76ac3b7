use Rattle.std.proofs.Common.{◌≡◌, ◌+◌, ◌-◌, ◌*◌, ◌≤◌, length}
use Rattle.mx_completion.specs.Sequences.{in_row, longer}
use Rattle.mx_completion.specs.ValueCompletions.{completed}
use Rattle.mx_completion.proofs.value.+value.Given as goal

abbrev pub decreases-completed : goal.decreases-completed
decreases-completed l = 3 * l.room + 2

abbrev pub decreases-led_completion : goal.decreases-led_completion
decreases-led_completion l = 3 * l.room + 1

abbrev pub decreases-values_completion : goal.decreases-values_completion
decreases-values_completion l = 3 * l.room + 3

-- the values that are left are completed as all are
abbrev pub invariant-values_completion-loop-left : goal.invariant-values_completion-loop-left
invariant-values_completion-loop-left l = record {
  few : l.left ≤ l.count;
  within : length l.rest ≤ length l.bytes;
  same : in_row (completed l.room) l.count l.bytes ≡ longer (length l.bytes - length l.rest) (in_row (completed l.room) l.left l.rest);
}

abbrev pub decreases-values_completion-loop-left : goal.decreases-values_completion-loop-left
decreases-values_completion-loop-left l = l.left
