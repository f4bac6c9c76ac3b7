use Rattle.std.proofs.Common.{◌≡◌, ℕ, length}
use Rattle.mx_space.specs.Reserved.{all_released, content_under}
use Rattle.mx_space.proofs.reserve_all.release_all.Given as goal

abbrev pub invariant-loop-step : goal.invariant-loop-step
invariant-loop-step l = (q : ℕ) → all_released q l.left (content_under q l.spaces.entries.items) ≡ all_released q l.fn.prepared (content_under q l.initial.spaces.entries.items)

abbrev pub decreases-loop-step : goal.decreases-loop-step
decreases-loop-step l = length l.left
