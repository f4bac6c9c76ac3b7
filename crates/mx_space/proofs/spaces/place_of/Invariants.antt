use Rattle.std.proofs.Common.{◌-◌}
use Rattle.mx_space.proofs.PlaceLaws.{IsBetween}
use Rattle.mx_space.proofs.spaces.place_of.Given as goal

abbrev pub invariant-loop-low : goal.invariant-loop-low
invariant-loop-low l = IsBetween l.id.0 l.entries l.low l.high

abbrev pub decreases-loop-low : goal.decreases-loop-low
decreases-loop-low l = l.high - l.low
