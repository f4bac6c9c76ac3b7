use Rattle.mx_real.specs.Waits.{HaveSameCounts}
use Rattle.mx_real.proofs.link.rest_in.Given as goal

abbrev pub invariant-loop-link : goal.invariant-loop-link
invariant-loop-link g l = HaveSameCounts l.initial.links l.links

abbrev pub invariant-loop-link-2 : goal.invariant-loop-link-2
invariant-loop-link-2 g l = HaveSameCounts l.initial.links l.links
