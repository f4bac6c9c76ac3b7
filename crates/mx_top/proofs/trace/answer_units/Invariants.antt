use Rattle.std.proofs.Common.{◌≡◌, ◌-◌, ◌≤◌, ℕ, List, Some}
use Rattle.mx_top.specs.Units.{max_offset}
use Rattle.mx_node.specs.Serving.{CanServe}
use Rattle.mx_top.specs.Runs.{OthersKept, StillPassedOn, held}
use Rattle.mx_top.proofs.Told.{SoFar}
use Rattle.mx_top.proofs.trace.answer_units.Given as goal

-- The input was read up to this place, all that is to be written for it was, the server can go on, and no count of faults rose.
abbrev pub invariant-units : goal.invariant-units
invariant-units g l = record {
  told : (bytes : List ℕ) → g.S.Source.left l.fn.input ≡ Some bytes
      → SoFar bytes (g.S.Source.left l.input) l.intake l.place l.fn.node l.node
      (held (g.K.Sink.contents l.fn.output) (g.K.Sink.passed l.fn.output)) (held (g.K.Sink.contents l.output) (g.K.Sink.passed l.output))
      (g.D.Dir.states l.fn.dir) (g.D.Dir.states l.dir);
  serves : CanServe l.node (g.D.Dir.states l.dir);
  reads : g.S.Source.faults l.input ≡ g.S.Source.faults l.fn.input;
  writes : g.K.Sink.faults l.output ≡ g.K.Sink.faults l.fn.output;
  disks : g.D.Dir.faults l.dir ≡ g.D.Dir.faults l.fn.dir;
  others : OthersKept (g.D.Dir.states l.fn.dir) (g.D.Dir.states l.dir);
  passed : StillPassedOn (g.K.Sink.passed l.fn.output) (g.K.Sink.contents l.fn.output) (g.K.Sink.passed l.output) (g.K.Sink.contents l.output);
  within : l.place ≤ max_offset;
}

-- how far it is to the last place
abbrev pub decreases-units : goal.decreases-units
decreases-units g l = max_offset - l.place
