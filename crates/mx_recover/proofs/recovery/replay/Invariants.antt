use Rattle.std.proofs.Common.{◌≡◌, ◌≤◌, length, map, string_bytes}
use Rattle.mx_outside.specs.Disks.{IfKnown}
use Rattle.mx_directory.specs.Directories as files
use Rattle.mx_recover.specs.Recovered.{StandsFor}
use Rattle.mx_recover.specs.Replay.{IsUnderway}
use Rattle.mx_recover.proofs.recovery.replay.Given as goal

abbrev pub invariant-loop-name : goal.invariant-loop-name
invariant-loop-name g l = record {
  states : g.D.Dir.states l.dir ≡ g.D.Dir.states l.fn.dir;
  later : g.D.Dir.faults l.fn.dir ≤ g.D.Dir.faults l.dir;
  quiet : g.D.Dir.faults l.dir ≡ g.D.Dir.faults l.fn.dir;
  way : (reached : files.Reached) × StandsFor l.reached reached
      × IfKnown (g.D.Dir.states l.fn.dir) (λ disk past. IsUnderway disk.now (map string_bytes l.rest) reached);
}

abbrev pub decreases-loop-name : goal.decreases-loop-name
decreases-loop-name g l = length l.rest
