use Rattle.std.proofs.Common.{◌≡◌, ◌≤◌, ◌-◌}
use Rattle.std.specs.Prelude.{vec_len}
use Rattle.mx_outside.specs.Disks.{OfFile}
use Rattle.mx_recover.proofs.ReplayLaws.{IsLoaded}
use Rattle.mx_recover.proofs.load.load.Given as goal

abbrev pub invariant-loop-at : goal.invariant-loop-at
invariant-loop-at g l = record {
  later : g.D.Dir.faults l.fn.dir ≤ g.D.Dir.faults l.dir;
  quiet : g.D.Dir.faults l.dir ≡ g.D.Dir.faults l.fn.dir;
  states : g.D.Dir.states l.dir ≡ g.D.Dir.states l.fn.dir;
  within : l.at ≤ l.size;
  long : vec_len l.bytes ≡ l.at;
  bytes : OfFile (g.D.Dir.states l.fn.dir) l.name (IsLoaded l.bytes.items l.at l.size);
}

abbrev pub decreases-loop-at : goal.decreases-loop-at
decreases-loop-at g l = l.size - l.at
