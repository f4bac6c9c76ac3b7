use Rattle.std.proofs.Common.{◌≡◌, ◌≤◌, length, map}
use Rattle.std.specs.String.{string_bytes}
use Rattle.mx_outside.specs.Disks.{removed}
use Rattle.mx_files.specs.Names.{is_draft}
use Rattle.mx_recover.proofs.PassingLaws.{Underway}
use Rattle.mx_images.proofs.MomentLaws.{Steps}
use Rattle.mx_recover.specs.Turns.{OnlyCleans}
use Rattle.mx_recover.proofs.durability.remove_drafts.Given as goal

abbrev pub invariant-loop-name : goal.invariant-loop-name
invariant-loop-name g l = record {
  later : g.D.Dir.faults l.fn.dir ≤ g.D.Dir.faults l.dir;
  quiet : g.D.Dir.faults l.dir ≡ g.D.Dir.faults l.fn.dir;
  way : Underway is_draft removed (g.D.Dir.states l.fn.dir) (g.D.Dir.states l.dir) (map string_bytes l.names) (map string_bytes l.rest);
  moments : Steps OnlyCleans (g.D.Dir.states l.fn.dir) (g.D.Dir.states l.dir);
}

abbrev pub decreases-loop-name : goal.decreases-loop-name
decreases-loop-name g l = length l.rest
