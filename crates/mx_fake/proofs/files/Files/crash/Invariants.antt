use Rattle.std.proofs.Common.{◌≡◌, ℕ, List, length}
use Rattle.std.specs.FinMap as map
use Rattle.std.specs.Option.{option_map}
use Rattle.mx_fake.specs.MemoryCrashes.{crash_file}
use Rattle.mx_fake.proofs.FileLaws.{either}
use Rattle.mx_fake.proofs.files.Files.crash.Given as goal

abbrev pub invariant-loop-name : goal.invariant-loop-name
invariant-loop-name l = (q : List ℕ) → either (crash_file l.more) l.stored l.kept q ≡ option_map (crash_file l.more) (map.get l.fn.self q)

abbrev pub decreases-loop-name : goal.decreases-loop-name
decreases-loop-name l = length l.stored.entries
