use Rattle.std.proofs.Common.{◌≡◌, ◌-◌, length, drop}
use Rattle.mx_xlog.specs.Reading.{blocks_of}
use Rattle.mx_directory.specs.Directories as files
use Rattle.mx_directory.specs.Directories.{after_blocks}
use Rattle.mx_recover.specs.Recovered.{StandsFor}
use Rattle.mx_recover.proofs.replay.Recovered.take_blocks.Given as goal

-- the blocks make of what was there before what those from the place on make of what is there now
abbrev pub invariant-loop-from : goal.invariant-loop-from
invariant-loop-from l =
    (before : files.Reached) → StandsFor l.fn.self before
    → (now : files.Reached) × StandsFor l.self now
    × (after_blocks l.name l.start (blocks_of (drop l.start l.bytes)) before ≡ after_blocks l.name l.place (blocks_of (drop l.place l.bytes)) now)

abbrev pub decreases-loop-from : goal.decreases-loop-from
decreases-loop-from l = length l.bytes - l.place
