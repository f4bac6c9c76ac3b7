use Rattle.std.proofs.Common.{◌≡◌, length}
use Rattle.mx_directory.specs.Directories as files
use Rattle.mx_directory.specs.Directories.{after_block}
use Rattle.mx_recover.specs.Recovered.{StandsFor}
use Rattle.mx_recover.proofs.replay.Recovered.take_block.Given as goal

-- the rows make of what was there before what the rest of them makes of what is there now
abbrev pub invariant-loop-rest : goal.invariant-loop-rest
invariant-loop-rest l =
    (before : files.Reached) → StandsFor l.fn.self before
    → (now : files.Reached) × StandsFor l.self now × (after_block l.rows before ≡ after_block l.rest now)

abbrev pub decreases-loop-rest : goal.decreases-loop-rest
decreases-loop-rest l = length l.rest
