-- Only private functions and proofs need these: the journals of a directory, read one after the other.
use Rattle.std.specs.Prelude.{◌≡◌, ◌⊎◌, ℕ, true, false, List, ◌++◌, map, Option, Result, Ok, IfSome}
use Rattle.std.specs.List.{filter}
use Rattle.std.specs.FinMap as finite
use Rattle.mx_outside.specs.Disks.{Disk, File, Files, IfKnown}
use Rattle.mx_directory.specs.declared.damage.Damage.{Damage}
use Rattle.mx_directory.specs.Directories as files
use Rattle.mx_directory.specs.Directories.{Named, ReadAll, IsDirectoryState, nothing_yet, after_file, after_files}
use Rattle.mx_xlog.specs.Files.{FileRead, ReadsAs}
use Rattle.mx_files.specs.Names.{is_journal}
use Rattle.mx_recover.specs.declared.replay.Recovered.{Recovered}
use Rattle.mx_recover.specs.Durability.{HasNoDraft}
use Rattle.mx_recover.specs.Recovered.{StandsFor}
use Rattle.mx_images.specs.Fair.{AllDurable}

-- the file of this name, as it reads, comes to this after what was reached before it; one that is no journal changes nothing
abbrev pub Passes : Files → List ℕ → files.Reached → Result files.Reached Damage → Type 0
Passes found name before outcome =
    ((is_journal name ≡ false) × (outcome ≡ Ok before))
    ⊎ ((is_journal name ≡ true) × (read : Option FileRead) × IfSome (finite.get found name) (λ (file : File). ReadsAs file.bytes read)
    × (after_file (name, read) before ≡ outcome))

-- The names yet to come are the last ones of the directory. The journals of the others were read, and this was reached.
pub record IsUnderway (found : Files) (left : List (List ℕ)) (reached : files.Reached) : Type 0 where
  pub passed : List (List ℕ)
  pub journals : List Named
  pub split : passed ++ left ≡ finite.keys found
  pub names : map (λ (journal : Named). journal.0) journals ≡ filter is_journal passed
  pub each : ReadAll found journals
  pub after : after_files journals nothing_yet ≡ Ok reached

-- The memory has what the directory recovers to, where its files are known; all of its journals and names are durable, and no file
-- waits for its name.
pub record IsDurableAt (memory : Recovered) (reached : files.Reached) (states : Option (List Disk)) : Type 0 where
  pub stands : StandsFor memory reached
  pub told : IfKnown states (λ disk past. IsDirectoryState disk.now (Ok reached) × AllDurable disk × (disk.older ≡ finite.empty) × HasNoDraft disk)
