-- Crash images of the journals and snapshots of a disk.
use Rattle.std.specs.Prelude.{◌≡◌, ℕ, true, List, ◌++◌, take, drop, Any, length, Some, None}
use Rattle.std.specs.FinMap as finite
use Rattle.mx_outside.specs.Disks.{File, Files, Disk, Leaves, outcomes}
use Rattle.mx_xlog.specs.declared.head.Head.{Head}
use Rattle.mx_xlog.specs.Headers.{IsHeader}
use Rattle.mx_xlog.specs.Reading.{blocks_of}
use Rattle.mx_files.specs.Names.{counts, is_journal}

-- Reading on from the first block after the header, each whole block that is met is the one that was appended at that place.
abbrev pub IsFairEnd : File → List ℕ → Type 0
IsFairEnd file end =
    (head : Head) (size : ℕ) → IsHeader file.bytes head size
    → (count : ℕ) × (blocks_of (drop size (take file.synced file.bytes ++ end)) ≡ take count (blocks_of (drop size file.bytes)))

-- These journals and snapshots are a crash image in which no bytes after a file's synced ones read as a block that wasn't
-- appended there. The other files may be any.
abbrev pub IsFair : Disk → Files → Type 0
IsFair disk image = (name : List ℕ) → counts name ≡ true → Any (λ was. Leaves IsFairEnd was (finite.get image name)) (outcomes name disk)

-- any crash image now was one before
abbrev pub LeavesNoOther : Disk → Disk → Type 0
LeavesNoOther older newer = (image : Files) → IsFair newer image → IsFair older image

-- each journal's bytes and its name are durable
abbrev pub AllDurable : Disk → Type 0
AllDurable disk = (name : List ℕ) (file : File) → is_journal name ≡ true → finite.get disk.now name ≡ Some file
    → (file.synced ≡ length file.bytes) × (finite.get disk.older name ≡ None)
