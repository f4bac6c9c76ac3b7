-- What calls on a directory make of its disk.
use Rattle.std.specs.Prelude.{◌≡◌, ◌⊎◌, ℕ, true, false, List, ◌∷◌, ◌++◌, Option, Some, None}
use Rattle.std.specs.Option.{option_map}
use Rattle.std.specs.FinMap as finite
use Rattle.mx_outside.specs.Disks.{Disk, File, Files, IfKnown, appended, created, file_synced, names_synced, renamed}
use Rattle.mx_files.specs.Names.{same_bytes, counts, is_ours}
use Rattle.mx_xlog.specs.declared.head.Head.{Head}
use Rattle.mx_xlog.specs.Headers.{header_of}

-- the newest state has this
abbrev pub IsNow : Option (List Disk) → (Disk → Type 0) → Type 0
IsNow states P = (disk : Disk) × (past : List Disk) × (states ≡ Some (disk ∷ past)) × P disk

-- the files but this one, and all durable names, are as they were
pub record SameOthers (name : List ℕ) (before after : Disk) : Type 0 where
  pub files : (other : List ℕ) → same_bytes other name ≡ false → finite.get after.now other ≡ finite.get before.now other
  pub older : after.older ≡ before.older

-- the newest state is this change of the one before
abbrev pub Changed : (Disk → Disk) → (before after : Option (List Disk)) → Type 0
Changed change before after = IfKnown before (λ disk past. IsNow after (λ now. now ≡ change disk))

-- the file with these bytes after the others, durable
abbrev pub with_appended : List ℕ → List ℕ → Disk → Disk
with_appended name more disk = file_synced name (appended name more disk)

-- a file of these bytes, durable
abbrev pub with_draft : List ℕ → List ℕ → Disk → Disk
with_draft name bytes disk = with_appended name bytes (created name disk)

-- the file under its new name; all names are durable
abbrev pub renamed_durably : List ℕ → List ℕ → Disk → Disk
renamed_durably from to disk = names_synced (renamed from to disk)

-- the journals and snapshots but the one of this name are the same
abbrev pub SameBut : List ℕ → Files → Files → Type 0
SameBut name one other =
    (q : List ℕ) → counts q ≡ true → same_bytes q name ≡ false → finite.get other q ≡ finite.get one q

-- the file is still there, with more bytes at most behind those that it had; or one that begins, of a header alone, has its place
abbrev pub StaysOrBegins : File → Option File → Type 0
StaysOrBegins file None = ⊥
StaysOrBegins file (Some now) = ((more : List ℕ) × (now.bytes ≡ file.bytes ++ more)) ⊎ ((head : Head) × (now.bytes ≡ header_of head))

-- every file that isn't ours is as it was, and each journal and snapshot is still there or gave place to one that begins
pub record KeepsOthers (older newer : Disk) : Type 0 where
  pub foreign : (name : List ℕ) → is_ours name ≡ false → finite.get newer.now name ≡ finite.get older.now name
  pub ours : (name : List ℕ) (file : File) → counts name ≡ true → finite.get older.now name ≡ Some file → StaysOrBegins file (finite.get newer.now name)

-- each journal and snapshot is there where it was, and has the bytes that it had
abbrev pub SameContents : Files → Files → Type 0
SameContents older newer = (name : List ℕ) → counts name ≡ true
    → option_map (λ (file : File). file.bytes) (finite.get newer name) ≡ option_map (λ (file : File). file.bytes) (finite.get older name)
