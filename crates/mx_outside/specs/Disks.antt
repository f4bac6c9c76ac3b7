-- A directory on a disk: its files as a program finds them, and its crash images.
use Rattle.std.specs.Prelude.{◌≡◌, ◌⊎◌, ℕ, ◌-◌, ◌≤◌, List, [], ◌∷◌, ◌++◌, length, take, drop, Any, Option, Some, None, IsSome, Result, MatchResult, IfSome, ◌↔◌}
use Rattle.std.specs.Cmp.Lexicographic.{slice_cmp}
use Rattle.std.specs.Ordering.{nat_cmp}
use Rattle.std.specs.FinMap.{FinMap}
use Rattle.std.specs.FinMap as map

-- a file's bytes, and the length of their prefix that is durable
pub record File : Type 0 where
  pub bytes : List ℕ
  pub synced : ℕ

-- files by name
abbrev pub Files : Type 0
Files = FinMap (slice_cmp nat_cmp) File

-- The files now, and what else a name may be after a crash: each file that it had, or none, since the names were synced.
pub record Disk : Type 0 where
  pub now : Files
  pub older : FinMap (slice_cmp nat_cmp) (List (Option File))

-- the files that are listed, or no files
abbrev pub or_none : Option (List (Option File)) → List (Option File)
or_none None = []
or_none (Some files) = files

-- all that a name may be after a crash
abbrev pub outcomes : List ℕ → Disk → List (Option File)
outcomes name disk = map.get disk.now name ∷ or_none (map.get disk.older name)

-- a change of this name isn't durable yet: after a crash it may still be what it is now
abbrev pub unsynced : List ℕ → Disk → Disk
unsynced name disk = record { now = disk.now; older = map.insert disk.older name (outcomes name disk) }

-- the files now changed, and nothing synced
abbrev pub change_now : (Files → Files) → Disk → Disk
change_now change disk = record { now = change disk.now; older = disk.older }

-- the files with this one changed, if it is there
abbrev pub change_file : (File → File) → List ℕ → Files → Files
change_file change name files = changed (map.get files name)
  where
    changed : Option File → Files
    changed None = files
    changed (Some file) = map.insert files name (change file)

-- the file with these bytes appended
abbrev pub longer_by : List ℕ → File → File
longer_by more file = record { bytes = file.bytes ++ more; synced = file.synced }

-- a file of these bytes, all of them durable
abbrev pub synced_file : List ℕ → File
synced_file bytes = record { bytes = bytes; synced = length bytes }

-- ---- what each call makes of the disk

-- an empty file of this name
abbrev pub created : List ℕ → Disk → Disk
created name disk = change_now (λ files. map.insert files name (synced_file [])) (unsynced name disk)

-- bytes appended to this file
abbrev pub appended : List ℕ → List ℕ → Disk → Disk
appended name more = change_now (change_file (longer_by more) name)

-- all bytes of this file durable
abbrev pub file_synced : List ℕ → Disk → Disk
file_synced name = change_now (change_file (λ file. synced_file file.bytes) name)

-- all names durable, as they are now
abbrev pub names_synced : Disk → Disk
names_synced disk = record { now = disk.now; older = map.empty }

-- no file of this name
abbrev pub removed : List ℕ → Disk → Disk
removed name disk = change_now (λ files. map.remove files name) (unsynced name disk)

-- the files with the one of the first name under the second one
abbrev pub moved : List ℕ → List ℕ → Files → Files
moved from to files = put (map.get files from)
  where
    put : Option File → Files
    put None = files
    put (Some file) = map.insert (map.remove files from) to file

-- the file of the first name under the second one
abbrev pub renamed : List ℕ → List ℕ → Disk → Disk
renamed from to disk = change_now (moved from to) (unsynced to (unsynced from disk))

-- After a crash a name that was this may be this image: no file, or its synced bytes and then bytes that `Ends` allows.
abbrev pub Leaves : (File → List ℕ → Type 0) → Option File → Option File → Type 0
Leaves Ends None image = image ≡ None
Leaves Ends (Some file) image = (end : List ℕ) × Ends file end × (image ≡ Some (synced_file (take file.synced file.bytes ++ end)))

-- a crash image of the disk, all of which is durable
pub record IsImage (Ends : File → List ℕ → Type 0) (disk image : Disk) : Type 0 where
  pub durable : image.older ≡ map.empty
  pub each : (name : List ℕ) → Any (λ was. Leaves Ends was (map.get image.now name)) (outcomes name disk)

-- any bytes in any number
abbrev pub AnyEnd : File → List ℕ → Type 0
AnyEnd file end = Unit {0}

-- of the newest state and those before it, where the states are known
abbrev pub IfKnown : Option (List Disk) → (Disk → List Disk → Type 0) → Type 0
IfKnown (Some (disk ∷ past)) P = P disk past
IfKnown _ P = Unit {0}

-- the states are known, and there is a newest one
abbrev pub IsKnown : Option (List Disk) → Type 0
IsKnown states = (disk : Disk) × (past : List Disk) × (states ≡ Some (disk ∷ past))

-- the directory took this one new state
abbrev pub Became : Option (List Disk) → Disk → Disk → List Disk → Type 0
Became states next disk past = states ≡ Some (next ∷ disk ∷ past)

-- the directory took no new state
abbrev pub Stayed : Option (List Disk) → Disk → List Disk → Type 0
Stayed states disk past = states ≡ Some (disk ∷ past)

-- the change at `Ok`, and at an error nothing
abbrev pub Makes : {T E : Type 0} → (Disk → Disk) → (before after : Option (List Disk)) → Result T E → Type 0
Makes change before after result = IfKnown before (λ disk past. MatchResult result
    (λ value. Became after (change disk) disk past)
    (λ error. Stayed after disk past))

-- the change at `Ok`, and at an error nothing or the change
abbrev pub MayMake : {T E : Type 0} → (Disk → Disk) → (before after : Option (List Disk)) → Result T E → Type 0
MayMake change before after result = IfKnown before (λ disk past. MatchResult result
    (λ value. Became after (change disk) disk past)
    (λ error. Stayed after disk past ⊎ Became after (change disk) disk past))

-- all bytes at `Ok`, and at an error nothing or a prefix of them
abbrev pub Appends : {T E : Type 0} → (name more : List ℕ) → (before after : Option (List Disk)) → Result T E → Type 0
Appends name more before after result = IfKnown before (λ disk past. MatchResult result
    (λ value. Became after (appended name more disk) disk past)
    (λ error. Stayed after disk past ⊎ ((count : ℕ) × Became after (appended name (take count more) disk) disk past)))

-- the states are known after a call just where they were before
abbrev pub KnownAlike : (before after : Option (List Disk)) → Type 0
KnownAlike before after = IsKnown before ↔ IsKnown after

-- the file is there, where the states are known
abbrev pub IsThere : Option (List Disk) → List ℕ → Type 0
IsThere states name = IfKnown states (λ disk past. IsSome (map.get disk.now name))

-- this holds of the file, where it is known
abbrev pub OfFile : Option (List Disk) → List ℕ → (File → Type 0) → Type 0
OfFile states name P = IfKnown states (λ disk past. IfSome (map.get disk.now name) P)

-- A prefix of the bytes from this offset on was copied to the start of a buffer: none only where there is no room or no byte.
pub record ReadsAt (file : File) (at : ℕ) (before after : List ℕ) (count : ℕ) : Type 0 where
  pub room : count ≤ length before
  pub there : count ≤ length file.bytes - at
  pub bytes : after ≡ take count (drop at file.bytes) ++ drop count before
  pub some : count ≡ 0 → (length before ≡ 0) ⊎ (length file.bytes ≤ at)
