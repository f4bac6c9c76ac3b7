-- Crash images of a journal's file, and of the journals and snapshots beside it.
use Rattle.std.specs.Prelude.{◌≡◌, ◌⊎◌, ℕ, ◌≤◌, List, [], length, map, take, Some}
use Rattle.std.specs.FinMap as finite
use Rattle.mx_outside.specs.Disks.{Disk, File, Files}
use Rattle.mx_xlog.specs.declared.head.Head.{Head}
use Rattle.mx_xlog.specs.Headers.{header_of}
use Rattle.mx_row.specs.declared.tx.Tx.{Tx}
use Rattle.mx_row.specs.Rows.{transactions_text}
use Rattle.mx_xlog.specs.Files.{FileRead, ReadsAs}
use Rattle.mx_images.specs.Fair.{IsFair}
use Rattle.mx_journal.specs.Groups.{AreGroups}
use Rattle.mx_journal.specs.Written.{name_of}
use Rattle.mx_images.specs.Changes.{SameBut}

-- a journal's file of these groups of transactions, a block each, as it reads
abbrev pub read_of : Head → List (List Tx) → FileRead
read_of head groups = record { head = head; size = length (header_of head); blocks = map transactions_text groups }

-- the journal's file is there, and has these transactions in groups
abbrev pub HasFile : Head → List Tx → Files → Type 0
HasFile head transactions files =
    (groups : List (List Tx)) × AreGroups groups transactions
    × (file : File) × (finite.get files (name_of head) ≡ Some file) × ReadsAs file.bytes (Some (read_of head groups))

-- After any crash the journal's file has a prefix of these transactions, which has at least so many of them.
abbrev pub HasAtLeast : Head → List Tx → ℕ → Disk → Type 0
HasAtLeast head transactions least disk =
    (image : Files) → IsFair disk image → (count : ℕ) × (least ≤ count) × (count ≤ length transactions) × HasFile head (take count transactions) image

-- The journal's file has the first ones of these transactions, and whatever a crash leaves, it has no more of them.
pub record HasMost (head : Head) (transactions : List Tx) (disk : Disk) : Type 0 where
  pub count : ℕ
  pub within : count ≤ length transactions
  pub has : HasFile head (take count transactions) disk.now
  pub most : (image : Files) → IsFair disk image → (fewer : ℕ) × (fewer ≤ count) × HasFile head (take fewer transactions) image

-- it has no fewer than before: each bound that held still holds
abbrev pub NoFewer : Head → List Tx → Disk → Disk → Type 0
NoFewer head transactions older newer = (least : ℕ) → HasAtLeast head transactions least older → HasAtLeast head transactions least newer

-- these files are a crash image, except for the journal's file, which has no transaction
abbrev pub HasBegun : Head → Disk → Files → Type 0
HasBegun head disk image = (was : Files) × IsFair disk was × SameBut (name_of head) was image × HasFile head [] image

-- any crash image now was one before, except for the journal's file, which may have been begun
abbrev pub MayBegin : Head → Disk → Disk → Type 0
MayBegin head older newer = (image : Files) → IsFair newer image → IsFair older image ⊎ HasBegun head older image
