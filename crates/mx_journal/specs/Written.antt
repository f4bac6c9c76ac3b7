-- What a journal has written.
use Rattle.std.specs.Prelude.{◌≡◌, ◌⊎◌, ℕ, ◌+◌, true, false, List, ◌++◌, length, take, sum, Any, Some, None, IsSome, if◌then◌else◌, string_bytes}
use Rattle.std.specs.List.{AllByRecursion}
use Rattle.std.specs.Ordering.{nat_cmp}
use Rattle.std.specs.Cmp.Lexicographic.{slice_cmp}
use Rattle.std.specs.declared.cmp.Ordering.TheVariants.{Greater}
use Rattle.std.specs.FinMap as finite
use Rattle.mx_xlog.specs.declared.head.Head.{Head}
use Rattle.mx_xlog.specs.Headers.{IsHead, header_of}
use Rattle.mx_xlog.specs.Blocks.{end_marker}
use Rattle.mx_outside.specs.Disks.{Disk, synced_file, outcomes}
use Rattle.mx_row.specs.declared.tx.Tx.{Tx}
use Rattle.mx_row.specs.Clocks.{clock_after}
use Rattle.mx_row.specs.Rows.{IsTransaction}
use Rattle.mx_files.specs.Names.{journal_name, draft_ending, is_journal, is_snapshot, same_bytes}
use Rattle.mx_journal.specs.declared.journal.Journal.{Journal}
use Rattle.mx_journal.specs.Groups.{AreGroups, ArePacked, Packs, blocks_text}

-- a journal's file of these groups of transactions
abbrev pub file_text : Head → List (List Tx) → List ℕ
file_text head groups = header_of head ++ blocks_text groups

abbrev pub name_of : Head → List ℕ
name_of head = journal_name (sum head.clock)

abbrev pub draft_name_of : Head → List ℕ
draft_name_of head = name_of head ++ draft_ending

-- No journal or snapshot that is there, or may be after a crash, has a greater signature than the file of this name.
abbrev pub IsNewest : List ℕ → Disk → Type 0
IsNewest name disk =
    (other : List ℕ) → ((is_journal other ≡ true) ⊎ (is_snapshot other ≡ true)) → Any IsSome (outcomes other disk)
    → ¬ (slice_cmp nat_cmp (take 20 other) (take 20 name) ≡ Greater)

-- The journal's file has these transactions in groups, a block each, all of it is durable, and no other file is newer. The
-- journal keeps the file's name, its length, its vclock and how many transactions it has.
pub record IsWritten (journal : Journal) (disk : Disk) (transactions : List Tx) : Type 0 where
  pub fits : IsHead journal.head
  pub kind : journal.head.snapshot ≡ false
  pub named : string_bytes journal.name ≡ name_of journal.head
  pub groups : List (List Tx)
  pub grouped : AreGroups groups transactions
  pub file : finite.get disk.now (name_of journal.head) ≡ Some (synced_file (file_text journal.head groups))
  pub no_older : finite.get disk.older (name_of journal.head) ≡ None
  pub newest : IsNewest (name_of journal.head) disk
  pub clock : journal.clock ≡ clock_after journal.head.clock transactions
  pub long : journal.length ≡ length (file_text journal.head groups)
  pub synced : journal.synced ≡ length transactions
  pub sound : AllByRecursion IsTransaction transactions

-- these transactions wait to be written, packed into blocks
pub record Waits (journal : Journal) (transactions : List Tx) : Type 0 where
  pub packs : Packs transactions journal.waiting
  pub next : journal.next ≡ clock_after journal.clock transactions
  pub pushed : journal.pushed ≡ journal.synced + length transactions
  pub sound : AllByRecursion IsTransaction transactions

-- these transactions were put after the journal's file, packed into blocks, and all of it is durable
pub record AddsPacked (head : Head) (transactions : List Tx) (before after : Disk) : Type 0 where
  pub groups : List (List Tx)
  pub packed : ArePacked groups transactions
  pub file : (bytes : List ℕ) → finite.get before.now (name_of head) ≡ Some (synced_file bytes)
      → finite.get after.now (name_of head) ≡ Some (synced_file (bytes ++ blocks_text groups))

-- the journal's file has these transactions in groups, a block each, and the marker of its end, and all of it is durable
abbrev pub HasEnded : Head → List Tx → Disk → Type 0
HasEnded head transactions disk =
    (groups : List (List Tx)) × AreGroups groups transactions
    × (finite.get disk.now (name_of head) ≡ Some (synced_file (file_text head groups ++ end_marker)))

-- the file of this head was made in place of its draft and of the file that had its name; all names are durable
pub record Created (head : Head) (before after : Disk) : Type 0 where
  pub files : (other : List ℕ) → finite.get after.now other
      ≡ (if same_bytes other (name_of head) then Some (synced_file (header_of head))
      else if same_bytes other (draft_name_of head) then None
      else finite.get before.now other)
  pub older : after.older ≡ finite.empty
