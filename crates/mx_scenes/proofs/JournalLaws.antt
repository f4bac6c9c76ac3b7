-- What the tests' first transaction and empty directory are.
use Rattle.std.proofs.Common.{◌≡◌, ℕ, ◌≤◌, List, [], ◌∷◌, IsSome, Any, pos, refl, length, sym, ap, inl, inr, arith, Option, Some, Result, Ok, Err, IfOk}
use mathlib.Core.Bool.{true≢false}
use mathlib.Core.Path.{subst}
use Rattle.std.specs.FinMap as finite
use Rattle.std.specs.List.{AllByRecursion}
use Rattle.std.specs.FinMap.{get-empty}
use Rattle.std.specs.Cmp.Lexicographic.{slice_cmp}
use Rattle.std.specs.Ordering.{nat_cmp}
use Rattle.mx_outside.specs.Disks.{Disk, IfKnown, or_none}
use Rattle.mx_fake.specs.Changes.{no_files}
use Rattle.mx_msgpack.specs.Grammar.{Int, Str, NoValue, MoreValues}
use Rattle.mx_msgpack.specs.Spelling.{shortest_unsigned}
use Rattle.mx_msgpack.proofs.SpellingLaws.{shortest_length}
use Rattle.mx_row.specs.declared.row.Row.{Row}
use Rattle.mx_row.specs.declared.tx.Tx.{Tx}
use Rattle.mx_row.specs.Limits.{max_transaction_size, rows_size}
use Rattle.mx_row.specs.Rows.{IsRow, IsTransaction, replace_row}
use Rattle.mx_row.proofs.SizeLaws.{tuple_size}
use Rattle.mx_request.specs.Spelling.{IsInnerArray}
use Rattle.mx_xlog.specs.declared.head.Head.{Head}
use Rattle.mx_journal.specs.declared.journal.Journal.{Journal}
use Rattle.mx_journal.specs.Written.{IsNewest, IsWritten, Waits, Created, name_of}
use Rattle.mx_images.specs.Changes.{IsNow, SameOthers}
use Rattle.mx_images.proofs.DiskLaws.{only_one}

-- the tuple [1, "a"]
abbrev pub first_tuple : List ℕ
first_tuple = 0x92 ∷ 0x01 ∷ 0xa1 ∷ 0x61 ∷ []

first_is_tuple : IsInnerArray first_tuple
first_is_tuple = (
  MoreValues (Int (pos 1)) (MoreValues (Str (0x61 ∷ [])) NoValue),
  (
    0x92 ∷ [],
    0x01 ∷ 0xa1 ∷ 0x61 ∷ [],
    inl (omega arith, refl),
    omega arith,
    refl,
    (
      0x01 ∷ [],
      0xa1 ∷ 0x61 ∷ [],
      refl,
      inl (1, refl, inl (omega arith, refl)),
      (0xa1 ∷ 0x61 ∷ [], [], refl, (0xa1 ∷ [], inl (omega arith, refl), omega arith, refl), refl),
    ),
  ),
)

first_is_row : IsRow (replace_row 512 first_tuple)
first_is_row =
    let short = shortest_length 512 in
    let size = tuple_size (replace_row 512 first_tuple) (length (shortest_unsigned 512)) refl (λ is. omega (arith, is)) (λ is. omega (arith, is)) (λ is. omega (arith, is)) in
    record { space = omega arith; parts = inr (inl (refl, first_is_tuple)); short = omega arith }

-- the first transaction of the replica 1
abbrev pub first_tx : List Row → Tx
first_tx rows = record { replica = record { 0 = 1 }; first = record { 0 = 1 }; rows = rows }

pub first_is_transaction : (rows : List Row) (tuple : List ℕ) → tuple ≡ first_tuple → rows ≡ replace_row 512 tuple ∷ [] → IsTransaction (first_tx rows)
first_is_transaction rows tuple same only =
    let is = subst (λ bytes. IsRow (replace_row 512 bytes)) (sym same) first_is_row in
    let count = ap length only in
    let short : rows_size (replace_row 512 tuple ∷ []) ≤ max_transaction_size = let body = is.short in omega arith in
    record {
      replica = omega arith;
      lsns = (omega arith, omega (arith, count));
      some = omega (arith, count);
      rows = subst (AllByRecursion IsRow) (sym only) (is, tt);
      few = omega (arith, count);
      short = subst (λ r. rows_size r ≤ max_transaction_size) (sym only) short;
    }

-- an empty directory has no newer file
pub newest_of_none : (name : List ℕ) → IsNewest name no_files
newest_of_none name other kind there after =
    let some : IsSome (finite.get no_files.now other) =
    only_one IsSome (finite.get no_files.now other) (subst (Any IsSome) (ap (λ older. finite.get no_files.now other ∷ or_none older) (get-empty (slice_cmp nat_cmp) other)) there) in
    true≢false (sym (subst IsSome (get-empty (slice_cmp nat_cmp) other) some))

pub none_newer : (states : Option (List Disk)) (name : List ℕ) → states ≡ Some (no_files ∷ []) → IfKnown states (λ disk past. IsNewest name disk)
none_newer states name is = rw is (newest_of_none name)

pub created_written : {E : Type 0} (states after : Option (List Disk)) (head : Head) (result : Result Journal E) → states ≡ Some (no_files ∷ [])
    → IfKnown states (λ disk past. IfOk result (λ journal. IsNow after (λ now. IsWritten journal now [] × Created head disk now)))
    → IfOk result (λ journal. IsNow after (λ now. IsWritten journal now []))
created_written states after head (Ok journal) is created =
    let made : IsNow after (λ now. IsWritten journal now [] × Created head no_files now) = rw is at created in
    (made.0, made.1, made.2, made.3.0)
created_written states after head (Err fault) is created = tt

pub still_written : (states : Option (List Disk)) (old new : Journal) → ((disk : Disk) (txs : List Tx) → IsWritten old disk txs → IsWritten new disk txs)
    → IsNow states (λ now. IsWritten old now []) → IfKnown states (λ disk past. (txs : List Tx) × IsWritten new disk txs)
still_written states old new stays (disk, past, is, written) = rw is ([], stays disk [] written)

pub wrote_newest : (states after : Option (List Disk)) (old new : Journal) (waits : List Tx) → ((disk : Disk) (txs : List Tx) → IsWritten old disk txs → IsWritten new disk txs)
    → IsNow states (λ now. IsWritten old now []) → Waits new waits → (later : Journal)
    → IfKnown states (λ disk past. IsWritten new disk [] → Waits new waits → IsNow after (λ now. IsWritten later now waits × SameOthers (name_of new.head) disk now))
    → IsNow after (λ now. (txs : List Tx) × IsWritten later now txs)
wrote_newest states after old new waits stays (disk, past, is, written) waiting later wrote =
    let at_disk : IsWritten new disk [] → Waits new waits → IsNow after (λ now. IsWritten later now waits × SameOthers (name_of new.head) disk now) = rw is at wrote in
    let made = at_disk (stays disk [] written) waiting in
    (made.0, made.1, made.2, (waits, made.3.0))
