-- What a journal's calls make of its file.
use Rattle.std.proofs.Common.{◌≡◌, ℕ, ◌+◌, Bool, true, false, cond, List, [], ◌∷◌, ◌++◌, length, take, sum, Option, Some, None, IsSome, Any, string_bytes, refl, sym, ap, ◌∙◌, append_assoc, arith}
use Rattle.std.proofs.lemmas.List.{append-nil, length-append}
use mathlib.Core.Bool.{true≢false}
use mathlib.Core.Path.{subst}
use Rattle.std.specs.FinMap as finite
use Rattle.std.specs.FinMap.{get-empty}
use Rattle.std.specs.Cmp.Lexicographic.{slice_cmp}
use Rattle.std.specs.Ordering.{nat_cmp, is_eq}
use Rattle.std.specs.declared.cmp.Ordering.TheVariants.{Greater}
use Rattle.std.proofs.lemmas.Map.Text.{is_eq-slice_cmp}
use Rattle.mx_outside.specs.Disks.{File, Disk, IfKnown, synced_file, outcomes, or_none}
use Rattle.mx_xlog.specs.declared.head.Head.{Head}
use Rattle.mx_xlog.specs.Headers.{IsHead, header_of}
use Rattle.mx_xlog.specs.Blocks.{end_marker}
use Rattle.mx_row.specs.declared.tx.Tx.{Tx}
use Rattle.mx_files.specs.Names.{same_bytes, draft_ending}
use Rattle.mx_row.specs.Rows.{transactions_of}
use Rattle.mx_row.specs.Clocks.{clock_after}
use Rattle.mx_row.proofs.ClockLaws.{clock_after-append}
use Rattle.mx_journal.specs.declared.journal.Journal.{Journal}
use Rattle.mx_journal.specs.Counting.{SameButPushed, caught_up}
use Rattle.mx_images.specs.Changes.{Changed, with_draft, with_appended, renamed_durably, IsNow, SameOthers}
use Rattle.mx_journal.specs.Groups.{Packed, blocks_text, whole_text}
use Rattle.mx_journal.specs.Written.{AddsPacked, IsWritten, Waits, IsNewest, HasEnded, Created, file_text, name_of, draft_name_of}
use Rattle.mx_journal.proofs.PackLaws.{blocks_text-append, groups_joined, waiting_blocks}
use Rattle.mx_journal.proofs.BlockLaws.{all_sound, no_group}
use Rattle.mx_images.proofs.DiskLaws.{same_self, same_name, get_extended, get_made, only_one, first_one}
use Rattle.mx_images.proofs.ToldLaws.{told_both, told_weaker, where_told, now_changed}

-- ---- the newest file

-- no name is after itself
not_after : (name : List ℕ) → ¬ (slice_cmp nat_cmp name name ≡ Greater)
not_after name after = true≢false (sym (same_self name) ∙ sym (is_eq-slice_cmp name name) ∙ ap is_eq after)

-- where no other file came, the file of this name stays the newest
newest_kept : (name : List ℕ) (before after : Disk) → IsNewest name before
    → ((other : List ℕ) → same_bytes other name ≡ false → Any IsSome (outcomes other after) → Any IsSome (outcomes other before)) → IsNewest name after
newest_kept name before after newest earlier other kind there = by_name (same_bytes other name) refl
  where
    by_name : (same : Bool) → same_bytes other name ≡ same → ¬ (slice_cmp nat_cmp (take 20 other) (take 20 name) ≡ Greater)
    by_name true same = rw (same_name other name same) (not_after (take 20 name))
    by_name false differs = newest other kind (earlier other differs there)

-- ---- a journal that was begun

made_earlier : (draft name bytes : List ℕ) (disk : Disk) (other : List ℕ) → same_bytes other name ≡ false
    → Any IsSome (outcomes other (renamed_durably draft name (with_draft draft bytes disk))) → Any IsSome (outcomes other disk)
made_earlier draft name bytes disk other differs there =
    let now = renamed_durably draft name (with_draft draft bytes disk) in
    let alone : outcomes other now ≡ finite.get now.now other ∷ [] = ap (λ older. finite.get now.now other ∷ or_none older) (get-empty (slice_cmp nat_cmp) other) in
    let some : IsSome (finite.get now.now other) = only_one IsSome (finite.get now.now other) (subst (Any IsSome) alone there) in
    let found : finite.get now.now other ≡ cond (same_bytes other draft) None (finite.get disk.now other) = get_made draft name bytes disk other
    ∙ ap (λ same. cond same (Some (synced_file bytes)) (cond (same_bytes other draft) None (finite.get disk.now other))) differs in
    by_draft (same_bytes other draft) (subst IsSome found some)
  where
    by_draft : (same : Bool) → IsSome (cond same None (finite.get disk.now other)) → Any IsSome (outcomes other disk)
    by_draft true none = absurd (true≢false (sym none))
    by_draft false some = first_one IsSome (finite.get disk.now other) (or_none (finite.get disk.older other)) some

-- the disk after a file was made in the place of its draft
abbrev pub begun : Head → Disk → Disk
begun head disk = renamed_durably (draft_name_of head) (name_of head) (with_draft (draft_name_of head) (header_of head) disk)

pub begun_written : (journal : Journal) (disk : Disk) → IsHead journal.head → journal.head.snapshot ≡ false → string_bytes journal.name ≡ name_of journal.head
    → journal.clock ≡ journal.head.clock → journal.length ≡ length (header_of journal.head) → journal.synced ≡ 0
    → IsNewest (name_of journal.head) disk → IsWritten journal (begun journal.head disk) [] × Created journal.head disk (begun journal.head disk)
begun_written journal disk fits kind named clock long synced newest =
    let name = name_of journal.head in
    let draft = draft_name_of journal.head in
    let header = header_of journal.head in
    let all : file_text journal.head [] ≡ header = append-nil header in (
      record {
        fits = fits;
        kind = kind;
        named = named;
        groups = [];
        grouped = record { together = refl; fit = tt };
        file = get_made draft name header disk name
            ∙ ap (λ same. cond same (Some (synced_file header)) (cond (same_bytes name draft) None (finite.get disk.now name))) (same_self name)
            ∙ ap (λ bytes. Some (synced_file bytes)) (sym all);
        no_older = get-empty (slice_cmp nat_cmp) name;
        newest = newest_kept name disk (begun journal.head disk) newest (made_earlier draft name header disk);
        clock = clock;
        long = long ∙ ap length (sym all);
        synced = synced;
        sound = tt;
      },
      record {
        files = get_made draft name header disk;
        older = refl;
      },
    )

-- ---- what is put after the others

pub others_extended : (name more : List ℕ) (disk : Disk) (file : File) → finite.get disk.now name ≡ Some file → SameOthers name disk (with_appended name more disk)
others_extended name more disk file is = record {
  files = λ other differs. get_extended name more disk file other is
      ∙ ap (λ same. cond same (Some (synced_file (file.bytes ++ more))) (finite.get disk.now other)) differs;
  older = refl;
}

newest_extended : (name more : List ℕ) (disk : Disk) (file : File) → finite.get disk.now name ≡ Some file → IsNewest name disk → IsNewest name (with_appended name more disk)
newest_extended name more disk file is newest =
    newest_kept name disk (with_appended name more disk) newest (λ other differs there.
    subst (Any IsSome) (ap (λ found. found ∷ or_none (finite.get disk.older other)) ((others_extended name more disk file is).files other differs)) there)

-- the bytes of a file that was made longer
pub bytes_extended : (name more bytes : List ℕ) (disk : Disk) → finite.get disk.now name ≡ Some (synced_file bytes)
    → finite.get (with_appended name more disk).now name ≡ Some (synced_file (bytes ++ more))
bytes_extended name more bytes disk is =
    get_extended name more disk (synced_file bytes) name is
    ∙ ap (λ same. cond same (Some (synced_file (bytes ++ more))) (finite.get disk.now name)) (same_self name)

file_text-append : (head : Head) (some more : List (List Tx)) → file_text head some ++ blocks_text more ≡ file_text head (some ++ more)
file_text-append head some more =
    append_assoc (header_of head) (blocks_text some) (blocks_text more) ∙ ap (λ text. header_of head ++ text) (sym (blocks_text-append some more))

-- a journal that put what waited after its file
abbrev pub wrote : Journal → ℕ → Packed → Journal
wrote journal long pack = caught_up (record journal { length = long; waiting = pack })

pub wrote_written : (journal : Journal) (long : ℕ) (pack : Packed) (disk : Disk) (txs waits : List Tx)
    → long ≡ journal.length + length (whole_text journal.waiting) → IsWritten journal disk txs → Waits journal waits
    → IsWritten (wrote journal long pack) (with_appended (name_of journal.head) (whole_text journal.waiting) disk) (txs ++ waits)
    × SameOthers (name_of journal.head) disk (with_appended (name_of journal.head) (whole_text journal.waiting) disk)
wrote_written journal long pack disk txs waits sum written waiting =
    let name = name_of journal.head in
    let more = whole_text journal.waiting in
    let groups = waiting.packs.groups in
    let text = file_text journal.head written.groups in
    let all : text ++ more ≡ file_text journal.head (written.groups ++ groups) =
    ap (λ bytes. text ++ bytes) (waiting_blocks waits journal.waiting waiting.packs) ∙ file_text-append journal.head written.groups groups in (
      record {
        fits = written.fits;
        kind = written.kind;
        named = written.named;
        groups = written.groups ++ groups;
        grouped = groups_joined written.groups groups txs waits written.grouped waiting.packs.packed.grouped;
        file = bytes_extended name more text disk written.file ∙ ap (λ bytes. Some (synced_file bytes)) all;
        no_older = written.no_older;
        newest = newest_extended name more disk (synced_file text) written.file written.newest;
        clock = waiting.next ∙ ap (λ clock. clock_after clock waits) written.clock ∙ sym (clock_after-append journal.head.clock txs waits);
        long = sum ∙ ap (λ n. n + length more) written.long ∙ sym (length-append text more) ∙ ap length all;
        synced = waiting.pushed ∙ ap (λ n. n + length waits) written.synced ∙ sym (length-append txs waits);
        sound = all_sound txs waits written.sound waiting.sound;
      },
      others_extended name more disk (synced_file text) written.file,
    )

-- nothing waits where there is nothing to write
pub nothing_waits : (journal : Journal) (waits : List Tx) → whole_text journal.waiting ≡ [] → Waits journal waits → waits ≡ []
nothing_waits journal waits none waiting =
    sym waiting.packs.packed.grouped.together
    ∙ ap transactions_of (no_group waiting.packs.groups (sym none ∙ waiting_blocks waits journal.waiting waiting.packs))

-- a journal in which nothing waited
pub caught_up_written : (journal : Journal) (pack : Packed) (disk : Disk) (txs waits : List Tx) → whole_text journal.waiting ≡ []
    → IsWritten journal disk txs → Waits journal waits
    → IsWritten (caught_up (record journal { waiting = pack })) disk (txs ++ waits) × SameOthers (name_of journal.head) disk disk
caught_up_written journal pack disk txs waits none written waiting =
    let nothing : waits ≡ [] = nothing_waits journal waits none waiting in
    let same : txs ++ waits ≡ txs = ap (λ more. txs ++ more) nothing ∙ append-nil txs in (
      record {
        fits = written.fits;
        kind = written.kind;
        named = written.named;
        groups = written.groups;
        grouped = record { together = written.grouped.together ∙ sym same; fit = written.grouped.fit };
        file = written.file;
        no_older = written.no_older;
        newest = written.newest;
        clock = waiting.next ∙ ap (clock_after journal.clock) nothing ∙ written.clock ∙ ap (clock_after journal.head.clock) (sym same);
        long = written.long;
        synced = waiting.pushed ∙ ap (λ more. journal.synced + length more) nothing ∙ omega arith ∙ written.synced ∙ ap length (sym same);
        sound = all_sound txs waits written.sound waiting.sound;
      },
      record { files = λ other differs. refl; older = refl },
    )

-- what waited was packed
pub added_packed : (journal : Journal) (disk : Disk) (waits : List Tx) → Waits journal waits
    → AddsPacked journal.head waits disk (with_appended (name_of journal.head) (whole_text journal.waiting) disk)
added_packed journal disk waits waiting = record {
  groups = waiting.packs.groups;
  packed = waiting.packs.packed;
  file = λ bytes is. bytes_extended (name_of journal.head) (whole_text journal.waiting) bytes disk is
      ∙ ap (λ more. Some (synced_file (bytes ++ more))) (waiting_blocks waits journal.waiting waiting.packs);
}

-- so was nothing
nothing_packed : (journal : Journal) (disk : Disk) (waits : List Tx) → whole_text journal.waiting ≡ [] → Waits journal waits
    → AddsPacked journal.head waits disk disk
nothing_packed journal disk waits none waiting = record {
  groups = waiting.packs.groups;
  packed = waiting.packs.packed;
  file = λ bytes is. is
      ∙ ap (λ text. Some (synced_file text))
      (sym (append-nil bytes) ∙ ap (λ more. bytes ++ more) (sym none ∙ waiting_blocks waits journal.waiting waiting.packs));
}

-- a file that was ended
pub ended : (journal : Journal) (disk : Disk) (txs : List Tx) → IsWritten journal disk txs
    → HasEnded journal.head txs (with_appended (name_of journal.head) end_marker disk)
    × SameOthers (name_of journal.head) disk (with_appended (name_of journal.head) end_marker disk)
ended journal disk txs written =
    let text = file_text journal.head written.groups in (
      (written.groups, written.grouped, bytes_extended (name_of journal.head) end_marker text disk written.file),
      others_extended (name_of journal.head) end_marker disk (synced_file text) written.file,
    )

-- ---- the same of a directory's newest state

-- a change of a file whose name and bytes are these
pub extended_as : (name wanted bytes more : List ℕ) (disk : Disk) → name ≡ wanted → bytes ≡ more → with_appended name bytes disk ≡ with_appended wanted more disk
extended_as name wanted bytes more disk named same = ap (λ n. with_appended n bytes disk) named ∙ ap (λ b. with_appended wanted b disk) same

pub begun_now : (journal : Journal) (name bytes : List ℕ) (before after : Option (List Disk)) → IsHead journal.head → journal.head.snapshot ≡ false
    → string_bytes journal.name ≡ name_of journal.head → journal.clock ≡ journal.head.clock → journal.length ≡ length (header_of journal.head)
    → journal.synced ≡ 0 → name ≡ name_of journal.head → bytes ≡ header_of journal.head
    → Changed (λ disk. renamed_durably (name ++ draft_ending) name (with_draft (name ++ draft_ending) bytes disk)) before after
    → IfKnown before (λ disk past. IsNewest (name_of journal.head) disk)
    → IfKnown before (λ disk past. IsNow after (λ now. IsWritten journal now [] × Created journal.head disk now))
begun_now journal name bytes before after fits kind named clock long synced is same changed newest =
    told_both before (λ disk past step newest.
    now_changed (renamed_durably (name ++ draft_ending) name (with_draft (name ++ draft_ending) bytes disk)) after step
    (subst (λ now. IsWritten journal now [] × Created journal.head disk now)
    (sym (ap (λ n. renamed_durably (n ++ draft_ending) n (with_draft (n ++ draft_ending) bytes disk)) is
    ∙ ap (λ b. renamed_durably (draft_name_of journal.head) (name_of journal.head) (with_draft (draft_name_of journal.head) b disk)) same))
    (begun_written journal disk fits kind named clock long synced newest))) changed newest

pub wrote_now : (journal new : Journal) (long : ℕ) (pack : Packed) (name bytes : List ℕ) (before after : Option (List Disk)) (txs waits : List Tx)
    → new ≡ wrote journal long pack → long ≡ journal.length + length (whole_text journal.waiting) → name ≡ string_bytes journal.name
    → bytes ≡ whole_text journal.waiting → Changed (with_appended name bytes) before after
    → IfKnown before (λ disk past. IsWritten journal disk txs → Waits journal waits
    → IsNow after (λ now. IsWritten new now (txs ++ waits) × SameOthers (name_of journal.head) disk now))
wrote_now journal new long pack name bytes before after txs waits is sum named same changed =
    told_weaker before (λ disk past step written waiting. now_changed (with_appended name bytes disk) after step
    (subst (λ now. IsWritten new now (txs ++ waits) × SameOthers (name_of journal.head) disk now)
    (sym (extended_as name (name_of journal.head) bytes (whole_text journal.waiting) disk (named ∙ written.named) same))
    (subst (λ j. IsWritten j (with_appended (name_of journal.head) (whole_text journal.waiting) disk) (txs ++ waits)
    × SameOthers (name_of journal.head) disk (with_appended (name_of journal.head) (whole_text journal.waiting) disk)) (sym is)
    (wrote_written journal long pack disk txs waits sum written waiting)))) changed

pub caught_up_now : (journal new : Journal) (pack : Packed) (states : Option (List Disk)) (txs waits : List Tx)
    → new ≡ caught_up (record journal { waiting = pack }) → whole_text journal.waiting ≡ []
    → IfKnown states (λ disk past. IsWritten journal disk txs → Waits journal waits
    → IsNow states (λ now. IsWritten new now (txs ++ waits) × SameOthers (name_of journal.head) disk now))
caught_up_now journal new pack states txs waits is none =
    where_told states _ (λ disk past told written waiting. (
      disk,
      past,
      told,
      subst (λ j. IsWritten j disk (txs ++ waits) × SameOthers (name_of journal.head) disk disk) (sym is)
          (caught_up_written journal pack disk txs waits none written waiting),
    ))

pub packed_now : (journal : Journal) (name bytes : List ℕ) (before after : Option (List Disk)) (txs waits : List Tx)
    → name ≡ string_bytes journal.name → bytes ≡ whole_text journal.waiting → Changed (with_appended name bytes) before after
    → IfKnown before (λ disk past. IsWritten journal disk txs → Waits journal waits → IsNow after (AddsPacked journal.head waits disk))
packed_now journal name bytes before after txs waits named same changed =
    told_weaker before (λ disk past step written waiting. now_changed (with_appended name bytes disk) after step
    (subst (AddsPacked journal.head waits disk)
    (sym (extended_as name (name_of journal.head) bytes (whole_text journal.waiting) disk (named ∙ written.named) same))
    (added_packed journal disk waits waiting))) changed

pub nothing_packed_now : (journal : Journal) (states : Option (List Disk)) (txs waits : List Tx) → whole_text journal.waiting ≡ []
    → IfKnown states (λ disk past. IsWritten journal disk txs → Waits journal waits → IsNow states (AddsPacked journal.head waits disk))
nothing_packed_now journal states txs waits none =
    where_told states _ (λ disk past told written waiting. (disk, past, told, nothing_packed journal disk waits none waiting))

pub ended_now : (journal : Journal) (name bytes : List ℕ) (before after : Option (List Disk)) (txs : List Tx)
    → name ≡ string_bytes journal.name → bytes ≡ end_marker → Changed (with_appended name bytes) before after
    → IfKnown before (λ disk past. IsWritten journal disk txs
    → IsNow after (λ now. HasEnded journal.head txs now × SameOthers (name_of journal.head) disk now))
ended_now journal name bytes before after txs named same changed =
    told_weaker before (λ disk past step written. now_changed (with_appended name bytes disk) after step
    (subst (λ now. HasEnded journal.head txs now × SameOthers (name_of journal.head) disk now)
    (sym (extended_as name (name_of journal.head) bytes end_marker disk (named ∙ written.named) same))
    (ended journal disk txs written))) changed

-- a transaction that was pushed changes nothing of what is written
pub pushed_written : (journal after : Journal) (waiting : Packed) (disk : Disk) (txs : List Tx) → SameButPushed (record journal { waiting = waiting }) after
    → IsWritten journal disk txs → IsWritten after disk txs
pushed_written journal after waiting disk txs same written = record {
  fits = rw same.head written.fits;
  kind = rw same.head written.kind;
  named = rw (same.name, same.head) written.named;
  groups = written.groups;
  grouped = written.grouped;
  file = rw same.head written.file;
  no_older = rw same.head written.no_older;
  newest = rw same.head written.newest;
  clock = rw (same.clock, same.head) written.clock;
  long = rw (same.length, same.head) written.long;
  synced = rw same.synced written.synced;
  sound = written.sound;
}
