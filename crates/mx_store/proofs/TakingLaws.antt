-- How the journal goes on: what is taken comes next in it, and what was written is in its file.
use Rattle.std.proofs.Common.{◌≡◌, ℕ, zero, suc, ◌+◌, ◌<◌, Bool, true, false, List, [], ◌∷◌, ◌++◌, length, get_or, take, drop, refl, sum, sym, ap, ◌∙◌, subst, arith}
use Rattle.std.specs.Prelude.{Option, Some, None, is_some}
use Rattle.std.specs.FinMap as finite
use Rattle.std.specs.Cmp.Lexicographic.{bytes_decides}
use Rattle.std.proofs.lemmas.List.{append_assoc, drop_more, take_more, take-append-drop, take_all}
use Rattle.mx_xlog.specs.declared.head.Head.{Head}
use Rattle.mx_outside.specs.Disks.{Disk, File, IfKnown, KnownAlike, synced_file}
use Rattle.mx_row.specs.declared.tx.Tx.{Tx}
use Rattle.mx_schema.specs.State.{State}
use Rattle.mx_model.specs.Answers.{state_after_rows}
use Rattle.mx_row.specs.Clocks.{clock_after, clock_after_one}
use Rattle.mx_directory.specs.Directories.{AllFollow, Continues, ids_in}
use Rattle.mx_files.specs.Names.{is_draft, is_journal, same_bytes}
use Rattle.mx_files.proofs.NameLaws.{draft_is_no_journal, journal_name-is_journal}
use Rattle.mx_model.specs.Bases.{Base}
use Rattle.mx_model.specs.Histories.{History, Took, IsLegal, ledger_of, journal_of}
use Rattle.mx_row.proofs.ClockLaws.{clock_after-append}
use Rattle.mx_serial.proofs.CommitLaws.{commits_follow}
use Rattle.mx_directory.proofs.DirectoryLaws.{continues_same}
use Rattle.mx_journal.specs.declared.journal.Journal.{Journal}
use Rattle.mx_journal.specs.Written.{IsWritten, Waits, file_text, name_of}
use Rattle.mx_images.specs.Changes.{IsNow, SameOthers}
use Rattle.mx_images.proofs.ToldLaws.{told_both, told_now}
use Rattle.mx_images.specs.Fair.{AllDurable}
use Rattle.mx_recover.specs.Durability.{HasNoDraft}
use Rattle.mx_store.specs.Stores.{AllComeNext, JournalHas, taken_of}

-- a journal's file has these transactions, after the files that recover to the base; all journals and names are durable
abbrev pub IsOnDisk : Base → Journal → List Tx → Disk → Type 0
IsOnDisk base journal txs disk =
    IsWritten journal disk txs × Continues base (name_of journal.head) disk.now × AllDurable disk × (disk.older ≡ finite.empty) × HasNoDraft disk

-- ---- transactions that come next

all_come_next : (now : State) (clock : List ℕ) (txs : List Tx) → AllFollow now clock txs → AllComeNext clock txs
all_come_next now clock [] follow = tt
all_come_next now clock (tx ∷ txs) follow =
    (follow.0, follow.2, all_come_next (state_after_rows now tx.rows) (clock_after_one clock tx) txs follow.5)

come_next-drop : (count : ℕ) (clock : List ℕ) (txs : List Tx) → AllComeNext clock txs
    → AllComeNext (clock_after clock (take count txs)) (drop count txs)
come_next-drop zero clock txs next = next
come_next-drop (suc count) clock [] next = tt
come_next-drop (suc count) clock (tx ∷ txs) next = come_next-drop count (clock_after_one clock tx) txs next.2

-- what comes after the next one
pub come_next_more : (clock next : List ℕ) (txs : List Tx) (index : ℕ) (tx : Tx) → index < length txs → tx ≡ get_or txs index tx
    → AllComeNext clock (drop index txs) → next ≡ clock_after_one clock tx → AllComeNext next (drop (index + 1) txs)
come_next_more clock next txs index tx within is rest same =
    let here : drop index txs ≡ tx ∷ drop (index + 1) txs = drop_more txs index tx within ∙ ap (λ t. t ∷ drop (index + 1) txs) (sym is) in
    subst (λ c. AllComeNext c (drop (index + 1) txs)) (sym same) (subst (AllComeNext clock) here rest).2

pub waiting_more : (waits txs : List Tx) (index : ℕ) (tx : Tx) → index < length txs → tx ≡ get_or txs index tx
    → (waits ++ take index txs) ++ tx ∷ [] ≡ waits ++ take (index + 1) txs
waiting_more waits txs index tx within is =
    append_assoc waits (take index txs) (tx ∷ [])
    ∙ ap (λ l. waits ++ l) (ap (λ t. take index txs ++ t ∷ []) is ∙ sym (take_more txs index tx within))

-- ---- what is taken

module _ (base : Base) (history : History) (journal : Journal) (states : Option (List Disk)) (txs : List Tx) (upto : ℕ)
    (has : JournalHas base history journal states) (took : IsLegal base (Took txs upto ∷ history)) where
  -- what an engine hands out is what the journal can be given next
  pub pending_come_next : AllComeNext journal.next txs
  pending_come_next =
      let all = all_come_next base.state base.clock (journal_of base history) (commits_follow base history took.0) in
      let rest = come_next-drop (ledger_of base history).taken base.clock (journal_of base history) all in
      let next : clock_after base.clock (taken_of base history) ≡ journal.next = sym (has.waits.next ∙ has.clock) in
      subst (λ clock. AllComeNext clock txs) next (subst (AllComeNext (clock_after base.clock (taken_of base history))) (sym took.1.0) rest)

  -- all commits once they are taken
  pub all_taken : taken_of base history ++ txs ≡ taken_of base (Took txs upto ∷ history)
  all_taken =
      ap (λ rest. taken_of base history ++ rest) took.1.0
      ∙ take-append-drop (ledger_of base history).taken (journal_of base history)
      ∙ sym (take_all (length (journal_of base history)) (journal_of base history) (omega arith))

-- ---- what is written

same_name : (other name : List ℕ) → same_bytes other name ≡ true → other ≡ name
same_name other name same = (bytes_decides other name).0 same

-- what was written to the journal's file leaves all journals durable
all_on_disk : (journal : Journal) (txs : List Tx) (before after : Disk) → AllDurable before → IsWritten journal after txs
    → SameOthers (name_of journal.head) before after → AllDurable after
all_on_disk journal txs before after all written same name file kind there = by_name (same_bytes name (name_of journal.head)) refl
  where
    by_name : (own : Bool) → same_bytes name (name_of journal.head) ≡ own → (file.synced ≡ length file.bytes) × (finite.get after.older name ≡ None)
    by_name true own =
        let is : name ≡ name_of journal.head = same_name name (name_of journal.head) own in
        let its : file ≡ synced_file (file_text journal.head written.groups) = cc in
        (ap (λ (f : File). f.synced) its ∙ sym (ap (λ (f : File). length f.bytes) its), ap (finite.get after.older) is ∙ written.no_older)
    by_name false other =
        let was = all name file kind (sym (same.files name other) ∙ there) in
        (was.0, ap (λ older. finite.get older name) same.older ∙ was.1)

-- a draft's name isn't a journal's
pub draft_differs : (name own : List ℕ) → is_draft name ≡ true → is_journal own ≡ true → same_bytes name own ≡ false
draft_differs name own draft journal = by_test (same_bytes name own) refl
  where
    by_test : (b : Bool) → same_bytes name own ≡ b → same_bytes name own ≡ false
    by_test false differs = differs
    by_test true same =
        let other : is_journal name ≡ false = draft_is_no_journal name draft in
        let its : is_journal name ≡ true = ap is_journal (same_name name own same) ∙ journal in
        absurd cc

-- where no other file changed, still none waits for its name
pub no_draft_still : (head : Head) (before after : Disk) → SameOthers (name_of head) before after → HasNoDraft before → HasNoDraft after
no_draft_still head before after same none name draft =
    same.files name (draft_differs name (name_of head) draft (journal_name-is_journal (sum head.clock))) ∙ none name draft

-- what was written to the journal's file
written_now : (base : Base) (journal : Journal) (name : List ℕ) (txs : List Tx) (file : File) (before after : Disk) → name ≡ name_of journal.head
    → finite.get before.now name ≡ Some file → Continues base name before.now → AllDurable before → before.older ≡ finite.empty
    → HasNoDraft before → IsWritten journal after txs → SameOthers name before after → IsOnDisk base journal txs after
written_now base journal name txs file before after named there continues all no_older none written same =
    let own = name_of journal.head in
    let others : SameOthers own before after = subst (λ n. SameOthers n before after) named same in
    let was : is_some (finite.get before.now own) ≡ true = ap (λ n. is_some (finite.get before.now n)) (sym named) ∙ ap is_some there in
    let is : is_some (finite.get after.now own) ≡ true = ap is_some written.file in (
      written,
      continues_same base own before.now after.now (subst (λ n. Continues base n before.now) named continues) others.files was is,
      all_on_disk journal txs before after all written others,
      same.older ∙ no_older,
      no_draft_still journal.head before after others none,
    )

-- what the journal's calls made of it: these transactions were pushed, and then written out
pub record WroteOut (old pushed written : Journal) (before after : Option (List Disk)) (txs : List Tx) : Type 0 where
  pub waits : Waits pushed txs
  pub keeps : (disk : Disk) (done : List Tx) → IsWritten old disk done → IsWritten pushed disk done
  pub pushed_head : pushed.head ≡ old.head
  pub pushed_clock : pushed.clock ≡ old.clock
  pub head : written.head ≡ pushed.head
  pub clock : written.clock ≡ pushed.next
  pub none : Waits written []
  pub alike : KnownAlike before after
  pub wrote : (done waits : List Tx) → IfKnown before (λ disk past. IsWritten pushed disk done → Waits pushed waits
      → IsNow after (λ now. IsWritten written now (done ++ waits) × SameOthers (name_of pushed.head) disk now))

module _ (base : Base) (old pushed written : Journal) (before after : Option (List Disk)) (done txs : List Tx)
    (wrote_out : WroteOut old pushed written before after txs) where
  wrote_one : (disk : Disk) → IsOnDisk base old done disk
      → (IsWritten pushed disk done → Waits pushed txs
      → IsNow after (λ now. IsWritten written now (done ++ txs) × SameOthers (name_of pushed.head) disk now))
      → IsNow after (IsOnDisk base written (done ++ txs))
  wrote_one disk was wrote =
      let kept = wrote_out.keeps disk done was.0 in
      let now = wrote kept wrote_out.waits in
      let continues : Continues base (name_of pushed.head) disk.now
      = subst (λ h. Continues base (name_of h) disk.now) (sym wrote_out.pushed_head) was.1 in
      let named : name_of pushed.head ≡ name_of written.head = ap name_of (sym wrote_out.head) in
      let stands = written_now base written (name_of pushed.head) (done ++ txs) (synced_file (file_text pushed.head kept.groups)) disk now.0 named kept.file
      continues was.2 was.3 was.4 now.3.0 now.3.1 in
      (now.0, now.1, now.2, stands)

  pub wrote_told : IfKnown before (λ disk past. IsOnDisk base old done disk) → IfKnown after (λ now past. IsOnDisk base written (done ++ txs) now)
  wrote_told was =
      told_now before after (IsOnDisk base written (done ++ txs)) wrote_out.alike
      (told_both before (λ disk past. wrote_one disk) was (wrote_out.wrote done txs))

-- once what an engine handed out is written, the journal has what was taken with it
pub has_after_take : (base : Base) (history : History) (old pushed written : Journal) (before after : Option (List Disk)) (txs : List Tx) (upto : ℕ)
    → JournalHas base history old before → IsLegal base (Took txs upto ∷ history) → WroteOut old pushed written before after txs
    → JournalHas base (Took txs upto ∷ history) written after
has_after_take base history old pushed written before after txs upto has took wrote_out =
    let done = taken_of base history in
    let all = all_taken base history old before txs upto has took in
    let head = wrote_out.head ∙ wrote_out.pushed_head in
    record {
      begins = ap (λ (h : Head). h.clock) head ∙ has.begins;
      whose = ap ids_in head ∙ has.whose;
      clock = wrote_out.clock ∙ wrote_out.waits.next
          ∙ ap (λ clock. clock_after clock txs) (wrote_out.pushed_clock ∙ has.clock)
          ∙ sym (clock_after-append base.clock done txs)
          ∙ ap (clock_after base.clock) all;
      waits = wrote_out.none;
      written = subst (λ l. IfKnown after (λ now past. IsOnDisk base written l now)) all
          (wrote_told base old pushed written before after done txs wrote_out has.written);
    }
