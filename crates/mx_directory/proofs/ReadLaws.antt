-- What a directory recovers to as it reads now, whether it is synced or not.
use Rattle.std.proofs.Common.{◌≡◌, ℕ, ◌≤◌, Bool, true, false, cond, List, [], ◌∷◌, length, take, Option, Some, None, Result, refl, sym, ap, ◌∙◌, subst, arith}
use Rattle.std.specs.Prelude.{⊤, is_some, IfSome}
use Rattle.std.specs.List.{filter, AllByRecursion}
use Rattle.std.specs.Option.{option_map}
use Rattle.std.specs.FinMap as finite
use Rattle.std.proofs.lemmas.List.{take_all}
use mathlib.Core.List.{IsPrefix}
use Rattle.mx_msgpack.proofs.Options.{same_some}
use Rattle.mx_outside.specs.Disks.{Disk, File, Files, IfKnown}
use Rattle.mx_outside.specs.Moments.{Moments}
use Rattle.mx_row.specs.declared.tx.Tx.{Tx}
use Rattle.mx_files.specs.Names.{is_journal, is_snapshot}
use Rattle.mx_images.specs.Changes.{SameContents}
use Rattle.mx_images.specs.Fair.{LeavesNoOther}
use Rattle.mx_images.proofs.ContentLaws.{as_read, contents_back, contents_itself, contents_then, fair_as_read, same_as_read}
use Rattle.mx_images.proofs.MomentLaws.{Steps, both_moments, seen_from, weaker}
use Rattle.mx_images.proofs.ToldLaws.{told_both, told_weaker}
use Rattle.mx_xlog.specs.Files.{ReadsAs}
use Rattle.mx_directory.specs.declared.damage.Damage.{Damage}
use Rattle.mx_directory.specs.Directories.{Named, Reached, ReadAll, Origin, IsDirectoryState, directory_state}
use Rattle.mx_directory.specs.Survival.{FollowFrom, NoFewerSurvive, ReadsMost, StandsAfter, Survive}
use Rattle.mx_directory.proofs.OnceLaws.{counted_once, front_longer}
use Rattle.mx_directory.proofs.DirectoryLaws.{names_of, names_same}
use Rattle.mx_directory.proofs.ImageLaws.{journal_counts, snapshot_counts}

-- ---- files with the same contents recover to the same

is_some_bytes : (file : Option File) → is_some (option_map (λ (f : File). f.bytes) file) ≡ is_some file
is_some_bytes None = refl
is_some_bytes (Some file) = refl

there_alike : (older newer : Option File) → option_map (λ (f : File). f.bytes) newer ≡ option_map (λ (f : File). f.bytes) older → is_some newer ≡ is_some older
there_alike older newer same = sym (is_some_bytes newer) ∙ ap is_some same ∙ is_some_bytes older

bytes_alike : (older newer : Option File) (P : List ℕ → Type 0) → option_map (λ (f : File). f.bytes) newer ≡ option_map (λ (f : File). f.bytes) older
    → IfSome older (λ (f : File). P f.bytes) → IfSome newer (λ (f : File). P f.bytes)
bytes_alike older None P same read = tt
bytes_alike None (Some file) P same read = absurd cc
bytes_alike (Some was) (Some file) P same read = subst P (sym (same_some file.bytes was.bytes same)) read

all_of_kind : (kind : List ℕ → Bool) (names : List (List ℕ)) → AllByRecursion (λ name. kind name ≡ true) (filter kind names)
all_of_kind kind [] = tt
all_of_kind kind (name ∷ names) = by_test (all_of_kind kind names) (kind name) refl
  where
    by_test : AllByRecursion (λ name. kind name ≡ true) (filter kind names) → (b : Bool) → kind name ≡ b
        → AllByRecursion (λ name. kind name ≡ true) (cond b (name ∷ filter kind names) (filter kind names))
    by_test others true is = (is, others)
    by_test others false is = others

reads_alike : (older newer : Files) → SameContents older newer → (journals : List Named)
    → AllByRecursion (λ name. is_journal name ≡ true) (names_of journals) → ReadAll older journals → ReadAll newer journals
reads_alike older newer same [] kinds reads = tt
reads_alike older newer same (file ∷ journals) kinds reads = (
  bytes_alike (finite.get older file.0) (finite.get newer file.0) (λ bytes. ReadsAs bytes file.1) (same file.0 (journal_counts file.0 kinds.0)) reads.0,
  reads_alike older newer same journals kinds.1 reads.1,
)

stands_alike : (older newer : Files) (outcome : Result Reached Damage) → SameContents older newer → IsDirectoryState older outcome → IsDirectoryState newer outcome
stands_alike older newer outcome same state =
    let names = names_same is_journal newer older (λ q journal. there_alike (finite.get older q) (finite.get newer q) (same q (journal_counts q journal))) in
    let snapshots =
    names_same is_snapshot newer older (λ q snapshot. there_alike (finite.get older q) (finite.get newer q) (same q (snapshot_counts q snapshot))) in
    let kinds = subst (AllByRecursion (λ name. is_journal name ≡ true)) (sym state.names) (all_of_kind is_journal (finite.keys older)) in record {
      journals = state.journals;
      names = state.names ∙ sym names;
      each = reads_alike older newer same state.journals kinds state.each;
      is = state.is ∙ ap (λ found. directory_state found state.journals) (sym snapshots);
    }

pub after_alike : {origin : Origin} (transactions : List Tx) (older newer : Files) → SameContents older newer → StandsAfter origin transactions older
    → StandsAfter origin transactions newer
after_alike transactions older newer same after = record {
  reached = after.reached;
  stands = stands_alike older newer _ same after.stands;
  made = after.made;
  state = after.state;
  clock = after.clock;
}

-- ---- what is read is what a crash may leave

-- a bound for what survives is one for what is read
pub least_read : {origin : Origin} (transactions : List Tx) (least : ℕ) (disk : Disk)
    → Survive origin transactions least disk → (m : ReadsMost origin transactions disk) → least ≤ m.count
least_read transactions least disk survive m =
    let (count, enough, short, after) = survive (as_read disk.now) (fair_as_read disk) in
    let same : count ≡ m.count = counted_once transactions count m.count (as_read disk.now) short m.within after
    (after_alike (take m.count transactions) disk.now (as_read disk.now) (same_as_read disk.now) m.reads) in
    omega (arith, enough, same)

-- where all that is read is these, and no more survive
pub reads_these : {origin : Origin} (earlier transactions : List Tx) (disk : Disk) → IsPrefix earlier transactions → StandsAfter origin earlier disk.now
    → Survive origin earlier 0 disk → ReadsMost origin transactions disk
reads_these {origin} earlier transactions disk front after survive =
    let all : take (length earlier) earlier ≡ earlier = take_all (length earlier) earlier (omega arith) in
    let longer = front_longer earlier transactions (length earlier) front (omega arith) in
    record {
      count = length earlier;
      within = longer.1;
      reads = subst (λ txs. StandsAfter origin txs disk.now) (sym all ∙ longer.0) after;
      most = λ image fair.
          let (fewer, none, few, stands) = survive image fair in
          (fewer, few, subst (λ txs. StandsAfter origin txs image) (front_longer earlier transactions fewer front few).0 stands);
    }

-- where all of these survive, they are what is read
pub reads_survivors : {origin : Origin} (earlier transactions : List Tx) (disk : Disk) → IsPrefix earlier transactions
    → Survive origin earlier (length earlier) disk → ReadsMost origin transactions disk
reads_survivors {origin} earlier transactions disk front survive =
    let (count, enough, few, after) = survive (as_read disk.now) (fair_as_read disk) in
    let all : take count earlier ≡ earlier = take_all count earlier enough in
    reads_these earlier transactions disk front
    (after_alike earlier (as_read disk.now) disk.now (contents_back disk.now (as_read disk.now) (same_as_read disk.now))
    (subst (λ txs. StandsAfter origin txs (as_read disk.now)) all after))
    (λ image fair. let (count, enough, few, after) = survive image fair in (count, omega arith, few, after))

-- ---- the states of calls

-- the directory reads as a prefix of the transactions at each moment, and no more survive
abbrev pub ReadMost : Origin → List Tx → (old new : Option (List Disk)) → Type 0
ReadMost origin transactions old new = IfKnown old (λ disk past. Moments (ReadsMost origin transactions) (λ older newer. ⊤) new disk past)

-- calls since which a crash leaves nothing new, and which change no contents
pub clean_reads_most : (origin : Origin) (earlier transactions : List Tx) (old new : Option (List Disk)) → IsPrefix earlier transactions
    → IfKnown old (λ disk past. StandsAfter origin earlier disk.now × Survive origin earlier 0 disk)
    → IfKnown old (λ disk past. Moments (LeavesNoOther disk) LeavesNoOther new disk past)
    → Steps (λ older newer. SameContents older.now newer.now) old new → ReadMost origin transactions old new
clean_reads_most origin earlier transactions old new front recovers leaves reads =
    told_both old by_steps recovers (told_both old (λ disk past one other. (one, other)) leaves reads)
  where
    Alike : Disk → Disk → Type 0
    Alike older newer = SameContents older.now newer.now

    by_steps : (disk : Disk) (past : List Disk) → StandsAfter origin earlier disk.now × Survive origin earlier 0 disk
        → Moments (LeavesNoOther disk) LeavesNoOther new disk past × Moments (λ state. ⊤) Alike new disk past
        → Moments (ReadsMost origin transactions) (λ older newer. ⊤) new disk past
    by_steps disk past known steps =
        weaker (λ next here. reads_these earlier transactions next front (after_alike earlier disk.now next.now here.1 known.0)
        (λ image fair. known.1 image (here.0 image fair)))
        (λ older newer here step. tt) new disk past
        (both_moments (LeavesNoOther disk) (Alike disk) LeavesNoOther Alike new disk past steps.0
        (seen_from Alike (λ disk. contents_itself disk.now) (λ first second third. contents_then first.now second.now third.now) (λ state. ⊤)
        new disk past steps.1))

-- calls of which all of these survive
pub survivors_read : (origin : Origin) (earlier transactions : List Tx) (old new : Option (List Disk)) → IsPrefix earlier transactions
    → IfKnown old (λ disk past. Moments (Survive origin earlier (length earlier)) (NoFewerSurvive origin earlier) new disk past)
    → ReadMost origin transactions old new
survivors_read origin earlier transactions old new front = told_weaker old (λ disk past.
    weaker (λ next. reads_survivors earlier transactions next front) (λ older newer here step. tt) new disk past)
