-- What crates above take from here: what a journal and its directory have of a history, and what survives while steps are made.
use Rattle.std.proofs.Common.{◌≡◌, ℕ, zero, suc, ◌+◌, ◌-◌, ◌≤◌, List, [], ◌∷◌, ◌++◌, length, take, drop, refl, sym, ap, ◌∙◌, subst, arith, length-append}
use Rattle.std.specs.Prelude.{⊤, Option, is_some}
use Rattle.std.specs.List.{Contains}
use Rattle.std.proofs.lemmas.List.{append-nil, append_assoc, length-take-le, take-append-drop, take-append-le, take_all}
use Rattle.std.proofs.Math.Seq.{drop-append-add}
use Rattle.mx_outside.specs.Disks.{Disk, IfKnown, KnownAlike}
use Rattle.mx_outside.specs.Moments.{Moments}
use Rattle.mx_row.specs.declared.tx.Tx.{Tx}
use Rattle.mx_row.specs.Clocks.{clock_after}
use Rattle.mx_directory.specs.Directories.{Origin}
use Rattle.mx_model.specs.Bases.{Base}
use Rattle.mx_model.specs.Histories.{History, Asked, Left, Took, Confirmed, Looked, IsLegal, journal_of, ledger_of}
use Rattle.mx_model.proofs.HistoryLaws.{commits_of, durable-asked, journal_of-asked, steps_of_ledger, taken-asked, taken_within, takes-asked}
use Rattle.mx_serial.specs.Gate.{confirmed_part}
use Rattle.mx_serial.proofs.CommitLaws.{commits_follow}
use Rattle.mx_journal.specs.declared.journal.Journal.{Journal}
use Rattle.mx_journal.specs.Crashes.{HasAtLeast, HasMost, NoFewer}
use Rattle.mx_journal.specs.Written.{IsWritten, Waits, name_of}
use Rattle.mx_images.proofs.MomentLaws.{no_moments, joined, kept, weaker}
use Rattle.mx_images.proofs.ToldLaws.{told_both, told_then, told_weaker}
use Rattle.mx_directory.specs.Survival.{Survive, NoFewerSurvive, IsOfNode, ReadsMost, Extend, Lasts}
use Rattle.mx_store.specs.Stores.{JournalHas, StepsSurvive, TakesNone, taken_of}
use Rattle.mx_store.proofs.TakingLaws.{IsOnDisk}
use Rattle.mx_store.proofs.WritingLaws.{GoesOn, IsMoment, Served, Writes, as_it_was, has_written, lasting, moment_is_of, reading, survives}

-- ---- steps that take nothing

-- they leave what was taken
taken_still : (base : Base) (more history : History) → TakesNone more → taken_of base (more ++ history) ≡ taken_of base history
taken_still base [] history none = refl
taken_still base (Asked name ask reply ∷ more) history none =
    let before = more ++ history in
    let ledger = ledger_of base before in
    ap (λ (count : ℕ). take count (journal_of base (Asked name ask reply ∷ before))) (taken-asked ledger name ask reply)
    ∙ ap (take ledger.taken) (journal_of-asked base name ask reply before)
    ∙ take-append-le ledger.taken (journal_of base before) (commits_of ledger name ask reply) (taken_within base before)
    ∙ taken_still base more history none
taken_still base (Left connection ∷ more) history none = taken_still base more history none
taken_still base (Took transactions upto ∷ more) history none = absurd none
taken_still base (Confirmed upto ∷ more) history none = absurd none
taken_still base (Looked ∷ more) history none = taken_still base more history none

-- the journal has the same of two histories of which the same was taken
has_same : (base : Base) (history other : History) (journal : Journal) (states : Option (List Disk)) → taken_of base history ≡ taken_of base other
    → JournalHas base history journal states → JournalHas base other journal states
has_same base history other journal states same has = record {
  begins = has.begins;
  whose = has.whose;
  clock = has.clock ∙ ap (clock_after base.clock) same;
  waits = has.waits;
  written = subst (λ txs. IfKnown states (λ disk past. IsOnDisk base journal txs disk)) same has.written;
}

-- requests, disconnects and looks change nothing of what is written
pub has_still : (base : Base) (more history : History) (journal : Journal) (states : Option (List Disk)) → IsLegal base (more ++ history) → TakesNone more
    → JournalHas base history journal states → JournalHas base (more ++ history) journal states
has_still base more history journal states legal none has =
    has_same base history (more ++ history) journal states (sym (taken_still base more history none)) has

-- nor does a confirmation
pub has_confirmed : (base : Base) (history : History) (upto : ℕ) (journal : Journal) (states : Option (List Disk)) → IsLegal base (Confirmed upto ∷ history)
    → JournalHas base history journal states → JournalHas base (Confirmed upto ∷ history) journal states
has_confirmed base history upto journal states legal has = has_same base history (Confirmed upto ∷ history) journal states refl has

-- ---- what survives, and what the journal's calls leave

goes_by : (base : Base) (history : History) (journal : Journal) (states : Option (List Disk)) (disk : Disk) → IsLegal base history
    → JournalHas base history journal states → IsOnDisk base journal (taken_of base history) disk
    → GoesOn base journal.head (journal_of base history) disk
goes_by base history journal states disk legal has (written, continues, synced, no_older, none) = record {
  begins = has.begins;
  whose = has.whose;
  kind = written.kind;
  there = ap is_some written.file;
  continues = continues;
  synced = synced;
  no_older = no_older;
  follow = commits_follow base history legal;
}

served_by : (base : Base) (history : History) (journal : Journal) (states : Option (List Disk)) (disk : Disk) → IsLegal base history
    → JournalHas base history journal states → IsOnDisk base journal (taken_of base history) disk
    → {origin : Origin} (transactions : List Tx) → (all : Extend origin base history transactions)
    → Served origin base journal.head (journal_of base history) all.earlier transactions disk
served_by base history journal states disk legal has on_disk transactions all = record {
  goes = goes_by base history journal states disk legal has on_disk;
  comes = all.comes;
  front = all.prefix;
  from_origin = all.follow;
}

-- the journal's file has what was taken
has_taken : (base : Base) (history : History) (journal : Journal) (disk : Disk) → IsWritten journal disk (taken_of base history)
    → HasAtLeast journal.head (journal_of base history) (length (taken_of base history)) disk
has_taken base history journal disk written =
    let all = take-append-drop (ledger_of base history).taken (journal_of base history) in
    subst (λ txs. HasAtLeast journal.head txs (length (taken_of base history)) disk) all (has_written journal disk (taken_of base history) _ written)

-- after any crash the directory recovers at least what was taken
pub journal_keeps : (base : Base) (history : History) (journal : Journal) (states : Option (List Disk)) → IsLegal base history
    → JournalHas base history journal states → (origin : Origin) (transactions : List Tx) → (all : Extend origin base history transactions)
    → IfKnown states (λ disk past. Survive origin transactions (length (all.earlier ++ taken_of base history)) disk)
journal_keeps base history journal states legal has origin transactions all =
    let taken = taken_of base history in
    told_weaker states (λ disk past on_disk.
    subst (λ (least : ℕ). Survive origin transactions least disk) (sym (length-append all.earlier taken))
    (survives base journal.head (journal_of base history) all.earlier transactions disk
    (served_by base history journal states disk legal has on_disk transactions all) disk (length taken)
    (as_it_was (name_of journal.head) disk, has_taken base history journal disk on_disk.0)))
    has.written

-- so the first steps survive whose commits were taken
pub taken_survive : (base : Base) (history first : History) (journal : Journal) (states : Option (List Disk)) → IsLegal base history
    → JournalHas base history journal states → length (journal_of base first) ≤ (ledger_of base history).taken → StepsSurvive base history first states
taken_survive base history first journal states legal has were = λ origin transactions all.
    let taken = taken_of base history in
    let long = length-take-le (ledger_of base history).taken (journal_of base history) (taken_within base history) in
    told_weaker states
    (λ disk past survive. λ image fair.
    let (count, enough, short, after) = survive image fair in
    (count, omega (arith, were, long, enough, length-append all.earlier taken, length-append all.earlier (journal_of base first)), short, after))
    (journal_keeps base history journal states legal has origin transactions all)

-- and it is of the base's node
pub journal_is_of : (base : Base) (history : History) (journal : Journal) (states : Option (List Disk)) → IsLegal base history
    → JournalHas base history journal states → IfKnown states (λ disk past. IsOfNode base.ids disk)
journal_is_of base history journal states legal has =
    told_weaker states (λ disk past on_disk.
    moment_is_of base journal.head (journal_of base history) disk (goes_by base history journal states disk legal has on_disk)
    (length (taken_of base history)) disk (as_it_was (name_of journal.head) disk, has_taken base history journal disk on_disk.0))
    has.written

-- a call of the journal, at each moment of which its file has a prefix of the commits, and no fewer than were taken
pub call_lasts : (base : Base) (history : History) (journal : Journal) (old new : Option (List Disk)) → IsLegal base history
    → JournalHas base history journal old → KnownAlike old new
    → IfKnown old (λ disk past. IsWritten journal disk (taken_of base history)
    → Writes journal.head (journal_of base history) (length (taken_of base history)) disk new past)
    → Lasts base history old new
call_lasts base history journal old new legal has alike writes = record {
  told = alike;
  moments = λ origin transactions all.
      told_both old (λ disk past on_disk shown.
      lasting base journal.head (journal_of base history) all.earlier transactions disk
      (served_by base history journal old disk legal has on_disk transactions all) (length (taken_of base history)) new past
      (has_taken base history journal disk on_disk.0) (shown on_disk.0).0)
      has.written writes;
  reads = λ origin transactions all.
      told_both old (λ disk past on_disk shown.
      reading base journal.head (journal_of base history) all.earlier transactions disk
      (served_by base history journal old disk legal has on_disk transactions all) (length (taken_of base history)) new past
      (shown on_disk.0))
      has.written writes;
  whose = told_both old (λ disk past on_disk shown.
      weaker (moment_is_of base journal.head (journal_of base history) disk (goes_by base history journal old disk legal has on_disk)
      (length (taken_of base history))) (λ older newer here step. tt) new disk past (shown on_disk.0).0)
      has.written writes;
}

-- writing out what an engine handed out, in a journal that it was pushed to
pub write_out_lasts : (base : Base) (history : History) (journal pushed : Journal) (old new : Option (List Disk)) (txs : List Tx) (upto : ℕ)
    → JournalHas base history journal old → KnownAlike old new → IsLegal base (Took txs upto ∷ history) → Waits pushed txs
    → ((disk : Disk) (done : List Tx) → IsWritten journal disk done → IsWritten pushed disk done) → pushed.head ≡ journal.head
    → ((done waits : List Tx) → IfKnown old (λ disk past. IsWritten pushed disk done → Waits pushed waits
    → Moments (IsMoment pushed.head (done ++ waits) (length done) disk) (NoFewer pushed.head (done ++ waits)) new disk past))
    → ((done waits : List Tx) → IfKnown old (λ disk past. IsWritten pushed disk done → Waits pushed waits
    → Moments (HasMost pushed.head (done ++ waits)) (λ older newer. ⊤) new disk past))
    → Lasts base history old new
write_out_lasts base history journal pushed old new txs upto has alike took waits keeps head moments reads =
    let taken = taken_of base history in
    let all : taken ++ txs ≡ journal_of base history =
    ap (λ rest. taken ++ rest) took.1.0 ∙ take-append-drop (ledger_of base history).taken (journal_of base history) in
    call_lasts base history journal old new took.0 has alike
    (told_both old (λ disk past shown most written.
    subst (λ l. Writes journal.head l (length taken) disk new past) all
    (subst (λ h. Writes h (taken ++ txs) (length taken) disk new past) head
    (shown (keeps disk taken written) waits, most (keeps disk taken written) waits)))
    (moments taken txs) (reads taken txs))

-- ending the journal once all commits were taken
pub end_lasts : (base : Base) (history : History) (journal : Journal) (old new : Option (List Disk)) → IsLegal base history
    → JournalHas base history journal old → (ledger_of base history).taken ≡ length (journal_of base history) → KnownAlike old new
    → ((txs : List Tx) → IfKnown old (λ disk past. IsWritten journal disk txs
    → Moments (IsMoment journal.head txs (length txs) disk) (NoFewer journal.head txs) new disk past))
    → ((txs : List Tx) → IfKnown old (λ disk past. IsWritten journal disk txs → Moments (HasMost journal.head txs) (λ older newer. ⊤) new disk past))
    → Lasts base history old new
end_lasts base history journal old new legal has were alike moments reads =
    let taken = taken_of base history in
    let all : taken ≡ journal_of base history =
    ap (λ n. take n (journal_of base history)) were ∙ take_all (length (journal_of base history)) (journal_of base history) (omega arith) in
    call_lasts base history journal old new legal has alike
    (told_both old (λ disk past shown most written.
    subst (λ l. Writes journal.head l (length taken) disk new past) all (shown written, most written))
    (moments taken) (reads taken))

-- ---- what a longer history has

pub journal_grows : (base : Base) (more history : History) → (others : List Tx) × (journal_of base (more ++ history) ≡ journal_of base history ++ others)
journal_grows base [] history = ([], sym (append-nil (journal_of base history)))
journal_grows base (Asked name ask reply ∷ more) history =
    let (others, is) = journal_grows base more history in
    let new = commits_of (ledger_of base (more ++ history)) name ask reply in
    (others ++ new, journal_of-asked base name ask reply (more ++ history) ∙ ap (λ l. l ++ new) is ∙ append_assoc (journal_of base history) others new)
journal_grows base (Left connection ∷ more) history = journal_grows base more history
journal_grows base (Took transactions upto ∷ more) history = journal_grows base more history
journal_grows base (Confirmed upto ∷ more) history = journal_grows base more history
journal_grows base (Looked ∷ more) history = journal_grows base more history

-- an earlier part of a history committed no more
pub part_commits : (base : Base) (count : ℕ) (history : History) → length (journal_of base (drop count history)) ≤ length (journal_of base history)
part_commits base count history =
    let (others, is) = journal_grows base (take count history) (drop count history) in
    let whole : journal_of base history ≡ journal_of base (drop count history) ++ others =
    ap (journal_of base) (sym (take-append-drop count history)) ∙ is in
    omega (arith, ap length whole, length-append (journal_of base (drop count history)) others)

-- transactions that extend a history extend its earlier part
pub extend_earlier : {origin : Origin} (base : Base) (more history : History) (transactions : List Tx) → Extend origin base (more ++ history) transactions
    → Extend origin base history transactions
extend_earlier base more history transactions all =
    let (others, is) = journal_grows base more history in
    let journal = journal_of base history in
    record {
      earlier = all.earlier;
      comes = all.comes;
      prefix = (
        others ++ all.prefix.0,
        sym (append_assoc (all.earlier ++ journal) others all.prefix.0)
            ∙ ap (λ l. l ++ all.prefix.0) (append_assoc all.earlier journal others ∙ ap (λ l. all.earlier ++ l) (sym is))
            ∙ all.prefix.1,
      );
      follow = all.follow;
    }

-- ---- what lasts

pub lasts_none : (base : Base) (history : History) (states : Option (List Disk)) → Lasts base history states states
lasts_none base history states = record {
  told = (λ told. told, λ told. told);
  moments = λ origin transactions all. no_moments (λ disk. Survive origin transactions 0) (NoFewerSurvive origin transactions) states;
  reads = λ origin transactions all. no_moments (λ disk. ReadsMost origin transactions) (λ older newer. ⊤) states;
  whose = no_moments (λ disk. IsOfNode base.ids) (λ older newer. ⊤) states;
}

pub lasts_longer : (base : Base) (more history : History) (old new : Option (List Disk)) → Lasts base history old new → Lasts base (more ++ history) old new
lasts_longer base more history old new lasts = record {
  told = lasts.told;
  moments = λ origin transactions all. lasts.moments origin transactions (extend_earlier base more history transactions all);
  reads = λ origin transactions all. lasts.reads origin transactions (extend_earlier base more history transactions all);
  whose = lasts.whose;
}

pub lasts_on : (base : Base) (more history : History) (old middle new : Option (List Disk)) → Lasts base history old middle
    → Lasts base (more ++ history) middle new → Lasts base (more ++ history) old new
lasts_on base more history old middle new one two = record {
  told = (λ told. two.told.0 (one.told.0 told), λ told. one.told.1 (two.told.1 told));
  moments = λ origin transactions all. joined (Survive origin transactions 0) (NoFewerSurvive origin transactions) old middle new
      (one.moments origin transactions (extend_earlier base more history transactions all)) (two.moments origin transactions all);
  reads = λ origin transactions all. joined (ReadsMost origin transactions) (λ older newer. ⊤) old middle new
      (one.reads origin transactions (extend_earlier base more history transactions all)) (two.reads origin transactions all);
  whose = joined (IsOfNode base.ids) (λ older newer. ⊤) old middle new one.whose two.whose;
}

told_kept : (P Q : Disk → Type 0) (R : Disk → Disk → Type 0) → ((older newer : Disk) → R older newer → Q older → Q newer)
    → (old new : Option (List Disk)) → KnownAlike old new → IfKnown old (λ disk past. Moments P R new disk past) → IfKnown old (λ disk past. Q disk)
    → IfKnown new (λ disk past. Q disk)
told_kept P Q R keeps old new alike moments holds =
    told_then old new (λ disk past. Q disk) alike (told_both old (λ disk past. kept P R Q keeps new disk past) moments holds)

-- ---- what is kept

pub keep_longer : (base : Base) (more history first : History) (states : Option (List Disk)) → StepsSurvive base history first states → StepsSurvive base (more ++ history) first states
unfolding extend_earlier
keep_longer base more history first states keep = λ origin transactions all. keep origin transactions (extend_earlier base more history transactions all)

pub keep_on : (base : Base) (history first : History) (old new : Option (List Disk)) → StepsSurvive base history first old → Lasts base history old new
    → StepsSurvive base history first new
keep_on base history first old new keep lasts = λ origin transactions all.
    let least = length (all.earlier ++ journal_of base first) in
    told_kept (Survive origin transactions 0) (Survive origin transactions least) (NoFewerSurvive origin transactions) (λ older newer no_fewer held. no_fewer least held)
    old new lasts.told (lasts.moments origin transactions all) (keep origin transactions all)

-- the steps among which all commits are durable still are, where fewer of them are meant
pub fewer_steps : (base : Base) (whole first fewer : History) (states : Option (List Disk)) → length (journal_of base fewer) ≤ length (journal_of base first)
    → StepsSurvive base whole first states → StepsSurvive base whole fewer states
fewer_steps base whole first fewer states shorter keep = λ origin transactions all.
    told_weaker states
    (λ disk past survive. λ image fair.
    let (count, enough, short, after) = survive image fair in
    (count, omega (arith, shorter, enough, length-append all.earlier (journal_of base first), length-append all.earlier (journal_of base fewer)), short, after))
    (keep origin transactions all)

-- ---- how many steps are confirmed

-- a take names no step that wasn't made
steps_within : (base : Base) (history : History) → IsLegal base history → (upto : ℕ) → Contains (ledger_of base history).takes upto → upto ≤ length history
steps_within base [] legal upto (place, inside, is) = absurd (omega (arith, inside))
steps_within base (Asked name ask reply ∷ earlier) legal upto is =
    let l = steps_within base earlier legal.0 upto (subst (λ takes. Contains takes upto) (takes-asked (ledger_of base earlier) name ask reply) is) in omega (arith, l)
steps_within base (Left connection ∷ earlier) legal upto is = let l = steps_within base earlier legal.0 upto is in omega (arith, l)
steps_within base (Took transactions steps ∷ earlier) (legal, follows) upto (zero, inside, is) =
    let named : steps ≡ length earlier = follows.1 ∙ steps_of_ledger base earlier in
    let same : steps ≡ upto = is in
    omega (arith, named, same)
steps_within base (Took transactions steps ∷ earlier) (legal, follows) upto (suc place, inside, is) =
    let l = steps_within base earlier legal upto (place, omega (arith, inside), is) in omega (arith, l)
steps_within base (Confirmed steps ∷ earlier) legal upto is = let l = steps_within base earlier legal.0 upto is in omega (arith, l)
steps_within base (Looked ∷ earlier) legal upto is = let l = steps_within base earlier legal.0 upto is in omega (arith, l)

pub durable_within : (base : Base) (history : History) → IsLegal base history → (ledger_of base history).durable ≤ length history
durable_within base [] legal = omega arith
durable_within base (Asked name ask reply ∷ earlier) legal =
    let l = durable_within base earlier legal.0 in omega (arith, l, durable-asked (ledger_of base earlier) name ask reply)
durable_within base (Left connection ∷ earlier) legal = let l = durable_within base earlier legal.0 in omega (arith, l)
durable_within base (Took transactions upto ∷ earlier) legal = let l = durable_within base earlier legal.0 in omega (arith, l)
durable_within base (Looked ∷ earlier) legal = let l = durable_within base earlier legal.0 in omega (arith, l)
durable_within base (Confirmed upto ∷ earlier) legal =
    let l = durable_within base earlier legal.0 in
    let s = steps_within base earlier legal.0 upto legal.1 in
    omega (arith, l, s)

-- what is confirmed is among the first steps, where no more of them are
pub confirmed_commits : (base : Base) (later first : History) → (ledger_of base (later ++ first)).durable ≤ length first
    → length (journal_of base (confirmed_part base (later ++ first))) ≤ length (journal_of base first)
confirmed_commits base later first within =
    let history = later ++ first in
    let left = length history - (ledger_of base history).durable in
    let parts = length-append later first in
    let past : length later ≤ left = omega (arith, within, parts) in
    let split : left ≡ length later + (left - length later) = omega (arith, past) in
    let same : drop left history ≡ drop (left - length later) first =
    ap (λ (n : ℕ). drop n history) split ∙ drop-append-add later first (left - length later) in
    let fewer = part_commits base (left - length later) first in
    omega (arith, ap (λ (h : History). length (journal_of base h)) same, fewer)
