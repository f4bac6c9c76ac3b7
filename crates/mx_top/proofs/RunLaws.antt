-- What a run says, from its opening on.
use Rattle.std.proofs.Common.{◌≡◌, ℕ, ◌≤◌, List, [], ◌∷◌, ◌++◌, length, take, refl, sym, ap, ◌∙◌, ◌⊎◌, subst, inl, inr, arith, length-append}
use Rattle.std.specs.Prelude.{⊤, Option, Some, None, Result, Ok, Err, IsSomeAnd}
use Rattle.std.proofs.lemmas.List.{append-nil, take_at, take-append-le}
use mathlib.Core.List.{IsPrefix}
use Rattle.mx_outside.specs.Disks.{Disk, IfKnown, KnownAlike}
use Rattle.mx_outside.specs.Moments.{Each, Moments}
use Rattle.mx_row.specs.declared.tx.Tx.{Tx}
use Rattle.mx_directory.specs.Directories.{Origin, AllFollow}
use Rattle.mx_model.specs.Bases.{Base}
use Rattle.mx_model.specs.Histories.{History, IsLegal, journal_of}
use Rattle.mx_row.specs.Clocks.{clock_after}
use Rattle.mx_serial.proofs.CommitLaws.{all_follow-append, commits_follow}
use Rattle.mx_directory.proofs.OnceLaws.{one_state}
use Rattle.mx_directory.proofs.ReadLaws.{reads_survivors}
use Rattle.mx_serial.proofs.OwnCommitLaws.{is_serializable}
use Rattle.mx_images.proofs.MomentLaws.{both_moments, joined, kept}
use Rattle.mx_images.proofs.ToldLaws.{told_both, told_chain, told_then, told_weaker, where_told}
use Rattle.mx_serial.specs.Gate.{confirmed_part}
use Rattle.mx_node.specs.declared.single.Single.{Single}
use Rattle.mx_node.specs.Serving.{Serves}
use Rattle.mx_node.specs.Starts.{Start}
use Rattle.mx_top.specs.Starts.{Begins}
use Rattle.mx_store.specs.Stores.{StepsSurvive}
use Rattle.mx_directory.specs.Survival.{Survive, NoFewerSurvive, IsOfNode, ReadsAll, ReadsMost, StandsAfter, FollowFrom, Recovers, ComeTo, Extend, Lasts}
use Rattle.mx_top.specs.declared.status.Status.{Status}
use Rattle.mx_top.specs.declared.status.Status.TheVariants as status
use Rattle.mx_top.specs.declared.stop.Stop.{Stop}
use Rattle.mx_top.specs.declared.stop.Stop.TheVariants.{BadInput, ReadFault, WriteFault, DiskFault, NoMemory}
use Rattle.mx_top.specs.Progress.{UnitsSeen, status_of}
use Rattle.mx_store.proofs.AgainLaws.{read_recovers}
use Rattle.mx_node.proofs.KeepLaws.{ready_keeps}
use Rattle.mx_store.proofs.StoreLaws.{journal_is_of}
use Rattle.mx_node.specs.Inputs.{InputUnit}
use Rattle.mx_top.specs.TraceOutput.{units_text}
use Rattle.mx_top.specs.Units.{units_of}
use Rattle.mx_top.specs.Runs.{Held, OutputSeen, StillPassedOn, RecoversAlways, RecoversAsItIs, RecoversNow, all_commits, Served, NotOpened, Untouched, RunSeen}

-- what an opening does, said for all that may be committed after it
abbrev pub Opens : Origin → List Tx → (old new : Option (List Disk)) → Type 0
Opens origin earlier old new = (transactions : List Tx) → IsPrefix earlier transactions → FollowFrom origin transactions
    → IfKnown old (λ disk past. Moments (Survive origin transactions 0) (NoFewerSurvive origin transactions) new disk past)
    × IfKnown old (λ disk past. Moments (ReadsMost origin transactions) (λ older newer. ⊤) new disk past)

-- both facts of each moment
both_always : (origin : Origin) (commits : List Tx) (old new : Option (List Disk))
    → IfKnown old (λ disk past. Moments (Survive origin commits 0) (NoFewerSurvive origin commits) new disk past)
    → IfKnown old (λ disk past. Moments (ReadsMost origin commits) (λ older newer. ⊤) new disk past) → RecoversAlways origin commits old new
both_always origin commits old new one other =
    told_both old
    (λ disk past survive reads.
    both_moments (Survive origin commits 0) (ReadsMost origin commits) (NoFewerSurvive origin commits) (λ older newer. ⊤) new disk past survive reads)
    one other

-- ---- the last moment

-- what holds at the beginning and at each moment holds at the last one
at_last : (P : Disk → Type 0) (since : List Disk) (start : Disk) (past : List Disk) → P start → Each P (λ older newer. ⊤) since start
    → IfKnown (Some (since ++ start ∷ past)) (λ disk past. P disk)
at_last P [] start past first each = first
at_last P (disk ∷ since) start past first each = each.0

last_moment : (P : Disk → Type 0) (new : Option (List Disk)) (start : Disk) (past : List Disk) → P start → Moments P (λ older newer. ⊤) new start past
    → IfKnown new (λ disk past. P disk)
last_moment P new start past first moments =
    subst (λ states. IfKnown states (λ disk past. P disk)) (sym moments.told) (at_last P moments.since start past first moments.each)

last_of : (P : Disk → Type 0) (old new : Option (List Disk)) → KnownAlike old new → IfKnown old (λ disk past. P disk)
    → IfKnown old (λ disk past. Moments P (λ older newer. ⊤) new disk past) → IfKnown new (λ disk past. P disk)
last_of P old new alike first moments =
    told_then old new (λ disk past. P disk) alike (told_both old (λ disk past here. last_moment P new disk past here) first moments)

-- at the beginning the directory reads as all that it had
reads_first : {origin : Origin} (earlier more : List Tx) (disk : Disk) → StandsAfter origin earlier disk.now → Survive origin earlier 0 disk
    → ReadsMost origin (earlier ++ more) disk
reads_first {origin} earlier more disk after survive = record {
  count = length earlier;
  within = omega (arith, length-append earlier more);
  reads = subst (λ txs. StandsAfter origin txs disk.now) (sym (take_at earlier more (length earlier) refl)) after;
  most = λ image fair.
      let (count, enough, short, stands) = survive image fair in
      (count, short, subst (λ txs. StandsAfter origin txs image) (sym (take-append-le count earlier more short)) stands);
}

reads_told : {origin : Origin} (earlier more : List Tx) (states : Option (List Disk)) → Recovers origin earlier states
    → IfKnown states (λ disk past. ReadsMost origin (earlier ++ more) disk)
reads_told earlier more states recovers =
    told_weaker states (λ disk past told. reads_first earlier more disk told.0 told.1) recovers.told

-- the transactions of a directory came to what the run begins with
comes : {origin : Origin} (start : Start) (seed : List ℕ) (earlier : List Tx) (disk : Disk) (past : List Disk) → Begins start seed (Some (disk ∷ past))
    → StandsAfter origin earlier disk.now → ComeTo origin earlier start.base
comes start seed earlier disk past begins was =
    let (reached, stands, is) = begins.based in
    let (state, clock, made) = one_state disk.now was.reached reached was.stands stands in
    record {
      made = ap (λ (base : Base). base.earlier) is ∙ sym made ∙ was.made;
      state = sym was.state ∙ state ∙ ap (λ (base : Base). base.state) (sym is);
      clock = sym was.clock ∙ clock ∙ ap (λ (base : Base). base.clock) (sym is);
    }

follow_all : {origin : Origin} (earlier : List Tx) (base : Base) (history : History) → ComeTo origin earlier base → FollowFrom origin earlier
    → IsLegal base history → FollowFrom origin (earlier ++ journal_of base history)
follow_all {origin} earlier base history come follow legal =
    let commits : AllFollow base.state base.clock (journal_of base history) = commits_follow base history legal in
    let state = sym come.state in
    let clock = sym come.clock in record {
      clock = follow.clock;
      each = all_follow-append origin.state origin.clock earlier (journal_of base history) follow.each
          (subst (λ s. AllFollow s (clock_after origin.clock earlier) (journal_of base history)) state
          (subst (λ c. AllFollow base.state c (journal_of base history)) clock commits));
    }

extends : {origin : Origin} (earlier : List Tx) (base : Base) (history : History) → ComeTo origin earlier base → FollowFrom origin earlier
    → IsLegal base history → Extend origin base history (earlier ++ journal_of base history)
extends earlier base history come follow legal = record {
  earlier = earlier;
  comes = come;
  prefix = ([], append-nil (earlier ++ journal_of base history));
  follow = follow_all earlier base history come follow legal;
}

-- what the newest state reads as
read_now : {origin : Origin} (earlier : List Tx) (disk : Disk) (past : List Disk) {states : Option (List Disk)} → states ≡ Some (disk ∷ past)
    → ReadsAll origin earlier states → StandsAfter origin earlier disk.now
read_now {origin} earlier disk past told reads = (subst (ReadsAll origin earlier) told reads).told

-- ---- what the directory recovers

abbrev Recovered : Origin → List Tx → (least : ℕ) → Disk → List Disk → Type 0
Recovered origin commits least disk past =
    (count : ℕ) × (least ≤ count) × (count ≤ length commits) × Recovers origin (take count commits) (Some (disk ∷ past))

module _ (start : Start) (seed : List ℕ) (origin : Origin) (earlier : List Tx) (history : History) (middle new : Option (List Disk))
    (legal : IsLegal start.base history) (lasts : Lasts start.base history middle new) where
  -- at each moment
  always : (old : Option (List Disk)) → Begins start seed old → Recovers origin earlier old → Opens origin earlier old middle
      → RecoversAlways origin (all_commits earlier start.base history) old new
  always None begins recovers opens = tt
  always (Some []) begins recovers opens = tt
  always (Some (disk ∷ past)) begins recovers opens =
      let transactions = all_commits earlier start.base history in
      let all = extends earlier start.base history (comes start seed earlier disk past begins recovers.told.0) recovers.follow legal in
      let opened = opens transactions (journal_of start.base history, refl) all.follow in
      both_always origin transactions (Some (disk ∷ past)) new
      (joined (Survive origin transactions 0) (NoFewerSurvive origin transactions) (Some (disk ∷ past)) middle new opened.0
      (lasts.moments origin transactions all))
      (joined (ReadsMost origin transactions) (λ older newer. ⊤) (Some (disk ∷ past)) middle new opened.1 (lasts.reads origin transactions all))

  -- at the end
  at_the_end : (old : Option (List Disk)) → Begins start seed old → ReadsAll origin earlier old → KnownAlike old middle → (first : History)
      → StepsSurvive start.base history first new
      → RecoversNow origin (all_commits earlier start.base history) (length (all_commits earlier start.base first)) new
  unfolding comes extends
  at_the_end old begins reads alike first kept =
      let transactions = all_commits earlier start.base history in
      let least = length (all_commits earlier start.base first) in
      told_then old new (λ disk past. Survive origin transactions least disk) (told_chain old middle new alike lasts.told)
      (where_told old _ (λ disk past told.
      kept origin transactions
      (extends earlier start.base history (comes start seed earlier disk past (subst (Begins start seed) told begins) (read_now earlier disk past told reads)) reads.follow legal)))

  -- as it is
  as_it_is : (old : Option (List Disk)) → Begins start seed old → ReadsAll origin earlier old → KnownAlike old middle
      → IfKnown middle (λ disk past. Survive origin earlier (length earlier) disk) → (least : ℕ)
      → RecoversNow origin (all_commits earlier start.base history) least new → RecoversAsItIs origin (all_commits earlier start.base history) least new
  as_it_is old begins reads alike opened least survives =
      let transactions = all_commits earlier start.base history in
      let front : IsPrefix earlier transactions = (journal_of start.base history, refl) in
      let at_first = told_weaker middle (λ disk past survive. reads_survivors earlier transactions disk front survive) opened in
      told_then old new (λ disk past. Recovered origin transactions least disk past) (told_chain old middle new alike lasts.told)
      (where_told old _ (λ disk past told.
      let all = extends earlier start.base history
      (comes start seed earlier disk past (subst (Begins start seed) told begins) (read_now earlier disk past told reads)) reads.follow legal in
      told_both new (λ now before survive most. read_recovers origin transactions least now before all.follow survive most) survives
      (last_of (ReadsMost origin transactions) middle new lasts.told at_first (lasts.reads origin transactions all))))

-- all that a directory read as survives once it was opened
abbrev pub AllSurvive : (old middle : Option (List Disk)) → Type 0
AllSurvive old middle = (origin : Origin) (earlier : List Tx) → ReadsAll origin earlier old → IfKnown middle (λ disk past. Survive origin earlier (length earlier) disk)

pub opened_survive : (start : Start) (node : Single) (seed : List ℕ) (old middle : Option (List Disk)) → Begins start seed old → KnownAlike old middle
    → Serves start node [] [] middle → AllSurvive old middle
unfolding comes extends
opened_survive start node seed old middle begins alike serves origin earlier reads =
    told_then old middle (λ disk past. Survive origin earlier (length earlier) disk) alike
    (where_told old _ (λ disk past told.
    subst (λ txs. IfKnown middle (λ disk past. Survive origin txs (length txs) disk)) (append-nil earlier)
    (ready_keeps start.base [] node.engine node.journal middle serves.ready origin (earlier ++ [])
    (extends earlier start.base [] (comes start seed earlier disk past (subst (Begins start seed) told begins) (read_now earlier disk past told reads)) reads.follow
    serves.ready.behind.stands.legal))))

pub opened_is_of : (start : Start) (node : Single) (middle : Option (List Disk)) → Serves start node [] [] middle
    → IfKnown middle (λ disk past. IsOfNode start.base.ids disk)
opened_is_of start node middle serves = journal_is_of start.base [] node.journal middle serves.ready.behind.stands.legal serves.ready.behind.has

-- ---- what a run says

-- the run opened its directory, and answered these units
served : (status : Status) (start : Start) (seed input : List ℕ) (left : Option (List ℕ)) (output now : Held) (old middle new : Option (List Disk))
    → Begins start seed old → KnownAlike old middle → ((origin : Origin) (earlier : List Tx) → Recovers origin earlier old → Opens origin earlier old middle)
    → AllSurvive old middle → IfKnown middle (λ disk past. IsOfNode start.base.ids disk) → UnitsSeen status start input left output now middle new
    → Served status seed input left output now old new
served status start seed input left output now old middle new begins alike opens survive whose seen =
    let stopped = seen.stopped in
    let history = stopped.later ++ seen.answered in
    record {
      start = start;
      begins = begins;
      units = seen.units;
      others = seen.others;
      all = seen.all;
      consumed = seen.consumed;
      answered = seen.answered;
      sent = seen.sent;
      later = stopped.later;
      history = history;
      both = refl;
      legal = stopped.legal;
      serializable = is_serializable start.base history stopped.legal;
      answers = seen.answers;
      steps = stopped.steps;
      are_steps = stopped.are;
      order_later = stopped.ordered;
      gate = seen.gate;
      complete = seen.complete;
      output = seen.written;
      holds = seen.holds;
      whose = last_of (IsOfNode start.base.ids) middle new stopped.lasts.told whose stopped.lasts.whose;
      crash = λ origin earlier recovers.
          always start seed origin earlier history middle new stopped.legal stopped.lasts old begins recovers (opens origin earlier recovers);
      killed = λ origin earlier reads.
          as_it_is start seed origin earlier history middle new stopped.legal stopped.lasts old begins reads alike (survive origin earlier reads)
          (length (all_commits earlier start.base seen.answered))
          (at_the_end start seed origin earlier history middle new stopped.legal stopped.lasts old begins reads alike seen.answered stopped.keep);
      acknowledged = λ origin earlier reads.
          at_the_end start seed origin earlier history middle new stopped.legal stopped.lasts old begins reads alike seen.answered stopped.keep;
      confirmed = λ origin earlier reads.
          at_the_end start seed origin earlier history middle new stopped.legal stopped.lasts old begins reads alike
          (confirmed_part start.base history) stopped.confirmed;
    }

pub served_seen : (ended : Result (Unit {0}) Stop) (start : Start) (seed input : List ℕ) (left : Option (List ℕ)) (output now : Held) (old middle new : Option (List Disk))
    → Begins start seed old → KnownAlike old middle → ((origin : Origin) (earlier : List Tx) → Recovers origin earlier old → Opens origin earlier old middle)
    → AllSurvive old middle → IfKnown middle (λ disk past. IsOfNode start.base.ids disk) → UnitsSeen (status_of ended) start input left output now middle new
    → RunSeen (status_of ended) seed input left output now old new
served_seen (Ok done) start seed input left output now old middle new begins alike opens survive whose seen =
    served status.Ok start seed input left output now old middle new begins alike opens survive whose seen
served_seen (Err (BadInput at)) start seed input left output now old middle new begins alike opens survive whose seen =
    served (status.BadInput at) start seed input left output now old middle new begins alike opens survive whose seen
served_seen (Err ReadFault) start seed input left output now old middle new begins alike opens survive whose seen =
    served status.ReadFault start seed input left output now old middle new begins alike opens survive whose seen
served_seen (Err WriteFault) start seed input left output now old middle new begins alike opens survive whose seen =
    served status.WriteFault start seed input left output now old middle new begins alike opens survive whose seen
served_seen (Err DiskFault) start seed input left output now old middle new begins alike opens survive whose seen =
    inr (served status.DiskFault start seed input left output now old middle new begins alike opens survive whose seen)
served_seen (Err NoMemory) start seed input left output now old middle new begins alike opens survive whose seen =
    inr (served status.NoMemory start seed input left output now old middle new begins alike opens survive whose seen)

-- the directory couldn't be opened
pub not_opened : (input : List ℕ) (left : Option (List ℕ)) (output : Held) (old new : Option (List Disk)) → left ≡ Some input → KnownAlike old new
    → ((origin : Origin) (earlier : List Tx) → Recovers origin earlier old → Opens origin earlier old new) → NotOpened input left output output old new
not_opened input left output old new told alike opens = record {
  consumed = told;
  output = λ before was. was;
  crash = λ origin earlier recovers. let opened = alone origin earlier recovers in both_always origin earlier old new opened.0 opened.1;
  killed = λ origin earlier least recovers held.
      let opened = alone origin earlier recovers in
      let survives : RecoversNow origin earlier least new = told_then old new (λ disk past. Survive origin earlier least disk) alike
      (told_both old
      (λ disk past moments was.
      kept (Survive origin earlier 0) (NoFewerSurvive origin earlier) (Survive origin earlier least) (λ older newer fewer here. fewer least here)
      new disk past moments was)
      opened.0 held) in
      let reads : IfKnown new (λ disk past. ReadsMost origin earlier disk) = last_of (ReadsMost origin earlier) old new alike
      (subst (λ (txs : List Tx). IfKnown old (λ disk past. ReadsMost origin txs disk)) (append-nil earlier) (reads_told earlier [] old recovers)) opened.1 in
      told_both new (λ now before survive most. read_recovers origin earlier least now before recovers.follow survive most) survives reads;
}
  where
    alone : (origin : Origin) (earlier : List Tx) → Recovers origin earlier old
        → IfKnown old (λ disk past. Moments (Survive origin earlier 0) (NoFewerSurvive origin earlier) new disk past)
        × IfKnown old (λ disk past. Moments (ReadsMost origin earlier) (λ older newer. ⊤) new disk past)
    alone origin earlier recovers = opens origin earlier recovers earlier ([], append-nil earlier) recovers.follow

-- nothing was done
pub left_alone : (output : Held) (old new : Option (List Disk)) → new ≡ old → Untouched output output old new
left_alone output old new same = record { output = λ before was. was; directory = same }

-- where the input failed, all of the output for the units that were answered is there
pub all_written : (seed input before : List ℕ) (left : Option (List ℕ)) (output_old output_new : Held) (old new : Option (List Disk))
    → (served : Served status.ReadFault seed input left output_old output_new old new) → output_old.contents ≡ Some before
    → output_new.contents ≡ Some (before ++ units_text served.sent)
all_written seed input before left output_old output_new old new served was = by_contents output_new.contents (served.output before was)
  where
    by_contents : (contents : Option (List ℕ))
        → IsSomeAnd contents (λ after. OutputSeen status.ReadFault served.start served.units served.answered served.history served.sent before after
        output_old.passed output_new.passed)
        → contents ≡ Some (before ++ units_text served.sent)
    by_contents None seen = absurd seen
    by_contents (Some after) seen =
        ap (λ (l : List ℕ). Some l) (seen.output ∙ ap (λ (l : List ℕ). before ++ l) seen.is)

-- and those units are all that stand whole in the bytes that were read
pub all_answered : (seed input : List ℕ) (left : Option (List ℕ)) (output_old output_new : Held) (old new : Option (List Disk))
    → (served : Served status.ReadFault seed input left output_old output_new old new) → (rest : List ℕ) → left ≡ Some rest
    → (read : List ℕ) × (input ≡ read ++ rest) × ((units_of read).0 ≡ served.units)
all_answered seed input left output_old output_new old new served rest told =
    let seen = served.consumed rest told in (
      seen.read,
      seen.all,
      seen.whole ∙ ap (λ (waiting : List InputUnit). served.units ++ waiting) seen.awaited ∙ append-nil served.units,
    )

-- but where the output failed all that it holds was passed on, by the status too
pub passed_by : (ended : Result (Unit {0}) Stop) (told : Status) (passed contents passed_now contents_now : Option (List ℕ)) → told ≡ status_of ended
    → (ended ≡ Err WriteFault) ⊎ StillPassedOn passed contents passed_now contents_now
    → (told ≡ status.WriteFault) ⊎ StillPassedOn passed contents passed_now contents_now
passed_by ended told passed contents passed_now contents_now is (inl failed) = inl (is ∙ ap status_of failed)
passed_by ended told passed contents passed_now contents_now is (inr still) = inr still
