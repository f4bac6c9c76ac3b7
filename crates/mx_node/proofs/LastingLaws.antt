-- Where a call stops, and what survives then.
use Rattle.std.proofs.Common.{◌≡◌, ◌+◌, ◌≤◌, List, [], ◌++◌, length, refl, sym, ap, ◌∙◌, subst, arith, length-append}
use Rattle.std.specs.Prelude.{Option, Result, Ok, Err, OnErr}
use Rattle.std.proofs.lemmas.List.{append-nil, append_assoc}
use mathlib.Core.List.{IsPrefix}
use Rattle.mx_outside.specs.Disks.{Disk}
use Rattle.mx_model.specs.Bases.{Base}
use Rattle.mx_model.specs.Histories.{History, IsLegal, journal_of, ledger_of}
use Rattle.mx_serial.specs.Order.{Step, order_in}
use Rattle.mx_serial.specs.Gate.{confirmed_part}
use Rattle.mx_directory.specs.Survival.{Lasts}
use Rattle.mx_store.specs.Stores.{StepsSurvive}
use Rattle.mx_store.proofs.StoreLaws.{confirmed_commits, durable_within, fewer_steps, journal_grows, keep_longer, keep_on, lasts_longer, lasts_none, lasts_on}
use Rattle.mx_node.specs.Interrupted.{IsInterrupted}

prefix_on : {X : Type 0} (xs ys zs : List X) → IsPrefix xs ys → IsPrefix ys zs → IsPrefix xs zs
prefix_on xs ys zs (rest, is) (more, on) = (rest ++ more, sym (append_assoc xs rest more) ∙ ap (λ l. l ++ more) is ∙ on)

pub where_err : {T E P : Type 0} (result : Result T E) → P → OnErr result P
where_err (Ok value) shown = tt
where_err (Err error) shown = shown

-- the steps may be these alone
abbrev pub Only : List Step → List Step → Type 0
Only order steps = steps ≡ order

-- all that these first steps committed is durable, and no later step is confirmed
breaks_at_first : (base : Base) (later first history : History) (order : List Step) (old new : Option (List Disk)) → IsLegal base (later ++ first)
    → IsPrefix (order_in (later ++ first)) order → (ledger_of base (later ++ first)).durable ≤ length first → Lasts base (later ++ first) old new
    → StepsSurvive base (later ++ first) first new → (more : History) → first ≡ more ++ history → IsInterrupted base history (Only order) old new
breaks_at_first base later first history order old new legal ordered within lasts keep more is =
    let all : later ++ first ≡ (later ++ more) ++ history = ap (λ (h : History). later ++ h) is ∙ sym (append_assoc later more history) in
    let (others, grows) = journal_grows base more history in
    let shorter : length (journal_of base history) ≤ length (journal_of base first) =
    omega (arith, ap (λ (h : History). length (journal_of base h)) is, ap length grows, length-append (journal_of base history) others) in
    record {
      later = later ++ more;
      legal = subst (λ (h : History). IsLegal base h) all legal;
      steps = order;
      are = refl;
      ordered = subst (λ (h : History). IsPrefix (order_in h) order) all ordered;
      lasts = subst (λ (h : History). Lasts base h old new) all lasts;
      keep = subst (λ (h : History). StepsSurvive base h history new) all
          (fewer_steps base (later ++ first) first history new shorter keep);
      confirmed = subst (λ (h : History). StepsSurvive base h (confirmed_part base h) new) all
          (fewer_steps base (later ++ first) first (confirmed_part base (later ++ first)) new (confirmed_commits base later first within) keep);
    }

-- all that was committed is durable
pub breaks_now : (base : Base) (more history : History) (order : List Step) (old new : Option (List Disk)) → IsLegal base (more ++ history)
    → IsPrefix (order_in (more ++ history)) order → Lasts base (more ++ history) old new → StepsSurvive base (more ++ history) (more ++ history) new
    → IsInterrupted base history (Only order) old new
breaks_now base more history order old new legal ordered lasts keep =
    breaks_at_first base [] (more ++ history) history order old new legal ordered (durable_within base (more ++ history) legal) lasts keep more refl

-- nothing was done
pub breaks_none : (base : Base) (history : History) (order : List Step) (states : Option (List Disk)) → IsLegal base history
    → StepsSurvive base history history states → IsInterrupted base history (Only (order_in history ++ order)) states states
breaks_none base history order states legal keep =
    breaks_now base [] history (order_in history ++ order) states states legal (order, refl) (lasts_none base history states) keep

-- what these steps committed may not be durable, and none of them is confirmed
pub breaks_in : (base : Base) (more history : History) (order : List Step) (old new : Option (List Disk)) → IsLegal base (more ++ history)
    → IsPrefix (order_in (more ++ history)) order → (ledger_of base (more ++ history)).durable ≤ length history → Lasts base (more ++ history) old new
    → StepsSurvive base history history old → IsInterrupted base history (Only order) old new
breaks_in base more history order old new legal ordered within lasts keep =
    breaks_at_first base more history history order old new legal ordered within lasts
    (keep_on base (more ++ history) history old new (keep_longer base more history history old keep) lasts) [] refl

-- steps were made before those at which the call stopped
pub breaks_on : (base : Base) (more history : History) (AreSteps : List Step → Type 0) (old middle new : Option (List Disk))
    → Lasts base (more ++ history) old middle → IsInterrupted base (more ++ history) AreSteps middle new → IsInterrupted base history AreSteps old new
breaks_on base more history AreSteps old middle new lasts b =
    let first = more ++ history in
    let steps = b.later ++ first in
    let all : steps ≡ (b.later ++ more) ++ history = sym (append_assoc b.later more history) in
    let on : Lasts base steps old new = lasts_on base [] steps old middle new (lasts_longer base b.later first old middle lasts) b.lasts in
    let (others, grows) = journal_grows base more history in
    let shorter : length (journal_of base history) ≤ length (journal_of base first) =
    omega (arith, ap length grows, length-append (journal_of base history) others) in
    record {
      later = b.later ++ more;
      legal = subst (λ (h : History). IsLegal base h) all b.legal;
      steps = b.steps;
      are = b.are;
      ordered = subst (λ (h : History). IsPrefix (order_in h) b.steps) all b.ordered;
      lasts = subst (λ (h : History). Lasts base h old new) all on;
      keep = subst (λ (h : History). StepsSurvive base h history new) all (fewer_steps base steps first history new shorter b.keep);
      confirmed = subst (λ (h : History). StepsSurvive base h (confirmed_part base h) new) all b.confirmed;
    }

-- the steps may also be others that begin with these
pub breaks_among : (base : Base) (history : History) (order : List Step) (AreSteps : List Step → Type 0) (steps : List Step) (old new : Option (List Disk))
    → IsPrefix order steps → AreSteps steps → IsInterrupted base history (Only order) old new → IsInterrupted base history AreSteps old new
breaks_among base history order AreSteps steps old new among are b = record {
  later = b.later;
  legal = b.legal;
  steps = steps;
  are = are;
  ordered = prefix_on _ order steps (subst (IsPrefix (order_in (b.later ++ history))) b.are b.ordered) among;
  lasts = b.lasts;
  keep = b.keep;
  confirmed = b.confirmed;
}

-- or be called otherwise
pub breaks_as : (base : Base) (history : History) (order : List Step) (AreSteps : List Step → Type 0) (old new : Option (List Disk)) → AreSteps order
    → IsInterrupted base history (Only order) old new → IsInterrupted base history AreSteps old new
breaks_as base history order AreSteps old new are b = breaks_among base history order AreSteps order old new ([], append-nil order) are b

-- the same of steps that were made after the history, all of which are durable
pub breaks_after : (base : Base) (more history : History) (order : List Step) (AreSteps : List Step → Type 0) (old new : Option (List Disk)) → AreSteps order
    → IsLegal base (more ++ history) → IsPrefix (order_in (more ++ history)) order → Lasts base (more ++ history) old new
    → StepsSurvive base (more ++ history) (more ++ history) new → (stopped : IsInterrupted base history AreSteps old new) × (stopped.later ≡ more)
unfolding breaks_at_first breaks_now breaks_among breaks_as
breaks_after base more history order AreSteps old new are legal ordered lasts keep =
    (breaks_as base history order AreSteps old new are (breaks_now base more history order old new legal ordered lasts keep), refl)
