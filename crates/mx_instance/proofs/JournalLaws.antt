-- The journal's turn: others add nothing that it alone may, so what it knows of the journal stays.
use Rattle.std.proofs.Common.{◌≡◌, ℕ, true, List, [], ◌∷◌, ◌++◌, length, refl, sym, ap, ◌∙◌, subst, arith, Option, count_by}
use Rattle.std.specs.List.{Contains}
use Rattle.mx_outside.specs.Disks.{Disk}
use Rattle.mx_row.specs.declared.tx.Tx.{Tx}
use Rattle.mx_journal.specs.declared.journal.Journal.{Journal}
use Rattle.mx_model.specs.Bases.{Base}
use Rattle.mx_model.specs.Histories.{Asked, Confirmed, History, IsLegal, Left, Looked, Took, ledger_of}
use Rattle.mx_model.proofs.HistoryLaws.{steps_of_ledger, takes-asked}
use Rattle.atomic_table.specs.Table.{Me}
use Rattle.mx_turn.specs.Seats.{HasTaken}
use Rattle.mx_turn.specs.Views.{after_give}
use Rattle.mx_turn.proofs.HistoryLaws.{count_append}
use Rattle.mx_engine.specs.declared.engine.Engine.{Engine}
use Rattle.mx_engine.specs.Standing.{EngineStandsFor}
use Rattle.mx_directory.specs.Survival.{Lasts}
use Rattle.mx_store.specs.Stores.{JournalHas, TakesNone}
use Rattle.mx_store.proofs.StoreLaws.{has_confirmed, has_still, lasts_longer}
use Rattle.std.proofs.lemmas.List.{append-nil}
use Rattle.mx_instance.specs.declared.recorded.Recorded.{Recorded}
use Rattle.mx_instance.specs.Entries.{is_journal_step, is_request}
use Rattle.mx_instance.specs.JournalTurns.{TakesTurn}
use Rattle.mx_instance.specs.Passes.{AddsStep, Seen, after_entry}
use Rattle.mx_instance.specs.Standing.{BeganOver, StandsFrom}
use Rattle.mx_instance.proofs.StandsLaws.{began_taken, legal_taken, seen_taken, stands_next}

-- where the journal's pass added nothing, nothing was taken
pub others_take_none : (others : History) → count_by is_journal_step others ≡ 0 → TakesNone others
others_take_none [] none = tt
others_take_none (Asked name ask reply ∷ others) none = others_take_none others none
others_take_none (Left connection ∷ others) none = others_take_none others none
others_take_none (Took transactions upto ∷ others) none = absurd (omega (arith, none, count_append is_journal_step (Took transactions upto ∷ []) others))
others_take_none (Confirmed upto ∷ others) none = absurd (omega (arith, none, count_append is_journal_step (Confirmed upto ∷ []) others))
others_take_none (Looked ∷ others) none = others_take_none others none

takes_still : (base : Base) (more history : History) → TakesNone more → (ledger_of base (more ++ history)).takes ≡ (ledger_of base history).takes
takes_still base [] history none = refl
takes_still base (Asked name ask reply ∷ more) history none = takes-asked (ledger_of base (more ++ history)) name ask reply ∙ takes_still base more history none
takes_still base (Left connection ∷ more) history none = takes_still base more history none
takes_still base (Took transactions upto ∷ more) history none = absurd none
takes_still base (Confirmed upto ∷ more) history none = absurd none
takes_still base (Looked ∷ more) history none = takes_still base more history none

-- so what was taken can still be confirmed
pub taken_still : (base : Base) (more history : History) (upto : ℕ) → TakesNone more → Contains (ledger_of base history).takes upto
    → Contains (ledger_of base (more ++ history)).takes upto
taken_still base more history upto none taken = subst (λ (l : List ℕ). Contains l upto) (sym (takes_still base more history none)) taken

module _ (base : Base) (old middle : Seen) (first : old.first ≡ true) (begins : BeganOver old.base base) (txs : List Tx) (upto : ℕ)
    (took : AddsStep (Took txs upto) old middle) where
  none_before : TakesNone took.others
  none_before = others_take_none took.others (took.alone first)

  seen_then : middle.seen ≡ Took txs upto ∷ (took.others ++ old.seen)
  seen_then = ap (λ (s : Seen). s.seen) took.view

  pub legal_then : IsLegal base (Took txs upto ∷ (took.others ++ old.seen))
  legal_then = subst (IsLegal base) seen_then (took.legal base begins)

  reached_then : upto ≡ length (took.others ++ old.seen)
  reached_then = legal_then.1.1 ∙ steps_of_ledger base (took.others ++ old.seen)

  pub has_then : (journal : Journal) (states : Option (List Disk)) → JournalHas base old.seen journal states
      → JournalHas base (took.others ++ old.seen) journal states
  has_then journal states has = has_still base took.others old.seen journal states legal_then.0 none_before has

  pub lasts_then : (before after : Option (List Disk)) → Lasts base (took.others ++ old.seen) before after → Lasts base middle.seen before after
  lasts_then before after lasts =
      subst (λ (h : History). Lasts base h before after) (sym seen_then) (lasts_longer base (Took txs upto ∷ []) (took.others ++ old.seen) before after lasts)

  -- it is among what was taken
  pub can_confirm : Contains (ledger_of base middle.seen).takes upto
  can_confirm = subst (λ (h : History). Contains (ledger_of base h).takes upto) (sym seen_then) (0, omega arith, refl)

  module _ (new : Seen) (confirmed : AddsStep (Confirmed upto) middle new) where
    none_after : TakesNone confirmed.others
    none_after = others_take_none confirmed.others (confirmed.alone (ap (λ (s : Seen). s.first) took.view ∙ first))

    seen_now : new.seen ≡ Confirmed upto ∷ (confirmed.others ++ Took txs upto ∷ (took.others ++ old.seen))
    seen_now = ap (λ (s : Seen). s.seen) confirmed.view ∙ ap (λ (h : History). Confirmed upto ∷ (confirmed.others ++ h)) seen_then

    legal_now : IsLegal base (Confirmed upto ∷ (confirmed.others ++ Took txs upto ∷ (took.others ++ old.seen)))
    legal_now = subst (IsLegal base) seen_now (confirmed.legal base (subst (λ (b : Option Recorded). BeganOver b base) (sym (ap (λ (s : Seen). s.base) took.view)) begins))

    pub turned : (journal : Journal) (states : Option (List Disk)) → JournalHas base (Took txs upto ∷ (took.others ++ old.seen)) journal states
        → TakesTurn base old new journal states upto
    turned journal states has = record {
      others = took.others;
      later = confirmed.others;
      txs = txs;
      none = none_before;
      none_later = none_after;
      same = (
        ap (λ (s : Seen). s.base) confirmed.view ∙ ap (λ (s : Seen). s.base) took.view,
        ap (λ (s : Seen). s.first) confirmed.view ∙ ap (λ (s : Seen). s.first) took.view,
        ap (λ (s : Seen). s.parts) confirmed.view ∙ ap (λ (s : Seen). s.parts) took.view,
        ap (λ (s : Seen). s.seats) confirmed.view ∙ ap (λ (s : Seen). s.seats) took.view,
      );
      seen = seen_now;
      mine = ap (λ (s : Seen). s.mine) confirmed.view ∙ append-nil middle.mine ∙ ap (λ (s : Seen). s.mine) took.view ∙ append-nil old.mine;
      own = ap (λ (s : Seen). s.own) confirmed.view
          ∙ ap (λ (l : List ℕ). l ++ length (confirmed.others ++ middle.seen) ∷ [])
          (ap (λ (s : Seen). s.own) took.view ∙ ap (λ (n : ℕ). old.own ++ n ∷ []) (sym reached_then))
          ∙ ap (λ (h : History). (old.own ++ upto ∷ []) ++ length (confirmed.others ++ h) ∷ []) seen_then;
      reached = reached_then;
      legal = subst (IsLegal base) (sym seen_now) legal_now;
      has = subst (λ (h : History). JournalHas base h journal states) (sym seen_now)
          (has_confirmed base (confirmed.others ++ Took txs upto ∷ (took.others ++ old.seen)) upto journal states legal_now
          (has_still base confirmed.others (Took txs upto ∷ (took.others ++ old.seen)) journal states legal_now.0 none_after has));
    }

    pub lasts_now : (before after : Option (List Disk)) → Lasts base (took.others ++ old.seen) before after → Lasts base new.seen before after
    lasts_now before after lasts =
        subst (λ (h : History). Lasts base h before after) (sym (ap (λ (s : Seen). s.seen) confirmed.view))
        (lasts_longer base (Confirmed upto ∷ confirmed.others) middle.seen before after (lasts_then before after lasts))

-- ---- the confirmation

module _ {X : Type 0} (old new : Me (Option X) Seen) (recorded : Recorded) (upto : ℕ) (first : old.0.first ≡ true)
    (known : (base : Base) → BeganOver old.0.base base → Contains (ledger_of base old.0.seen).takes upto)
    (taken : HasTaken StandsFrom is_journal_step is_request old new recorded) where
  still_taken : (base : Base) → BeganOver old.0.base base → Contains (ledger_of base (taken.since ++ old.0.seen)).takes upto
  still_taken base begins = taken_still base taken.since old.0.seen upto (others_take_none taken.since (taken.alone first)) (known base begins)

  pub stands_confirmed : (engine : Engine) (after : Recorded) → engine ≡ recorded.engine.value
      → ((base : Base) (history : History) → EngineStandsFor engine base history → Contains (ledger_of base history).takes upto
      → EngineStandsFor after.engine.value base (Confirmed upto ∷ history))
      → StandsFrom new.0.base after (Confirmed upto ∷ new.0.seen)
  stands_confirmed engine after same step =
      stands_next new.0.base recorded new.0.seen taken.stands (Confirmed upto) engine after same
      (λ other begins now. step other new.0.seen now
      (subst (λ (h : History). Contains (ledger_of other h).takes upto) (sym (seen_taken old new recorded taken))
      (still_taken other (began_taken old new recorded taken other begins))))

  pub adds_confirmed : (last : Seen) → last ≡ after_give is_request (Confirmed upto) new.0 → AddsStep (Confirmed upto) old.0 last
  adds_confirmed last is =
      let view : last ≡ after_entry (Confirmed upto) taken.since old.0 =
      is ∙ ap (λ (m : Me (Option X) Seen). after_give is_request (Confirmed upto) m.0) taken.view in
      record {
        others = taken.since;
        alone = taken.alone;
        view = view;
        legal = λ base begins.
            subst (λ (s : Seen). IsLegal base s.seen) (sym view) (legal_taken old new recorded taken base begins, still_taken base begins);
      }
