-- What the engine behind a turn stands for, from one entry to the next.
use Rattle.std.proofs.Common.{◌≡◌, ◌<◌, [], ◌∷◌, ◌++◌, length, sym, ap, ◌∙◌, subst, arith, Option, Some}
use Rattle.mx_model.specs.Bases.{Base}
use Rattle.mx_model.specs.Histories.{Entry, History, IsLegal}
use Rattle.mx_model.proofs.HistoryLaws.{steps_of_ledger}
use Rattle.mx_engine.specs.declared.engine.Engine.{Engine}
use Rattle.mx_engine.specs.Standing.{EngineStandsFor}
use Rattle.atomic_table.specs.Table.{Me}
use Rattle.mx_turn.specs.Rule.{max_count}
use Rattle.mx_turn.specs.Seats.{HasTaken}
use Rattle.mx_turn.specs.Views.{after_give}
use Rattle.mx_instance.specs.declared.recorded.Recorded.{Recorded}
use Rattle.mx_instance.specs.Entries.{is_journal_step, is_request}
use Rattle.mx_instance.specs.Passes.{AddsStep, Seen}
use Rattle.mx_instance.specs.Standing.{BeganOver, StandsFrom}

-- an engine that has made no step
pub stands_first : (recorded : Recorded) (engine : Engine) → recorded.engine.value ≡ engine → ((base : Base) × EngineStandsFor engine base [])
    → StandsFrom (Some recorded) recorded []
stands_first recorded engine same (base, stands) = record {
  base = base;
  begins = subst (λ (e : Engine). EngineStandsFor e base []) (sym same) stands;
  stands = λ other begins. begins;
}

module _ (from : Option Recorded) (recorded : Recorded) (history : History) (stands : StandsFrom from recorded history) where
  -- there is room for a step more
  pub room_for : (engine : Engine) → engine ≡ recorded.engine.value → length history < max_count → engine.count < max_count
  room_for engine same room =
      omega (arith, ap (λ (e : Engine). e.count) same, (stands.stands stands.base stands.begins).matches.count, steps_of_ledger stands.base history, room)

  -- and after it the engine stands for it too
  pub stands_next : (entry : Entry) (engine : Engine) (new : Recorded) → engine ≡ recorded.engine.value
      → ((other : Base) → BeganOver from other → EngineStandsFor engine other history → EngineStandsFor new.engine.value other (entry ∷ history))
      → StandsFrom from new (entry ∷ history)
  stands_next entry engine new same step = record {
    base = stands.base;
    begins = stands.begins;
    stands = λ other begins. step other begins (subst (λ (e : Engine). EngineStandsFor e other history) (sym same) (stands.stands other begins));
  }

  pub stands_more : (entry : Entry) (engine : Engine) (new : Recorded) → engine ≡ recorded.engine.value
      → ((base : Base) (history : History) → EngineStandsFor engine base history → EngineStandsFor new.engine.value base (entry ∷ history))
      → StandsFrom from new (entry ∷ history)
  stands_more entry engine new same step = stands_next entry engine new same (λ other begins now. step other history now)

  pub legal_so : (base : Base) → BeganOver from base → IsLegal base history
  legal_so base begins = (stands.stands base begins).legal

-- ---- a pass that took the turn

module _ {X : Type 0} (old new : Me (Option X) Seen) (recorded : Recorded) (taken : HasTaken StandsFrom is_journal_step is_request old new recorded) where
  pub seen_taken : new.0.seen ≡ taken.since ++ old.0.seen
  seen_taken = ap (λ (m : Me (Option X) Seen). m.0.seen) taken.view

  pub begins_taken : (base : Base) → BeganOver old.0.base base → BeganOver new.0.base base
  begins_taken base begins = subst (λ (b : Option Recorded). BeganOver b base) (sym (ap (λ (m : Me (Option X) Seen). m.0.base) taken.view)) begins

  pub began_taken : (base : Base) → BeganOver new.0.base base → BeganOver old.0.base base
  began_taken base begins = subst (λ (b : Option Recorded). BeganOver b base) (ap (λ (m : Me (Option X) Seen). m.0.base) taken.view) begins

  pub legal_taken : (base : Base) → BeganOver old.0.base base → IsLegal base (taken.since ++ old.0.seen)
  legal_taken base begins =
      subst (IsLegal base) seen_taken (legal_so new.0.base recorded new.0.seen taken.stands base (begins_taken base begins))

  -- and gave it back with one entry more, for which the engine stands
  module _ (entry : Entry) (after : Recorded) (now : StandsFrom new.0.base after (entry ∷ new.0.seen)) (last : Seen)
      (given : last ≡ after_give is_request entry new.0) where
    pub adds_given : AddsStep entry old.0 last
    adds_given =
        record {
          others = taken.since;
          alone = taken.alone;
          view = given ∙ ap (λ (m : Me (Option X) Seen). after_give is_request entry m.0) taken.view;
          legal = λ base begins.
              subst (λ (s : Seen). IsLegal base s.seen) (sym given)
              (legal_so new.0.base after (entry ∷ new.0.seen) now base (begins_taken base begins));
        }

    pub stands_given : (base : Base) → BeganOver old.0.base base → EngineStandsFor after.engine.value base last.seen
    stands_given base begins =
        subst (λ (s : Seen). EngineStandsFor after.engine.value base s.seen) (sym given) (now.stands base (begins_taken base begins))
