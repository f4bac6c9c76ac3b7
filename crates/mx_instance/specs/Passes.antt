-- What a pass knows of the history, and what a call makes of it.
use Rattle.std.specs.Prelude.{◌≡◌, ℕ, ◌≤◌, [], ◌++◌, length, Option}
use Rattle.mx_session.specs.declared.job.Job.{Job}
use Rattle.mx_model.specs.Bases.{Base}
use Rattle.mx_model.specs.Histories.{Entry, History, IsLegal, journal_of, ledger_of}
use Rattle.mx_model.specs.Transactions.{schema_version}
use Rattle.mx_engine.specs.declared.engine.Engine.{Engine}
use Rattle.mx_engine.specs.Standing.{EngineStandsFor}
use Rattle.mx_turn.specs.declared.view.View.{View}
use Rattle.mx_turn.specs.Seats.{IsIdle, IsOf}
use Rattle.mx_turn.specs.Views.{AreSame, NoneAlone, after_give, after_take, all_places, first_view, places}
use Rattle.mx_instance.specs.declared.instance.Instance.{Instance}
use Rattle.mx_instance.specs.declared.instance.Pass.{Pass}
use Rattle.mx_instance.specs.declared.outcome.Outcome.{Outcome}
use Rattle.mx_instance.specs.declared.outcome.TryStop.{TryStop}
use Rattle.mx_instance.specs.declared.outcome.TryStop.TheVariants as stop
use Rattle.mx_instance.specs.declared.recorded.Recorded.{Recorded}
use Rattle.mx_link.specs.Links.{step_of}
use Rattle.mx_instance.specs.Entries.{is_journal_step, is_request}
use Rattle.mx_instance.specs.Standing.{BeganOver}

-- what a pass knows: the history that it has seen, the newest entry first, and the places of its own requests and entries
abbrev pub Seen : Type 0
Seen = View (Option Recorded) Entry

abbrev pub seen_by : Pass → Seen
seen_by pass = pass.seat.me.0

-- the pass is of the instance, has a part, and is in no call
abbrev pub CanCall : Instance → Pass → Type 0
CanCall instance pass = IsOf instance.turn.board.shared.table_id pass.seat × IsIdle pass.seat.me

-- the pass that an instance over this engine begins with: it has all parts, and there is no step yet
pub record IsFirst (engine : Engine) (passes : ℕ) (seen : Seen) : Type 0 where
  pub view : seen ≡ first_view seen.base passes
  pub begins : (base : Base) → EngineStandsFor engine base [] → BeganOver seen.base base

-- the view after the pass added an entry, which came after these others
abbrev pub after_entry : Entry → (others : History) → Seen → Seen
after_entry entry others seen = after_give is_request entry (after_take others seen)

-- The pass added this entry alone, after all that it had seen and what others had added since. The history is legal.
pub record AddsStep (entry : Entry) (old new : Seen) : Type 0 where
  pub others : History
  pub alone : NoneAlone is_journal_step old others
  pub view : new ≡ after_entry entry others old
  pub legal : (base : Base) → BeganOver old.base base → IsLegal base new.seen

-- what an outcome tells beside the reply is of this history, which is legal
pub record IsOfMoment (base : Base) (history : History) (outcome : Outcome) : Type 0 where
  pub legal : IsLegal base history
  pub durable : outcome.durable ≡ (ledger_of base history).durable
  pub schema : outcome.schema ≡ schema_version (journal_of base history)

-- A job was asked: its step was added with this reply, and what is told with it is of that moment.
pub record IsCall (job : Job) (old new : Seen) (outcome : Outcome) : Type 0 where
  pub adds : AddsStep (step_of job outcome.reply) old new
  pub front : outcome.front ≡ length new.seen
  pub told : (base : Base) → BeganOver old.base base → IsOfMoment base new.seen outcome

-- another pass held the turn, when the history had so many entries, and nothing was asked
pub record IsBusyFor (old new : Seen) (count : ℕ) : Type 0 where
  pub same : new ≡ old
  pub earlier : length old.seen ≤ count

-- the engine stands for a history that the pass has seen up to some entries, and each of whose entries it added
pub record IsClosedTo (seen : Seen) (engine : Engine) : Type 0 where
  pub since : History
  pub stands : (base : Base) → BeganOver seen.base base → EngineStandsFor engine base (since ++ seen.seen)
  pub calls : AreSame seen.mine (places is_request (since ++ seen.seen))
  pub entries : AreSame seen.own (all_places (since ++ seen.seen))

-- how many entries the history had when another pass held the turn
abbrev pub busy_count : TryStop → ℕ
busy_count (stop.Busy count) = count
