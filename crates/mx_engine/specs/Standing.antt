-- Which histories an engine is the state of.
use Rattle.std.specs.Prelude.{◌≡◌, ◌≤◌, drop, length}
use Rattle.mx_row.specs.Clocks.{clock_after}
use Rattle.mx_space.specs.Stored.{Holds}
use Rattle.mx_model.specs.Bases.{Base}
use Rattle.mx_model.specs.Histories.{History, Ledger, IsLegal, ledger_of}
use Rattle.mx_model.specs.Streams.{Streams}
use Rattle.mx_model.specs.Transactions.{schema_version}
use Rattle.mx_engine.specs.declared.engine.Engine.{Engine}
use Rattle.mx_transactions.specs.Open.{HoldsOpen, newest_state}

-- The engine has what streams have come to: the state and the vclock, the number of commits, which is at most that of steps, and the open
-- transactions, each in a slot of its own.
pub record HasStreams (engine : Engine) (streams : Streams) : Type 0 where
  pub holds : Holds engine.state (newest_state streams)
  pub clock : engine.clock ≡ clock_after streams.base.clock streams.journal
  pub ids : engine.ids ≡ streams.base.ids
  pub commits : engine.commits ≡ length streams.journal
  pub few : engine.commits ≤ engine.count
  pub transactions : HoldsOpen streams engine.open

-- The engine has what a ledger has: that, the number of steps, what is durable, the transactions that no take has, and the schema's version.
pub record Matches (engine : Engine) (ledger : Ledger) : Type 0 where
  pub has : HasStreams engine ledger.streams
  pub count : engine.count ≡ ledger.steps
  pub durable : engine.durable ≡ ledger.durable
  pub pending : engine.pending ≡ drop ledger.taken ledger.streams.journal
  pub schema : engine.schema ≡ schema_version ledger.streams.journal

-- the history is legal, and the engine has what it has come to
pub record EngineStandsFor (engine : Engine) (base : Base) (history : History) : Type 0 where
  pub legal : IsLegal base history
  pub matches : Matches engine (ledger_of base history)
