-- What the engine behind a turn stands for.
use Rattle.std.specs.Prelude.{[], Option, Some, None}
use Rattle.mx_model.specs.Bases.{Base}
use Rattle.mx_model.specs.Histories.{History}
use Rattle.mx_engine.specs.Standing.{EngineStandsFor}
use Rattle.mx_instance.specs.declared.recorded.Recorded.{Recorded}

-- an engine began over this base, with no step yet
abbrev pub BeganOver : Option Recorded → Base → Type 0
BeganOver (Some recorded) base = EngineStandsFor recorded.engine.value base []
BeganOver None base = ⊥

-- From what an engine began with, it stands for the history. There is a base that it began over.
pub record StandsFrom (from : Option Recorded) (recorded : Recorded) (history : History) : Type 0 where
  pub base : Base
  pub begins : BeganOver from base
  pub stands : (other : Base) → BeganOver from other → EngineStandsFor recorded.engine.value other history
