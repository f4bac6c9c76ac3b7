use Rattle.std.proofs.Common.{take}
use Rattle.mx_model.specs.Bases.{Base}
use Rattle.mx_model.specs.Histories.{History}
use Rattle.mx_engine.specs.Standing.{EngineStandsFor}
use Rattle.mx_node.specs.Serving.{left_from}
use Rattle.mx_node.proofs.sessions.leave_all.Given as goal

-- the connections of the places before this one left
abbrev pub invariant-loop-number : goal.invariant-loop-number
invariant-loop-number l = (base : Base) (history : History) → EngineStandsFor l.initial.engine base history
    → EngineStandsFor l.engine base (left_from 0 (take l.number l.sessions) history)
