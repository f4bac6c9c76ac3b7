use Rattle.std.proofs.Common.{ℕ, List, Option, length}
use Rattle.mx_schema.specs.declared.schema.Schema.{Schema}
use Rattle.mx_schema.specs.State.{State}
use Rattle.mx_space.specs.Reserves.{AreReady}
use Rattle.mx_entries.specs.PlainChanges.{PlainChange, state_with_all}
use Rattle.mx_space.proofs.ReserveLaws.{LeftReady}
use Rattle.mx_space.proofs.reserve_all.install_all.Given as goal

abbrev pub invariant-loop-step : goal.invariant-loop-step
invariant-loop-step l = (schemas : ℕ → Option Schema) (state : State) (all : List PlainChange) → AreReady schemas l.initial.spaces.entries.items state l.fn.prepared all
    → LeftReady schemas l.spaces.entries.items l.left (state_with_all state all)

abbrev pub decreases-loop-step : goal.decreases-loop-step
decreases-loop-step l = length l.left
