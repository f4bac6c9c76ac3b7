use Rattle.std.proofs.Common.{◌≡◌, ℕ, List, Option, length}
use Rattle.std.specs.List.{AllByRecursion, AllZip}
use Rattle.mx_schema.specs.declared.schema.Schema.{Schema}
use Rattle.mx_schema.specs.State.{State}
use Rattle.mx_space.specs.Reserved.{all_released, content_under}
use Rattle.mx_entries.specs.PlainChanges.{AreApart, PlainChange, MayStand}
use Rattle.mx_space.specs.Reserves.{SpellsChange}
use Rattle.mx_space.specs.Stored.{SpacesHold}
use Rattle.mx_space.proofs.ReserveLaws.{PartReady}
use Rattle.mx_space.proofs.reserve_all.reserve_all.Given as goal

-- the last changes are ready
abbrev pub invariant-loop-change : goal.invariant-loop-change
invariant-loop-change l =
    ((q : ℕ) → all_released q l.prepared (content_under q l.spaces.entries.items) ≡ content_under q l.initial.spaces.entries.items)
    × ((schemas : ℕ → Option Schema) (state : State) (all : List PlainChange) → SpacesHold schemas l.initial.spaces.entries.items state → AllZip SpellsChange l.fn.changes all
    → AllByRecursion (MayStand schemas) all → AreApart all → PartReady schemas l.spaces.entries.items state l.prepared l.left all)

abbrev pub decreases-loop-change : goal.decreases-loop-change
decreases-loop-change l = length l.left
