-- A state under a transaction's own changes, and what a view of it shows.
use Rattle.std.specs.Prelude.{◌≡◌, ℕ, List, [], Option, Some, None}
use Rattle.std.specs.BTreeMap as tree
use Rattle.std.specs.FinMap.{empty}
use Rattle.std.specs.List.{AllByRecursion}
use Rattle.std.specs.Option.{option_copied}
use Rattle.std.specs.Ordering.{nat_cmp}
use Rattle.mx_schema.specs.declared.schema.Schema.{Schema}
use Rattle.mx_schema.specs.Catalogues.{schema_of}
use Rattle.mx_schema.specs.Sound.{AreKeyed, IsSound}
use Rattle.mx_schema.specs.State.{State, Tuples}
use Rattle.mx_schema.specs.Stored.{StoresNone}
use Rattle.mx_space.specs.declared.overlay.OverlaidSpace.{OverlaidSpace}
use Rattle.mx_space.specs.declared.own_changes.Overlay.{Overlay}
use Rattle.mx_space.specs.declared.state_view.StateView.{StateView}
use Rattle.mx_space.specs.declared.view.SpaceView.{SpaceView}
use Rattle.mx_entries.specs.OwnWrites.{OwnWrites, under}
use Rattle.mx_space.specs.Overlays.{Sees, StoresOver}
use Rattle.mx_entries.specs.PlainChanges.{MayStand, PlainChange}
use Rattle.mx_space.specs.Stored.{Holds}
use Rattle.mx_entries.specs.OwnStates.{written_by, state_with_own, AreNoDescriptions}

-- the own writes in the space of a number, where there are any
abbrev pub overlaid : (space : ℕ) → Overlay → Option OverlaidSpace
overlaid space overlay = tree.get nat_cmp overlay.spaces space

-- the same where there may be no overlay
abbrev pub overlaid_in : (space : ℕ) → Option Overlay → Option OverlaidSpace
overlaid_in space None = None
overlaid_in space (Some overlay) = overlaid space overlay

-- memory has these own changes, in spaces that are described so, and nothing of a space without own changes
pub record HoldsOwn (schemas : ℕ → Option Schema) (overlay : Overlay) (own : List PlainChange) : Type 0 where
  pub each : (space : ℕ) → StoresOver (schemas space) (overlaid space overlay) (written_by space own)
  pub none : (space : ℕ) → written_by space own ≡ empty → overlaid space overlay ≡ None
  pub stand : AllByRecursion (MayStand schemas) own

-- the same where there may be no overlay
abbrev pub HoldsOwnIn : (schemas : ℕ → Option Schema) → Option Overlay → List PlainChange → Type 0
HoldsOwnIn schemas None own = own ≡ []
HoldsOwnIn schemas (Some overlay) own = HoldsOwn schemas overlay own

-- a view shows this sound state: that which memory holds, under own changes
pub record HoldsView (view : StateView) (seen : State) : Type 0 where
  pub base : State
  pub own : List PlainChange
  pub holds : Holds view.state.now base
  pub over : HoldsOwnIn (schema_of base) (option_copied view.over) own
  pub is : seen ≡ state_with_own base own
  pub sound : IsSound seen
  pub plain : AreNoDescriptions own

-- a view of a space that is described so shows these tuples: those of a sound state, under writes that leave it sound
pub record ShowsTuples (schema : Option Schema) (view : SpaceView) (tuples : Tuples) : Type 0 where
  pub all : Tuples
  pub written : OwnWrites
  pub sees : Sees schema view all written
  pub is : tuples ≡ under written all
  pub stored : AreKeyed schema all
  pub shown : AreKeyed schema tuples

-- what a view shows of a space, where there is one
abbrev pub ShowsSpace : (schema : Option Schema) → Option SpaceView → Tuples → Type 0
ShowsSpace schema None tuples = StoresNone schema tuples
ShowsSpace schema (Some view) tuples = ShowsTuples schema view tuples
