-- Spaces in a list, in the order of their numbers.
use Rattle.std.specs.Prelude.{◌≡◌, ℕ, ◌<◌, ◌≤◌, List, [], ◌∷◌, length, slice_index_or, ⊤, Option, Some, None, ◌==◌, if◌then◌else◌}
use Rattle.std.specs.Coded.{×_prop, Unit-prop, le_prop}
use Rattle.std.specs.List.{AllByRecursion, AllByRecursion-prop, AllWithin}
use Rattle.mx_space.specs.declared.space.Space.{Space}
use Rattle.mx_space.specs.declared.spaces.SpaceEntry.{SpaceEntry}

-- the first space under a number
abbrev pub space_under : (id : ℕ) → List SpaceEntry → Option Space
space_under id [] = None
space_under id (entry ∷ others) = if entry.id.0 == id then Some entry.space else space_under id others

-- each number is below those after it
abbrev pub IsAscending : List SpaceEntry → Type 0
IsAscending [] = ⊤
IsAscending (entry ∷ others) = AllByRecursion (λ (other : SpaceEntry). entry.id.0 < other.id.0) others × IsAscending others

pub IsAscending-prop : (entries : List SpaceEntry) → IsProp (IsAscending entries)
IsAscending-prop [] = Unit-prop
IsAscending-prop (entry ∷ others) = ×_prop (AllByRecursion-prop _ (λ other. le_prop) others) (IsAscending-prop others)

-- this space stands under a number now, and the others as before
abbrev pub SetsSpace : (old new : List SpaceEntry) → (id : ℕ) → Space → Type 0
SetsSpace old new id space = (q : ℕ) → space_under q new ≡ (if q == id then Some space else space_under q old)

-- no space stands under a number now, and the others as before
abbrev pub RemovesSpace : (old new : List SpaceEntry) → (id : ℕ) → Type 0
RemovesSpace old new id = (q : ℕ) → space_under q new ≡ (if q == id then None else space_under q old)

-- ---- where a search ends: only private functions and proofs need these

-- the space of a number stands at this place
pub record IsPlaceOf (id : ℕ) (entries : List SpaceEntry) (place : ℕ) : Type 0 where
  pub within : place < length entries
  pub is : (default : SpaceEntry) → (slice_index_or entries place default).id.0 ≡ id

-- there is none, and this is the place where it would stand
pub record IsGapOf (id : ℕ) (entries : List SpaceEntry) (place : ℕ) : Type 0 where
  pub within : place ≤ length entries
  pub below : AllWithin (λ (entry : SpaceEntry). entry.id.0 < id) entries 0 place
  pub above : AllWithin (λ (entry : SpaceEntry). id < entry.id.0) entries place (length entries)
