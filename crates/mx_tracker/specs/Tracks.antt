-- What each slot has read.
use Rattle.std.specs.Prelude.{◌≡◌, ◌≢◌, ℕ, ◌≤◌, List, [], length, slice_index_or}
use Rattle.mx_tracker.specs.declared.read.Read.{Read}
use Rattle.mx_tracker.specs.Marks.{slots}

-- the reads that are noted for each slot, in order
abbrev pub Tracks : Type 0
Tracks = List (List Read)

-- the reads that are noted for a slot
abbrev pub noted_reads : Tracks → ℕ → List Read
noted_reads tracks slot = slice_index_or tracks slot []

-- these reads are now noted for the slot, and each other slot has those that it had
pub record ChangesReads (before after : Tracks) (slot : ℕ) (reads : List Read) : Type 0 where
  pub here : noted_reads after slot ≡ reads
  pub others : (other : ℕ) → other ≢ slot → noted_reads after other ≡ noted_reads before other

-- each slot from this number on has no reads
abbrev pub AreEmptyFrom : Tracks → ℕ → Type 0
AreEmptyFrom tracks number = (slot : ℕ) → number ≤ slot → noted_reads tracks slot ≡ []

-- there is a list for each slot, and the lists from this number on are empty
pub record AreTracked (tracks : Tracks) (used : ℕ) : Type 0 where
  pub whole : length tracks ≡ slots
  pub empty : AreEmptyFrom tracks used
  pub bounded : used ≤ slots
