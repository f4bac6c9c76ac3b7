-- Marks of slots: for each slot a truth.
use Rattle.std.specs.Prelude.{◌≡◌, ℕ, ◌≤◌, Bool, false, List, slice_index_or}

-- how many slots there are
abbrev pub slots : ℕ
slots = 1024

-- the slot has a mark
abbrev pub is_marked : List Bool → ℕ → Bool
is_marked marks slot = slice_index_or marks slot false

-- no slot from this number on has one
pub record AreMarkedBelow (marks : List Bool) (used : ℕ) : Type 0 where
  pub bounded : used ≤ slots
  pub none : (slot : ℕ) → used ≤ slot → is_marked marks slot ≡ false
