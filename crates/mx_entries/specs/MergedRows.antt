-- Only private functions and proofs need these: stored rows and own ones in one order.
use Rattle.std.specs.Prelude.{Bool, true, false, List, [], ◌∷◌, ℕ, map, if◌then◌else◌}
use Rattle.std.specs.Cmp.Lexicographic.{slice_cmp}
use Rattle.std.specs.Ordering.{nat_cmp, is_lt}
use Rattle.mx_schema.specs.Stored.{StoredTuple}
use Rattle.mx_entries.specs.Entries.{IndexEntry}

-- one entry comes before another in a direction
abbrev pub is_before : (down : Bool) → (one other : List ℕ) → Bool
is_before true one other = is_lt (slice_cmp nat_cmp other one)
is_before false one other = is_lt (slice_cmp nat_cmp one other)

module _ (down : Bool) (stored_row own_row : IndexEntry → StoredTuple) where
  -- own entries up to a stored one, the stored one, and the others
  abbrev pub put_among : IndexEntry → (others : List IndexEntry → List StoredTuple) → (own : List IndexEntry) → List StoredTuple
  put_among entry others [] = stored_row entry ∷ others []
  put_among entry others (one ∷ own) =
      if is_before down one.0 entry.0 then own_row one ∷ put_among entry others own else stored_row entry ∷ others (one ∷ own)

  -- the rows of stored entries and own ones in one order
  abbrev pub merged : (stored own : List IndexEntry) → List StoredTuple
  merged [] own = map own_row own
  merged (entry ∷ stored) own = put_among entry (merged stored) own
