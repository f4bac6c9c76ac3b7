-- The entries of an index as a list, under keys that are bytes, in the order of the keys.
use Rattle.std.specs.Prelude.{◌≡◌, ◌≢◌, ◌++◌, ℕ, Bool, true, not, List, drop, map, Option, Some, None, is_some, if◌then◌else◌}
use Rattle.std.specs.BTreeMap.{insert_entry, is_at}
use Rattle.std.specs.Cmp.Lexicographic.{slice_cmp}
use Rattle.std.specs.List.{find}
use Rattle.std.specs.Map.{lookup}
use Rattle.std.specs.Ordering.{nat_cmp, is_lt}
use Rattle.mx_schema.specs.Stored.{StoredTuple}

-- the comparable bytes of an entry's key, and of the primary key that it leads to
abbrev pub IndexEntry : Type 0
IndexEntry = StoredTuple

-- the first entry whose key isn't below these bytes
abbrev pub first_from : {X : Type 0} → (key : List ℕ) → List (List ℕ × X) → Option (List ℕ × X)
first_from key entries = find (λ entry. not (is_lt (slice_cmp nat_cmp entry.0 key))) entries

-- The primary key that a key leads to: the one that stands behind the key in the first entry from it. None where that entry isn't the
-- key and its own primary key, or there is none.
abbrev pub LeadsTo : (key : List ℕ) → List IndexEntry → Option (List ℕ) → Type 0
LeadsTo key entries None = (entry own : List ℕ) → first_from key entries ≡ Some (entry, own) → entry ≢ key ++ own
LeadsTo key entries (Some own) = first_from key entries ≡ Some (key ++ own, own)

-- an entry stands under a key
abbrev pub has_entry : {X : Type 0} → (key : List ℕ) → List (List ℕ × X) → Bool
has_entry key entries = is_some (lookup (is_at (slice_cmp nat_cmp key)) entries)

-- where a key has an entry, in which only its primary key stands behind it, no other entry's key begins with it
abbrev pub LeadsOnce : (key : List ℕ) → List IndexEntry → Type 0
LeadsOnce key entries =
    (own rest : List ℕ) → lookup (is_at (slice_cmp nat_cmp (key ++ own))) entries ≡ Some own → has_entry (key ++ rest) entries ≡ true → rest ≡ own

-- the entries with one more, unless one stands under its key
abbrev pub with_entry : {X : Type 0} → (key : List ℕ) → X → List (List ℕ × X) → List (List ℕ × X)
with_entry key value entries = if has_entry key entries then entries else insert_entry (slice_cmp nat_cmp) entries key value

-- an entry by its key and the place in it where the primary key begins
abbrev pub entry_split : List ℕ × ℕ → IndexEntry
entry_split kept = (kept.0, drop kept.1 kept.0)

abbrev pub entries_split : List (List ℕ × ℕ) → List IndexEntry
entries_split kept = map entry_split kept
