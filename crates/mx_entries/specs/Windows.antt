-- Only functions beside the claims and proofs need these: what a scan or a lookup collects, and the refusal of a scan.
use Rattle.std.specs.Prelude.{◌≡◌, ◌⊎◌, ◌<◌, ◌≤◌, ◌-◌, ℕ, Bool, true, false, List, [], ◌∷◌, length, map, take, drop, Option, Some, None, Result, Ok, Err}
use Rattle.std.specs.BTreeMap.{is_at}
use Rattle.std.specs.Cmp.Lexicographic.{slice_cmp}
use Rattle.std.specs.List.{AllByRecursion, filter}
use Rattle.std.specs.Map.{lookup}
use Rattle.std.specs.Option.{option_to_list, unwrap_or}
use Rattle.std.specs.Ordering.{nat_cmp}
use Rattle.mx_key.specs.declared.fault.RangeFault.{RangeFault}
use Rattle.mx_key.specs.declared.fault.RangeFault.TheVariants as range
use Rattle.mx_key.specs.declared.edge.KeyRange.{KeyRange}
use Rattle.mx_key.specs.declared.iterator.IterKind.{IterKind}
use Rattle.mx_key.specs.Comparable.{holds}
use Rattle.mx_key.specs.Keys.{AreFit}
use Rattle.mx_key.specs.Ranges.{descends}
use Rattle.mx_entries.specs.declared.pick.SelectFault.{SelectFault}
use Rattle.mx_entries.specs.declared.pick.SelectFault.TheVariants as fault
use Rattle.mx_entries.specs.declared.pick.SelectStop.{SelectStop}
use Rattle.mx_entries.specs.declared.pick.SelectStop.TheVariants as stop
use Rattle.mx_schema.specs.Picks.{Indexed, directed, window, total_bytes, max_result_size}
use Rattle.mx_schema.specs.Stored.{StoredTuple}
use Rattle.mx_entries.specs.Entries.{IndexEntry}

abbrev pub last_key_or : List ℕ → List StoredTuple → List ℕ
last_key_or key [] = key
last_key_or key (entry ∷ others) = last_key_or entry.0 others

-- the key of the last one, where there is one
abbrev pub last_key_of : List StoredTuple → Option (List ℕ)
last_key_of [] = None
last_key_of (entry ∷ others) = Some (last_key_or entry.0 others)

-- the fault that returns why there is no range, or why a scan ends
abbrev pub select_fault_of : RangeFault → SelectFault
select_fault_of (range.Misfit misfit) = fault.Misfit misfit
select_fault_of range.NoMemory = fault.NoMemory

abbrev pub stop_fault_of : SelectStop → SelectFault
stop_fault_of stop.TooLong = fault.TooLong
stop_fault_of stop.NoMemory = fault.NoMemory

-- the same of a scan that may give something
abbrev pub as_fault : {X : Type 0} → Result X SelectStop → Result X SelectFault
as_fault (Ok x) = Ok x
as_fault (Err why) = Err (stop_fault_of why)

-- the range of keys that a scan read, where it read any
abbrev pub keys_read : Result Bool SelectStop → KeyRange → Result (Option KeyRange) SelectStop
keys_read (Ok true) range = Ok (Some range)
keys_read (Ok false) range = Ok None
keys_read (Err why) range = Err why

-- the entries that a scan of these keys finds among those that are kept
abbrev pub found_in : List StoredTuple → KeyRange → IterKind → (offset limit : ℕ) → List StoredTuple
found_in kept range iterator offset limit = window offset limit (directed (descends iterator) (filter (λ entry. holds range entry.0) kept))

-- the key of an entry in an index: in a unique one it is without the primary key that follows it
abbrev pub key_in_index : (unique : Bool) → (key primary : List ℕ) → List ℕ
key_in_index true key primary = take (length key - length primary) key
key_in_index false key primary = key

-- the tuple under a primary key; no bytes where there is none
abbrev pub tuple_stored : List StoredTuple → (primary : List ℕ) → List ℕ
tuple_stored tuples primary = unwrap_or (lookup (is_at (slice_cmp nat_cmp primary)) tuples) []

-- the tuple that an entry of an index leads to, under its key in the index
abbrev pub indexed_row : (unique : Bool) → List StoredTuple → IndexEntry → StoredTuple
indexed_row unique tuples entry = (key_in_index unique entry.0 entry.1, tuple_stored tuples entry.1)

-- the rows that a scan of these keys makes of the entries of an index
abbrev pub rows_found : (IndexEntry → StoredTuple) → List IndexEntry → KeyRange → IterKind → (offset limit : ℕ) → List StoredTuple
rows_found row kept range iterator offset limit =
    take limit (map row (drop offset (directed (descends iterator) (filter (λ entry. holds range entry.0) kept))))

-- an entry that was looked up, where the offset doesn't skip it
abbrev pub one_found : (offset : ℕ) → Option StoredTuple → List StoredTuple
one_found offset entry = drop offset (option_to_list entry)

-- these are the tuples of these entries, and this is the last one's key
abbrev pub IsCollected : List (List ℕ) → List StoredTuple → Option (List ℕ) → Type 0
IsCollected tuples found last = (tuples ≡ map (λ entry. entry.1) found) × (total_bytes tuples ≤ max_result_size) × (last ≡ last_key_of found)

-- why those of these entries weren't collected
abbrev pub IsStopped : SelectStop → List StoredTuple → Type 0
IsStopped why found = ((why ≡ stop.TooLong) × (max_result_size < total_bytes (map (λ entry. entry.1) found))) ⊎ (why ≡ stop.NoMemory)

-- the keys' numbers have 64 bits
abbrev pub AreFitEntries : List Indexed → Type 0
AreFitEntries all = AllByRecursion (λ (entry : Indexed). AreFit entry.0) all
