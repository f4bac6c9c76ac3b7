-- What an iterator picks of an index's entries, and the range of keys that it reads.
use Rattle.std.specs.Prelude.{ℕ, zero, suc, Bool, true, false, List, [], ◌∷◌, ◌++◌, length, take, drop, map, reverse, Option, Some, None, ◌==◌, if◌then◌else◌}
use Rattle.std.specs.List.{filter, sum}
use Rattle.std.specs.FinMap.{empty, entries, insert}
use Rattle.mx_key.specs.declared.iterator.IterKind.{IterKind}
use Rattle.mx_key.specs.Keys.{Key}
use Rattle.mx_key.specs.Ranges.{Range, lies_in, range_of, descends, range_until}
use Rattle.mx_schema.specs.declared.index_def.IndexDef.{IndexDef}
use Rattle.mx_schema.specs.State.{State, Tuples, key_in, key_or_none, source_of, tuples_in}

-- a tuple under its index key
abbrev pub Indexed : Type 0
Indexed = Key × List ℕ

-- The key of a tuple in an index: its parts, and behind them those of the primary key, where two tuples may have the same parts.
abbrev pub entry_key : IndexDef → (primary : Key) → (tuple : List ℕ) → Key
entry_key def primary tuple = key_or_none (key_in def.key tuple) ++ (if def.unique then [] else primary)

-- further tuples under their keys in an index
abbrev pub indexed_with : IndexDef → Tuples → List Indexed → Tuples
indexed_with def indexed [] = indexed
indexed_with def indexed (entry ∷ others) = indexed_with def (insert indexed (entry_key def entry.0 entry.1) entry.1) others

-- the tuples under their keys in an index; the index of the number 0 is the primary one
abbrev pub tuples_by_index : IndexDef → Tuples → Tuples
tuples_by_index def tuples = if def.id.0 == 0 then tuples else indexed_with def empty (entries tuples)

-- the entries of an index of a space, in the order of its keys
abbrev pub entries_of : State → (space : ℕ) → IndexDef → List Indexed
entries_of state space def = entries (tuples_by_index def (tuples_in state (source_of space)))

-- the other way round, where the direction is down
abbrev pub directed : {X : Type 0} → (down : Bool) → List X → List X
directed true xs = reverse xs
directed false xs = xs

-- without the first `offset` entries, and at most `limit` of the rest
abbrev pub window : {X : Type 0} → (offset limit : ℕ) → List X → List X
window offset limit xs = take limit (drop offset xs)

-- the entries in an iterator's range, in its direction, without those that the offset skips, as many as the limit allows
abbrev pub picked : IterKind → Key → (offset limit : ℕ) → List Indexed → List Indexed
picked iterator key offset limit all =
    window offset limit (directed (descends iterator) (filter (λ entry. lies_in (range_of iterator key) entry.0) all))

abbrev pub last_key : Key → List Indexed → Key
last_key key [] = key
last_key key (entry ∷ others) = last_key entry.0 others

-- the range up to the last of these entries, where there is one
abbrev pub up_to_last : (down : Bool) → List Indexed → Range → Range
up_to_last down [] range = range
up_to_last down (entry ∷ others) range = range_until down (last_key entry.0 others) range

-- the range that is read: up to the last entry where the limit was reached, else to the iterator's end; none by the limit 0
abbrev pub range_read : IterKind → Key → (limit : ℕ) → List Indexed → Option Range
range_read iterator key zero found = None
range_read iterator key (suc more) found =
    Some (if length found == suc more then up_to_last (descends iterator) found (range_of iterator key) else range_of iterator key)

pub record Selection : Type 0 where
  pub tuples : List (List ℕ)
  pub read : Option Range

abbrev pub pick : List Indexed → IterKind → Key → (offset limit : ℕ) → Selection
pick all iterator key offset limit =
    let found = picked iterator key offset limit all in
    record { tuples = map (λ entry. entry.1) found; read = range_read iterator key limit found }

-- how many bytes tuples have together
abbrev pub total_bytes : List (List ℕ) → ℕ
total_bytes tuples = sum (map length tuples)

-- the maximum size of a SELECT's result, in bytes
abbrev pub max_result_size : ℕ
max_result_size = 16777216
