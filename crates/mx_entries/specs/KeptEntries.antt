-- The entries of a space's indexes.
use Rattle.std.specs.Prelude.{◌≡◌, ◌⊎◌, Bool, true, false, List, [], map, ◌==◌}
use Rattle.std.specs.FinMap.{FinMap, entries, from_entries}
use Rattle.std.specs.List.{AllByRecursion}
use Rattle.mx_key.specs.Keys.{Key, AreFit, key_cmp}
use Rattle.mx_key.specs.Comparable.{comparable_of}
use Rattle.mx_schema.specs.declared.index_def.IndexDef.{IndexDef}
use Rattle.mx_schema.specs.Picks.{Indexed}
use Rattle.mx_schema.specs.Sound.{AreUnique, HaveKeys}
use Rattle.mx_schema.specs.State.{Tuples}
use Rattle.mx_entries.specs.Entries.{IndexEntry}
use Rattle.mx_entries.specs.KeptKeys.{kept_key}

-- a tuple's entry
abbrev pub kept_entry : IndexDef → Indexed → Key × Key
kept_entry def entry = (kept_key def entry.0 entry.1, entry.0)

-- the entries of an index of another number than 0: the primary key of each tuple
abbrev pub kept_entries : IndexDef → Tuples → FinMap key_cmp Key
kept_entries def tuples = from_entries (map (kept_entry def) (entries tuples))

-- A key has at most one tuple in the index, and each tuple has a key. So it is in the index of the number 0, whose keys are the tuples' own.
abbrev pub HoldsOneEach : IndexDef → Tuples → Type 0
HoldsOneEach def tuples = (def.id.0 ≡ 0) ⊎ ((def.unique ≡ true) × AreUnique def tuples × HaveKeys def tuples)

-- ---- what memory keeps

-- an entry as bytes
abbrev pub entry_bytes : Key × Key → IndexEntry
entry_bytes entry = (comparable_of entry.0, comparable_of entry.1)

-- these entries, whose numbers have 64 bits
pub record StoresEntries (kept : List IndexEntry) (all : FinMap key_cmp Key) : Type 0 where
  pub same : map entry_bytes (entries all) ≡ kept
  pub fit : AllByRecursion (λ (entry : Key × Key). AreFit entry.0) (entries all)

-- the index of the number 0 has no entries beside the tuples
abbrev pub StoresByNumber : (is_first : Bool) → IndexDef → Tuples → List IndexEntry → Type 0
StoresByNumber true def tuples kept = kept ≡ []
StoresByNumber false def tuples kept = StoresEntries kept (kept_entries def tuples)

-- the entries of an index
abbrev pub StoresIndex : Tuples → IndexDef → List IndexEntry → Type 0
StoresIndex tuples def kept = StoresByNumber (def.id.0 == 0) def tuples kept
