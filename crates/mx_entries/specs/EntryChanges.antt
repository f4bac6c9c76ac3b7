-- What changes of one tuple make of the kept entries of an index.
use Rattle.std.specs.Prelude.{ℕ, List, [], ◌∷◌, Option, Some, None, ◌==◌, if◌then◌else◌}
use Rattle.std.specs.BTreeMap.{is_at}
use Rattle.std.specs.Cmp.Lexicographic.{slice_cmp}
use Rattle.std.specs.Map.{remove_entry}
use Rattle.std.specs.Ordering.{nat_cmp}
use Rattle.mx_schema.specs.declared.index_def.IndexDef.{IndexDef}
use Rattle.mx_entries.specs.Entries.{IndexEntry, with_entry}

-- the entries with one under this key, where there is a key, which leads to a primary key
abbrev pub with_added : (added : Option (List ℕ)) → (primary : List ℕ) → List IndexEntry → List IndexEntry
with_added None primary kept = kept
with_added (Some key) primary kept = with_entry key primary kept

abbrev pub without_key : Option (List ℕ) → List IndexEntry → List IndexEntry
without_key None kept = kept
without_key (Some key) kept = remove_entry (is_at (slice_cmp nat_cmp key)) kept

-- the entries of the index of a number, where those of each index stand in the same order
abbrev pub index_kept : (id : ℕ) → List IndexDef → List (List IndexEntry) → Option (List IndexEntry)
index_kept id [] kept = None
index_kept id (def ∷ defs) [] = None
index_kept id (def ∷ defs) (one ∷ others) = if def.id.0 == id then Some one else index_kept id defs others

-- the entries of each index without those of the indexes of a number
abbrev pub kept_without : (id : ℕ) → List IndexDef → List (List IndexEntry) → List (List IndexEntry)
kept_without id [] kept = kept
kept_without id (def ∷ defs) [] = []
kept_without id (def ∷ defs) (one ∷ others) = if def.id.0 == id then kept_without id defs others else one ∷ kept_without id defs others
