-- Only private functions and proofs need these: memory while changes of it are ready.
use Rattle.std.specs.Prelude.{◌≡◌, ◌≢◌, ◌⊎◌, ◌<◌, ℕ, Bool, true, false, not, List, [], ◌∷◌, length, map, Option, Some, None, is_some, ◌==◌, if◌then◌else◌}
use Rattle.std.specs.BTreeMap.{insert_entry, is_at}
use Rattle.std.specs.Cmp.Lexicographic.{slice_cmp}
use Rattle.std.specs.FinMap.{FinMap, insert, remove}
use Rattle.std.specs.List.{AllByRecursion, AllZip}
use Rattle.std.specs.Map.{remove_entry, set_value}
use Rattle.std.specs.Option.{option_map}
use Rattle.std.specs.Ordering.{nat_cmp}
use Rattle.mx_key.specs.Keys.{Key, key_cmp}
use Rattle.mx_schema.specs.declared.index_def.IndexDef.{IndexDef}
use Rattle.mx_schema.specs.declared.schema.Schema.{Schema}
use Rattle.mx_schema.specs.State.{Tuples}
use Rattle.mx_schema.specs.Stored.{StandByPrimary, StoredTuple, StoresNone, StoresTuples}
use Rattle.mx_space.specs.declared.change.Change.{Change}
use Rattle.mx_space.specs.declared.prepared.Step.{Step}
use Rattle.mx_space.specs.declared.prepared.TupleStep.{TupleStep}
use Rattle.mx_space.specs.declared.prepared.TupleStep.TheVariants.{Removal, Insertion, Replacement}
use Rattle.mx_space.specs.declared.space.Space.{Space}
use Rattle.mx_space.specs.declared.spaces.SpaceEntry.{SpaceEntry}
use Rattle.mx_space.specs.declared.tuple_changes.TupleChange.{TupleChange}
use Rattle.mx_space.specs.Changes.{IsNoChange, Puts, Removes, all_without}
use Rattle.mx_entries.specs.EntryChanges.{with_added}
use Rattle.mx_entries.specs.Entries.{IndexEntry}
use Rattle.mx_entries.specs.KeptEntries.{StoresEntries, kept_entries}
use Rattle.mx_entries.specs.KeptKeys.{kept_key}
use Rattle.mx_space.specs.Spaces.{space_under}
use Rattle.mx_entries.specs.PlainChanges.{Coming}

-- ---- what a change does to an index

-- a tuple is put in the place of another one with its primary key, or taken out
abbrev pub Edits : Key → (tuple old : Option (List ℕ)) → IndexDef → Change → Type 0
Edits primary (Some tuple) old def change = Puts primary tuple old def change
Edits primary None None def change = IsNoChange change
Edits primary None (Some old) def change = (change.added ≡ None) × Removes primary old def change.removed

-- the same in each index; nothing is said where there is no index beside the primary one
abbrev pub EditsAll : Key → (tuple old : Option (List ℕ)) → List IndexDef → List Change → Type 0
EditsAll primary tuple old defs changes = AllZip (Edits primary tuple old) defs changes ⊎ ((changes ≡ []) × (length defs < 2))

-- ---- what a change does to a tuple

-- the tuple will be taken out
abbrev pub is_removal : TupleStep → Bool
is_removal Removal = true
is_removal Insertion = false
is_removal (Replacement old) = false

-- a step is that of a change
pub record IsStepOf (change : TupleChange) (step : Step) : Type 0 where
  pub space : step.space.0 ≡ change.space.0
  pub key : step.key ≡ change.key
  pub removes : is_removal step.tuple ≡ not (is_some change.tuple)

-- ---- what memory has, as lists

-- of a space: its schema, its tuples, and the entries of each index
abbrev pub Content : Type 0
Content = Schema × List StoredTuple × List (List IndexEntry)

abbrev pub content_of : Space → Content
content_of space = (space.schema, space.tuples.entries, space.indexes.items)

-- of a space with its number
abbrev pub entry_content : SpaceEntry → ℕ × Content
entry_content entry = (entry.id.0, content_of entry.space)

-- of the space of a number
abbrev pub content_under : (id : ℕ) → List SpaceEntry → Option Content
content_under id entries = option_map content_of (space_under id entries)

-- one space is changed
abbrev pub changed_at : (id : ℕ) → (Content → Content) → (q : ℕ) → Option Content → Option Content
changed_at id change q content = if q == id then option_map change content else content

-- the entries of each index with those that changes add
abbrev pub all_added : (primary : List ℕ) → List Change → List (List IndexEntry) → List (List IndexEntry)
all_added primary [] kept = kept
all_added primary (change ∷ changes) [] = []
all_added primary (change ∷ changes) (one ∷ others) = with_added change.added primary one ∷ all_added primary changes others

-- the keys that changes add
abbrev pub added_keys : List Change → List (Option (List ℕ))
added_keys changes = map (λ change. change.added) changes

-- the keys that they remove
abbrev pub removed_keys : List Change → List (Option (List ℕ))
removed_keys changes = map (λ change. change.removed) changes

-- tuples with one under this key, where one is put
abbrev pub with_put : (tuple : Option (List ℕ)) → (key : List ℕ) → List StoredTuple → List StoredTuple
with_put None key kept = kept
with_put (Some tuple) key kept = insert_entry (slice_cmp nat_cmp) kept key tuple

-- without the one under this key, where it is to be taken out
abbrev pub with_removal : TupleStep → (key : List ℕ) → List StoredTuple → List StoredTuple
with_removal Removal key kept = remove_entry (is_at (slice_cmp nat_cmp key)) kept
with_removal Insertion key kept = kept
with_removal (Replacement old) key kept = kept

-- as they were before one was put
abbrev pub without_put : TupleStep → (key : List ℕ) → List StoredTuple → List StoredTuple
without_put Removal key kept = kept
without_put Insertion key kept = remove_entry (is_at (slice_cmp nat_cmp key)) kept
without_put (Replacement old) key kept = set_value (is_at (slice_cmp nat_cmp key)) kept old

-- what is made ready of a change
abbrev pub content_readied : (tuple : Option (List ℕ)) → Step → Content → Content
content_readied tuple step content = (
  content.0,
  with_put tuple step.key content.1,
  all_added step.key step.edits.items content.2,
)

-- the change is made
abbrev pub content_installed : Step → Content → Content
content_installed step content = (
  content.0,
  with_removal step.tuple step.key content.1,
  all_without (removed_keys step.edits.items) content.2,
)

-- what was made ready is taken back
abbrev pub content_released : Step → Content → Content
content_released step content = (
  content.0,
  without_put step.tuple step.key content.1,
  all_without (added_keys step.edits.items) content.2,
)

-- all of it, the last one first
abbrev pub all_released : (q : ℕ) → List Step → Option Content → Option Content
all_released q [] content = content
all_released q (step ∷ earlier) content = all_released q earlier (changed_at step.space.0 (content_released step) q content)

-- ---- what memory has, as maps

-- a key has none of these changes
abbrev pub IsFree : Key → List Coming → Type 0
IsFree key coming = AllByRecursion (λ (other : Coming). key ≢ other.0) coming

-- tuples with one that is put
abbrev pub with_coming_tuple : Coming → Tuples → Tuples
with_coming_tuple (key, None) tuples = tuples
with_coming_tuple (key, Some tuple) tuples = insert tuples key tuple

-- with each one that is put; those to be removed are there still
abbrev pub coming_tuples : Tuples → List Coming → Tuples
coming_tuples tuples [] = tuples
coming_tuples tuples (one ∷ coming) = with_coming_tuple one (coming_tuples tuples coming)

-- an index's entries with that of a tuple that will be put
abbrev pub with_coming : IndexDef → Coming → FinMap key_cmp Key → FinMap key_cmp Key
with_coming def (key, None) all = all
with_coming def (key, Some tuple) all = insert all (kept_key def key tuple) key

-- those of tuples, and of those that will be put
abbrev pub coming_entries : IndexDef → Tuples → List Coming → FinMap key_cmp Key
coming_entries def tuples [] = kept_entries def tuples
coming_entries def tuples (one ∷ coming) = with_coming def one (coming_entries def tuples coming)

-- the tuples after a change
abbrev pub tuples_with : Tuples → Coming → Tuples
tuples_with tuples (key, None) = remove tuples key
tuples_with tuples (key, Some tuple) = insert tuples key tuple

-- the index of the number 0 has no entries beside the tuples
abbrev pub StoresComingByNumber : (is_first : Bool) → IndexDef → Tuples → List Coming → List IndexEntry → Type 0
StoresComingByNumber true def tuples coming kept = kept ≡ []
StoresComingByNumber false def tuples coming kept = StoresEntries kept (coming_entries def tuples coming)

-- the entries of an index, with those to come
abbrev pub StoresComing : Tuples → List Coming → IndexDef → List IndexEntry → Type 0
StoresComing tuples coming def kept = StoresComingByNumber (def.id.0 == 0) def tuples coming kept

-- a space with these tuples, where these changes are ready
pub record StoresReserved (schema : Option Schema) (content : Content) (tuples : Tuples) (coming : List Coming) : Type 0 where
  pub is : schema ≡ Some content.0
  pub keeps : StoresTuples content.1 (coming_tuples tuples coming)
  pub stands : StandByPrimary content.0 tuples
  pub indexes : AllZip (StoresComing tuples coming) content.0.indexes content.2

-- what memory has of a space, where it has something
abbrev pub HoldsReserved : (schema : Option Schema) → Option Content → Tuples → List Coming → Type 0
HoldsReserved schema None tuples coming = StoresNone schema tuples
HoldsReserved schema (Some content) tuples coming = StoresReserved schema content tuples coming
