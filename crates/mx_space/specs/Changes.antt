-- Only private functions and proofs need these: what a write changes in the entries of each index.
use Rattle.std.specs.Prelude.{◌≡◌, ◌≢◌, ◌⊎◌, ℕ, Bool, true, false, List, [], ◌∷◌, Option, Some, None, ◌==◌}
use Rattle.mx_space.specs.declared.change.Change.{Change}
use Rattle.mx_key.specs.Comparable.{comparable_of}
use Rattle.mx_key.specs.Keys.{Key, AreFit}
use Rattle.mx_schema.specs.declared.index_def.IndexDef.{IndexDef}
use Rattle.mx_entries.specs.Entries.{IndexEntry}
use Rattle.mx_entries.specs.KeptKeys.{kept_key}
use Rattle.mx_entries.specs.EntryChanges.{with_added, without_key}

-- the entries after a change of the tuple with this primary key
abbrev pub changed : (primary : List ℕ) → Change → List IndexEntry → List IndexEntry
changed primary change kept = without_key change.removed (with_added change.added primary kept)

-- those of each index
abbrev pub all_changed : (primary : List ℕ) → List Change → List (List IndexEntry) → List (List IndexEntry)
all_changed primary [] kept = kept
all_changed primary (change ∷ changes) [] = []
all_changed primary (change ∷ changes) (one ∷ others) = changed primary change one ∷ all_changed primary changes others

-- the entries of each index without these keys
abbrev pub all_without : List (Option (List ℕ)) → List (List IndexEntry) → List (List IndexEntry)
all_without [] kept = kept
all_without (key ∷ keys) [] = []
all_without (key ∷ keys) (one ∷ others) = without_key key one ∷ all_without keys others

pub record IsNoChange (change : Change) : Type 0 where
  pub added : change.added ≡ None
  pub removed : change.removed ≡ None

-- a tuple's entry is added
pub record AddsEntry (def : IndexDef) (primary : Key) (tuple : List ℕ) (change : Change) : Type 0 where
  pub fit : AreFit (kept_key def primary tuple)
  pub added : change.added ≡ Some (comparable_of (kept_key def primary tuple))

-- a tuple's entry is removed
pub record RemovesEntry (def : IndexDef) (primary : Key) (tuple : List ℕ) (key : Option (List ℕ)) : Type 0 where
  pub fit : AreFit (kept_key def primary tuple)
  pub key_is : key ≡ Some (comparable_of (kept_key def primary tuple))

-- two tuples with one primary key have the same entry
pub record HaveOneEntry (def : IndexDef) (primary : Key) (tuple old : List ℕ) : Type 0 where
  pub fit : AreFit (kept_key def primary tuple)
  pub fits : AreFit (kept_key def primary old)
  pub same : comparable_of (kept_key def primary tuple) ≡ comparable_of (kept_key def primary old)

-- one tuple is put, in the place of another one
abbrev pub Replaces : IndexDef → Key → (tuple old : List ℕ) → Change → Type 0
Replaces def primary tuple old change =
    (IsNoChange change × HaveOneEntry def primary tuple old)
    ⊎ (AddsEntry def primary tuple change × RemovesEntry def primary old change.removed
    × (comparable_of (kept_key def primary old) ≢ comparable_of (kept_key def primary tuple)))

-- a tuple is put, in the place of another one with its primary key, where there is one
abbrev pub PutsByNumber : (is_first : Bool) → IndexDef → Key → (tuple : List ℕ) → (old : Option (List ℕ)) → Change → Type 0
PutsByNumber true def primary tuple old change = IsNoChange change
PutsByNumber false def primary tuple None change = AddsEntry def primary tuple change × (change.removed ≡ None)
PutsByNumber false def primary tuple (Some old) change = Replaces def primary tuple old change

abbrev pub Puts : Key → (tuple : List ℕ) → (old : Option (List ℕ)) → IndexDef → Change → Type 0
Puts primary tuple old def change = PutsByNumber (def.id.0 == 0) def primary tuple old change

-- a tuple is removed
abbrev pub RemovesByNumber : (is_first : Bool) → IndexDef → Key → (tuple : List ℕ) → Option (List ℕ) → Type 0
RemovesByNumber true def primary tuple key = key ≡ None
RemovesByNumber false def primary tuple key = RemovesEntry def primary tuple key

abbrev pub Removes : Key → (tuple : List ℕ) → IndexDef → Option (List ℕ) → Type 0
Removes primary tuple def key = RemovesByNumber (def.id.0 == 0) def primary tuple key
