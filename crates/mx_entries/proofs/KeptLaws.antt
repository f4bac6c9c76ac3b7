-- The entries of no tuples, and where the entries of an index stand.
use Rattle.std.proofs.Common.{◌≡◌, ◌<◌, ℕ, Bool, true, false, cond, List, [], ◌∷◌, map, length, Some, None, refl, sym, ap, ◌∙◌, subst, arith}
use Rattle.std.specs.Prelude.{◌==◌, if◌then◌else◌}
use Rattle.std.specs.FinMap.{empty, entries, from_entries, get, get-remove, remove, same_map}
use Rattle.std.specs.List.{AllZip}
use Rattle.std.specs.Ordering.{eq_by_cmp}
use Rattle.mx_key.specs.Keys.{Key, key_cmp}
use Rattle.mx_key.proofs.KeyLaws.{key_cmp-IsAntisymmetric, key_cmp_total}
use Rattle.mx_schema.specs.declared.index_def.IndexDef.{IndexDef}
use Rattle.mx_schema.specs.Catalogues.{index_with}
use Rattle.mx_schema.specs.Picks.{Indexed}
use Rattle.mx_schema.specs.State.{Tuples}
use Rattle.mx_schema.specs.Stored.{StoredTuple, StoresTuples, stored_tuple}
use Rattle.mx_schema.proofs.StoredLaws.{no_entries}
use Rattle.mx_entries.specs.EntryChanges.{index_kept}
use Rattle.mx_entries.specs.Entries.{IndexEntry}
use Rattle.mx_entries.specs.KeptEntries.{StoresByNumber, StoresEntries, StoresIndex, kept_entries, kept_entry}
use Rattle.mx_entries.proofs.BytesLaws.{stores_none}
use Rattle.mx_entries.proofs.EntriesLaws.{tied_is}

pub no_kept : (def : IndexDef) → kept_entries def empty ≡ empty
no_kept def = ap (λ (all : List Indexed). from_entries (map (kept_entry def) all)) no_entries

-- an index of no tuples has no entries
pub nothing_kept : (def : IndexDef) (kept : List IndexEntry) → kept ≡ [] → StoresIndex empty def kept
nothing_kept def kept none = by_number (def.id.0 == 0)
  where
    by_number : (first : Bool) → StoresByNumber first def empty kept
    by_number true = none
    by_number false = subst (StoresEntries kept) (sym (no_kept def)) (stores_none kept none)

-- and nothing is kept of no tuples
pub nothing_stored : (kept : List StoredTuple) (all : Tuples) → StoresTuples kept all → all ≡ empty → kept ≡ []
nothing_stored kept all keeps none = sym keeps.same ∙ ap (λ (t : Tuples). map stored_tuple (entries t)) none ∙ ap (map stored_tuple) no_entries

-- the primary index has no entries, whatever the tuples are
pub kept_alone : (all other : Tuples) (defs : List IndexDef) (kept : List (List IndexEntry)) (primary : IndexDef) → length kept < 2 → AllZip (StoresIndex all) defs kept
    → index_with 0 defs ≡ Some primary → AllZip (StoresIndex other) defs kept
kept_alone all other [] kept primary one each there = absurd cc
kept_alone all other (def ∷ defs) [] primary one each there = absurd each
kept_alone all other (def ∷ []) (first ∷ []) primary one each there = (by_number (def.id.0 == 0) there each.0, tt)
  where
    by_number : (own : Bool) → (if own then Some def else None) ≡ Some primary → StoresByNumber own def all first → StoresByNumber own def other first
    by_number true there none = none
    by_number false there none = absurd cc
kept_alone all other (def ∷ []) (first ∷ next ∷ kept) primary one each there = absurd each.1
kept_alone all other (def ∷ second ∷ defs) (first ∷ []) primary one each there = absurd each.1
kept_alone all other (def ∷ second ∷ defs) (first ∷ next ∷ kept) primary one each there = absurd (omega (arith, one))

-- ---- a write

-- nothing is removed where there is no such tuple
pub none_removed : (all : Tuples) (key : Key) → get all key ≡ None → remove all key ≡ all
none_removed all key none =
    same_map key_cmp_total key_cmp-IsAntisymmetric (remove all key) all (λ q. get-remove key_cmp_total all key q ∙ by_test q (eq_by_cmp key_cmp q key) refl)
  where
    by_test : (q : Key) (b : Bool) → eq_by_cmp key_cmp q key ≡ b → cond b None (get all q) ≡ get all q
    by_test q true tied = sym (ap (get all) (tied_is q key tied) ∙ none)
    by_test q false apart = refl

-- ---- the index of a number

pub index_there : (tuples : Tuples) (id : ℕ) (defs : List IndexDef) (kept : List (List IndexEntry)) (def : IndexDef) → AllZip (StoresIndex tuples) defs kept
    → index_with id defs ≡ Some def → (one : List IndexEntry) × (index_kept id defs kept ≡ Some one) × StoresIndex tuples def one
index_there tuples id [] kept def each is = absurd cc
index_there tuples id (first ∷ defs) [] def each is = absurd each
index_there tuples id (first ∷ defs) (one ∷ kept) def each is = by_test (first.id.0 == id) is (λ there. index_there tuples id defs kept def each.1 there)
  where
    by_test : (b : Bool) → (if b then Some first else index_with id defs) ≡ Some def
        → (index_with id defs ≡ Some def → (one : List IndexEntry) × (index_kept id defs kept ≡ Some one) × StoresIndex tuples def one)
        → (found : List IndexEntry) × ((if b then Some one else index_kept id defs kept) ≡ Some found) × StoresIndex tuples def found
    by_test true here later = let same : first ≡ def = cc in (one, refl, subst (λ (d : IndexDef). StoresIndex tuples d one) same each.0)
    by_test false there later = later there
