-- Where each index of a space has something, one index more or less, and none at all.
use Rattle.std.proofs.Common.{◌≡◌, ◌≢◌, ◌+◌, ◌<◌, ◌≤◌, ℕ, zero, suc, Bool, true, false, cond, not, List, [], ◌∷◌, ◌++◌, map, take, drop, length, Option, Some, None, refl, sym, ap, ◌∙◌, subst, add-one, arith}
use Rattle.std.specs.Prelude.{IfSome, ◌==◌, if◌then◌else◌, nat_lt}
use Rattle.std.specs.FinMap.{empty}
use Rattle.std.specs.List as list
use Rattle.std.specs.List.{AllZip}
use Rattle.std.proofs.lemmas.Bool.{ne_eqb, eqb-true}
use Rattle.mx_schema.specs.declared.index_def.IndexDef.{IndexDef}
use Rattle.mx_schema.specs.declared.schema.Schema.{Schema}
use Rattle.mx_schema.specs.Catalogues.{StandByKey, index_with}
use Rattle.mx_schema.specs.RowParts.{index_place}
use Rattle.mx_schema.specs.SchemaChecks.{indexes_with}
use Rattle.mx_schema.specs.SchemaChanges.{indexes_without, schema_with_index, schema_without_index}
use Rattle.mx_schema.specs.State.{Tuples}
use Rattle.mx_schema.specs.Stored.{StandByPrimary}
use Rattle.mx_schema.proofs.StateLaws.{none_stand}
use Rattle.mx_schema.proofs.StoredLaws.{no_entries}
use Rattle.mx_entries.specs.Builds.{build_fault, build_fault_from}
use Rattle.mx_entries.specs.EntryChanges.{kept_without}
use Rattle.mx_entries.specs.Entries.{IndexEntry}
use Rattle.mx_entries.specs.KeptEntries.{StoresIndex}
use Rattle.mx_entries.proofs.KeptLaws.{nothing_kept}

pub zip_insert : (R : IndexDef → List IndexEntry → Type 0) (def : IndexDef) (one : List IndexEntry) → R def one → (defs : List IndexDef) (kept : List (List IndexEntry)) → AllZip R defs kept
    → AllZip R (indexes_with def defs) (list.insert kept (index_place def.id.0 defs) one)
zip_insert R def one has [] [] each = (has, tt)
zip_insert R def one has [] (first ∷ kept) each = absurd each
zip_insert R def one has (other ∷ defs) [] each = absurd each
zip_insert R def one has (other ∷ defs) (first ∷ kept) each = by_test (nat_lt def.id.0 other.id.0) (zip_insert R def one has defs kept each.1)
  where
    by_test : (b : Bool) → AllZip R (indexes_with def defs) (list.insert kept (index_place def.id.0 defs) one)
        → AllZip R (if b then def ∷ other ∷ defs else other ∷ indexes_with def defs) (list.insert (first ∷ kept) (if b then 0 else suc (index_place def.id.0 defs)) one)
    by_test true later = (has, each)
    by_test false later = (each.0, later)

pub zip_without : (R : IndexDef → List IndexEntry → Type 0) (id : ℕ) (defs : List IndexDef) (kept : List (List IndexEntry)) → AllZip R defs kept
    → AllZip R (indexes_without id defs) (kept_without id defs kept)
zip_without R id [] [] each = tt
zip_without R id [] (first ∷ kept) each = absurd each
zip_without R id (def ∷ defs) [] each = absurd each
zip_without R id (def ∷ defs) (first ∷ kept) each = by_test (def.id.0 == id) (zip_without R id defs kept each.1)
  where
    by_test : (b : Bool) → AllZip R (indexes_without id defs) (kept_without id defs kept)
        → AllZip R (cond (not b) (def ∷ indexes_without id defs) (indexes_without id defs)) (if b then kept_without id defs kept else first ∷ kept_without id defs kept)
    by_test true later = later
    by_test false later = (each.0, later)

-- no index has entries where all are taken out
pub zip_cleared : (R : IndexDef → List IndexEntry → Type 0) (defs : List IndexDef) (kept : List (List IndexEntry)) → AllZip R defs kept
    → AllZip (StoresIndex empty) defs (map (λ _. []) kept)
zip_cleared R [] [] each = tt
zip_cleared R [] (first ∷ kept) each = absurd each
zip_cleared R (def ∷ defs) [] each = absurd each
zip_cleared R (def ∷ defs) (first ∷ kept) each = (nothing_kept def [] refl, zip_cleared R defs kept each.1)

-- what was put at a place can be taken out there
pub put_back : {X : Type 0} (xs : List X) (place : ℕ) (x : X) → place ≤ length xs → list.remove (list.insert xs place x) place ≡ xs
put_back xs zero x within = refl
put_back [] (suc place) x within = absurd (omega (arith, within))
put_back (y ∷ xs) (suc place) x within = ap (λ l. y ∷ l) (put_back xs place x (omega (arith, within)))

-- ---- entries without those of some indexes, from a place on

module _ (id : ℕ) (def : IndexDef) (defs : List IndexDef) where
  -- the entries at the place are those of another index
  pub passed_here : (def.id.0 == id) ≡ false → (place : ℕ) (kept : List (List IndexEntry)) → place < length kept
      → take (place + 1) kept ++ kept_without id defs (drop (place + 1) kept) ≡ take place kept ++ kept_without id (def ∷ defs) (drop place kept)
  passed_here e place kept within = rw add-one (passed place kept within)
    where
      passed : (place : ℕ) (kept : List (List IndexEntry)) → place < length kept
          → take (suc place) kept ++ kept_without id defs (drop (suc place) kept) ≡ take place kept ++ kept_without id (def ∷ defs) (drop place kept)
      passed place [] within = absurd (omega (arith, within))
      passed zero (one ∷ kept) within = sym (ap (λ b. if b then kept_without id defs kept else one ∷ kept_without id defs kept) e)
      passed (suc place) (one ∷ kept) within = ap (λ l. one ∷ l) (passed place kept (omega (arith, within)))

-- ---- the index of another number

other_with : (id : ℕ) (def : IndexDef) → (def.id.0 == id) ≡ false → (defs : List IndexDef) → index_with id (indexes_with def defs) ≡ index_with id defs
other_with id def apart [] = ap (λ b. if b then Some def else None) apart
other_with id def apart (other ∷ defs) = by_test (nat_lt def.id.0 other.id.0) (other_with id def apart defs)
  where
    by_test : (b : Bool) → index_with id (indexes_with def defs) ≡ index_with id defs
        → index_with id (if b then def ∷ other ∷ defs else other ∷ indexes_with def defs) ≡ index_with id (other ∷ defs)
    by_test true later = ap (λ b. if b then Some def else index_with id (other ∷ defs)) apart
    by_test false later = ap (λ o. if other.id.0 == id then Some other else o) later

other_without : (id gone : ℕ) → id ≢ gone → (defs : List IndexDef) → index_with id (indexes_without gone defs) ≡ index_with id defs
other_without id gone apart [] = refl
other_without id gone apart (def ∷ defs) = by_test (def.id.0 == gone) refl (other_without id gone apart defs)
  where
    by_test : (b : Bool) → (def.id.0 == gone) ≡ b → index_with id (indexes_without gone defs) ≡ index_with id defs
        → index_with id (cond (not b) (def ∷ indexes_without gone defs) (indexes_without gone defs)) ≡ index_with id (def ∷ defs)
    by_test true is later =
        later ∙ sym (ap (λ b. if b then Some def else index_with id defs) (ne_eqb def.id.0 id (λ same. apart (sym same ∙ eqb-true def.id.0 gone is))))
    by_test false is later = ap (λ o. if def.id.0 == id then Some def else o) later

-- ---- spaces

-- tuples stand with an index more, where there are none under a new primary one
pub stand_with : (def : IndexDef) (schema : Schema) (all : Tuples) → (def.id.0 ≡ 0 → all ≡ empty) → StandByPrimary schema all → StandByPrimary (schema_with_index def schema) all
stand_with def schema all none stood = by_test (def.id.0 == 0) refl
  where
    by_test : (b : Bool) → (def.id.0 == 0) ≡ b → StandByPrimary (schema_with_index def schema) all
    by_test true e = subst (StandByPrimary (schema_with_index def schema)) (sym (none (eqb-true def.id.0 0 e))) (none_stand (schema_with_index def schema))
    by_test false e = subst (λ (o : Option IndexDef). IfSome o (λ one. StandByKey one.key all)) (sym (other_with 0 def e schema.indexes)) stood

-- and with another index less
pub stand_without : (id : ℕ) (schema : Schema) (all : Tuples) → id ≢ 0 → StandByPrimary schema all → StandByPrimary (schema_without_index id schema) all
stand_without id schema all apart = subst (λ (o : Option IndexDef). IfSome o (λ def. StandByKey def.key all)) (sym (other_without 0 id (λ same. apart (sym same)) schema.indexes))

-- no tuples have an index that makes a fault
pub none_at_fault : (def : IndexDef) (all : Tuples) → all ≡ empty → build_fault def all ≡ None
none_at_fault def all none = ap (build_fault def) none ∙ ap (build_fault_from def empty) no_entries
