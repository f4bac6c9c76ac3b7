-- A state under own changes: its tuples, and what describes its spaces.
use Rattle.std.proofs.Common.{◌≡◌, ℕ, Bool, true, false, List, [], ◌∷◌, Option, inl, inr, refl, sym, ap, ◌∙◌, subst, eqb-true, ◌≢◌, Some, None, arith}
use Rattle.std.specs.Prelude.{◌==◌, ◌⊎◌, if◌then◌else◌, pos}
use Rattle.std.specs.FinMap.{empty, insert, entries, get, remove}
use Rattle.std.specs.List.{AllByRecursion, filter}
use Rattle.std.proofs.lemmas.Bool.{ne_eqb}
use Rattle.std.proofs.lemmas.Bool.Decides.{nat_tests}
use Rattle.mx_schema.specs.declared.schema.Schema.{Schema}
use Rattle.mx_entries.specs.OwnStates.{written_by, AreNoDescriptions, state_with_own}
use Rattle.mx_entries.specs.PlainChanges.{MayStand, PlainChange, state_with}
use Rattle.mx_msgpack.specs.Readers.{◌>>=◌}
use Rattle.mx_key.specs.Keys.{Key, Integer, is_key_prefix}
use Rattle.mx_schema.specs.declared.space_def.SpaceDef.{SpaceDef}
use Rattle.mx_schema.specs.Catalogues.{index_defs, schema_by, schema_of}
use Rattle.mx_schema.specs.SpaceRows.{space_in}
use Rattle.mx_schema.specs.State.{State, Tuples, index_rows, space_rows, tuples_in}
use Rattle.mx_schema.proofs.StateLaws.{tuples_set}
use Rattle.mx_entries.specs.OwnWrites.{OwnWrites, under, with_write}
use Rattle.mx_entries.proofs.UnderLaws.{under_more, under_none}

-- ---- changes that stand where two states describe their spaces the same

module _ (one other : ℕ → Option Schema) where
  abbrev SameAt : PlainChange → Type 0
  SameAt change = one change.space ≡ other change.space

  -- a space is described the same by both, or it has no changes
  pub same_or_none : (space : ℕ) (own : List PlainChange) → AllByRecursion SameAt own → (one space ≡ other space) ⊎ (written_by space own ≡ empty)
  same_or_none space [] same = inr refl
  same_or_none space (change ∷ earlier) same = by_test (change.space == space) refl (same_or_none space earlier same.1)
    where
      by_test : (b : Bool) → (change.space == space) ≡ b → (one space ≡ other space) ⊎ (written_by space earlier ≡ empty)
          → (one space ≡ other space) ⊎ (written_by space (change ∷ earlier) ≡ empty)
      by_test true e later = inl (subst (λ n. one n ≡ other n) (eqb-true change.space space e) same.0)
      by_test false e (inl is) = inl is
      by_test false e (inr none) = inr (ap (λ b. if b then insert (written_by space earlier) change.key change.tuple else written_by space earlier) e ∙ none)

  pub stand_too : (own : List PlainChange) → AllByRecursion SameAt own → AllByRecursion (MayStand one) own → AllByRecursion (MayStand other) own
  stand_too [] same stand = tt
  stand_too (change ∷ earlier) same stand = (
    record { schema = stand.0.schema; primary = stand.0.primary; is = sym same.0 ∙ stand.0.is; first = stand.0.first; keyed = stand.0.keyed },
    stand_too earlier same.1 stand.1,
  )

-- ---- a state under own changes: its tuples, and what describes its spaces

pub turned : (a b : ℕ) → (a == b) ≡ (b == a)
turned a b = grind (arith, nat_tests)

-- ---- tuples

-- after a change of one tuple its space has it, and the others are as before
pub tuples_with : (state : State) (space : ℕ) (key : Key) (tuple : Option (List ℕ)) (q : ℕ)
    → tuples_in (state_with state space key tuple) q ≡ (if q == space then with_write (tuples_in state space) key tuple else tuples_in state q)
tuples_with state space key None q = tuples_set state space (remove (tuples_in state space) key) q
tuples_with state space key (Some tuple) q = tuples_set state space (insert (tuples_in state space) key tuple) q

-- a space has its tuples under the writes that the changes make in it
pub tuples_with_own : (base : State) (own : List PlainChange) (space : ℕ) → tuples_in (state_with_own base own) space ≡ under (written_by space own) (tuples_in base space)
tuples_with_own base [] space = sym (under_none (tuples_in base space))
tuples_with_own base (change ∷ earlier) space =
    tuples_with (state_with_own base earlier) change.space change.key change.tuple space
    ∙ ap (λ b. if b then with_write (tuples_in (state_with_own base earlier) change.space) change.key change.tuple else tuples_in (state_with_own base earlier) space) (turned space change.space)
    ∙ by_test (change.space == space) refl (tuples_with_own base earlier space)
  where
    by_test : (b : Bool) → (change.space == space) ≡ b → tuples_in (state_with_own base earlier) space ≡ under (written_by space earlier) (tuples_in base space)
        → (if b then with_write (tuples_in (state_with_own base earlier) change.space) change.key change.tuple else tuples_in (state_with_own base earlier) space)
        ≡ under (if b then insert (written_by space earlier) change.key change.tuple else written_by space earlier) (tuples_in base space)
    by_test true e before =
        ap (λ n. with_write (tuples_in (state_with_own base earlier) n) change.key change.tuple) (eqb-true change.space space e)
        ∙ ap (λ t. with_write t change.key change.tuple) before
        ∙ sym (under_more (written_by space earlier) (tuples_in base space) change.key change.tuple)
    by_test false e before = before

-- ---- descriptions

same_indexes : (one other : State) → tuples_in one index_rows ≡ tuples_in other index_rows → (space : ℕ) (def : Option SpaceDef) → schema_by one space def ≡ schema_by other space def
same_indexes one other same space None = refl
same_indexes one other same space (Some def) =
    ap (λ (t : Tuples). Some (record { def = def; indexes = index_defs (filter (λ entry. is_key_prefix (Integer (pos space) ∷ []) entry.0) (entries t)) })) same

-- the same rows of spaces and of indexes describe the same
pub same_schema : (one other : State) → tuples_in one space_rows ≡ tuples_in other space_rows → tuples_in one index_rows ≡ tuples_in other index_rows
    → (space : ℕ) → schema_of one space ≡ schema_of other space
unfolding schema_of
same_schema one other spaces indexes space =
    same_indexes one other indexes space (get (tuples_in one space_rows) (Integer (pos space) ∷ []) >>= space_in)
    ∙ ap (λ (t : Tuples). schema_by other space (get t (Integer (pos space) ∷ []) >>= space_in)) spaces

-- no change is of a space that none is of
none_written : (space : ℕ) (own : List PlainChange) → AllByRecursion (λ (change : PlainChange). change.space ≢ space) own → written_by space own ≡ empty
none_written space [] apart = refl
none_written space (change ∷ earlier) apart =
    ap (λ b. if b then insert (written_by space earlier) change.key change.tuple else written_by space earlier) (ne_eqb change.space space apart.0)
    ∙ none_written space earlier apart.1

no_space_row : (own : List PlainChange) → AreNoDescriptions own → AllByRecursion (λ (change : PlainChange). change.space ≢ space_rows) own
no_space_row [] plain = tt
no_space_row (change ∷ earlier) plain = (plain.0.0, no_space_row earlier plain.1)

no_index_row : (own : List PlainChange) → AreNoDescriptions own → AllByRecursion (λ (change : PlainChange). change.space ≢ index_rows) own
no_index_row [] plain = tt
no_index_row (change ∷ earlier) plain = (plain.0.1, no_index_row earlier plain.1)

module _ (base : State) (own : List PlainChange) (plain : AreNoDescriptions own) where
  as_before : (space : ℕ) → written_by space own ≡ empty → tuples_in (state_with_own base own) space ≡ tuples_in base space
  as_before space none = tuples_with_own base own space ∙ ap (λ (w : OwnWrites). under w (tuples_in base space)) none ∙ under_none (tuples_in base space)

  -- the rows that describe spaces and indexes are as before
  pub space_rows_kept : tuples_in (state_with_own base own) space_rows ≡ tuples_in base space_rows
  space_rows_kept = as_before space_rows (none_written space_rows own (no_space_row own plain))

  pub index_rows_kept : tuples_in (state_with_own base own) index_rows ≡ tuples_in base index_rows
  index_rows_kept = as_before index_rows (none_written index_rows own (no_index_row own plain))

  -- and so each space is described as before
  pub schema_with_own : (space : ℕ) → schema_of (state_with_own base own) space ≡ schema_of base space
  schema_with_own = same_schema (state_with_own base own) base space_rows_kept index_rows_kept
