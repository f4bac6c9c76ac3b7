-- What memory holds of own changes after one more.
use Rattle.std.proofs.Common.{◌≡◌, ℕ, ap, ◌∙◌, List, Option, inl, inr, sym, subst, ◌≢◌, Bool, true, false, cond, ◌∷◌, Some, None, refl, arith, eqb-true, eq-eqb, true≢false}
use Rattle.std.specs.Prelude.{◌⊎◌, ◌==◌, if◌then◌else◌, is_some}
use Rattle.std.specs.FinMap.{empty, get, get-empty, get-insert, insert}
use Rattle.std.specs.List.{AllByRecursion}
use Rattle.std.specs.BTreeMap.{BTreeMap, is_at}
use Rattle.std.specs.Cmp.{tied_itself}
use Rattle.std.specs.Ordering.{is_eq, nat_cmp}
use Rattle.std.proofs.lemmas.Bool.Decides.{nat_tests}
use Rattle.mx_msgpack.specs.Readers.{◌>>=◌}
use Rattle.mx_schema.specs.Catalogues.{schema_of}
use Rattle.mx_schema.specs.State.{State, tuples_in}
use Rattle.mx_space.specs.declared.state_view.StateView.{StateView}
use Rattle.mx_entries.specs.OwnWrites.{under, OwnWrites}
use Rattle.mx_entries.specs.OwnStates.{written_by}
use Rattle.mx_space.specs.OwnChanges.{HoldsView, HoldsOwn, overlaid}
use Rattle.mx_entries.proofs.OwnStateLaws.{tuples_with_own, schema_with_own, same_or_none, stand_too}
use Rattle.mx_schema.specs.declared.schema.Schema.{Schema}
use Rattle.mx_space.specs.declared.overlay.OverlaidSpace.{OverlaidSpace}
use Rattle.mx_space.specs.declared.own_changes.Overlay.{Overlay}
use Rattle.mx_space.specs.Overlays.{StoresOver, StoresWritten}
use Rattle.mx_entries.specs.PlainChanges.{PlainChange, MayStand}
use Rattle.mx_key.specs.Keys.{Key, key_cmp}
use Rattle.mx_key.proofs.KeyLaws.{key_cmp_total}
use Rattle.mx_space.specs.declared.space.Space.{Space}
use Rattle.mx_space.specs.Kept.{StoresIndexed}
use Rattle.mx_space.specs.Spaces.{space_under}
use Rattle.mx_space.specs.Stored.{HoldsBy, HoldsSpace}
use Rattle.std.specs.BTreeMap as tree
use Rattle.mx_space.specs.declared.state.State as coded

-- ---- a state under own changes: its tuples, what describes its spaces, and what memory holds of the changes

module _ (view : StateView) (seen : State) (holds : HoldsView view seen) where
  -- a space has its tuples under the own writes in it
  pub tuples_seen : (space : ℕ) → tuples_in seen space ≡ under (written_by space holds.own) (tuples_in holds.base space)
  tuples_seen space = ap (λ s. tuples_in s space) holds.is ∙ tuples_with_own holds.base holds.own space

  -- the state under the writes describes each space
  pub schema_seen : (space : ℕ) → schema_of seen space ≡ schema_of holds.base space
  schema_seen space = ap (λ s. schema_of s space) holds.is ∙ schema_with_own holds.base holds.own holds.plain space

-- ---- own changes stand under any descriptions that are the same for the spaces of the changes

-- own changes stand under any descriptions that are the same for the spaces of the changes
pub same_schemas : (one other : ℕ → Option Schema) (overlay : Overlay) (own : List PlainChange) → HoldsOwn one overlay own
    → AllByRecursion (λ change. one change.space ≡ other change.space) own → HoldsOwn other overlay own
same_schemas one other overlay own holds same = record {
  each = λ space. by_space space (same_or_none one other space own same);
  none = holds.none;
  stand = stand_too one other own same holds.stand;
}
  where
    by_space : (space : ℕ) → (one space ≡ other space) ⊎ (written_by space own ≡ empty) → StoresOver (other space) (overlaid space overlay) (written_by space own)
    by_space space (inl is) = subst (λ s. StoresOver s (overlaid space overlay) (written_by space own)) is (holds.each space)
    by_space space (inr none) = subst (λ (o : Option OverlaidSpace). StoresOver (other space) o (written_by space own)) (sym (holds.none space none)) none

-- ---- what memory holds of own changes after one more

pub at_number : (a b : ℕ) → is_at (nat_cmp a) b ≡ (a == b)
at_number a b = grind (arith, nat_tests)

some_not_none : {X : Type 0} (x : X) → Some x ≢ None
some_not_none x is = true≢false (ap is_some is)

-- a write more isn't none
pub not_empty : (written : OwnWrites) (key : Key) (tuple : Option (List ℕ)) → insert written key tuple ≢ empty
not_empty written key tuple is = some_not_none tuple (
    ap (λ o. cond (is_eq o) (Some tuple) (get written key)) (sym (tied_itself key_cmp_total key))
    ∙ sym (get-insert key_cmp_total written key tuple key)
    ∙ ap (λ (w : OwnWrites). get w key) is
    ∙ get-empty key_cmp key)

-- the writes in one space are others now
abbrev pub SetsWrites : (old new : Overlay) → (id : ℕ) → OverlaidSpace → Type 0
SetsWrites old new id over = (q : ℕ) → overlaid q new ≡ cond (is_at (nat_cmp id) q) (Some over) (overlaid q old)

module _ (schemas : ℕ → Option Schema) (old new : Overlay) (own : List PlainChange) (holds : HoldsOwn schemas old own) where
  -- one space has its writes
  holds_at : (id : ℕ) (over : OverlaidSpace) (later : List PlainChange) → SetsWrites old new id over
      → ((q : ℕ) → (id == q) ≡ false → written_by q later ≡ written_by q own)
      → StoresWritten (schemas id) over (written_by id later) → (q : ℕ) → StoresOver (schemas q) (overlaid q new) (written_by q later)
  holds_at id over later sets others here q = by_test (id == q) refl
    where
      by_test : (b : Bool) → (id == q) ≡ b → StoresOver (schemas q) (overlaid q new) (written_by q later)
      by_test true e =
          subst (λ o. StoresOver (schemas q) o (written_by q later)) (sym (sets q ∙ ap (λ b. cond b (Some over) (overlaid q old)) (at_number id q ∙ e)))
          (subst (λ n. StoresWritten (schemas n) over (written_by n later)) (eqb-true id q e) here)
      by_test false e =
          subst (λ o. StoresOver (schemas q) o (written_by q later)) (sym (sets q ∙ ap (λ b. cond b (Some over) (overlaid q old)) (at_number id q ∙ e)))
          (subst (StoresOver (schemas q) (overlaid q old)) (sym (others q e)) (holds.each q))

  -- no space without changes has writes
  none_at : (id : ℕ) (over : OverlaidSpace) (later : List PlainChange) → SetsWrites old new id over
      → ((q : ℕ) → (id == q) ≡ false → written_by q later ≡ written_by q own)
      → written_by id later ≢ empty → (q : ℕ) → written_by q later ≡ empty → overlaid q new ≡ None
  none_at id over later sets others some q none = by_test (id == q) refl
    where
      by_test : (b : Bool) → (id == q) ≡ b → overlaid q new ≡ None
      by_test true e = absurd (some (subst (λ n. written_by n later ≡ empty) (sym (eqb-true id q e)) none))
      by_test false e = sets q ∙ ap (λ b. cond b (Some over) (overlaid q old)) (at_number id q ∙ e) ∙ holds.none q (sym (others q e) ∙ none)

  -- a change more
  pub holds_more : (change : PlainChange) (over : OverlaidSpace) → SetsWrites old new change.space over → MayStand schemas change
      → StoresWritten (schemas change.space) over (insert (written_by change.space own) change.key change.tuple) → HoldsOwn schemas new (change ∷ own)
  holds_more change over sets stands here = record {
    each = holds_at change.space over (change ∷ own) sets
        (λ q apart. ap (λ b. if b then insert (written_by q own) change.key change.tuple else written_by q own) apart)
        (subst (λ b. StoresWritten (schemas change.space) over (if b then insert (written_by change.space own) change.key change.tuple else written_by change.space own))
        (sym (eq-eqb change.space change.space refl)) here);
    none = none_at change.space over (change ∷ own) sets
        (λ q apart. ap (λ b. if b then insert (written_by q own) change.key change.tuple else written_by q own) apart)
        (λ none. not_empty (written_by change.space own) change.key change.tuple
        (sym (ap (λ b. if b then insert (written_by change.space own) change.key change.tuple else written_by change.space own) (eq-eqb change.space change.space refl)) ∙ none));
    stand = (stands, holds.stand);
  }

  -- as before
  pub holds_still : (id : ℕ) (found over : OverlaidSpace) → overlaid id old ≡ Some found → SetsWrites old new id over → StoresWritten (schemas id) over (written_by id own) → HoldsOwn schemas new own
  holds_still id found over there sets here = record {
    each = holds_at id over own sets (λ q apart. refl) here;
    none = none_at id over own sets (λ q apart. refl) (λ none. some_not_none found (sym there ∙ holds.none id none));
    stand = holds.stand;
  }

  -- the writes in a space
  pub writes_there : (id : ℕ) (over : OverlaidSpace) → overlaid id old ≡ Some over → StoresWritten (schemas id) over (written_by id own)
  writes_there id over there = subst (λ o. StoresOver (schemas id) o (written_by id own)) there (holds.each id)

  none_there : (id : ℕ) → overlaid id old ≡ None → written_by id own ≡ empty
  none_there id there = subst (λ o. StoresOver (schemas id) o (written_by id own)) there (holds.each id)

  -- a first change in a space, where a map that was as before got its writes
  pub holds_first : (change : PlainChange) (over : OverlaidSpace) (lent : BTreeMap ℕ OverlaidSpace) → lent ≡ old.spaces
      → ((q : ℕ) → overlaid q new ≡ cond (is_at (nat_cmp change.space) q) (Some over) (tree.get nat_cmp lent q)) → overlaid change.space old ≡ None → MayStand schemas change
      → StoresWritten (schemas change.space) over (insert empty change.key change.tuple) → HoldsOwn schemas new (change ∷ own)
  holds_first change over lent same sets none stands stores =
      holds_more change over (λ q. sets q ∙ ap (λ (m : BTreeMap ℕ OverlaidSpace). cond (is_at (nat_cmp change.space) q) (Some over) (tree.get nat_cmp m q)) same) stands
      (subst (λ (w : OwnWrites). StoresWritten (schemas change.space) over (insert w change.key change.tuple)) (sym (none_there change.space none)) stores)

-- no writes in a space that is described as one of a state
pub none_in : (schemas : ℕ → Option Schema) (memory : coded.State) (base : State) (id : ℕ) (stored : Space) (schema : Schema) (over : OverlaidSpace) → HoldsBy schemas memory base
    → Some stored ≡ space_under id memory.spaces.entries.items → schemas id ≡ Some schema → StoresWritten (Some stored.schema) over empty → StoresWritten (Some schema) over empty
none_in schemas memory base id stored schema over holds there described none =
    let stores : StoresIndexed (schemas id) stored (tuples_in base id) = subst (λ o. HoldsSpace (schemas id) o (tuples_in base id)) (sym there) (holds id) in
    subst (λ s. StoresWritten s over empty) (sym stores.holds.is ∙ described) none
