-- What the plain slow program keeps where a space or an index is added or dropped.
use Rattle.std.proofs.lemmas.Bool.Decides.{nat_tests}
use Rattle.std.proofs.Common.{arith, ◌≡◌, ℕ, Bool, true, false, cond, [], refl, sym, ap, ◌∙◌, subst, eqb-true, nat_cmp}
use Rattle.std.specs.Prelude.{◌≢◌, Option, Some, None, Result, Ok, Err, OnErr, OnOk, ◌==◌, if◌then◌else◌}
use Rattle.std.specs.BTreeMap.{is_at}
use Rattle.std.specs.FinMap.{empty, insert}
use Rattle.mx_schema.specs.declared.index_def.IndexDef.{IndexDef}
use Rattle.mx_schema.specs.declared.schema.Schema.{Schema}
use Rattle.mx_schema.specs.declared.space_def.SpaceDef.{SpaceDef}
use Rattle.mx_schema.specs.SchemaChanges.{schema_with_index, schema_without_index, with_schema, without_index}
use Rattle.mx_schema.specs.State.{State, Tuples, tuples_in}
use Rattle.mx_schema.specs.Stored.{StandByPrimary, StoresSpace, StoresTuples, stored_list}
use Rattle.mx_schema.proofs.StateLaws.{none_stand, tuples_set}
use Rattle.mx_schema.proofs.StoredLaws.{stores_none}
use Rattle.mx_entries.proofs.AlteredLaws.{stand_with, stand_without}
use Rattle.mx_slow_state.specs.declared.slow_state.SlowSpace.{SlowSpace}
use Rattle.mx_slow_state.specs.SlowState.{KeepsSpace}
use Rattle.mx_slow_state.specs.SlowSteps.{KeepsBy}
use Rattle.mx_slow_state.proofs.SlowLaws.{at_same}

-- what follows from either end of a call
pub from_ok : {X E P Q : Type 0} (result : Result X E) → OnOk result P → (P → Q) → OnOk result Q
from_ok (Ok x) told follows = follows told
from_ok (Err e) told follows = tt

pub from_err : {X E P Q : Type 0} (result : Result X E) → OnErr result P → (P → Q) → OnErr result Q
from_err (Ok x) told follows = tt
from_err (Err e) told follows = follows told

-- the spaces have another one, or none, under this number
abbrev pub Sets : (old new : ℕ → Option SlowSpace) → (space : ℕ) → Option SlowSpace → Type 0
Sets old new space there = (q : ℕ) → new q ≡ cond (is_at (nat_cmp space) q) there (old q)

-- one space is described otherwise and has other tuples
keeps_one : (schemas : ℕ → Option Schema) (before after : State) (space : ℕ) (schema : Option Schema) (there : Option SlowSpace) (all : Tuples) (old new : ℕ → Option SlowSpace)
    → ((q : ℕ) → tuples_in after q ≡ (if q == space then all else tuples_in before q)) → Sets old new space there → KeepsSpace schema there all
    → KeepsBy schemas old before → KeepsBy (with_schema schemas space schema) new after
keeps_one schemas before after space schema there all old new tuples sets has keeps q =
    subst (λ o. KeepsSpace (with_schema schemas space schema q) o (tuples_in after q)) (sym (sets q ∙ ap (λ b. cond b there (old q)) (at_same space q)))
    (subst (KeepsSpace (with_schema schemas space schema q) (cond (q == space) there (old q))) (sym (tuples q)) (by_test (q == space)))
  where
    by_test : (b : Bool) → KeepsSpace (if b then schema else schemas q) (cond b there (old q)) (if b then all else tuples_in before q)
    by_test true = has
    by_test false = keeps q

-- the tuples are as before
as_before : (state : State) (space q : ℕ) → tuples_in state q ≡ (if q == space then tuples_in state space else tuples_in state q)
as_before state space q = by_test (q == space) refl
  where
    by_test : (b : Bool) → (q == space) ≡ b → tuples_in state q ≡ (if b then tuples_in state space else tuples_in state q)
    by_test true e = ap (tuples_in state) (eqb-true q space e)
    by_test false e = refl

module _ (schemas : ℕ → Option Schema) (state : State) (space : ℕ) (old new : ℕ → Option SlowSpace) (keeps : KeepsBy schemas old state) where
  -- there are no tuples of a space that isn't there
  no_tuples : schemas space ≡ None → tuples_in state space ≡ empty
  no_tuples none = by_space (old space) (subst (λ s. KeepsSpace s (old space) (tuples_in state space)) none (keeps space))
    where
      by_space : (there : Option SlowSpace) → KeepsSpace None there (tuples_in state space) → tuples_in state space ≡ empty
      by_space None kept = kept.no_tuples
      by_space (Some there) kept = let is = kept.is in absurd cc

  -- a space is there that wasn't
  pub space_added : (def : SpaceDef) (added : SlowSpace) → schemas space ≡ None → added.schema ≡ record { def = def; indexes = [] } → added.tuples.items ≡ [] → Sets old new space (Some added)
      → KeepsBy (with_schema schemas space (Some (record { def = def; indexes = [] }))) new state
  space_added def added none schema tuples sets =
      keeps_one schemas state state space (Some (record { def = def; indexes = [] })) (Some added) (tuples_in state space) old new (as_before state space) sets
      (record {
        is = ap (λ s. Some s) (sym schema);
        keeps = subst (StoresTuples (stored_list added.tuples.items)) (sym empty_there) (stores_none (stored_list added.tuples.items) (ap stored_list tuples));
        stands = subst (StandByPrimary added.schema) (sym empty_there) (none_stand added.schema);
      })
      keeps
    where
      empty_there : tuples_in state space ≡ empty
      empty_there = no_tuples none

  -- a space stays as it was
  pub space_stays : (was now : SlowSpace) → old space ≡ Some was → now.schema ≡ was.schema → now.tuples.items ≡ was.tuples.items → Sets old new space (Some now) → KeepsBy schemas new state
  space_stays was now there schema tuples sets q =
      subst (λ o. KeepsSpace (schemas q) o (tuples_in state q)) (sym (sets q ∙ ap (λ b. cond b (Some now) (old q)) (at_same space q))) (by_test (q == space) refl)
    where
      had : KeepsSpace (schemas space) (Some was) (tuples_in state space)
      had = subst (λ o. KeepsSpace (schemas space) o (tuples_in state space)) there (keeps space)

      has : KeepsSpace (schemas space) (Some now) (tuples_in state space)
      has = record {
        is = had.is ∙ ap (λ s. Some s) (sym schema);
        keeps = subst (λ items. StoresTuples (stored_list items) (tuples_in state space)) (sym tuples) had.keeps;
        stands = subst (λ (s : Schema). StandByPrimary s (tuples_in state space)) (sym schema) had.stands;
      }

      by_test : (b : Bool) → (q == space) ≡ b → KeepsSpace (schemas q) (cond b (Some now) (old q)) (tuples_in state q)
      by_test true e = subst (λ n. KeepsSpace (schemas n) (Some now) (tuples_in state n)) (sym (eqb-true q space e)) has
      by_test false e = keeps q

  module _ (schema : Schema) (described : schemas space ≡ Some schema) (was now : SlowSpace) (there : old space ≡ Some was) where
    had : StoresSpace (Some schema) was.schema (stored_list was.tuples.items) (tuples_in state space)
    had = subst (λ s. KeepsSpace s (Some was) (tuples_in state space)) described (subst (λ o. KeepsSpace (schemas space) o (tuples_in state space)) there (keeps space))

    same : was.schema ≡ schema
    same = one_schema schema was.schema had.is
      where
        one_schema : (one other : Schema) → Some one ≡ Some other → other ≡ one
        one_schema one other e = cc

    -- it is described with another index
    pub index_added : (def : IndexDef) → (def.id.0 ≡ 0 → tuples_in state space ≡ empty) → now.schema ≡ schema_with_index def was.schema → now.tuples.items ≡ was.tuples.items
        → Sets old new space (Some now) → KeepsBy (with_schema schemas space (Some (schema_with_index def schema))) new state
    index_added def first schema_is tuples sets =
        keeps_one schemas state state space (Some (schema_with_index def schema)) (Some now) (tuples_in state space) old new (as_before state space) sets
        (record {
          is = ap (λ (s : Schema). Some (schema_with_index def s)) (sym same) ∙ ap (λ s. Some s) (sym schema_is);
          keeps = subst (λ items. StoresTuples (stored_list items) (tuples_in state space)) (sym tuples) had.keeps;
          stands = subst (λ (s : Schema). StandByPrimary s (tuples_in state space)) (sym schema_is) (stand_with def was.schema (tuples_in state space) first had.stands);
        })
        keeps

    -- or with an index less
    pub index_dropped : (id : ℕ) → now.schema ≡ schema_without_index id was.schema → now.tuples.items ≡ (if id == 0 then [] else was.tuples.items)
        → Sets old new space (Some now) → KeepsBy (with_schema schemas space (Some (schema_without_index id schema))) new (without_index state space id)
    index_dropped id schema_is tuples sets = by_test (id == 0) refl tuples
      where
        is : Some (schema_without_index id schema) ≡ Some now.schema
        is = ap (λ (s : Schema). Some (schema_without_index id s)) (sym same) ∙ ap (λ s. Some s) (sym schema_is)

        no_zero : (id == 0) ≡ false → id ≢ 0
        no_zero e = grind (arith, nat_tests)

        by_test : (b : Bool) → (id == 0) ≡ b → now.tuples.items ≡ (if b then [] else was.tuples.items)
            → KeepsBy (with_schema schemas space (Some (schema_without_index id schema))) new (if b then insert state space empty else state)
        by_test true e none =
            keeps_one schemas state (insert state space empty) space (Some (schema_without_index id schema)) (Some now) empty old new (tuples_set state space empty) sets
            (record { is = is; keeps = stores_none (stored_list now.tuples.items) (ap stored_list none); stands = none_stand now.schema })
            keeps
        by_test false other kept =
            keeps_one schemas state state space (Some (schema_without_index id schema)) (Some now) (tuples_in state space) old new (as_before state space) sets
            (record {
              is = is;
              keeps = subst (λ items. StoresTuples (stored_list items) (tuples_in state space)) (sym kept) had.keeps;
              stands = subst (λ (s : Schema). StandByPrimary s (tuples_in state space)) (sym schema_is)
                  (stand_without id was.schema (tuples_in state space) (no_zero other) had.stands);
            })
            keeps
