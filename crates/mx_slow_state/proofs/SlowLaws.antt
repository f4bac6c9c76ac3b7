-- What the plain slow program finds and keeps is what the definitions say.
use Rattle.std.proofs.Common.{◌≡◌, inl, inr, ℕ, suc, ◌+◌, Bool, true, false, cond, List, [], ◌∷◌, map, drop, get_or, length, ◌<◌, ◌≤◌, refl, sym, ap, ◌∙◌, subst, arith, add-one, nat_cmp}
use Rattle.std.specs.Prelude.{Option, Some, None, Result, Ok, Err, IfSome, MatchResult, OnOk, ◌==◌, if◌then◌else◌}
use Rattle.std.specs.BTreeMap.{insert_entry, is_at}
use Rattle.std.specs.FinMap.{empty, entries, insert, remove}
use Rattle.std.specs.Cmp.Lexicographic.{slice_cmp}
use Rattle.std.proofs.lemmas.Bool.{eqb-true}
use Rattle.std.proofs.lemmas.Bool.Decides.{nat_tests}
use Rattle.std.proofs.lemmas.List.{drop_all}
use Rattle.std.proofs.Math.Seq.{drop-cons}
use Rattle.mx_key.specs.declared.edge.KeyRange.{KeyRange}
use Rattle.mx_key.specs.Comparable.{comparable_of, edges_of}
use Rattle.mx_key.specs.Keys.{Key, AreFit}
use Rattle.mx_key.specs.Ranges.{range_of}
use Rattle.mx_key.proofs.RangeLaws.{range_holds}
use Rattle.mx_schema.specs.declared.index_def.IndexDef.{IndexDef}
use Rattle.mx_schema.specs.declared.keyed.Keyed.{Keyed}
use Rattle.mx_entries.specs.declared.pick.Pick.{Pick}
use Rattle.mx_entries.specs.declared.pick.SelectStop.{SelectStop}
use Rattle.mx_schema.specs.declared.schema.Schema.{Schema}
use Rattle.mx_schema.specs.Catalogues.{index_with}
use Rattle.mx_schema.specs.Picks.{entry_key, indexed_with, total_bytes, max_result_size}
use Rattle.mx_entries.specs.Scans.{picked_of}
use Rattle.mx_entries.specs.Windows.{found_in}
use Rattle.mx_schema.specs.State as plain
use Rattle.mx_schema.specs.State.{State, key_in, tuples_in, with_tuple, without_tuple}
use Rattle.mx_schema.specs.Stored.{StandByPrimary, StoredTuple, StoresSpace, StoresTuples, stored_list, stored_view}
use Rattle.mx_entries.proofs.PickLaws as picks
use Rattle.mx_entries.proofs.PickLaws.{fit_ends}
use Rattle.mx_schema.proofs.StateLaws.{stands_after, stands_left, tuples_set}
use Rattle.mx_schema.proofs.StoredLaws.{PartIndexed, one_indexed, all_indexed, stores_none}
use Rattle.mx_slow_state.specs.declared.slow_state.SlowSpace.{SlowSpace}
use Rattle.mx_slow_state.specs.SlowState.{KeepsSpace}
use Rattle.mx_slow_state.specs.SlowSteps.{Finds, Gathers, KeepsBy}

-- ---- a tuple more, and one less

pub at_same : (a b : ℕ) → is_at (nat_cmp a) b ≡ (b == a)
at_same a b = grind (arith, nat_tests)

-- one space has other tuples, and the others are as before
keeps_changed : (schemas : ℕ → Option Schema) (before : State) (space : ℕ) (all : plain.Tuples) (old new : ℕ → Option SlowSpace) (was now : SlowSpace) → old space ≡ Some was
    → (KeepsSpace (schemas space) (Some was) (tuples_in before space) → KeepsSpace (schemas space) (Some now) all)
    → ((q : ℕ) → new q ≡ cond (is_at (nat_cmp space) q) (Some now) (old q)) → KeepsBy schemas old before → KeepsBy schemas new (insert before space all)
keeps_changed schemas before space all old new was now there changes updates keeps q = by_test (q == space) refl
  where
    by_test : (b : Bool) → (q == space) ≡ b → KeepsSpace (schemas q) (new q) (tuples_in (insert before space all) q)
    by_test true e =
        let found : new q ≡ Some now = updates q ∙ ap (λ b. cond b (Some now) (old q)) (at_same space q ∙ e) in
        let tuples : tuples_in (insert before space all) q ≡ all = tuples_set before space all q ∙ ap (λ b. if b then all else tuples_in before q) e in
        let had : KeepsSpace (schemas space) (Some was) (tuples_in before space) = subst (λ o. KeepsSpace (schemas space) o (tuples_in before space)) there (keeps space) in
        subst (λ o. KeepsSpace (schemas q) o (tuples_in (insert before space all) q)) (sym found)
        (subst (λ t. KeepsSpace (schemas q) (Some now) t) (sym tuples)
        (subst (λ s. KeepsSpace (schemas s) (Some now) all) (sym (eqb-true q space e)) (changes had)))
    by_test false e =
        let found : new q ≡ old q = updates q ∙ ap (λ b. cond b (Some now) (old q)) (at_same space q ∙ e) in
        let tuples : tuples_in (insert before space all) q ≡ tuples_in before q = tuples_set before space all q ∙ ap (λ b. if b then all else tuples_in before q) e in
        subst (λ o. KeepsSpace (schemas q) o (tuples_in (insert before space all) q)) (sym found)
        (subst (λ t. KeepsSpace (schemas q) (old q) t) (sym tuples) (keeps q))

module _ (schemas : ℕ → Option Schema) (before : State) (space : ℕ) (schema : Schema) (key : Key) (tuple : List ℕ) (is : schemas space ≡ Some schema)
    (keyed : IfSome (index_with 0 schema.indexes) (λ def. key_in def.key tuple ≡ Ok key)) where
  abbrev put_into : State
  put_into = with_tuple before space key tuple

  abbrev with_it : plain.Tuples
  with_it = insert (tuples_in before space) key tuple

  has_more : (was now : SlowSpace) → now.schema ≡ was.schema → StoresTuples (stored_list now.tuples.items) with_it
      → KeepsSpace (schemas space) (Some was) (tuples_in before space) → KeepsSpace (schemas space) (Some now) with_it
  has_more was now same keeps had =
      let one : schema ≡ now.schema = same_schema schema now.schema (sym is ∙ had.is ∙ ap (λ s. Some s) (sym same)) in
      let stands : StandByPrimary now.schema (tuples_in before space) = subst (λ (s : Schema). StandByPrimary s (tuples_in before space)) (sym same) had.stands in
      record {
        is = had.is ∙ ap (λ s. Some s) (sym same);
        keeps = keeps;
        stands = stands_after now.schema (tuples_in before space) key tuple
            (subst (λ (s : Schema). IfSome (index_with 0 s.indexes) (λ def. key_in def.key tuple ≡ Ok key)) one keyed) stands;
      }
    where
      same_schema : (one other : Schema) → Some one ≡ Some other → one ≡ other
      same_schema one other e = cc

  -- one space has a tuple more
  pub keeps_put : (old new : ℕ → Option SlowSpace) (was now : SlowSpace) → old space ≡ Some was → now.schema ≡ was.schema
      → ((tuples : plain.Tuples) → StoresTuples (stored_list was.tuples.items) tuples → StoresTuples (stored_list now.tuples.items) (insert tuples key tuple))
      → ((q : ℕ) → new q ≡ cond (is_at (nat_cmp space) q) (Some now) (old q)) → KeepsBy schemas old before → KeepsBy schemas new put_into
  keeps_put old new was now there same put =
      keeps_changed schemas before space with_it old new was now there (λ had. has_more was now same (put (tuples_in before space) had.keeps) had)

-- one space has a tuple less
pub keeps_left : (schemas : ℕ → Option Schema) (before : State) (space : ℕ) (key : Key) (old new : ℕ → Option SlowSpace) (was now : SlowSpace) → old space ≡ Some was → now.schema ≡ was.schema
    → ((tuples : plain.Tuples) → StoresTuples (stored_list was.tuples.items) tuples → StoresTuples (stored_list now.tuples.items) (remove tuples key))
    → ((q : ℕ) → new q ≡ cond (is_at (nat_cmp space) q) (Some now) (old q)) → KeepsBy schemas old before → KeepsBy schemas new (without_tuple before space key)
keeps_left schemas before space key old new was now there same keep =
    let all : plain.Tuples = remove (tuples_in before space) key in
    keeps_changed schemas before space all old new was now there (λ had. record {
      is = had.is ∙ ap (λ s. Some s) (sym same);
      keeps = keep (tuples_in before space) had.keeps;
      stands = subst (λ (s : Schema). StandByPrimary s all) (sym same) (stands_left was.schema (tuples_in before space) key had.stands);
    })

-- what follows from a call that succeeds
pub where_ok : {X E P R : Type 0} (Q : Type 0) (result : Result X E) → MatchResult result (λ _. P) (λ _. Q) → (P → R) → OnOk result R
where_ok Q (Ok x) p follows = follows p
where_ok Q (Err e) q follows = tt

-- ---- a space, as it is looked up

-- a space that is there
pub space_found : (schema : Option Schema) (tuples : plain.Tuples) (found : SlowSpace) (there : Option SlowSpace) → Some found ≡ there → KeepsSpace schema there tuples
    → StoresSpace schema found.schema (stored_list found.tuples.items) tuples
space_found schema tuples found there is keeps = subst (λ o. KeepsSpace schema o tuples) (sym is) keeps

-- one that isn't
pub none_found : (schema : Option Schema) (tuples : plain.Tuples) (there : Option SlowSpace) → None ≡ there → KeepsSpace schema there tuples
    → (schema ≡ None) × StoresTuples [] tuples
none_found schema tuples there is keeps =
    let had : KeepsSpace schema None tuples = subst (λ o. KeepsSpace schema o tuples) (sym is) keeps in
    (had.none, subst (StoresTuples []) (sym had.no_tuples) (stores_none [] refl))

-- ---- the tuples by another index

-- one more stands under its key
pub one_listed : (def : IndexDef) (all : plain.Tuples) (kept : List Keyed) (place : ℕ) (one : Keyed) (indexed after : List Keyed) (keyed : Keyed) → place < length kept
    → one ≡ get_or kept place one
    → ((first : Key) → AreFit first → one.key ≡ comparable_of first
    → (keyed.key ≡ comparable_of (entry_key def first one.tuple)) × AreFit (entry_key def first one.tuple) × (keyed.tuple ≡ one.tuple))
    → stored_list after ≡ insert_entry (slice_cmp nat_cmp) (stored_list indexed) keyed.key keyed.tuple
    → PartIndexed def all (stored_list indexed) (stored_list (drop place kept)) → PartIndexed def all (stored_list after) (stored_list (drop (place + 1) kept))
one_listed def all kept place one indexed after keyed within is keys put part =
    let next : stored_list (drop place kept) ≡ stored_view one ∷ stored_list (drop (place + 1) kept) =
    rw add-one (ap stored_list (drop-cons kept place one within) ∙ ap (λ k. stored_view k ∷ stored_list (drop (suc place) kept)) (sym is)) in
    one_indexed def all (stored_list indexed) (stored_list after) (stored_list (drop place kept)) (stored_list (drop (place + 1) kept)) one.key one.tuple keyed.key keyed.tuple
    next keys put part

-- all do
pub all_listed : (def : IndexDef) (all : plain.Tuples) (kept : List Keyed) (place : ℕ) (indexed : List Keyed) → length kept ≤ place
    → PartIndexed def all (stored_list indexed) (stored_list (drop place kept)) → StoresTuples (stored_list indexed) (indexed_with def empty (entries all))
all_listed def all kept place indexed past part =
    all_indexed def all (stored_list indexed) (stored_list (drop place kept)) (ap stored_list (drop_all place kept past)) part

-- ---- what is gathered

-- it is what is picked of the tuples that are kept so
pub finds : (all : plain.Tuples) (wanted : Pick) (key : Key) (kept : List StoredTuple) (range : KeyRange) → StoresTuples kept all → AreFit key
    → range ≡ edges_of (range_of wanted.iterator key) → (result : Result (List (List ℕ)) SelectStop)
    → Gathers (found_in kept range wanted.iterator wanted.offset wanted.limit) result → Finds (entries all) wanted key result
finds all wanted key kept range stores fit edges result gathers = by_result result gathers
  where
    picked : map (λ (entry : StoredTuple). entry.1) (found_in kept range wanted.iterator wanted.offset wanted.limit) ≡ (picked_of (entries all) wanted key).tuples
    picked =
        ap (λ r. map (λ (entry : StoredTuple). entry.1) (found_in kept r wanted.iterator wanted.offset wanted.limit)) edges
        ∙ picks.tuples_are_picked wanted.iterator key (λ sought f. range_holds (range_of wanted.iterator key) sought (fit_ends wanted.iterator key fit) f)
        (entries all) stores.fit kept stores.same wanted.offset wanted.limit

    by_result : (result : Result (List (List ℕ)) SelectStop) → Gathers (found_in kept range wanted.iterator wanted.offset wanted.limit) result
        → Finds (entries all) wanted key result
    by_result (Ok tuples) (found, short) = (found ∙ picked, short)
    by_result (Err stop) (inl (long, above)) = inl (long, subst (λ t. max_result_size < total_bytes t) picked above)
    by_result (Err stop) (inr none) = inr none
