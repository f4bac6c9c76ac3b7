-- States before and after a change agree but for what it touches, and still do after a further change that both make.
use Rattle.std.proofs.Common.{◌≡◌, ◌⊎◌, inl, inr, ℕ, ◌≤◌, Bool, true, false, cond, ◌&&◌, List, [], ◌∷◌, ◌++◌, Option, Some, None, refl, sym, ap, ◌∙◌, subst, arith, eq-eqb, eqb-true}
use Rattle.std.proofs.lemmas.Bool.Decides.{nat_tests}
use Rattle.std.proofs.lemmas.List.Elements.{Contains-append_right}
use Rattle.std.specs.Prelude.{is_none, ◌==◌, if◌then◌else◌}
use Rattle.std.specs.FinMap.{empty, get, get-insert, get-remove, insert, remove}
use Rattle.std.specs.List.{Contains}
use Rattle.std.specs.Ordering.{eq_by_cmp}
use Rattle.mx_key.specs.Keys.{Key, key_cmp}
use Rattle.mx_key.proofs.KeyLaws.{key_cmp_total}
use Rattle.mx_schema.specs.declared.index_def.IndexRow.{IndexRow}
use Rattle.mx_schema.specs.SchemaChanges.{without_index}
use Rattle.mx_schema.specs.SchemaChecks.{first_user_space}
use Rattle.mx_schema.specs.Sound.{IsSound}
use Rattle.mx_schema.specs.State.{State, Tuples, index_rows, tuples_in, with_tuple, without_tuple}
use Rattle.mx_schema.proofs.KeyedLaws.{two_key}
use Rattle.mx_schema.proofs.StateLaws.{tuples_set}
use Rattle.mx_entries.proofs.EntriesLaws.{tied_is, ties_itself}
use Rattle.mx_write.specs.Change.{state_after_change, state_with}
use Rattle.mx_write.specs.Descriptions.{index_named_by, space_named_by}
use Rattle.mx_write.specs.Installs.{MayChange}
use Rattle.mx_write.specs.Touches.{Touched, touched_at, touched_by}
use Rattle.mx_write.proofs.DescriptionLaws.{DroppedIndex, dropped_index}
use Rattle.mx_write.proofs.EachSpaceLaws.{after_put, change_of}
use Rattle.mx_model.specs.Frame.{AgreeAt, AgreeBut, IsIndexTouched, IsTouched}

-- the first of a list is in it
contains_first : {X : Type 0} (x : X) (xs : List X) → Contains (x ∷ xs) x
contains_first x xs = (0, omega arith, refl)

-- what a space has after it is given other tuples, and what the others have
own_tuples : (before : State) (space : ℕ) (all : Tuples) → tuples_in (insert before space all) space ≡ all
own_tuples before space all = tuples_set before space all space ∙ ap (λ b. if b then all else tuples_in before space) (eq-eqb space space refl)

others_tuples : (before : State) (space : ℕ) (all : Tuples) (q : ℕ) → (q == space) ≡ false → tuples_in (insert before space all) q ≡ tuples_in before q
others_tuples before space all q other = tuples_set before space all q ∙ ap (λ b. if b then all else tuples_in before q) other

-- states agree that differ under one key of a space, where both have only what was touched, and in spaces that went with their indexes
changed_at : (touched : List Touched) (before after : State) (space : ℕ) (key : Key)
    → ((q : ℕ) → (q == space) ≡ false → IsIndexTouched touched q ⊎ (tuples_in after q ≡ tuples_in before q))
    → ((k : Key) → eq_by_cmp key_cmp k key ≡ false → get (tuples_in after space) k ≡ get (tuples_in before space) k)
    → IsTouched touched before space key → IsTouched touched after space key → AgreeBut touched before after
changed_at touched before after space key others here was is q = by_test (q == space) refl
  where
    by_tie : (k : Key) (b : Bool) → eq_by_cmp key_cmp k key ≡ b → AgreeAt touched before after space k
    by_tie k true tied = subst (AgreeAt touched before after space) (sym (tied_is k key tied)) (inr (was, is))
    by_tie k false apart = inl (sym (here k apart))

    elsewhere : IsIndexTouched touched q ⊎ (tuples_in after q ≡ tuples_in before q) → IsIndexTouched touched q ⊎ ((k : Key) → AgreeAt touched before after q k)
    elsewhere (inl gone) = inl gone
    elsewhere (inr same) = inr (λ k. inl (ap (λ (t : Tuples). get t k) (sym same)))

    by_test : (b : Bool) → (q == space) ≡ b → IsIndexTouched touched q ⊎ ((k : Key) → AgreeAt touched before after q k)
    by_test true e =
        subst (λ n. IsIndexTouched touched n ⊎ ((k : Key) → AgreeAt touched before after n k)) (sym (eqb-true q space e))
        (inr (λ k. by_tie k (eq_by_cmp key_cmp k key) refl))
    by_test false e = elsewhere (others q e)

module _ (before : State) (space : ℕ) (key : Key) (tuple : Option (List ℕ)) where
  abbrev touches : List Touched
  touches = touched_by before (change_of space key tuple)

  -- a change touches what stands under its key
  touches_old : (old : List ℕ) → get (tuples_in before space) key ≡ Some old → Contains touches (record { space = space; key = key; tuple = old })
  touches_old old there =
      subst (λ (o : Option (List ℕ)). Contains (touched_at space key o ++ touched_at space key tuple) (record { space = space; key = key; tuple = old })) (sym there)
      (contains_first (record { space = space; key = key; tuple = old }) (touched_at space key tuple))

  -- and what is put there
  touches_new : (new : List ℕ) → tuple ≡ Some new → Contains touches (record { space = space; key = key; tuple = new })
  touches_new new is =
      Contains-append_right (touched_at space key (get (tuples_in before space) key)) (touched_at space key tuple) (record { space = space; key = key; tuple = new })
      (subst (λ (o : Option (List ℕ)). Contains (touched_at space key o) (record { space = space; key = key; tuple = new })) (sym is)
      (contains_first (record { space = space; key = key; tuple = new }) []))

put_agrees : (before : State) (space : ℕ) (key : Key) (tuple : List ℕ) → AgreeBut (touched_by before (change_of space key (Some tuple))) before (with_tuple before space key tuple)
put_agrees before space key tuple =
    changed_at (touches before space key (Some tuple)) before (with_tuple before space key tuple) space key
    (λ q other. inr (others_tuples before space (insert (tuples_in before space) key tuple) q other))
    (λ k apart. found k ∙ ap (λ b. cond b (Some tuple) (get (tuples_in before space) k)) apart)
    (touches_old before space key (Some tuple))
    (λ new is. touches_new before space key (Some tuple) new (sym (ap (λ b. cond b (Some tuple) (get (tuples_in before space) key)) (ties_itself key key refl)) ∙ sym (found key) ∙ is))
  where
    found : (k : Key) → get (tuples_in (with_tuple before space key tuple) space) k ≡ cond (eq_by_cmp key_cmp k key) (Some tuple) (get (tuples_in before space) k)
    found k =
        ap (λ (t : Tuples). get t k) (own_tuples before space (insert (tuples_in before space) key tuple)) ∙ get-insert key_cmp_total (tuples_in before space) key tuple k

-- a tuple is taken out of a state that has the same tuples but those of spaces that went with their indexes
removed_agrees : (before base : State) (space : ℕ) (key : Key) → tuples_in base space ≡ tuples_in before space
    → ((q : ℕ) → (q == space) ≡ false → IsIndexTouched (touched_by before (change_of space key None)) q ⊎ (tuples_in base q ≡ tuples_in before q))
    → AgreeBut (touched_by before (change_of space key None)) before (without_tuple base space key)
removed_agrees before base space key own others =
    changed_at (touches before space key None) before (without_tuple base space key) space key
    (λ q other. moved q other (others q other))
    (λ k apart. found k ∙ ap (λ b. cond b None (get (tuples_in before space) k)) apart)
    (touches_old before space key None)
    (λ new is. absurd (gone new (sym (found key ∙ ap (λ b. cond b None (get (tuples_in before space) key)) (ties_itself key key refl)) ∙ is)))
  where
    gone : (new : List ℕ) → None ≡ Some new → ⊥
    gone new e = cc

    found : (k : Key) → get (tuples_in (without_tuple base space key) space) k ≡ cond (eq_by_cmp key_cmp k key) None (get (tuples_in before space) k)
    found k =
        ap (λ (t : Tuples). get t k) (own_tuples base space (remove (tuples_in base space) key)) ∙ get-remove key_cmp_total (tuples_in base space) key k
        ∙ ap (λ (t : Tuples). cond (eq_by_cmp key_cmp k key) None (get t k)) own

    moved : (q : ℕ) → (q == space) ≡ false → IsIndexTouched (touches before space key None) q ⊎ (tuples_in base q ≡ tuples_in before q)
        → IsIndexTouched (touches before space key None) q ⊎ (tuples_in (without_tuple base space key) q ≡ tuples_in before q)
    moved q other (inl went) = inl went
    moved q other (inr same) = inr (others_tuples base space (remove (tuples_in base space) key) q other ∙ same)

-- no index goes where the tuple that is taken out describes none
pub after_removed : (before : State) (space : ℕ) (key : Key) → (space == index_rows) ≡ false → state_after_change before (change_of space key None) ≡ without_tuple before space key
after_removed before space key e = ap (λ b. without_tuple (if b && true then without_index before (space_named_by key) (index_named_by key) else before) space key) e

-- ---- a change that a write makes

module _ (before : State) (sound : IsSound before) where
  module _ (key : Key) (row : List ℕ) (index : IndexRow) (old : DroppedIndex before key row index) where
    abbrev row_key : Key
    row_key = two_key index.space.0 index.def.id.0

    -- what goes with the row of an index
    abbrev gone : List Touched
    gone = touched_by before (change_of index_rows row_key None)

    abbrev base : Bool → State
    base is_first = if is_first then insert before index.space.0 empty else before

    apart : (space : ℕ) → first_user_space ≤ space → (index_rows == space) ≡ false
    apart space high = grind (arith, nat_tests)

    rows_stay : (is_first : Bool) → tuples_in (base is_first) index_rows ≡ tuples_in before index_rows
    rows_stay true = others_tuples before index.space.0 empty index_rows (apart index.space.0 old.high)
    rows_stay false = refl

    first_touched : index.def.id.0 ≡ 0 → IsIndexTouched gone index.space.0
    first_touched zero =
        let first : Touched = record { space = index_rows; key = two_key index.space.0 0; tuple = row } in
        let stood : get (tuples_in before index_rows) (two_key index.space.0 0) ≡ Some row =
        ap (get (tuples_in before index_rows)) (ap (two_key index.space.0) (sym zero) ∙ sym old.same) ∙ old.stands in (
          old.high,
          row,
          subst (λ n. Contains (touched_by before (change_of index_rows (two_key index.space.0 n) None)) first) (sym zero)
              (touches_old before index_rows (two_key index.space.0 0) None row stood),
        )

    others_stay : (is_first : Bool) → (index.def.id.0 == 0) ≡ is_first → (q : ℕ) → IsIndexTouched gone q ⊎ (tuples_in (base is_first) q ≡ tuples_in before q)
    others_stay true zero q = by_space (q == index.space.0) refl
      where
        by_space : (b : Bool) → (q == index.space.0) ≡ b → IsIndexTouched gone q ⊎ (tuples_in (insert before index.space.0 empty) q ≡ tuples_in before q)
        by_space true e = inl (subst (IsIndexTouched gone) (sym (eqb-true q index.space.0 e)) (first_touched (eqb-true index.def.id.0 0 zero)))
        by_space false e = inr (others_tuples before index.space.0 empty q e)
    others_stay false other q = inr refl

    row_agrees : AgreeBut gone before (without_tuple (base (index.def.id.0 == 0)) index_rows row_key)
    row_agrees =
        removed_agrees before (base (index.def.id.0 == 0)) index_rows row_key (rows_stay (index.def.id.0 == 0))
        (λ q _. others_stay (index.def.id.0 == 0) refl q)

  abbrev pub Agrees : (space : ℕ) → Key → Option (List ℕ) → Type 0
  Agrees space key tuple = AgreeBut (touched_by before (change_of space key tuple)) before (state_after_change before (change_of space key tuple))

  -- the tuples of a space go with the row of its primary index
  index_agrees : (key : Key) → MayChange before index_rows key None → Agrees index_rows key None
  index_agrees key changes =
      let (row, index, old) = dropped_index before sound key changes in
      subst (λ k. Agrees index_rows k None) (sym old.same) (row_agrees key row index old)

  -- states before and after a change
  pub change_agrees : (space : ℕ) (key : Key) (tuple : Option (List ℕ)) → MayChange before space key tuple → Agrees space key tuple
  change_agrees space key (Some tuple) changes =
      subst (AgreeBut (touched_by before (change_of space key (Some tuple))) before) (sym (after_put before space key tuple)) (put_agrees before space key tuple)
  change_agrees space key None changes = by_test (space == index_rows) refl
    where
      by_test : (b : Bool) → (space == index_rows) ≡ b → Agrees space key None
      by_test true e =
          let same = eqb-true space index_rows e in
          subst (λ n. Agrees n key None) (sym same) (index_agrees key (subst (λ n. MayChange before n key None) same changes))
      by_test false e =
          subst (AgreeBut (touched_by before (change_of space key None)) before) (sym (after_removed before space key e))
          (removed_agrees before before space key refl (λ q _. inr refl))

-- ---- a change that both make

module _ (touched : List Touched) (one other : State) (agree : AgreeBut touched one other) (space : ℕ) (key : Key) where
  -- what is found under a key after a change of tuples of one space
  abbrev put_in : Option (List ℕ) → State → State
  put_in tuple state = state_with state space key tuple

  there_now : (tuple : Option (List ℕ)) (state : State) (k : Key) → get (tuples_in (put_in tuple state) space) k ≡ cond (eq_by_cmp key_cmp k key) tuple (get (tuples_in state space) k)
  there_now None state k =
      ap (λ (t : Tuples). get t k) (own_tuples state space (remove (tuples_in state space) key)) ∙ get-remove key_cmp_total (tuples_in state space) key k
  there_now (Some tuple) state k =
      ap (λ (t : Tuples). get t k) (own_tuples state space (insert (tuples_in state space) key tuple)) ∙ get-insert key_cmp_total (tuples_in state space) key tuple k

  as_before : (tuple : Option (List ℕ)) (state : State) (q : ℕ) → (q == space) ≡ false → tuples_in (put_in tuple state) q ≡ tuples_in state q
  as_before None state q other = others_tuples state space (remove (tuples_in state space) key) q other
  as_before (Some tuple) state q other = others_tuples state space (insert (tuples_in state space) key tuple) q other

  module _ (tuple : Option (List ℕ)) where
    moved : (q : ℕ) (k : Key) → get (tuples_in (put_in tuple one) q) k ≡ get (tuples_in one q) k → get (tuples_in (put_in tuple other) q) k ≡ get (tuples_in other q) k
        → AgreeAt touched one other q k → AgreeAt touched (put_in tuple one) (put_in tuple other) q k
    moved q k before after (inl same) = inl (before ∙ same ∙ sym after)
    moved q k before after (inr (was, is)) = inr (λ t there. was t (sym before ∙ there), λ t there. is t (sym after ∙ there))

    at_space : (k : Key) → AgreeAt touched one other space k → AgreeAt touched (put_in tuple one) (put_in tuple other) space k
    at_space k agrees = by_tie (eq_by_cmp key_cmp k key) refl
      where
        by_tie : (b : Bool) → eq_by_cmp key_cmp k key ≡ b → AgreeAt touched (put_in tuple one) (put_in tuple other) space k
        by_tie true tied =
            inl (there_now tuple one k ∙ ap (λ b. cond b tuple (get (tuples_in one space) k)) tied
            ∙ sym (there_now tuple other k ∙ ap (λ b. cond b tuple (get (tuples_in other space) k)) tied))
        by_tie false apart =
            moved space k (there_now tuple one k ∙ ap (λ b. cond b tuple (get (tuples_in one space) k)) apart)
            (there_now tuple other k ∙ ap (λ b. cond b tuple (get (tuples_in other space) k)) apart) agrees

    pub both_changed : AgreeBut touched (put_in tuple one) (put_in tuple other)
    both_changed q = by_case (agree q)
      where
        by_test : (b : Bool) → (q == space) ≡ b → ((k : Key) → AgreeAt touched one other q k) → (k : Key) → AgreeAt touched (put_in tuple one) (put_in tuple other) q k
        by_test true e agrees k =
            let same = eqb-true q space e in
            subst (λ n. AgreeAt touched (put_in tuple one) (put_in tuple other) n k) (sym same) (at_space k (subst (λ n. AgreeAt touched one other n k) same (agrees k)))
        by_test false e agrees k =
            moved q k (ap (λ (t : Tuples). get t k) (as_before tuple one q e)) (ap (λ (t : Tuples). get t k) (as_before tuple other q e)) (agrees k)

        by_case : IsIndexTouched touched q ⊎ ((k : Key) → AgreeAt touched one other q k)
            → IsIndexTouched touched q ⊎ ((k : Key) → AgreeAt touched (put_in tuple one) (put_in tuple other) q k)
        by_case (inl gone) = inl gone
        by_case (inr agrees) = inr (by_test (q == space) refl agrees)

-- the states after a change that isn't of a row of an index agree but for what they did before it
pub agree_after : (touched : List Touched) (one other : State) → AgreeBut touched one other → (space : ℕ) (key : Key) (tuple : Option (List ℕ)) → (space == index_rows) ≡ false
    → AgreeBut touched (state_after_change one (change_of space key tuple)) (state_after_change other (change_of space key tuple))
agree_after touched one other agree space key tuple elsewhere =
    subst (λ (b : Bool). AgreeBut touched (changed b one) (changed b other)) (sym elsewhere) (both_changed touched one other agree space key tuple)
  where
    changed : Bool → State → State
    changed rows state = state_with (if rows && is_none tuple then without_index state (space_named_by key) (index_named_by key) else state) space key tuple
