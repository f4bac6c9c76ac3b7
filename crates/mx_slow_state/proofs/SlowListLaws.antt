-- What a scan finds among tuples in one list, and what is left without one of them.
use Rattle.std.proofs.Common.{◌≡◌, ℕ, suc, ◌+◌, Bool, true, false, List, [], ◌∷◌, ◌++◌, take, drop, get_or, length, cond, Some, None, ◌<◌, ◌≤◌, refl, sym, ap, ◌∙◌, append-nil, append_assoc, add-one, nat_cmp}
use Rattle.std.specs.BTreeMap.{is_at}
use Rattle.std.specs.Cmp.Lexicographic.{slice_cmp}
use Rattle.std.specs.Map.{lookup, remove_entry}
use Rattle.std.specs.Str.{bytes_eq}
use Rattle.std.proofs.lemmas.List.{drop_all, map-append, take_all, take_more}
use Rattle.std.proofs.lemmas.Map.Text.{is_eq-slice_cmp}
use Rattle.std.proofs.Math.Seq.{drop-cons}
use Rattle.mx_schema.specs.declared.keyed.Keyed.{Keyed}
use Rattle.mx_schema.specs.Stored.{StoredTuple, stored_list, stored_view}

module _ (key : List ℕ) where
  abbrev at : List ℕ → Bool
  at = is_at (slice_cmp nat_cmp key)

  same_key : (other : List ℕ) → at other ≡ bytes_eq key other
  same_key other = is_eq-slice_cmp key other

  module _ (kept : List Keyed) (place : ℕ) (one : Keyed) (within : place < length kept) (is : one ≡ get_or kept place one) where
    next : stored_list (drop place kept) ≡ stored_view one ∷ stored_list (drop (place + 1) kept)
    next =
        rw add-one (ap stored_list (drop-cons kept place one within) ∙ ap (λ k. stored_view k ∷ stored_list (drop (suc place) kept)) (sym is))

    by_test : (b : Bool) → bytes_eq key one.key ≡ b → lookup at (stored_list (drop place kept)) ≡ cond b (Some one.tuple) (lookup at (stored_list (drop (place + 1) kept)))
    by_test b test = ap (lookup at) next ∙ ap (λ b. cond b (Some one.tuple) (lookup at (stored_list (drop (place + 1) kept)))) (same_key one.key ∙ test)

    -- the first that has the key is found
    pub found_here : bytes_eq key one.key ≡ true → lookup at (stored_list (drop place kept)) ≡ Some one.tuple
    found_here test = by_test true test

    pub found_later : bytes_eq key one.key ≡ false → lookup at (stored_list (drop (place + 1) kept)) ≡ lookup at (stored_list (drop place kept))
    found_later test = sym (by_test false test)

    left_by : (b : Bool) → bytes_eq key one.key ≡ b → remove_entry at (stored_list (drop place kept))
        ≡ cond b (stored_list (drop (place + 1) kept)) (stored_view one ∷ remove_entry at (stored_list (drop (place + 1) kept)))
    left_by b test =
        ap (remove_entry at) next
        ∙ ap (λ b. cond b (stored_list (drop (place + 1) kept)) (stored_view one ∷ remove_entry at (stored_list (drop (place + 1) kept)))) (same_key one.key ∙ test)

    -- what is left without it
    pub left_here : (all : List StoredTuple) → bytes_eq key one.key ≡ true → all ≡ stored_list (take place kept) ++ remove_entry at (stored_list (drop place kept))
        → all ≡ stored_list (take place kept) ++ stored_list (drop (suc place) kept)
    left_here all test so_far = so_far ∙ ap (λ l. stored_list (take place kept) ++ l) (left_by true test ∙ ap (λ n. stored_list (drop n kept)) add_one)
      where
        add_one : place + 1 ≡ suc place
        add_one = rw add-one refl

    pub left_later : (all : List StoredTuple) → bytes_eq key one.key ≡ false → all ≡ stored_list (take place kept) ++ remove_entry at (stored_list (drop place kept))
        → all ≡ stored_list (take (place + 1) kept) ++ remove_entry at (stored_list (drop (place + 1) kept))
    left_later all test so_far =
        let rest = remove_entry at (stored_list (drop (place + 1) kept)) in
        let more : stored_list (take (place + 1) kept) ≡ stored_list (take place kept) ++ stored_view one ∷ [] =
        ap stored_list (take_more kept place one within) ∙ map-append stored_view (take place kept) (get_or kept place one ∷ [])
        ∙ ap (λ k. stored_list (take place kept) ++ stored_view k ∷ []) (sym is) in
        so_far ∙ ap (λ l. stored_list (take place kept) ++ l) (left_by false test)
        ∙ sym (append_assoc (stored_list (take place kept)) (stored_view one ∷ []) rest) ∙ ap (λ l. l ++ rest) (sym more)

  -- nothing is found past the end
  pub found_none : (kept : List Keyed) (place : ℕ) → length kept ≤ place → lookup at (stored_list (drop place kept)) ≡ None
  found_none kept place past = ap (λ l. lookup at (stored_list l)) (drop_all place kept past)

  pub left_all : (kept : List Keyed) (place : ℕ) (all : List StoredTuple) → length kept ≤ place
      → all ≡ stored_list (take place kept) ++ remove_entry at (stored_list (drop place kept)) → all ≡ stored_list kept
  left_all kept place all past so_far =
      so_far
      ∙ (λ i. stored_list (take_all place kept past i) ++ remove_entry at (stored_list (drop_all place kept past i)))
      ∙ append-nil (stored_list kept)
