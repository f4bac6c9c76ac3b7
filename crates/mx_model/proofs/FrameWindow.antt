-- What a SELECT picks of an index depends on no entry beyond the range that it read.
use Rattle.std.proofs.Common.{◌≡◌, ℕ, zero, suc, Bool, true, false, cond, not, ◌&&◌, ◌||◌, T, List, [], ◌∷◌, ◌++◌, length, map, take, drop, reverse, filter, Some, refl, sym, ap, ◌∙◌, subst, arith, true≢false, eqb-true}
use Rattle.std.specs.Prelude.{⊤, ◌==◌, if◌then◌else◌}
use Rattle.std.specs.Cmp.{tied_itself}
use Rattle.std.specs.FinMap.{entries, entries_sorted, get}
use Rattle.std.specs.FinMap.Entries.{below_all, is_sorted, is_sorted-where_key}
use Rattle.std.specs.List.{AllByRecursion}
use Rattle.std.specs.Ordering.{is_gt, is_lt, ordering_reverse}
use Rattle.std.specs.declared.cmp.Ordering.{Ordering}
use Rattle.std.specs.declared.cmp.Ordering.TheVariants.{Less, Equal, Greater}
use Rattle.std.proofs.lemmas.List.{reverse-append}
use Rattle.mx_key.specs.declared.iterator.IterKind.{IterKind}
use Rattle.mx_key.specs.Keys.{Key, is_key_prefix, key_cmp}
use Rattle.mx_key.specs.Ranges.{Range, descends, is_from, is_up_to, lies_in, range_of, range_until}
use Rattle.mx_key.proofs.KeyLaws.{key_cmp_total}
use Rattle.mx_schema.specs.Picks.{Indexed, directed, last_key, pick, picked, range_read, up_to_last, window}
use Rattle.mx_schema.specs.State.{Tuples}
use Rattle.mx_schema.proofs.OrderLaws.{both, lt_is}
use Rattle.mx_entries.proofs.WindowLaws.{filter-directed}
use Rattle.mx_model.proofs.FrameTuples.{passing_same}

module _ (test : Key → Bool) where
  -- no entry passes
  abbrev NonePass : List Indexed → Type 0
  NonePass all = AllByRecursion (λ (entry : Indexed). test entry.0 ≡ false) all

  abbrev passes : Indexed → Bool
  passes entry = test entry.0

  abbrev fails : Indexed → Bool
  fails entry = not (test entry.0)

  -- the last entry passes, where there is one
  abbrev LastPasses : List Indexed → Type 0
  LastPasses [] = ⊤
  LastPasses (entry ∷ others) = test (last_key entry.0 others) ≡ true

  last_fails : (key : Key) (all : List Indexed) → test key ≡ false → NonePass all → test (last_key key all) ≡ false
  last_fails key [] fails_so none = fails_so
  last_fails key (entry ∷ all) fails_so none = last_fails entry.0 all none.0 none.1

  last_of_rest : (key : Key) (all : List Indexed) → test (last_key key all) ≡ true → LastPasses all
  last_of_rest key [] last = tt
  last_of_rest key (entry ∷ all) last = last

  none_dropped : (count : ℕ) (all : List Indexed) → NonePass all → NonePass (drop count all)
  none_dropped zero all none = none
  none_dropped (suc count) [] none = tt
  none_dropped (suc count) (entry ∷ all) none = none_dropped count all none.1

  none_taken : (count : ℕ) (all : List Indexed) → NonePass all → NonePass (take count all)
  none_taken zero all none = tt
  none_taken (suc count) [] none = tt
  none_taken (suc count) (entry ∷ all) none = (none.0, none_taken count all none.1)

  no_last : (limit : ℕ) (found : List Indexed) → length found ≡ suc limit → NonePass found → LastPasses found → ⊥
  no_last limit [] full none last = omega (arith, full)
  no_last limit (entry ∷ found) full none last = true≢false (sym last ∙ last_fails entry.0 found none.0 none.1)

  -- a full window whose last entry passes lies before all that don't
  window_same : (front behind other : List Indexed) → NonePass behind → (offset limit : ℕ) → length (window offset limit (front ++ behind)) ≡ limit
      → LastPasses (window offset limit (front ++ behind)) → window offset limit (front ++ behind) ≡ window offset limit (front ++ other)
  window_same front behind other none offset zero full last = refl
  window_same [] behind other none offset (suc limit) full last =
      absurd (no_last limit (window offset (suc limit) behind) full (none_taken (suc limit) (drop offset behind) (none_dropped offset behind none)) last)
  window_same (entry ∷ front) behind other none (suc offset) (suc limit) full last = window_same front behind other none offset (suc limit) full last
  window_same (entry ∷ front) behind other none zero (suc limit) full last =
      ap (λ l. entry ∷ l) (window_same front behind other none zero limit (omega (arith, full)) (last_of_rest entry.0 (take limit (front ++ behind)) last))

  -- ---- sorted entries

  passes_none : (all : List Indexed) → NonePass all → filter passes all ≡ []
  passes_none [] none = refl
  passes_none (entry ∷ all) none = ap (λ b. cond b (entry ∷ filter passes all) (filter passes all)) none.0 ∙ passes_none all none.1

  fails_each : (all : List Indexed) → NonePass all → filter fails all ≡ all
  fails_each [] none = refl
  fails_each (entry ∷ all) none = ap (λ b. cond (not b) (entry ∷ filter fails all) (filter fails all)) none.0 ∙ ap (λ l. entry ∷ l) (fails_each all none.1)

  none_fails : (all : List Indexed) → NonePass (filter fails all)
  none_fails [] = tt
  none_fails (entry ∷ all) = by_test (test entry.0) refl (none_fails all)
    where
      by_test : (b : Bool) → test entry.0 ≡ b → NonePass (filter fails all) → NonePass (cond (not b) (entry ∷ filter fails all) (filter fails all))
      by_test true is others = others
      by_test false is others = (is, others)

  module _ (closed : (low high : Key) → key_cmp low high ≡ Less → test high ≡ true → test low ≡ true) where
    none_above : (key : Key) (all : List Indexed) → T (below_all key_cmp key all) → test key ≡ false → NonePass all
    none_above key [] below is = tt
    none_above key (entry ∷ all) below is =
        let parts = both (is_lt (key_cmp key entry.0)) (below_all key_cmp key all) below in
        (by_test (test entry.0) refl (lt_is (key_cmp key entry.0) parts.0), none_above key all parts.1 is)
      where
        by_test : (b : Bool) → test entry.0 ≡ b → key_cmp key entry.0 ≡ Less → test entry.0 ≡ false
        by_test true high less = absurd (true≢false (sym (closed key entry.0 less high) ∙ is))
        by_test false high less = high

    -- those that pass come first
    passing_first : (all : List Indexed) → T (is_sorted key_cmp all) → all ≡ filter passes all ++ filter fails all
    passing_first [] sorted = refl
    passing_first (entry ∷ all) sorted =
        let parts = both (below_all key_cmp entry.0 all) (is_sorted key_cmp all) sorted in
        by_test (test entry.0) refl (subst T (sym parts.0) tt) (passing_first all parts.1)
      where
        by_test : (b : Bool) → test entry.0 ≡ b → T (below_all key_cmp entry.0 all) → all ≡ filter passes all ++ filter fails all
            → entry ∷ all ≡ cond b (entry ∷ filter passes all) (filter passes all) ++ cond (not b) (entry ∷ filter fails all) (filter fails all)
        by_test true is below later = ap (λ l. entry ∷ l) later
        by_test false is below later =
            let none = none_above entry.0 all below is in
            λ i. sym (passes_none all none) i ++ entry ∷ sym (fails_each all none) i

-- ---- up to a key, in either direction

-- a key isn't beyond another one
abbrev within : (down : Bool) (last key : Key) → Bool
within true last key = not (is_lt (key_cmp key last))
within false last key = not (is_gt (key_cmp key last))

not_above : (last low high : Key) → key_cmp low high ≡ Less → within false last high ≡ true → within false last low ≡ true
not_above last low high less to = by_order (key_cmp low last) refl
  where
    by_order : (o : Ordering) → key_cmp low last ≡ o → not (is_gt o) ≡ true
    by_order Less is = refl
    by_order Equal is = refl
    by_order Greater is =
        let above : key_cmp last low ≡ Less = key_cmp_total.antisymm last low ∙ ap ordering_reverse is in
        let beyond : key_cmp high last ≡ Greater = key_cmp_total.antisymm high last ∙ ap ordering_reverse (key_cmp_total.trans last low high above less) in
        absurd (true≢false (sym to ∙ ap (λ o. not (is_gt o)) beyond))

below_closed : (last low high : Key) → key_cmp low high ≡ Less → is_lt (key_cmp high last) ≡ true → is_lt (key_cmp low last) ≡ true
below_closed last low high less to = ap is_lt (key_cmp_total.trans low high last less (lt_is (key_cmp high last) to))

itself_within : (down : Bool) (last : Key) → within down last last ≡ true
itself_within true last = ap (λ o. not (is_lt o)) (tied_itself key_cmp_total last)
itself_within false last = ap (λ o. not (is_gt o)) (tied_itself key_cmp_total last)

-- those up to a key come first
record Splits (down : Bool) (last : Key) (all : List Indexed) : Type 0 where
  behind : List Indexed
  is : directed down all ≡ directed down (filter (λ (entry : Indexed). within down last entry.0) all) ++ behind
  none : NonePass (within down last) behind

splits : (down : Bool) (last : Key) (all : List Indexed) → T (is_sorted key_cmp all) → Splits down last all
splits false last all sorted = record {
  behind = filter (fails (within false last)) all;
  is = passing_first (within false last) (not_above last) all sorted;
  none = none_fails (within false last) all;
}
splits true last all sorted = record {
  behind = reverse (filter (passes below) all);
  is = ap reverse (passing_first below (below_closed last) all sorted) ∙ reverse-append (filter (passes below) all) (filter (fails below) all);
  none = subst (NonePass (within true last)) (sym (filter-directed (passes below) true all)) (none_below (reverse all));
}
  where
    below : Key → Bool
    below key = is_lt (key_cmp key last)

    none_below : (some : List Indexed) → NonePass (within true last) (filter (passes below) some)
    none_below [] = tt
    none_below (entry ∷ some) = by_test (below entry.0) refl (none_below some)
      where
        by_test : (b : Bool) → below entry.0 ≡ b → NonePass (within true last) (filter (passes below) some)
            → NonePass (within true last) (cond b (entry ∷ filter (passes below) some) (filter (passes below) some))
        by_test true is others = (ap not is, others)
        by_test false is others = others

filtered_twice : (first second : Key → Bool) (all : List Indexed)
    → filter (λ (entry : Indexed). second entry.0) (filter (λ (entry : Indexed). first entry.0) all) ≡ filter (λ (entry : Indexed). first entry.0 && second entry.0) all
filtered_twice first second [] = refl
filtered_twice first second (entry ∷ all) = by_test (first entry.0) (filtered_twice first second all)
  where
    by_test : (b : Bool) → filter (λ (one : Indexed). second one.0) (filter (λ (one : Indexed). first one.0) all) ≡ filter (λ (one : Indexed). first one.0 && second one.0) all
        → filter (λ (one : Indexed). second one.0) (cond b (entry ∷ filter (λ (one : Indexed). first one.0) all) (filter (λ (one : Indexed). first one.0) all))
        ≡ cond (b && second entry.0) (entry ∷ filter (λ (one : Indexed). first one.0 && second one.0) all) (filter (λ (one : Indexed). first one.0 && second one.0) all)
    by_test true later = ap (λ l. cond (second entry.0) (entry ∷ l) l) later
    by_test false later = later

-- what isn't beyond the last key of a range lies in the range up to it
cut_lies : (down : Bool) (last : Key) (range : Range) (key : Key) → (lies_in range key && within down last key) ≡ true → lies_in (range_until down last range) key ≡ true
cut_lies true last range key lies = by_tests (is_from range.low key) (is_up_to range.high key) (within true last key) lies
  where
    by_tests : (from to inside : Bool) → ((from && to) && inside) ≡ true → (inside && to) ≡ true
    by_tests true true true e = refl
    by_tests true true false e = absurd cc
    by_tests true false inside e = absurd cc
    by_tests false to inside e = absurd cc
cut_lies false last range key lies = by_tests (is_from range.low key) (is_up_to range.high key) (within false last key) (is_key_prefix last key) lies
  where
    by_tests : (from to inside prefix : Bool) → ((from && to) && inside) ≡ true → (from && (inside || prefix)) ≡ true
    by_tests true true true prefix e = refl
    by_tests true true false prefix e = absurd cc
    by_tests true false inside prefix e = absurd cc
    by_tests false to inside prefix e = absurd cc

-- ---- a SELECT

module _ (iterator : IterKind) (key : Key) (offset limit : ℕ) (one other : Tuples) where
  abbrev range : Range
  range = range_of iterator key

  abbrev down : Bool
  down = descends iterator

  abbrev inside : Indexed → Bool
  inside entry = lies_in range entry.0

  abbrev found : Tuples → List Indexed
  found map = picked iterator key offset limit (entries map)

  -- they have the same in this range
  abbrev SameIn : Range → Type 0
  SameIn read = (k : Key) → lies_in read k ≡ true → get one k ≡ get other k

  found_whole : SameIn range → found one ≡ found other
  found_whole same = ap (λ l. window offset limit (directed down l)) (passing_same (lies_in range) one other same)

  found_cut : (last : Key) → SameIn (range_until down last range) → length (found one) ≡ limit → LastPasses (within down last) (found one) → found one ≡ found other
  found_cut last same full passes_last =
      let first = splits down last (filter inside (entries one)) (is_sorted-where_key key_cmp (lies_in range) (entries one) (entries_sorted one)) in
      let second = splits down last (filter inside (entries other)) (is_sorted-where_key key_cmp (lies_in range) (entries other) (entries_sorted other)) in
      let fronts : directed down (filter (λ (entry : Indexed). within down last entry.0) (filter inside (entries one)))
      ≡ directed down (filter (λ (entry : Indexed). within down last entry.0) (filter inside (entries other))) =
      ap (directed down) (filtered_twice (lies_in range) (within down last) (entries one)
      ∙ passing_same (λ k. lies_in range k && within down last k) one other (λ k passes_both. same k (cut_lies down last range k passes_both))
      ∙ sym (filtered_twice (lies_in range) (within down last) (entries other))) in
      let front = directed down (filter (λ (entry : Indexed). within down last entry.0) (filter inside (entries one))) in
      ap (window offset limit) first.is
      ∙ window_same (within down last) front first.behind second.behind first.none offset limit
      (ap (λ l. length (window offset limit l)) (sym first.is) ∙ full) (subst (λ l. LastPasses (within down last) (window offset limit l)) first.is passes_last)
      ∙ ap (λ l. window offset limit (l ++ second.behind)) fronts ∙ ap (window offset limit) (sym second.is)

  found_same : ((read : Range) → range_read iterator key limit (found one) ≡ Some read → SameIn read) → found one ≡ found other
  found_same same = by_limit limit refl same
    where
      by_full : (more : ℕ) → limit ≡ suc more → (b : Bool) → (length (found one) == suc more) ≡ b
          → ((read : Range) → Some (if b then up_to_last down (found one) range else range) ≡ Some read → SameIn read) → found one ≡ found other
      by_full more is false full same = found_whole (same range refl)
      by_full more is true full same = by_found (found one) refl (same (up_to_last down (found one) range) refl)
        where
          by_found : (these : List Indexed) → found one ≡ these → SameIn (up_to_last down these range) → found one ≡ found other
          by_found [] are same = found_whole same
          by_found (entry ∷ others) are same =
              found_cut (last_key entry.0 others) same (eqb-true (length (found one)) (suc more) full ∙ sym is)
              (subst (LastPasses (within down (last_key entry.0 others))) (sym are) (itself_within down (last_key entry.0 others)))

      by_limit : (count : ℕ) → limit ≡ count → ((read : Range) → range_read iterator key count (found one) ≡ Some read → SameIn read) → found one ≡ found other
      by_limit zero is same =
          let rest : Tuples → List Indexed = λ map. drop offset (directed down (filter inside (entries map))) in
          ap (λ n. take n (rest one)) is ∙ sym (ap (λ n. take n (rest other)) is)
      by_limit (suc more) is same = by_full more is (length (found one) == suc more) refl same

  -- a SELECT picks the same where what is found is the same
  picks_found : found one ≡ found other → pick (entries one) iterator key offset limit ≡ pick (entries other) iterator key offset limit
  picks_found same = ap (λ (these : List Indexed). record { tuples = map (λ entry. entry.1) these; read = range_read iterator key limit these }) same

  -- so it does where both have the same in the iterator's range
  pub pick_whole : SameIn range → pick (entries one) iterator key offset limit ≡ pick (entries other) iterator key offset limit
  pick_whole same = picks_found (found_whole same)

  -- or in the range that it reads
  pub pick_same : ((read : Range) → (pick (entries one) iterator key offset limit).read ≡ Some read → SameIn read)
      → pick (entries one) iterator key offset limit ≡ pick (entries other) iterator key offset limit
  pick_same same = picks_found (found_same same)
