-- The space that is found among those in order, and what an edit of them makes of it.
use Rattle.std.proofs.Common.{◌≡◌, ℕ, Bool, true, false, List, [], ◌∷◌, map, Some, refl, sym, ap, subst, None, ◌∙◌, eqb-true, zero, suc, ◌+◌, ◌≤◌, length, get_or, set, inl, inr, arith, ne_eqb, eq-eqb}
use Rattle.std.specs.Prelude.{◌<◌, ◌==◌, if◌then◌else◌, Result, Ok, Err, IfOk, MatchResult, ◌⊎◌}
use Rattle.std.specs.List.{AllByRecursion, AllZip, AllWithin, insert, remove}
use Rattle.std.specs.Option.{option_map}
use Rattle.std.proofs.lemmas.Bool.{cases_lt}
use Rattle.std.proofs.lemmas.List.{get_or_default}
use Rattle.std.proofs.lemmas.Bool.Decides.{nat_tests}
use Rattle.std.proofs.lemmas.List.Elements.{All-from_recursion, recursion_from_All}
use Rattle.mx_space.specs.declared.spaces.SpaceEntry.{SpaceEntry}
use Rattle.mx_space.specs.Reserved.{Content, content_of, content_under, entry_content, changed_at}
use Rattle.mx_space.specs.Spaces.{IsAscending, space_under, SetsSpace, IsGapOf, IsPlaceOf, RemovesSpace}
use Rattle.mx_space.specs.declared.space.Space.{Space}

-- ---- that a copy has what is copied

-- clones of entries that are those entries
pub same_entries : {K X : Type 0} (all copies : List (K × X)) → AllZip (λ (entry copy : K × X). (copy.0 ≡ entry.0) × (copy.1 ≡ entry.1)) all copies → copies ≡ all
same_entries [] [] each = refl
same_entries [] (copy ∷ copies) each = absurd each
same_entries (entry ∷ all) [] each = absurd each
same_entries (entry ∷ all) (copy ∷ copies) (same, each) = λ i. (same.0 i, same.1 i) ∷ same_entries all copies each i

pub where_cloned : {K X M E : Type 0} (F : E → Type 0) (entries_of : M → List (K × X)) (all : List (K × X)) (made : Result M E)
    → MatchResult made (λ copies. AllZip (λ (entry copy : K × X). (copy.0 ≡ entry.0) × (copy.1 ≡ entry.1)) all (entries_of copies)) F
    → IfOk made (λ copies. entries_of copies ≡ all)
where_cloned F entries_of all (Ok copies) each = same_entries all (entries_of copies) each
where_cloned F entries_of all (Err fault) each = tt

-- ---- spaces

both_same : {X : Type 0} (x y : X) (a b : List X) → x ∷ a ≡ y ∷ b → (x ≡ y) × (a ≡ b)
both_same x y a b same = (cc, cc)

-- spaces that have the same under the same numbers
pub same_under : (a b : List SpaceEntry) → map entry_content a ≡ map entry_content b → (q : ℕ) → content_under q a ≡ content_under q b
same_under [] [] same q = refl
same_under [] (y ∷ b) same q = absurd cc
same_under (x ∷ a) [] same q = absurd cc
same_under (x ∷ a) (y ∷ b) same q =
    let parts = both_same _ _ _ _ same in
    let number : x.id.0 ≡ y.id.0 = ap (λ (e : ℕ × Content). e.0) parts.0 in
    let has : content_of x.space ≡ content_of y.space = ap (λ (e : ℕ × Content). e.1) parts.0 in
    let others : map entry_content a ≡ map entry_content b = parts.1 in
    rw number (by_test (y.id.0 == q) has (same_under a b others q))
  where
    by_test : (t : Bool) → content_of x.space ≡ content_of y.space → content_under q a ≡ content_under q b
        → option_map content_of (if t then Some x.space else space_under q a) ≡ option_map content_of (if t then Some y.space else space_under q b)
    by_test true has others = ap (λ c. Some c) has
    by_test false has others = others

all_above : (id other : ℕ) (a b : List SpaceEntry) → map entry_content a ≡ map entry_content b → id ≡ other
    → AllByRecursion (λ (entry : SpaceEntry). other < entry.id.0) b → AllByRecursion (λ (entry : SpaceEntry). id < entry.id.0) a
all_above id other [] b same is above = tt
all_above id other (x ∷ a) [] same is above = absurd cc
all_above id other (x ∷ a) (y ∷ b) same is above =
    let parts = both_same _ _ _ _ same in
    let number : x.id.0 ≡ y.id.0 = ap (λ (e : ℕ × Content). e.0) parts.0 in
    let others : map entry_content a ≡ map entry_content b = parts.1 in
    (subst (λ n. id < n) (sym number) (subst (λ n. n < y.id.0) (sym is) above.0), all_above id other a b others is above.1)

-- ascend together
pub ascend_too : (a b : List SpaceEntry) → map entry_content a ≡ map entry_content b → IsAscending b → IsAscending a
ascend_too [] b same rises = tt
ascend_too (x ∷ a) [] same rises = absurd cc
ascend_too (x ∷ a) (y ∷ b) same rises =
    let parts = both_same _ _ _ _ same in
    let number : x.id.0 ≡ y.id.0 = ap (λ (e : ℕ × Content). e.0) parts.0 in
    let others : map entry_content a ≡ map entry_content b = parts.1 in
    (all_above x.id.0 y.id.0 a b others number rises.0, ascend_too a b others rises.1)

-- ---- what memory has of each space after an edit of one

module _ (id : ℕ) (old new : List SpaceEntry) (change : Content → Content) (before after : Space) (there : space_under id old ≡ Some before) (sets : SetsSpace old new id after) where
  was : (q : ℕ) → (q == id) ≡ true → content_under q old ≡ Some (content_of before)
  was q e = ap (option_map content_of) (ap (λ n. space_under n old) (eqb-true q id e) ∙ there)

  -- the space is changed so
  pub content_changed : content_of after ≡ change (content_of before) → (q : ℕ) → content_under q new ≡ changed_at id change q (content_under q old)
  content_changed is q = ap (option_map content_of) (sets q) ∙ by_test (q == id) refl
    where
      by_test : (b : Bool) → (q == id) ≡ b → option_map content_of (if b then Some after else space_under q old) ≡ (if b then option_map change (content_under q old) else content_under q old)
      by_test true e = ap (λ c. Some c) is ∙ sym (ap (option_map change) (was q e))
      by_test false e = refl

  -- and gives back what was
  pub content_back : change (content_of after) ≡ content_of before → (q : ℕ) → changed_at id change q (content_under q new) ≡ content_under q old
  content_back is q = ap (λ o. changed_at id change q (option_map content_of o)) (sets q) ∙ by_test (q == id) refl
    where
      by_test : (b : Bool) → (q == id) ≡ b
          → (if b then option_map change (option_map content_of (if b then Some after else space_under q old)) else option_map content_of (if b then Some after else space_under q old))
          ≡ content_under q old
      by_test true e = ap (λ c. Some c) is ∙ sym (was q e)
      by_test false e = refl

  -- or is as it was
  pub content_same : content_of after ≡ content_of before → (q : ℕ) → content_under q new ≡ content_under q old
  content_same is q = ap (option_map content_of) (sets q) ∙ by_test (q == id) refl
    where
      by_test : (b : Bool) → (q == id) ≡ b → option_map content_of (if b then Some after else space_under q old) ≡ content_under q old
      by_test true e = ap (λ c. Some c) is ∙ sym (was q e)
      by_test false e = refl

-- no space is changed
pub none_changed : (id : ℕ) (spaces : List SpaceEntry) (change : Content → Content) → space_under id spaces ≡ None
    → (q : ℕ) → content_under q spaces ≡ changed_at id change q (content_under q spaces)
none_changed id spaces change none q = by_test (q == id) refl
  where
    by_test : (b : Bool) → (q == id) ≡ b → content_under q spaces ≡ (if b then option_map change (content_under q spaces) else content_under q spaces)
    by_test true e =
        let gone : content_under q spaces ≡ None = ap (option_map content_of) (ap (λ n. space_under n spaces) (eqb-true q id e) ∙ none) in
        gone ∙ sym (ap (option_map change) gone)
    by_test false e = refl

-- ---- the space that is found among those in order, and what an edit of them makes of it

-- the numbers after the first one are above it
above_first : (entry : SpaceEntry) (others : List SpaceEntry) → IsAscending (entry ∷ others) → (i : ℕ) (d : SpaceEntry) → i < length others
    → entry.id.0 < (get_or others i d).id.0
above_first entry others ascending i d within = All-from_recursion (λ (other : SpaceEntry). entry.id.0 < other.id.0) others ascending.0 i d within

-- they rise
numbers_rise : (entries : List SpaceEntry) → IsAscending entries → (i j : ℕ) (d : SpaceEntry) → i ≤ j → j < length entries → (get_or entries i d).id.0 ≤ (get_or entries j d).id.0
numbers_rise [] ascending i j d le within = absurd (omega (arith, within))
numbers_rise (entry ∷ others) ascending zero zero d le within = omega arith
numbers_rise (entry ∷ others) ascending zero (suc j) d le within =
    let above = above_first entry others ascending j d (omega (arith, within)) in omega (arith, above)
numbers_rise (entry ∷ others) ascending (suc i) zero d le within = absurd (omega (arith, le))
numbers_rise (entry ∷ others) ascending (suc i) (suc j) d le within = numbers_rise others ascending.1 i j d (omega (arith, le)) (omega (arith, within))

-- ---- a search by halves

-- the numbers before `low` are below the number, and those from `high` on are above it
pub record IsBetween (id : ℕ) (entries : List SpaceEntry) (low high : ℕ) : Type 0 where
  pub ordered : low ≤ high
  pub within : high ≤ length entries
  pub below : AllWithin (λ (entry : SpaceEntry). entry.id.0 < id) entries 0 low
  pub above : AllWithin (λ (entry : SpaceEntry). id < entry.id.0) entries high (length entries)

module _ (id : ℕ) (entries : List SpaceEntry) (ascending : IsAscending entries) (low high middle : ℕ) (entry : SpaceEntry) (inside : middle < high)
    (between : IsBetween id entries low high) where
  abbrev number : ℕ
  number = (get_or entries middle entry).id.0

  at_middle : (d : SpaceEntry) → (get_or entries middle d).id.0 ≡ number
  at_middle d = ap (λ (e : SpaceEntry). e.id.0) (get_or_default entries middle d entry (omega (arith, inside, between.within)))

  -- the number is above that in the middle
  pub between_above : number < id → IsBetween id entries (middle + 1) high
  between_above less = record {
    ordered = omega (arith, inside);
    within = between.within;
    below = λ k d ge lt. omega (arith, numbers_rise entries ascending k middle d (omega (arith, lt)) (omega (arith, inside, between.within)), at_middle d, less);
    above = between.above;
  }

  -- or below
  pub between_below : low ≤ middle → id < number → IsBetween id entries low middle
  between_below ordered more = record {
    ordered = ordered;
    within = omega (arith, inside, between.within);
    below = between.below;
    above = λ k d ge lt. omega (arith, numbers_rise entries ascending middle k d ge lt, at_middle d, more);
  }

-- ---- what is found

-- the space at the place of its number
found_at : (id : ℕ) (entries : List SpaceEntry) (i : ℕ) (d : SpaceEntry) → IsAscending entries → i < length entries → (get_or entries i d).id.0 ≡ id
    → space_under id entries ≡ Some (get_or entries i d).space
found_at id [] i d ascending within is = absurd (omega (arith, within))
found_at id (entry ∷ others) zero d ascending within is = ap (λ b. if b then Some entry.space else space_under id others) (eq-eqb entry.id.0 id is)
found_at id (entry ∷ others) (suc i) d ascending within is =
    let above = above_first entry others ascending i d (omega (arith, within)) in
    ap (λ b. if b then Some entry.space else space_under id others) (ne_eqb entry.id.0 id (λ same. omega (arith, above, is, same)))
    ∙ found_at id others i d ascending.1 (omega (arith, within)) is

-- none where no entry has the number
none_of : (id : ℕ) (entries : List SpaceEntry) → ((i : ℕ) (d : SpaceEntry) → i < length entries → (get_or entries i d).id.0 ≡ id → ⊥) → space_under id entries ≡ None
none_of id [] apart = refl
none_of id (entry ∷ others) apart =
    ap (λ b. if b then Some entry.space else space_under id others) (ne_eqb entry.id.0 id (apart 0 entry (omega arith)))
    ∙ none_of id others (λ i d within. apart (suc i) d (omega (arith, within)))

pub none_found : (id : ℕ) (entries : List SpaceEntry) (place : ℕ) → IsGapOf id entries place → space_under id entries ≡ None
none_found id entries place gap = none_of id entries (λ i d within same. by_side i d within same (cases_lt i place))
  where
    by_side : (i : ℕ) (d : SpaceEntry) → i < length entries → (get_or entries i d).id.0 ≡ id → (i < place) ⊎ (place ≤ i) → ⊥
    by_side i d within same (inl before) = omega (arith, same, gap.below i d (omega arith) before)
    by_side i d within same (inr behind) = omega (arith, same, gap.above i d behind within)

-- ---- another space at a place

module _ (new : SpaceEntry) where
  all_set : (P : SpaceEntry → Type 0) (entries : List SpaceEntry) (i : ℕ) → P new → AllByRecursion P entries → AllByRecursion P (set entries i new)
  all_set P [] i one all = tt
  all_set P (entry ∷ others) zero one all = (one, all.1)
  all_set P (entry ∷ others) (suc i) one all = (all.0, all_set P others i one all.1)

  -- the numbers stay in order
  ascending_set : (entries : List SpaceEntry) (i : ℕ) (d : SpaceEntry) → IsAscending entries → i < length entries → new.id.0 ≡ (get_or entries i d).id.0
      → IsAscending (set entries i new)
  ascending_set [] i d ascending within same = absurd (omega (arith, within))
  ascending_set (entry ∷ others) zero d ascending within same =
      (subst (λ (number : ℕ). AllByRecursion (λ (other : SpaceEntry). number < other.id.0) others) (sym same) ascending.0, ascending.1)
  ascending_set (entry ∷ others) (suc i) d ascending within same =
      let above = above_first entry others ascending i d (omega (arith, within)) in (
        all_set (λ other. entry.id.0 < other.id.0) others i (omega (arith, above, same)) ascending.0,
        ascending_set others i d ascending.1 (omega (arith, within)) same,
      )

  another_set : (entries : List SpaceEntry) (i : ℕ) (d : SpaceEntry) → IsAscending entries → i < length entries → new.id.0 ≡ (get_or entries i d).id.0
      → SetsSpace entries (set entries i new) new.id.0 new.space
  another_set [] i d ascending within same q = absurd (omega (arith, within))
  another_set (entry ∷ others) zero d ascending within same q = grind (arith, nat_tests, same)
  another_set (entry ∷ others) (suc i) d ascending within same q =
      let above = above_first entry others ascending i d (omega (arith, within)) in
      let rest = another_set others i d ascending.1 (omega (arith, within)) same q in
      grind (arith, nat_tests, above, same, rest)

  -- ---- an entry more

  all_inserted : (P : SpaceEntry → Type 0) (entries : List SpaceEntry) (i : ℕ) → P new → AllByRecursion P entries → AllByRecursion P (insert entries i new)
  all_inserted P entries zero one all = (one, all)
  all_inserted P [] (suc i) one all = (one, all)
  all_inserted P (entry ∷ others) (suc i) one all = (all.0, all_inserted P others i one all.1)

  ascending_inserted : (entries : List SpaceEntry) (i : ℕ) → IsAscending entries → i ≤ length entries
      → ((k : ℕ) (d : SpaceEntry) → k < i → (get_or entries k d).id.0 < new.id.0)
      → ((k : ℕ) (d : SpaceEntry) → i ≤ k → k < length entries → new.id.0 < (get_or entries k d).id.0) → IsAscending (insert entries i new)
  ascending_inserted entries zero ascending within below above =
      (recursion_from_All (λ (other : SpaceEntry). new.id.0 < other.id.0) entries (λ k d lt. above k d (omega arith) lt), ascending)
  ascending_inserted [] (suc i) ascending within below above = absurd (omega (arith, within))
  ascending_inserted (entry ∷ others) (suc i) ascending within below above = (
    all_inserted (λ other. entry.id.0 < other.id.0) others i (below 0 entry (omega arith)) ascending.0,
    ascending_inserted others i ascending.1 (omega (arith, within)) (λ k d lt. below (suc k) d (omega (arith, lt)))
        (λ k d ge lt. above (suc k) d (omega (arith, ge)) (omega (arith, lt))),
  )

  one_inserted : (entries : List SpaceEntry) (i : ℕ) → i ≤ length entries → ((k : ℕ) (d : SpaceEntry) → k < i → (get_or entries k d).id.0 < new.id.0)
      → SetsSpace entries (insert entries i new) new.id.0 new.space
  one_inserted entries zero within below q = grind (arith, nat_tests)
  one_inserted [] (suc i) within below q = absurd (omega (arith, within))
  one_inserted (entry ∷ others) (suc i) within below q =
      let first = below 0 entry (omega arith) in
      let rest = one_inserted others i (omega (arith, within)) (λ k d lt. below (suc k) d (omega (arith, lt))) q in
      grind (arith, nat_tests, first, rest)

-- ---- an entry less

all_removed : (P : SpaceEntry → Type 0) (entries : List SpaceEntry) (i : ℕ) → AllByRecursion P entries → AllByRecursion P (remove entries i)
all_removed P [] zero all = tt
all_removed P [] (suc i) all = tt
all_removed P (entry ∷ others) zero all = all.1
all_removed P (entry ∷ others) (suc i) all = (all.0, all_removed P others i all.1)

ascending_removed : (entries : List SpaceEntry) (i : ℕ) → IsAscending entries → IsAscending (remove entries i)
ascending_removed [] zero ascending = tt
ascending_removed [] (suc i) ascending = tt
ascending_removed (entry ∷ others) zero ascending = ascending.1
ascending_removed (entry ∷ others) (suc i) ascending =
    (all_removed (λ other. entry.id.0 < other.id.0) others i ascending.0, ascending_removed others i ascending.1)

one_removed : (entries : List SpaceEntry) (i : ℕ) (d : SpaceEntry) → IsAscending entries → i < length entries
    → RemovesSpace entries (remove entries i) (get_or entries i d).id.0
one_removed [] i d ascending within q = absurd (omega (arith, within))
one_removed (entry ∷ others) zero d ascending within q = by_test (q == entry.id.0) refl
  where
    by_test : (b : Bool) → (q == entry.id.0) ≡ b → space_under q others ≡ (if b then None else space_under q (entry ∷ others))
    by_test true e =
        let same = eqb-true q entry.id.0 e in
        none_of q others (λ k d within is. omega (arith, above_first entry others ascending k d within, same, is))
    by_test false e = grind (arith, nat_tests, e)
one_removed (entry ∷ others) (suc i) d ascending within q =
    let above = above_first entry others ascending i d (omega (arith, within)) in
    let rest = one_removed others i d ascending.1 (omega (arith, within)) q in
    grind (arith, nat_tests, above, rest)

-- ---- what an edit makes of the spaces

-- another space at the place that was found
module _ (id : ℕ) (entries : List SpaceEntry) (place : ℕ) (entry : SpaceEntry) (ascending : IsAscending entries) (at : IsPlaceOf id entries place)
    (is : entry ≡ get_or entries place entry) where
  abbrev with_space : Space → SpaceEntry
  with_space one = record { id = entry.id; space = one }

  same_number : entry.id.0 ≡ (get_or entries place entry).id.0
  same_number = ap (λ (e : SpaceEntry). e.id.0) is

  pub found : space_under id entries ≡ Some entry.space
  found = found_at id entries place entry ascending at.within (at.is entry) ∙ ap (λ (e : SpaceEntry). Some e.space) (sym is)

  pub stays_ascending : (one : Space) → IsAscending (set entries place (with_space one))
  stays_ascending one = ascending_set (with_space one) entries place entry ascending at.within same_number

  pub space_changed : (one : Space) → SetsSpace entries (set entries place (with_space one)) id one
  space_changed one =
      subst (λ (number : ℕ). SetsSpace entries (set entries place (with_space one)) number one) (same_number ∙ at.is entry)
      (another_set (with_space one) entries place entry ascending at.within same_number)

-- an entry less
module _ (id : ℕ) (entries : List SpaceEntry) (place : ℕ) (entry : SpaceEntry) (ascending : IsAscending entries) (at : IsPlaceOf id entries place) where
  pub left_ascending : IsAscending (remove entries place)
  left_ascending = ascending_removed entries place ascending

  pub space_removed : RemovesSpace entries (remove entries place) id
  space_removed = subst (λ (number : ℕ). RemovesSpace entries (remove entries place) number) (at.is entry) (one_removed entries place entry ascending at.within)

-- no space where none was found
pub none_dropped : (id : ℕ) (entries : List SpaceEntry) → space_under id entries ≡ None → RemovesSpace entries entries id
none_dropped id entries none q = by_test (q == id) refl
  where
    by_test : (b : Bool) → (q == id) ≡ b → space_under q entries ≡ (if b then None else space_under q entries)
    by_test true e = ap (λ n. space_under n entries) (eqb-true q id e) ∙ none
    by_test false e = refl

-- an entry more where none was found
module _ (entries : List SpaceEntry) (place : ℕ) (new : SpaceEntry) (gap : IsGapOf new.id.0 entries place) where
  pub still_ascending : (inserted : Bool) → IsAscending entries → IsAscending (if inserted then insert entries place new else entries)
  still_ascending true ascending = ascending_inserted new entries place ascending gap.within (λ k d lt. gap.below k d (omega arith) lt) gap.above
  still_ascending false ascending = ascending

  pub space_inserted : SetsSpace entries (insert entries place new) new.id.0 new.space
  space_inserted = one_inserted new entries place gap.within (λ k d lt. gap.below k d (omega arith) lt)
