-- A sorted list is its entries that pass a test and its others, merged.
use Rattle.std.proofs.Common.{◌≡◌, Bool, true, false, cond, not, List, [], ◌∷◌, ◌++◌, map, filter, reverse, refl, sym, ap, ◌∙◌, subst}
use Rattle.std.specs.Prelude.{if◌then◌else◌}
use Rattle.std.specs.declared.cmp.Ordering.TheVariants.{Less}
use Rattle.std.specs.Cmp.Lexicographic.{slice_cmp}
use Rattle.std.specs.List.{AllByRecursion}
use Rattle.std.specs.Ordering.{is_lt, nat_cmp, ordering_reverse}
use Rattle.std.proofs.lemmas.Cmp.{nat_list_cmp_total}
use Rattle.std.proofs.lemmas.List.{reverse-append}
use Rattle.mx_schema.specs.Picks.{directed}
use Rattle.mx_schema.specs.Stored.{StoredTuple}
use Rattle.mx_entries.specs.Entries.{IndexEntry}
use Rattle.mx_entries.specs.MergedRows.{is_before, merged, put_among}
use Rattle.mx_entries.proofs.WindowLaws.{filter-directed, map-directed}

-- ---- lists in an order

module _ {X : Type 0} where
  pub all-filter : (P : X → Type 0) (p : X → Bool) (xs : List X) → AllByRecursion P xs → AllByRecursion P (filter p xs)
  all-filter P p [] all = tt
  all-filter P p (x ∷ xs) all = by_test (p x) (all-filter P p xs all.1)
    where
      by_test : (b : Bool) → AllByRecursion P (filter p xs) → AllByRecursion P (cond b (x ∷ filter p xs) (filter p xs))
      by_test true later = (all.0, later)
      by_test false later = later

  all-append : (P : X → Type 0) (xs ys : List X) → AllByRecursion P xs → AllByRecursion P ys → AllByRecursion P (xs ++ ys)
  all-append P [] ys one other = other
  all-append P (x ∷ xs) ys one other = (one.0, all-append P xs ys one.1 other)

  reverse_cons : (x : X) (xs : List X) → reverse (x ∷ xs) ≡ reverse xs ++ x ∷ []
  reverse_cons x xs = reverse-append (x ∷ []) xs

  all-reverse : (P : X → Type 0) (xs : List X) → AllByRecursion P xs → AllByRecursion P (reverse xs)
  all-reverse P [] all = tt
  all-reverse P (x ∷ xs) all =
      subst (AllByRecursion P) (sym (reverse_cons x xs)) (all-append P (reverse xs) (x ∷ []) (all-reverse P xs all.1) (all.0, tt))

  -- tests in either order
  pub filter-filter : (p q : X → Bool) (xs : List X) → filter p (filter q xs) ≡ filter q (filter p xs)
  filter-filter p q [] = refl
  filter-filter p q (x ∷ xs) = by_tests (p x) refl (q x) refl (filter-filter p q xs)
    where
      by_tests : (b : Bool) → p x ≡ b → (c : Bool) → q x ≡ c → filter p (filter q xs) ≡ filter q (filter p xs)
          → filter p (cond c (x ∷ filter q xs) (filter q xs)) ≡ filter q (cond b (x ∷ filter p xs) (filter p xs))
      by_tests true passes true holds later =
          ap (λ b. cond b (x ∷ filter p (filter q xs)) (filter p (filter q xs))) passes ∙ ap (λ l. x ∷ l) later
          ∙ ap (λ b. cond b (x ∷ filter q (filter p xs)) (filter q (filter p xs))) (sym holds)
      by_tests true passes false fails later = later ∙ ap (λ b. cond b (x ∷ filter q (filter p xs)) (filter q (filter p xs))) (sym fails)
      by_tests false fails true holds later = ap (λ b. cond b (x ∷ filter p (filter q xs)) (filter p (filter q xs))) fails ∙ later
      by_tests false fails false misses later = later

  -- each comes before all behind it
  abbrev pub IsOrdered : (before : X → X → Type 0) → List X → Type 0
  IsOrdered before [] = Unit {0}
  IsOrdered before (x ∷ xs) = AllByRecursion (before x) xs × IsOrdered before xs

  pub ordered-filter : (before : X → X → Type 0) (p : X → Bool) (xs : List X) → IsOrdered before xs → IsOrdered before (filter p xs)
  ordered-filter before p [] ordered = tt
  ordered-filter before p (x ∷ xs) ordered = by_test (p x) (ordered-filter before p xs ordered.1)
    where
      by_test : (b : Bool) → IsOrdered before (filter p xs) → IsOrdered before (cond b (x ∷ filter p xs) (filter p xs))
      by_test true later = (all-filter (before x) p xs ordered.0, later)
      by_test false later = later

  ordered-push : (before : X → X → Type 0) (xs : List X) (x : X) → IsOrdered before xs → AllByRecursion (λ y. before y x) xs → IsOrdered before (xs ++ x ∷ [])
  ordered-push before [] x ordered all = (tt, tt)
  ordered-push before (y ∷ xs) x ordered all = (all-append (before y) xs (x ∷ []) ordered.0 (all.0, tt), ordered-push before xs x ordered.1 all.1)

  ordered-reverse : (before : X → X → Type 0) (xs : List X) → IsOrdered before xs → IsOrdered (λ x y. before y x) (reverse xs)
  ordered-reverse before [] ordered = tt
  ordered-reverse before (x ∷ xs) ordered =
      subst (IsOrdered (λ x y. before y x)) (sym (reverse_cons x xs))
      (ordered-push (λ x y. before y x) (reverse xs) x (ordered-reverse before xs ordered.1) (all-reverse (before x) xs ordered.0))

-- ---- entries in the order of their keys

abbrev pub IsBelow : IndexEntry → IndexEntry → Type 0
IsBelow one other = slice_cmp nat_cmp one.0 other.0 ≡ Less

-- one comes before the other in a direction, and the other doesn't
record ComesFirst (down : Bool) (one other : IndexEntry) : Type 0 where
  first : is_before down one.0 other.0 ≡ true
  not_second : is_before down other.0 one.0 ≡ false

not_above : (one other : IndexEntry) → IsBelow one other → is_lt (slice_cmp nat_cmp other.0 one.0) ≡ false
not_above one other below = ap is_lt (nat_list_cmp_total.antisymm other.0 one.0) ∙ ap (λ o. is_lt (ordering_reverse o)) below

first_up : (one other : IndexEntry) → IsBelow one other → ComesFirst false one other
first_up one other below = record { first = ap is_lt below; not_second = not_above one other below }

first_down : (one other : IndexEntry) → IsBelow other one → ComesFirst true one other
first_down one other below = record { first = ap is_lt below; not_second = not_above other one below }

all_weaker : (P Q : IndexEntry → Type 0) → ((e : IndexEntry) → P e → Q e) → (xs : List IndexEntry) → AllByRecursion P xs → AllByRecursion Q xs
all_weaker P Q weaker [] all = tt
all_weaker P Q weaker (x ∷ xs) all = (weaker x all.0, all_weaker P Q weaker xs all.1)

ordered_weaker : (P Q : IndexEntry → IndexEntry → Type 0) → ((x y : IndexEntry) → P x y → Q x y) → (xs : List IndexEntry) → IsOrdered P xs → IsOrdered Q xs
ordered_weaker P Q weaker [] ordered = tt
ordered_weaker P Q weaker (x ∷ xs) ordered = (all_weaker (P x) (Q x) (weaker x) xs ordered.0, ordered_weaker P Q weaker xs ordered.1)

in_direction : (down : Bool) (xs : List IndexEntry) → IsOrdered IsBelow xs → IsOrdered (ComesFirst down) (directed down xs)
in_direction true xs ordered = ordered_weaker (λ x y. IsBelow y x) (ComesFirst true) first_down (reverse xs) (ordered-reverse IsBelow xs ordered)
in_direction false xs ordered = ordered_weaker IsBelow (ComesFirst false) first_up xs ordered

-- ---- merged

module _ (down : Bool) (f g : IndexEntry → StoredTuple) (p : IndexEntry → Bool) where
  -- the row of an entry, by the side that it comes from
  abbrev pub row_by_side : IndexEntry → StoredTuple
  row_by_side entry = if p entry then f entry else g entry

  abbrev others : IndexEntry → Bool
  others entry = not (p entry)

  stored_first : (entry : IndexEntry) (rest own : List IndexEntry) → AllByRecursion (ComesFirst down entry) own
      → merged down f g (entry ∷ rest) own ≡ f entry ∷ merged down f g rest own
  stored_first entry rest [] first = refl
  stored_first entry rest (one ∷ own) first =
      ap (λ b. if b then g one ∷ put_among down f g entry (merged down f g rest) own else f entry ∷ merged down f g rest (one ∷ own)) first.0.not_second

  own_first : (entry : IndexEntry) (stored own : List IndexEntry) → AllByRecursion (ComesFirst down entry) stored
      → merged down f g stored (entry ∷ own) ≡ g entry ∷ merged down f g stored own
  own_first entry [] own first = refl
  own_first entry (one ∷ stored) own first =
      ap (λ b. if b then g entry ∷ put_among down f g one (merged down f g stored) own else f one ∷ merged down f g stored (entry ∷ own)) first.0.first

  merged_is : (all : List IndexEntry) → IsOrdered (ComesFirst down) all → merged down f g (filter p all) (filter others all) ≡ map row_by_side all
  merged_is [] ordered = refl
  merged_is (entry ∷ all) ordered = by_test (p entry) refl (merged_is all ordered.1)
    where
      by_test : (b : Bool) → p entry ≡ b → merged down f g (filter p all) (filter others all) ≡ map row_by_side all
          → merged down f g (cond b (entry ∷ filter p all) (filter p all)) (cond (not b) (entry ∷ filter others all) (filter others all))
          ≡ (if b then f entry else g entry) ∷ map row_by_side all
      by_test true passes later =
          stored_first entry (filter p all) (filter others all) (all-filter (ComesFirst down entry) others all ordered.0) ∙ ap (λ l. f entry ∷ l) later
      by_test false fails later =
          own_first entry (filter p all) (filter others all) (all-filter (ComesFirst down entry) p all ordered.0) ∙ ap (λ l. g entry ∷ l) later

  -- so it is of the entries in a range, in a direction, of lists that have those that pass and the others
  pub merged_in_range : (held : IndexEntry → Bool) (all stored own : List IndexEntry) → IsOrdered IsBelow all → filter p stored ≡ filter p all → own ≡ filter others all
      → merged down f g (filter p (directed down (filter held stored))) (directed down (filter held own)) ≡ directed down (map row_by_side (filter held all))
  merged_in_range held all stored own ordered same own_is =
      let lying = filter held all in
      let stored_side : filter p (directed down (filter held stored)) ≡ filter p (directed down lying) =
      sym (filter-directed p down (filter held stored)) ∙ ap (directed down) (filter-filter p held stored ∙ ap (filter held) same ∙ filter-filter held p all) ∙ filter-directed p down lying in
      let own_side : directed down (filter held own) ≡ filter others (directed down lying) =
      ap (λ l. directed down (filter held l)) own_is ∙ ap (directed down) (filter-filter held others all) ∙ filter-directed others down lying in
      (λ i. merged down f g (stored_side i) (own_side i))
      ∙ merged_is (directed down lying) (in_direction down lying (ordered-filter IsBelow held all ordered))
      ∙ sym (map-directed row_by_side down lying)
