-- Rows that stand by their keys: what a key says of a row that describes something.
use Rattle.std.proofs.Common.{◌≡◌, ℕ, ◌≤◌, Bool, true, false, cond, ◌&&◌, T, List, [], ◌∷◌, drop, Option, Some, Result, Ok, Err, inl, inr, refl, sym, ap, ◌∙◌, subst, arith, eqb-true, eq-eqb, true≢false}
use Rattle.std.specs.Prelude.{pos, negsuc, nat_lt, ◌==◌}
use Rattle.std.specs.Option.{option_map}
use Rattle.std.specs.Result.{result_ok}
use Rattle.std.specs.Cmp.{IsTotalOrder, nat_cmp_total, tied_itself}
use Rattle.std.specs.FinMap.{IsAntisymmetric, nat_cmp-IsAntisymmetric}
use Rattle.std.specs.Ordering.{eq_by_cmp, int_cmp, is_eq, is_lt, nat_cmp, ordering_reverse, ordering_then}
use Rattle.std.specs.declared.cmp.Ordering.{Ordering}
use Rattle.std.specs.declared.cmp.Ordering.TheVariants.{Less, Equal, Greater}
use Rattle.std.proofs.lemmas.Bool.{cases_eq, le-ltb, ltb-true}
use Rattle.mx_key.specs.declared.fault.NoKey.{NoKey}
use Rattle.mx_key.specs.declared.part.PartKind.TheVariants as kind
use Rattle.mx_key.specs.Keys.{Key, KeyPart, Integer, is_key_prefix, key_cmp, part_cmp}
use Rattle.mx_key.specs.Parts.{key_of, part_in, part_of_type, part_read}
use Rattle.mx_key.proofs.KeyLaws.{key_cmp_total, key_cmp-IsAntisymmetric, part_cmp_total, part_cmp-IsAntisymmetric}
use Rattle.mx_msgpack.specs.Projections.{as_int, shown_first}
use Rattle.mx_msgpack.specs.declared.bad.Bad.{Bad}
use Rattle.mx_msgpack.specs.Reading.{Shown, ShownNil, ShownBool, ShownInt, ShownStr, ShownBin, ShownArray, ShownMap, ShownOpaque, reading_of}
use Rattle.mx_msgpack.specs.Readers.{◌>>=◌, as_unsigned, unsigned_at, unsigned_in}
use Rattle.mx_msgpack.proofs.Options.{bind_some, mapped_some, same_some}
use Rattle.mx_msgpack.proofs.ProjectionLaws.{first_read, int_is, unsigned_is}
use Rattle.mx_schema.specs.Bootstrap.{part_of_numbers}

-- ---- numbers as parts of keys

-- a number of 0 or more is read as one
number_read : (spelling : List ℕ) (number : ℕ) → unsigned_in spelling ≡ Some number → (size : ℕ) × (reading_of spelling ≡ Ok (ShownInt (pos number), size))
unfolding unsigned_at
number_read spelling number e =
    let found = mapped_some (λ (found : ℕ × List ℕ). found.0) (unsigned_at spelling) number e in
    let first = bind_some (shown_first spelling) _ found.0 found.1 in
    let read = bind_some (as_int first.0.0) _ found.0 first.2 in
    let unsigned = bind_some (as_unsigned read.0) _ found.0 read.2 in
    let same : unsigned.0 ≡ number = ap (λ (x : ℕ × List ℕ). x.0) (same_some (unsigned.0, _) found.0 unsigned.2) ∙ found.2 in
    let what : first.0.0 ≡ ShownInt (pos number) = int_is first.0.0 read.0 read.1 ∙ ap ShownInt (unsigned_is read.0 unsigned.0 unsigned.1 ∙ ap (λ (n : ℕ). pos n) same) in
    (first.0.1, first_read spelling first.0 first.1 ∙ ap (λ (s : Shown). Ok (s, first.0.1)) what)

-- and so is the part that it is
number_part : (spelling : List ℕ) (number : ℕ) → unsigned_in spelling ≡ Some number → part_in kind.Unsigned spelling ≡ Some (Integer (pos number))
unfolding part_in
number_part spelling number e = let read = number_read spelling number e in ap (part_read kind.Unsigned) read.1

-- and what is such a part is a number
pub part_number : (spelling : List ℕ) (part : KeyPart) → part_in kind.Unsigned spelling ≡ Some part → (number : ℕ) × (part ≡ Integer (pos number)) × (unsigned_in spelling ≡ Some number)
unfolding part_in unsigned_at
part_number spelling part e = by_read (reading_of spelling) refl e
  where
    first_there : (read : Result (Shown × ℕ) Bad) (first : Shown × ℕ) → reading_of spelling ≡ Ok first → shown_first spelling ≡ Some first
    first_there read first is = ap result_ok is

    by_shown : (what : Shown) (size : ℕ) → reading_of spelling ≡ Ok (what, size) → part_of_type kind.Unsigned what ≡ Some part
        → (number : ℕ) × (part ≡ Integer (pos number)) × (unsigned_in spelling ≡ Some number)
    by_shown (ShownInt (pos number)) size is e = (
      number,
      sym (same_some (Integer (pos number)) part e),
      ap (λ (first : Option (Shown × ℕ)). option_map (λ (found : ℕ × List ℕ). found.0) (first >>= λ f. as_int f.0 >>= λ n. as_unsigned n >>= λ u. Some (u, drop f.1 spelling)))
          (first_there (reading_of spelling) (ShownInt (pos number), size) is),
    )
    by_shown (ShownInt (negsuc number)) size is e = absurd cc
    by_shown ShownNil size is e = absurd cc
    by_shown (ShownBool truth) size is e = absurd cc
    by_shown (ShownStr text) size is e = absurd cc
    by_shown (ShownBin content) size is e = absurd cc
    by_shown (ShownArray count items) size is e = absurd cc
    by_shown (ShownMap count items) size is e = absurd cc
    by_shown (ShownOpaque spelled) size is e = absurd cc

    by_read : (read : Result (Shown × ℕ) Bad) → reading_of spelling ≡ read → part_read kind.Unsigned read ≡ Some part
        → (number : ℕ) × (part ≡ Integer (pos number)) × (unsigned_in spelling ≡ Some number)
    by_read (Err bad) is e = absurd cc
    by_read (Ok (what, size)) is e = by_shown what size is e

-- the keys of a number, and of two
abbrev pub one_key : (number : ℕ) → Key
one_key number = Integer (pos number) ∷ []

abbrev pub two_key : (first second : ℕ) → Key
two_key first second = Integer (pos first) ∷ Integer (pos second) ∷ []

same_key : (x y : Key) → ◌≡◌ {A = Result Key NoKey} (Ok x) (Ok y) → x ≡ y
same_key x y e = cc

pub key_of_one : (first : List ℕ) (others : List (List ℕ)) (number : ℕ) (key : Key) → unsigned_in first ≡ Some number
    → key_of (part_of_numbers 0 ∷ []) (first ∷ others) ≡ Ok key → key ≡ one_key number
key_of_one first others number key e is =
    let part = number_part first number e in
    same_key key (one_key number) (sym is ∙ rw part refl)

pub key_of_two : (first second : List ℕ) (others : List (List ℕ)) (number also : ℕ) (key : Key) → unsigned_in first ≡ Some number → unsigned_in second ≡ Some also
    → key_of (part_of_numbers 0 ∷ part_of_numbers 1 ∷ []) (first ∷ second ∷ others) ≡ Ok key → key ≡ two_key number also
key_of_two first second others number also key e f is =
    let part = number_part first number e in
    let next = number_part second also f in
    same_key key (two_key number also) (sym is ∙ rw (part, next) refl)

-- ---- how such keys compare

not_tied : (o : Ordering) → (o ≡ Equal → ⊥) → is_eq o ≡ false
not_tied Less other = refl
not_tied Equal other = absurd (other refl)
not_tied Greater other = refl

pub ties_itself : {K : Type 0} {R : K → K → Ordering} → IsTotalOrder R → (x : K) → eq_by_cmp R x x ≡ true
ties_itself {R = R} o x = ap is_eq (tied_itself o x)

apart : {K : Type 0} (R : K → K → Ordering) → IsAntisymmetric R → (x y : K) → (x ≡ y → ⊥) → eq_by_cmp R x y ≡ false
apart R same x y other = not_tied (R x y) (λ tied. other (same x y tied))

pub number_ties : (q k : ℕ) → eq_by_cmp nat_cmp q k ≡ true → q ≡ k
number_ties q k tied = elim (cases_eq q k) [
  | inl e ↦ e
  | inr other ↦ absurd (cc (tied, apart nat_cmp nat_cmp-IsAntisymmetric q k other))
]

same_number : (q k : ℕ) → Integer (pos q) ≡ Integer (pos k) → q ≡ k
same_number q k e = cc

pub one_key_ties : (q k : ℕ) → eq_by_cmp key_cmp (one_key q) (one_key k) ≡ eq_by_cmp nat_cmp q k
one_key_ties q k = elim (cases_eq q k) [
  | inl e ↦ rw e (ties_itself key_cmp_total (one_key k) ∙ sym (ties_itself nat_cmp_total k))
  | inr other ↦ apart key_cmp key_cmp-IsAntisymmetric (one_key q) (one_key k) (λ e. other (first_same q k e)) ∙ sym (apart nat_cmp nat_cmp-IsAntisymmetric q k other)
]
  where
    first_same : (q k : ℕ) → one_key q ≡ one_key k → q ≡ k
    first_same q k e = cc

with_true : (b : Bool) → (b && true) ≡ b
with_true true = refl
with_true false = refl

pub prefix_ties : (q first second : ℕ) → is_key_prefix (one_key q) (two_key first second) ≡ eq_by_cmp nat_cmp q first
prefix_ties q first second = with_true (eq_by_cmp part_cmp (Integer (pos q)) (Integer (pos first))) ∙ elim (cases_eq q first) [
  | inl e ↦ rw e (ties_itself part_cmp_total (Integer (pos first)) ∙ sym (ties_itself nat_cmp_total first))
  | inr other ↦
      apart part_cmp part_cmp-IsAntisymmetric (Integer (pos q)) (Integer (pos first)) (λ e. other (same_number q first e))
      ∙ sym (apart nat_cmp nat_cmp-IsAntisymmetric q first other)
]

below : (i j : ℕ) → nat_lt i j ≡ true → i ≤ j
below i j e = let l = ltb-true i j e in omega arith

never : (b : Bool) → T (is_lt (ordering_then (cond b Greater Equal) Equal)) → ⊥
never true h = h
never false h = h

-- the second number rises where the first is the same
pub second_rises : (q i j : ℕ) → T (is_lt (key_cmp (two_key q i) (two_key q j))) → nat_lt j i ≡ false
second_rises q i j less =
    let tied : part_cmp (Integer (pos q)) (Integer (pos q)) ≡ Equal = tied_itself part_cmp_total (Integer (pos q)) in
    by_second (subst (λ (o : Ordering). T (is_lt (ordering_then o (ordering_then (part_cmp (Integer (pos i)) (Integer (pos j))) Equal)))) tied less)
  where
    by_second : T (is_lt (ordering_then (int_cmp (pos i) (pos j)) Equal)) → nat_lt j i ≡ false
    by_second less = by_test (nat_lt i j) refl less
      where
        by_test : (b : Bool) → nat_lt i j ≡ b → T (is_lt (ordering_then (cond b Less (cond (nat_lt j i) Greater Equal)) Equal)) → nat_lt j i ≡ false
        by_test true e less = le-ltb j i (below i j e)
        by_test false e less = absurd (never (nat_lt j i) less)

-- of two keys the lesser one has the lesser second number
pub second_above : (q i j : ℕ) → T (is_lt (key_cmp (two_key q i) (two_key q j))) → nat_lt i j ≡ true
second_above q i j less =
    let tied : part_cmp (Integer (pos q)) (Integer (pos q)) ≡ Equal = tied_itself part_cmp_total (Integer (pos q)) in
    by_second (subst (λ (o : Ordering). T (is_lt (ordering_then o (ordering_then (part_cmp (Integer (pos i)) (Integer (pos j))) Equal)))) tied less)
  where
    by_second : T (is_lt (ordering_then (int_cmp (pos i) (pos j)) Equal)) → nat_lt i j ≡ true
    by_second less = by_test (nat_lt i j) refl less
      where
        by_test : (b : Bool) → nat_lt i j ≡ b → T (is_lt (ordering_then (cond b Less (cond (nat_lt j i) Greater Equal)) Equal)) → nat_lt i j ≡ true
        by_test true e less = e
        by_test false e less = absurd (never (nat_lt j i) less)

-- and the greater one hasn't
pub second_falls : (q i j : ℕ) → key_cmp (two_key q i) (two_key q j) ≡ Greater → nat_lt i j ≡ false
second_falls q i j greater =
    let less : key_cmp (two_key q j) (two_key q i) ≡ Less = key_cmp_total.antisymm (two_key q j) (two_key q i) ∙ ap ordering_reverse greater in
    second_rises q j i (subst (λ (o : Ordering). T (is_lt o)) (sym less) tt)

-- two numbers tie where both are the same
pub two_key_ties : (a b c d : ℕ) → eq_by_cmp key_cmp (two_key a b) (two_key c d) ≡ ((a == c) && (b == d))
two_key_ties a b c d = by_tests (a == c) (b == d) refl refl
  where
    first_same : two_key a b ≡ two_key c d → a ≡ c
    first_same e = cc

    second_same : two_key a b ≡ two_key c d → b ≡ d
    second_same e = cc

    by_tests : (s t : Bool) → (a == c) ≡ s → (b == d) ≡ t → eq_by_cmp key_cmp (two_key a b) (two_key c d) ≡ (s && t)
    by_tests true true e f =
        let first : a ≡ c = eqb-true a c e in
        let second : b ≡ d = eqb-true b d f in
        ap (λ k. eq_by_cmp key_cmp (two_key a b) (two_key k d)) (sym first) ∙ ap (λ k. eq_by_cmp key_cmp (two_key a b) (two_key a k)) (sym second)
        ∙ ties_itself key_cmp_total (two_key a b)
    by_tests true false e f =
        apart key_cmp key_cmp-IsAntisymmetric (two_key a b) (two_key c d) (λ same. true≢false (sym (eq-eqb b d (second_same same)) ∙ f))
    by_tests false t e f =
        apart key_cmp key_cmp-IsAntisymmetric (two_key a b) (two_key c d) (λ same. true≢false (sym (eq-eqb a c (first_same same)) ∙ e))
