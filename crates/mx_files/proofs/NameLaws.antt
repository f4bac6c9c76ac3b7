-- The names of journals: they rise with the signatures, and no snapshot or draft has such a name.
use Rattle.std.proofs.Common.{◌≡◌, ◌≢◌, ℕ, zero, suc, ◌+◌, ◌/◌, ◌%◌, ◌^◌, ◌<◌, ◌≤◌, Bool, true, false, ◌&&◌, ◌||◌, List, [], ◌∷◌, ◌++◌, length, take, drop, sum, refl, sym, ap, ◌∙◌, ◌⊎◌, inl, inr, arith}
use Rattle.std.specs.Prelude.{◌==◌, nat_eq, codes}
use Rattle.std.specs.List.{list_all}
use Rattle.std.specs.Ordering.{nat_cmp, ordering_then}
use Rattle.std.specs.declared.cmp.Ordering.{Ordering}
use Rattle.std.specs.declared.cmp.Ordering.TheVariants.{Less, Equal, Greater}
use Rattle.std.specs.Cmp.Lexicographic.{slice_cmp, pointwise, bytes_decides}
use Rattle.std.proofs.lemmas.List.{length-append, append_assoc}
use Rattle.std.proofs.lemmas.Bool.{eq-eqb, le-leb, cases_lt}
use Rattle.std.proofs.lemmas.Bool.Decides.{nat_tests}
use Rattle.std.proofs.Math.Nat.{pow-suc}
use Rattle.std.proofs.Math.Seq.{take-append_seam, drop-append_seam}
use Rattle.mx_vclock.specs.Vclocks.{IsVclock}
use Rattle.mx_vclock.proofs.Sums.{sum_fits}
use Rattle.mx_files.specs.Names.{digits, journal_name, draft_ending, is_digit, is_numbered, is_journal, is_snapshot, is_draft}

and_false : (b : Bool) → (b && false) ≡ false
and_false true = refl
and_false false = refl

both_true : (a b : Bool) → a ≡ true → b ≡ true → (a && b) ≡ true
both_true a b p q = rw p q

second_true : (a b : Bool) → (a && b) ≡ true → b ≡ true
second_true true b p = p
second_true false b p = absurd (cc)

first_true : (a b : Bool) → (a && b) ≡ true → a ≡ true
first_true true b p = refl
first_true false b p = absurd (cc)

either_true : (a b : Bool) → (a || b) ≡ true → (a ≡ true) ⊎ (b ≡ true)
either_true true b p = inl refl
either_true false b p = inr p

pub length-digits : (width number : ℕ) → length (digits width number) ≡ width
length-digits zero number = refl
length-digits (suc width) number =
    let before = length-digits width (number / 10) in
    length-append (digits width (number / 10)) ((48 + number % 10) ∷ []) ∙ omega arith

list_all-push : (front : List ℕ) (byte : ℕ) → list_all is_digit front ≡ true → is_digit byte ≡ true → list_all is_digit (front ++ byte ∷ []) ≡ true
list_all-push [] byte all last = both_true (is_digit byte) true last refl
list_all-push (x ∷ front) byte all last =
    both_true (is_digit x) _ (first_true (is_digit x) _ all) (list_all-push front byte (second_true (is_digit x) _ all) last)

digit_is : (number : ℕ) → is_digit (48 + number % 10) ≡ true
digit_is number = both_true _ _ (le-leb 48 (48 + number % 10) (omega arith)) (le-leb (48 + number % 10) 57 (omega arith))

pub are_digits : (width number : ℕ) → list_all is_digit (digits width number) ≡ true
are_digits zero number = refl
are_digits (suc width) number = list_all-push (digits width (number / 10)) (48 + number % 10) (are_digits width (number / 10)) (digit_is number)

-- the first twenty bytes
front_of : (count : ℕ) (front tail : List ℕ) → length front ≡ count → take count (front ++ tail) ≡ front
front_of count front tail long = ap (λ n. take n (front ++ tail)) (sym long) ∙ take-append_seam front tail

behind : (count : ℕ) (front tail : List ℕ) → length front ≡ count → drop count (front ++ tail) ≡ tail
behind count front tail long = ap (λ n. drop n (front ++ tail)) (sym long) ∙ drop-append_seam front tail

-- twenty digits and this ending are a name of that ending
is_numbered-true : (ending front : List ℕ) → length front ≡ 20 → list_all is_digit front ≡ true → is_numbered ending (front ++ ending) ≡ true
is_numbered-true ending front long all =
    both_true _ _
    (both_true _ _ (eq-eqb _ _ (length-append front ending ∙ ap (λ n. n + length ending) long))
    (ap (list_all is_digit) (front_of 20 front ending long) ∙ all))
    (ap (λ bytes. pointwise nat_eq bytes ending) (behind 20 front ending long) ∙ (bytes_decides ending ending).1 refl)

-- and of no other one
is_numbered-false : (ending front tail : List ℕ) → length front ≡ 20 → pointwise nat_eq tail ending ≡ false
    → is_numbered ending (front ++ tail) ≡ false
is_numbered-false ending front tail long other =
    ap (λ b. ((length (front ++ tail) == 20 + length ending) && list_all is_digit (take 20 (front ++ tail))) && b)
    (ap (λ bytes. pointwise nat_eq bytes ending) (behind 20 front tail long) ∙ other)
    ∙ and_false _

-- a name has one ending
pub one_ending : (ending other name : List ℕ) → is_numbered ending name ≡ true → pointwise nat_eq ending other ≡ false
    → is_numbered other name ≡ false
one_ending ending other name is differ =
    let behind : drop 20 name ≡ ending = (bytes_decides (drop 20 name) ending).0 (second_true _ _ is) in
    ap (λ b. ((length name == 20 + length other) && list_all is_digit (take 20 name)) && b)
    (ap (λ bytes. pointwise nat_eq bytes other) behind ∙ differ)
    ∙ and_false _

pub take-journal_name : (number : ℕ) → take 20 (journal_name number) ≡ digits 20 number
take-journal_name number = front_of 20 (digits 20 number) (codes ".xlog") (length-digits 20 number)

pub journal_name-is_journal : (number : ℕ) → is_journal (journal_name number) ≡ true
journal_name-is_journal number = is_numbered-true (codes ".xlog") (digits 20 number) (length-digits 20 number) (are_digits 20 number)

draft_name : (number : ℕ) → journal_name number ++ draft_ending ≡ digits 20 number ++ codes ".xlog.inprogress"
draft_name number = append_assoc (digits 20 number) (codes ".xlog") draft_ending

pub draft-is_draft : (number : ℕ) → is_draft (journal_name number ++ draft_ending) ≡ true
draft-is_draft number =
    ap is_draft (draft_name number)
    ∙ ap (λ b. b || is_numbered (codes ".snap.inprogress") (digits 20 number ++ codes ".xlog.inprogress"))
    (is_numbered-true (codes ".xlog.inprogress") (digits 20 number) (length-digits 20 number) (are_digits 20 number))

pub draft-is_journal : (number : ℕ) → is_journal (journal_name number ++ draft_ending) ≡ false
draft-is_journal number =
    ap is_journal (draft_name number)
    ∙ is_numbered-false (codes ".xlog") (digits 20 number) (codes ".xlog.inprogress") (length-digits 20 number) refl

pub draft-is_snapshot : (number : ℕ) → is_snapshot (journal_name number ++ draft_ending) ≡ false
draft-is_snapshot number =
    ap is_snapshot (draft_name number)
    ∙ is_numbered-false (codes ".snap") (digits 20 number) (codes ".xlog.inprogress") (length-digits 20 number) refl

pub snapshot_is_no_journal : (name : List ℕ) → is_snapshot name ≡ true → is_journal name ≡ false
snapshot_is_no_journal name is = one_ending (codes ".snap") (codes ".xlog") name is refl

pub draft_is_no_journal : (name : List ℕ) → is_draft name ≡ true → is_journal name ≡ false
draft_is_no_journal name is = by_kind (either_true _ _ is)
  where
    by_kind : (is_numbered (codes ".xlog.inprogress") name ≡ true) ⊎ (is_numbered (codes ".snap.inprogress") name ≡ true) → is_journal name ≡ false
    by_kind (inl xlog) = one_ending (codes ".xlog.inprogress") (codes ".xlog") name xlog refl
    by_kind (inr snap) = one_ending (codes ".snap.inprogress") (codes ".xlog") name snap refl

pub draft_is_no_snapshot : (name : List ℕ) → is_draft name ≡ true → is_snapshot name ≡ false
draft_is_no_snapshot name is = by_kind (either_true _ _ is)
  where
    by_kind : (is_numbered (codes ".xlog.inprogress") name ≡ true) ⊎ (is_numbered (codes ".snap.inprogress") name ≡ true) → is_snapshot name ≡ false
    by_kind (inl xlog) = one_ending (codes ".xlog.inprogress") (codes ".snap") name xlog refl
    by_kind (inr snap) = one_ending (codes ".snap.inprogress") (codes ".snap") name snap refl

-- Names in order.

nat_less : (m n : ℕ) → m < n → nat_cmp m n ≡ Less
nat_less m n below = grind (arith, nat_tests)

nat_same : (m : ℕ) → nat_cmp m m ≡ Equal
nat_same m = grind (arith, nat_tests)

-- lists that differ in their prefixes differ there
less_before : (xs ys s t : List ℕ) → length xs ≡ length ys → slice_cmp nat_cmp xs ys ≡ Less → slice_cmp nat_cmp (xs ++ s) (ys ++ t) ≡ Less
less_before [] [] s t long less = absurd (cc)
less_before [] (y ∷ ys) s t long less = absurd (omega arith)
less_before (x ∷ xs) [] s t long less = absurd (omega arith)
less_before (x ∷ xs) (y ∷ ys) s t long less = by_first (less_before xs ys s t (omega arith)) (nat_cmp x y) less
  where
    by_first : (slice_cmp nat_cmp xs ys ≡ Less → slice_cmp nat_cmp (xs ++ s) (ys ++ t) ≡ Less) → (o : Ordering)
        → ordering_then o (slice_cmp nat_cmp xs ys) ≡ Less → ordering_then o (slice_cmp nat_cmp (xs ++ s) (ys ++ t)) ≡ Less
    by_first others Less is = refl
    by_first others Equal is = others is
    by_first others Greater is = absurd (cc)

same_before : (xs s t : List ℕ) → slice_cmp nat_cmp (xs ++ s) (xs ++ t) ≡ slice_cmp nat_cmp s t
same_before [] s t = refl
same_before (x ∷ xs) s t = ap (λ o. ordering_then o (slice_cmp nat_cmp (xs ++ s) (xs ++ t))) (nat_same x) ∙ same_before xs s t

one_byte : (m n : ℕ) → m < n → slice_cmp nat_cmp (m ∷ []) (n ∷ []) ≡ Less
one_byte m n below = ap (λ o. ordering_then o Equal) (nat_less m n below)

pub digits_order : (width m n : ℕ) → m < n → n < 10 ^ width → slice_cmp nat_cmp (digits width m) (digits width n) ≡ Less
digits_order zero m n below fits = absurd (omega arith)
digits_order (suc width) m n below fits =
    let p = pow-suc 10 width in
    by_tens (λ less. digits_order width (m / 10) (n / 10) less (omega arith)) (cases_lt (m / 10) (n / 10))
  where
    by_tens : (m / 10 < n / 10 → slice_cmp nat_cmp (digits width (m / 10)) (digits width (n / 10)) ≡ Less)
        → (m / 10 < n / 10) ⊎ (n / 10 ≤ m / 10) → slice_cmp nat_cmp (digits (suc width) m) (digits (suc width) n) ≡ Less
    by_tens fronts (inl less) =
        less_before (digits width (m / 10)) (digits width (n / 10)) _ _
        (length-digits width (m / 10) ∙ sym (length-digits width (n / 10))) (fronts less)
    by_tens fronts (inr above) =
        let tens : m / 10 ≡ n / 10 = omega arith in
        ap (λ t. slice_cmp nat_cmp (digits width t ++ (48 + m % 10) ∷ []) (digits (suc width) n)) tens
        ∙ same_before (digits width (n / 10)) ((48 + m % 10) ∷ []) ((48 + n % 10) ∷ [])
        ∙ one_byte (48 + m % 10) (48 + n % 10) (omega arith)

-- the lesser signature's name comes first
pub name_order : (m n : ℕ) → m < n → n < 10 ^ 20 → slice_cmp nat_cmp (journal_name m) (journal_name n) ≡ Less
name_order m n below fits =
    less_before (digits 20 m) (digits 20 n) (codes ".xlog") (codes ".xlog")
    (length-digits 20 m ∙ sym (length-digits 20 n)) (digits_order 20 m n below fits)

-- and so do the digits alone
pub front_order : (m n : ℕ) → m < n → n < 10 ^ 20 → slice_cmp nat_cmp (take 20 (journal_name m)) (take 20 (journal_name n)) ≡ Less
front_order m n below fits =
    ap (λ xs. slice_cmp nat_cmp xs (take 20 (journal_name n))) (take-journal_name m)
    ∙ ap (λ ys. slice_cmp nat_cmp (digits 20 m) ys) (take-journal_name n)
    ∙ digits_order 20 m n below fits

pub same_list : (xs : List ℕ) → slice_cmp nat_cmp xs xs ≡ Equal
same_list [] = refl
same_list (x ∷ xs) = ap (λ o. ordering_then o (slice_cmp nat_cmp xs xs)) (nat_same x) ∙ same_list xs

not_greater : (o : Ordering) → (o ≡ Less) ⊎ (o ≡ Equal) → o ≡ Greater → ⊥
not_greater o (inl less) greater = cc
not_greater o (inr same) greater = cc

pub front_order-at_most : (m n : ℕ) → m ≤ n → n < 10 ^ 20 → slice_cmp nat_cmp (take 20 (journal_name m)) (take 20 (journal_name n)) ≢ Greater
front_order-at_most m n below fits = by_order (cases_lt m n)
  where
    by_order : (m < n) ⊎ (n ≤ m) → slice_cmp nat_cmp (take 20 (journal_name m)) (take 20 (journal_name n)) ≢ Greater
    by_order (inl less) = not_greater _ (inl (front_order m n less fits))
    by_order (inr above) =
        let same : m ≡ n = omega arith in
        let end = take 20 (journal_name n) in
        not_greater _ (inr (ap (λ k. slice_cmp nat_cmp (take 20 (journal_name k)) end) same ∙ same_list end))

-- the signature of a vclock has no more than twenty digits
pub signature_fits : (clock : List ℕ) → IsVclock clock → sum clock < 10 ^ 20
signature_fits clock is = let below = sum_fits clock is in omega arith

-- different signatures have different names
pub same_signature : (m n : ℕ) → m < 10 ^ 20 → n < 10 ^ 20 → journal_name m ≡ journal_name n → m ≡ n
same_signature m n fits_m fits_n same = by_order (cases_lt m n) (cases_lt n m)
  where
    not_less : (a b : ℕ) → journal_name a ≡ journal_name b → b < 10 ^ 20 → a < b → a ≡ b
    not_less a b is fits below =
        let less = name_order a b below fits in
        let equal : slice_cmp nat_cmp (journal_name a) (journal_name b) ≡ Equal =
        ap (λ name. slice_cmp nat_cmp name (journal_name b)) is ∙ same_list (journal_name b) in
        absurd cc

    by_order : (m < n) ⊎ (n ≤ m) → (n < m) ⊎ (m ≤ n) → m ≡ n
    by_order (inl less) other = not_less m n same fits_n less
    by_order (inr above) (inl less) = sym (not_less n m (sym same) fits_m less)
    by_order (inr above) (inr below) = omega arith
