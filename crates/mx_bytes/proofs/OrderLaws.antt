-- Bytes compared eight at a time, as numbers, and with zeros behind them, are ordered as the bytes are.
use Rattle.std.proofs.Common.{◌≡◌, ℕ, zero, suc, ◌+◌, ◌*◌, ◌^◌, ◌<◌, ◌≤◌, ◌≢◌, List, [], ◌∷◌, ◌++◌, ◌-◌, length, take, drop, replicate, slice_index, refl, sym, ap, ◌∙◌, arith}
use Rattle.std.specs.Ordering.{nat_cmp, ordering_then, MatchOrdering}
use Rattle.std.specs.declared.cmp.Ordering.{Ordering}
use Rattle.std.specs.declared.cmp.Ordering.TheVariants.{Less, Equal, Greater}
use Rattle.std.specs.Cmp.{nat_cmp_is}
use Rattle.std.specs.Cmp.Lexicographic.{slice_cmp}
use Rattle.std.proofs.Math.Nat.{mul-le-mul_right, add-mul}
use Rattle.std.proofs.lemmas.Cmp.{ranked}
use Rattle.std.proofs.lemmas.List.{take-append-drop, length-take-le, drop-replicate, length-append, length-replicate, length-drop, drop-drop, get_or-drop}
use Rattle.std.proofs.Math.Seq.{drop-length}
use Rattle.byteorder.specs.Endian.{big_number}
use Rattle.byteorder.specs.Numbers.{big_from-cons, big_from-lt}

pub then_assoc : (a b c : Ordering) → ordering_then a (ordering_then b c) ≡ ordering_then (ordering_then a b) c
then_assoc Less b c = refl
then_assoc Equal b c = refl
then_assoc Greater b c = refl

-- the highest digit decides, else the rest
pub digits_order : (base a b r s : ℕ) → r < base → s < base → ordering_then (nat_cmp a b) (nat_cmp r s) ≡ nat_cmp (a * base + r) (b * base + s)
digits_order base a b r s low low' = nat_cmp_is _ _ _ (by_digit (nat_cmp a b) (ranked a b (nat_cmp a b) refl))
  where
    by_rest : a ≡ b → (o : Ordering) → MatchOrdering o (r < s) (r ≡ s) (s < r)
        → MatchOrdering o (a * base + r < b * base + s) (a * base + r ≡ b * base + s) (b * base + s < a * base + r)
    by_rest same Less e = rw same (omega arith)
    by_rest same Equal e = rw same (omega arith)
    by_rest same Greater e = rw same (omega arith)

    by_digit : (o : Ordering) → MatchOrdering o (a < b) (a ≡ b) (b < a)
        → MatchOrdering (ordering_then o (nat_cmp r s)) (a * base + r < b * base + s) (a * base + r ≡ b * base + s) (b * base + s < a * base + r)
    by_digit Less e =
        let top : (a + 1) * base ≤ b * base = mul-le-mul_right base (omega arith) in
        let parts : (a + 1) * base ≡ a * base + 1 * base = add-mul a 1 base in
        omega arith
    by_digit Equal e = by_rest e (nat_cmp r s) (ranked r s (nat_cmp r s) refl)
    by_digit Greater e =
        let top : (b + 1) * base ≤ a * base = mul-le-mul_right base (omega arith) in
        let parts : (b + 1) * base ≡ b * base + 1 * base = add-mul b 1 base in
        omega arith

-- the numbers in the first bytes decide, else what stands behind those
pub first_number_decides : (n : ℕ) (xs ys : List ℕ) → n ≤ length xs → n ≤ length ys → ((k : ℕ) → slice_index xs k < 256) → ((k : ℕ) → slice_index ys k < 256)
    → slice_cmp nat_cmp xs ys ≡ ordering_then (nat_cmp (big_number n xs) (big_number n ys)) (slice_cmp nat_cmp (drop n xs) (drop n ys))
first_number_decides zero xs ys long long' each each' =
    ap (λ (o : Ordering). ordering_then o (slice_cmp nat_cmp xs ys)) (nat_cmp_is 0 0 Equal refl)
first_number_decides (suc n) [] ys long long' each each' = absurd (omega arith)
first_number_decides (suc n) (x ∷ xs) [] long long' each each' = absurd (omega arith)
first_number_decides (suc n) (x ∷ xs) (y ∷ ys) long long' each each' =
    let later : (k : ℕ) → slice_index xs k < 256 = λ k. each (suc k) in
    let later' : (k : ℕ) → slice_index ys k < 256 = λ k. each' (suc k) in
    let rest = first_number_decides n xs ys (omega arith) (omega arith) later later' in
    let digits = digits_order (256 ^ n) x y (big_number n xs) (big_number n ys) (big_from-lt 0 n xs later) (big_from-lt 0 n ys later') in
    ap (ordering_then (nat_cmp x y)) rest
    ∙ then_assoc (nat_cmp x y) (nat_cmp (big_number n xs) (big_number n ys)) (slice_cmp nat_cmp (drop n xs) (drop n ys))
    ∙ ap (λ (o : Ordering). ordering_then o (slice_cmp nat_cmp (drop n xs) (drop n ys)))
    (digits ∙ (λ i. nat_cmp (x * 256 ^ n + sym (big_from-cons 0 n x xs) i) (y * 256 ^ n + sym (big_from-cons 0 n y ys) i)))

-- two numbers that differ decide
pub unequal_decide : (x y : ℕ) (rest : Ordering) → x ≢ y → ordering_then (nat_cmp x y) rest ≡ nat_cmp x y
unequal_decide x y rest differ = by (nat_cmp x y) (ranked x y (nat_cmp x y) refl)
  where
    by : (o : Ordering) → MatchOrdering o (x < y) (x ≡ y) (y < x) → ordering_then o rest ≡ o
    by Less e = refl
    by Equal e = absurd (differ e)
    by Greater e = refl

-- two lists, of which these numbers stand behind the first `start` bytes
module _ (start n : ℕ) (xs ys : List ℕ) (x y : ℕ) (long : start + n ≤ length xs) (long' : start + n ≤ length ys)
    (each : (k : ℕ) → slice_index xs k < 256) (each' : (k : ℕ) → slice_index ys k < 256)
    (is : x ≡ big_number n (drop start xs)) (is' : y ≡ big_number n (drop start ys)) where
  abbrev behind : Ordering
  behind = slice_cmp nat_cmp (drop (start + n) xs) (drop (start + n) ys)

  number_decides : slice_cmp nat_cmp (drop start xs) (drop start ys) ≡ ordering_then (nat_cmp x y) behind
  number_decides =
      let length-xs = length-drop start xs in
      let length-ys = length-drop start ys in
      first_number_decides n (drop start xs) (drop start ys) (omega (arith, length-xs)) (omega (arith, length-ys))
      (λ k. rw (get_or-drop start xs k 0) (each (start + k))) (λ k. rw (get_or-drop start ys k 0) (each' (start + k)))
      ∙ (λ i. ordering_then (nat_cmp (sym is i) (sym is' i)) (slice_cmp nat_cmp (drop-drop n start xs i) (drop-drop n start ys i)))

  pub where_numbers_differ : x ≢ y → slice_cmp nat_cmp (drop start xs) (drop start ys) ≡ nat_cmp x y
  where_numbers_differ differ = number_decides ∙ unequal_decide x y behind differ

  pub where_numbers_are_same : x ≡ y → slice_cmp nat_cmp (drop start xs) (drop start ys) ≡ behind
  where_numbers_are_same same = number_decides ∙ ap (λ (o : Ordering). ordering_then o behind) (sym (nat_cmp_is x y Equal same))

  pub where_nothing_follows : length xs ≡ start + n → length ys ≡ start + n → slice_cmp nat_cmp (drop start xs) (drop start ys) ≡ nat_cmp x y
  where_nothing_follows ends ends' =
      number_decides
      ∙ (λ i. ordering_then (nat_cmp x y) (slice_cmp nat_cmp (nothing xs ends i) (nothing ys ends' i)))
      ∙ by (nat_cmp x y)
    where
      nothing : (zs : List ℕ) → length zs ≡ start + n → drop (start + n) zs ≡ []
      nothing zs ends = ap (λ (k : ℕ). drop k zs) (sym ends) ∙ drop-length zs

      by : (o : Ordering) → ordering_then o Equal ≡ o
      by Less = refl
      by Equal = refl
      by Greater = refl

-- ---- zeros behind the bytes

-- no bytes come before zeros that are as long
zeros_first : (n : ℕ) (xs : List ℕ) → n ≤ length xs → ordering_then (slice_cmp nat_cmp (replicate n 0) xs) Less ≡ Less
zeros_first zero [] long = refl
zeros_first zero (x ∷ xs) long = refl
zeros_first (suc n) [] long = absurd (omega arith)
zeros_first (suc n) (zero ∷ xs) long =
    ap (λ (o : Ordering). ordering_then (ordering_then o (slice_cmp nat_cmp (replicate n 0) xs)) Less) (sym (nat_cmp_is 0 0 Equal refl)) ∙ zeros_first n xs (omega arith)
zeros_first (suc n) (suc x ∷ xs) long =
    ap (λ (o : Ordering). ordering_then (ordering_then o (slice_cmp nat_cmp (replicate n 0) xs)) Less) (sym (nat_cmp_is 0 (suc x) Less (omega arith)))

zeros_last : (n : ℕ) (xs : List ℕ) → n ≤ length xs → ordering_then (slice_cmp nat_cmp xs (replicate n 0)) Greater ≡ Greater
zeros_last zero [] long = refl
zeros_last zero (x ∷ xs) long = refl
zeros_last (suc n) [] long = absurd (omega arith)
zeros_last (suc n) (zero ∷ xs) long =
    ap (λ (o : Ordering). ordering_then (ordering_then o (slice_cmp nat_cmp xs (replicate n 0))) Greater) (sym (nat_cmp_is 0 0 Equal refl)) ∙ zeros_last n xs (omega arith)
zeros_last (suc n) (suc x ∷ xs) long =
    ap (λ (o : Ordering). ordering_then (ordering_then o (slice_cmp nat_cmp xs (replicate n 0))) Greater) (sym (nat_cmp_is (suc x) 0 Greater (omega arith)))

zeros_equal : (n : ℕ) → slice_cmp nat_cmp (replicate n 0) (replicate n 0) ≡ Equal
zeros_equal zero = refl
zeros_equal (suc n) = ap (λ (o : Ordering). ordering_then o (slice_cmp nat_cmp (replicate n 0) (replicate n 0))) (sym (nat_cmp_is 0 0 Equal refl)) ∙ zeros_equal n

length-padded : (xs : List ℕ) (n : ℕ) → length (xs ++ replicate n 0) ≡ length xs + n
length-padded xs n = length-append xs (replicate n 0) ∙ ap (λ (m : ℕ). length xs + m) (length-replicate n 0)

suc_order : (m n : ℕ) → nat_cmp m n ≡ nat_cmp (suc m) (suc n)
suc_order m n = nat_cmp_is (suc m) (suc n) (nat_cmp m n) (by (nat_cmp m n) (ranked m n (nat_cmp m n) refl))
  where
    by : (o : Ordering) → MatchOrdering o (m < n) (m ≡ n) (n < m) → MatchOrdering o (suc m < suc n) (suc m ≡ suc n) (suc n < suc m)
    by Less e = omega arith
    by Equal e = ap suc e
    by Greater e = omega arith

-- bytes to which zeros are added until they are as long decide, else their lengths
pub padded_decides : (xs ys : List ℕ) (m n : ℕ) → length xs + m ≡ length ys + n
    → slice_cmp nat_cmp xs ys ≡ ordering_then (slice_cmp nat_cmp (xs ++ replicate m 0) (ys ++ replicate n 0)) (nat_cmp (length xs) (length ys))
padded_decides [] [] m n same =
    let as_many : n ≡ m = omega arith in
    let equal = ap (λ (k : ℕ). slice_cmp nat_cmp (replicate m 0) (replicate k 0)) as_many ∙ zeros_equal m in
    sym (ap (λ (o : Ordering). ordering_then o (nat_cmp 0 0)) equal ∙ sym (nat_cmp_is 0 0 Equal refl))
padded_decides [] (y ∷ ys) m n same =
    let less = nat_cmp_is 0 (length (y ∷ ys)) Less (omega arith) in
    let long = length-padded (y ∷ ys) n in
    sym (ap (ordering_then (slice_cmp nat_cmp (replicate m 0) ((y ∷ ys) ++ replicate n 0))) (sym less) ∙ zeros_first m ((y ∷ ys) ++ replicate n 0) (omega (arith, long)))
padded_decides (x ∷ xs) [] m n same =
    let greater = nat_cmp_is (length (x ∷ xs)) 0 Greater (omega arith) in
    let long = length-padded (x ∷ xs) m in
    sym (ap (ordering_then (slice_cmp nat_cmp ((x ∷ xs) ++ replicate m 0) (replicate n 0))) (sym greater) ∙ zeros_last n ((x ∷ xs) ++ replicate m 0) (omega (arith, long)))
padded_decides (x ∷ xs) (y ∷ ys) m n same =
    ap (ordering_then (nat_cmp x y)) (padded_decides xs ys m n (omega arith))
    ∙ then_assoc (nat_cmp x y) (slice_cmp nat_cmp (xs ++ replicate m 0) (ys ++ replicate n 0)) (nat_cmp (length xs) (length ys))
    ∙ ap (ordering_then (ordering_then (nat_cmp x y) (slice_cmp nat_cmp (xs ++ replicate m 0) (ys ++ replicate n 0)))) (suc_order (length xs) (length ys))

-- of two lists as long, where zeros stand behind the first bytes
pub padded_order : (n : ℕ) (xs ys : List ℕ) (l m : ℕ) → length xs ≡ n → length ys ≡ n → l ≤ n → m ≤ n → drop l xs ≡ replicate (n - l) 0 → drop m ys ≡ replicate (n - m) 0
    → slice_cmp nat_cmp (take l xs) (take m ys) ≡ ordering_then (slice_cmp nat_cmp xs ys) (nat_cmp l m)
padded_order n xs ys l m long long' within within' zeros zeros' =
    let first = length-take-le l xs (omega (arith, long)) in
    let first' = length-take-le m ys (omega (arith, long')) in
    let whole = ap (λ (rest : List ℕ). take l xs ++ rest) (sym zeros) ∙ take-append-drop l xs in
    let whole' = ap (λ (rest : List ℕ). take m ys ++ rest) (sym zeros') ∙ take-append-drop m ys in
    padded_decides (take l xs) (take m ys) (n - l) (n - m) (omega (arith, first, first'))
    ∙ (λ i. ordering_then (slice_cmp nat_cmp (whole i) (whole' i)) (nat_cmp (first i) (first' i)))

-- fewer of the zeros
pub zeros_later : (n : ℕ) (xs : List ℕ) (start k : ℕ) → drop start xs ≡ replicate (n - start) 0 → drop (start + k) xs ≡ replicate (n - (start + k)) 0
zeros_later n xs start k zeros =
    sym (drop-drop k start xs) ∙ ap (drop k) zeros ∙ drop-replicate k (n - start) 0 ∙ ap (λ (m : ℕ). replicate m 0) (omega arith)
