-- Comparable bytes are ordered as the keys are, and begin each other where the keys do.
use Rattle.std.proofs.Common.{◌≡◌, ℕ, zero, suc, ◌+◌, ◌*◌, ◌^◌, ◌<◌, ◌%◌, Bool, true, false, List, [], ◌∷◌, ◌++◌, refl, sym, ap, subst, ◌∙◌, arith}
use Rattle.std.specs.Prelude.{ℤ, pos, negsuc, ◌<ℤ◌, ◌&&◌}
use Rattle.std.specs.Ordering.{nat_cmp, int_cmp, ordering_then, is_eq, MatchOrdering}
use Rattle.std.specs.declared.cmp.Ordering.{Ordering}
use Rattle.std.specs.declared.cmp.Ordering.TheVariants.{Less, Equal, Greater}
use Rattle.std.specs.Cmp.{nat_cmp_is}
use Rattle.std.specs.Cmp.Lexicographic.{slice_cmp}
use Rattle.std.specs.Int.{byte_at, bytes_high_first}
use Rattle.std.proofs.Math.Nat.{mod-lt, mod-eq_of_lt, one-le-pow}
use Rattle.std.proofs.lemmas.Cmp.{int_ranked}
use Rattle.std.proofs.lemmas.Int.{ints}
use Rattle.byteorder.specs.Endian.{big_bytes}
use Rattle.byteorder.specs.Numbers.{big_from-cons, big_from-bytes}
use Rattle.mx_msgpack.specs.Writing.{Fits64}
use Rattle.mx_bytes.proofs.OrderLaws.{then_assoc, digits_order}
use Rattle.mx_key.specs.Keys.{Key, KeyPart, Boolean, Integer, Text, Binary, IsFit, AreFit, part_cmp, key_cmp, is_prefix, is_key_prefix}
use Rattle.mx_key.specs.Comparable.{number_above_least, content_bytes, part_bytes, comparable_of}

-- ---- two rows of bytes that are compared whatever follows them

-- the order of the rows decides, and where it doesn't, what follows them
pub record Codes (one other : List ℕ) (o : Ordering) : Type 0 where
  pub order : (xs ys : List ℕ) → slice_cmp nat_cmp (one ++ xs) (other ++ ys) ≡ ordering_then o (slice_cmp nat_cmp xs ys)
  pub prefix : (xs ys : List ℕ) → is_prefix nat_cmp (one ++ xs) (other ++ ys) ≡ (is_eq o && is_prefix nat_cmp xs ys)

and_then : (a b : Ordering) (c : Bool) → (is_eq a && (is_eq b && c)) ≡ (is_eq (ordering_then a b) && c)
and_then Less b c = refl
and_then Equal b c = refl
and_then Greater b c = refl

codes_nothing : Codes [] [] Equal
codes_nothing = record { order = λ xs ys. refl; prefix = λ xs ys. refl }

-- one more byte before them
codes_more : (a b : ℕ) (one other : List ℕ) (o : Ordering) → Codes one other o → Codes (a ∷ one) (b ∷ other) (ordering_then (nat_cmp a b) o)
codes_more a b one other o codes = record {
  order = λ xs ys. ap (ordering_then (nat_cmp a b)) (codes.order xs ys) ∙ then_assoc (nat_cmp a b) o (slice_cmp nat_cmp xs ys);
  prefix = λ xs ys. ap (λ (c : Bool). is_eq (nat_cmp a b) && c) (codes.prefix xs ys) ∙ and_then (nat_cmp a b) o (is_prefix nat_cmp xs ys);
}

-- the first bytes differ
codes_below : (a b : ℕ) (one other : List ℕ) → nat_cmp a b ≡ Less → Codes (a ∷ one) (b ∷ other) Less
codes_below a b one other e = record {
  order = λ xs ys. ap (λ (o : Ordering). ordering_then o (slice_cmp nat_cmp (one ++ xs) (other ++ ys))) e;
  prefix = λ xs ys. ap (λ (o : Ordering). is_eq o && is_prefix nat_cmp (one ++ xs) (other ++ ys)) e;
}

codes_above : (a b : ℕ) (one other : List ℕ) → nat_cmp a b ≡ Greater → Codes (a ∷ one) (b ∷ other) Greater
codes_above a b one other e = record {
  order = λ xs ys. ap (λ (o : Ordering). ordering_then o (slice_cmp nat_cmp (one ++ xs) (other ++ ys))) e;
  prefix = λ xs ys. ap (λ (o : Ordering). is_eq o && is_prefix nat_cmp (one ++ xs) (other ++ ys)) e;
}

-- ---- numbers of a fixed width

-- a number by its highest byte and the rest
highest_byte : (n x : ℕ) → byte_at n x * 256 ^ n + x % 256 ^ n ≡ x % 256 ^ suc n
highest_byte n x =
    let rest = big_from-cons 0 n (byte_at n x) (bytes_high_first n x ++ []) ∙ big_from-bytes n x [] in
    ap (λ (r : ℕ). byte_at n x * 256 ^ n + r) (sym rest) ∙ big_from-bytes (suc n) x []

codes_digits : (n x y : ℕ) → Codes (big_bytes n x) (big_bytes n y) (nat_cmp (x % 256 ^ n) (y % 256 ^ n))
codes_digits zero x y =
    let same : Equal ≡ nat_cmp (x % 256 ^ 0) (y % 256 ^ 0) = nat_cmp_is (x % 256 ^ 0) (y % 256 ^ 0) Equal (omega arith) in
    subst (Codes [] []) same codes_nothing
codes_digits (suc n) x y =
    let some = one-le-pow n 256 (omega arith) in
    let low : x % 256 ^ n < 256 ^ n = mod-lt x (omega arith) in
    let low' : y % 256 ^ n < 256 ^ n = mod-lt y (omega arith) in
    let whole =
    digits_order (256 ^ n) (byte_at n x) (byte_at n y) (x % 256 ^ n) (y % 256 ^ n) low low'
    ∙ (λ i. nat_cmp (highest_byte n x i) (highest_byte n y i)) in
    subst (Codes (big_bytes (suc n) x) (big_bytes (suc n) y)) whole
    (codes_more (byte_at n x) (byte_at n y) (big_bytes n x) (big_bytes n y) _ (codes_digits n x y))

-- numbers that fit their bytes
pub codes_number : (n x y : ℕ) → x < 256 ^ n → y < 256 ^ n → Codes (big_bytes n x) (big_bytes n y) (nat_cmp x y)
codes_number n x y fits fits' =
    subst (Codes (big_bytes n x) (big_bytes n y)) (λ i. nat_cmp (mod-eq_of_lt fits i) (mod-eq_of_lt fits' i)) (codes_digits n x y)

-- how far a number of 64 bits is above the least one fits 9 bytes
above_least_fits : (x : ℤ) → Fits64 x → number_above_least x < 256 ^ 9
above_least_fits (pos number) fits = omega arith
above_least_fits (negsuc below) fits = omega arith

above_least_keeps : (x y : ℤ) → Fits64 x → Fits64 y → (o : Ordering) → MatchOrdering o (x <ℤ y) (x ≡ y) (y <ℤ x)
    → MatchOrdering o (number_above_least x < number_above_least y) (number_above_least x ≡ number_above_least y) (number_above_least y < number_above_least x)
above_least_keeps (pos x) (pos y) f g Less e = omega (arith, ints)
above_least_keeps (pos x) (pos y) f g Equal e = omega (arith, ints)
above_least_keeps (pos x) (pos y) f g Greater e = omega (arith, ints)
above_least_keeps (pos x) (negsuc y) f g Less e = omega (arith, ints)
above_least_keeps (pos x) (negsuc y) f g Equal e = omega (arith, ints)
above_least_keeps (pos x) (negsuc y) f g Greater e = omega (arith, ints)
above_least_keeps (negsuc x) (pos y) f g Less e = omega (arith, ints)
above_least_keeps (negsuc x) (pos y) f g Equal e = omega (arith, ints)
above_least_keeps (negsuc x) (pos y) f g Greater e = omega (arith, ints)
above_least_keeps (negsuc x) (negsuc y) f g Less e = omega (arith, ints)
above_least_keeps (negsuc x) (negsuc y) f g Equal e = omega (arith, ints)
above_least_keeps (negsuc x) (negsuc y) f g Greater e = omega (arith, ints)

above_least_order : (x y : ℤ) → Fits64 x → Fits64 y → nat_cmp (number_above_least x) (number_above_least y) ≡ int_cmp x y
above_least_order x y f g = sym (nat_cmp_is (number_above_least x) (number_above_least y) (int_cmp x y) (above_least_keeps x y f g (int_cmp x y) (int_ranked x y (int_cmp x y) refl)))

-- ---- texts

zero_below : (b : ℕ) → nat_cmp 0 (suc b) ≡ Less
zero_below b = sym (nat_cmp_is 0 (suc b) Less (omega arith))

zero_above : (b : ℕ) → nat_cmp (suc b) 0 ≡ Greater
zero_above b = sym (nat_cmp_is (suc b) 0 Greater (omega arith))

pub codes_text : (s t : List ℕ) → Codes (content_bytes s) (content_bytes t) (slice_cmp nat_cmp s t)
codes_text [] [] = codes_more 0 0 _ _ _ (codes_more 0 0 _ _ _ codes_nothing)
codes_text [] (zero ∷ t) = codes_more 0 0 _ _ _ (codes_below 0 255 _ _ refl)
codes_text [] (suc b ∷ t) = codes_below 0 (suc b) _ _ (zero_below b)
codes_text (zero ∷ s) [] = codes_more 0 0 _ _ _ (codes_above 255 0 _ _ refl)
codes_text (suc a ∷ s) [] = codes_above (suc a) 0 _ _ (zero_above a)
codes_text (zero ∷ s) (zero ∷ t) = codes_more 0 0 _ _ _ (codes_more 255 255 _ _ _ (codes_text s t))
codes_text (zero ∷ s) (suc b ∷ t) =
    subst (Codes _ _) (sym (ap (λ (o : Ordering). ordering_then o (slice_cmp nat_cmp s t)) (zero_below b))) (codes_below 0 (suc b) _ _ (zero_below b))
codes_text (suc a ∷ s) (zero ∷ t) =
    subst (Codes _ _) (sym (ap (λ (o : Ordering). ordering_then o (slice_cmp nat_cmp s t)) (zero_above a))) (codes_above (suc a) 0 _ _ (zero_above a))
codes_text (suc a ∷ s) (suc b ∷ t) = codes_more (suc a) (suc b) _ _ _ (codes_text s t)

-- ---- parts

pub codes_part : (p q : KeyPart) → IsFit p → IsFit q → Codes (part_bytes p) (part_bytes q) (part_cmp p q)
codes_part (Boolean false) (Boolean false) f g = codes_more 2 2 _ _ _ (codes_more 0 0 _ _ _ codes_nothing)
codes_part (Boolean false) (Boolean true) f g = codes_more 2 2 _ _ _ (codes_below 0 1 _ _ refl)
codes_part (Boolean true) (Boolean false) f g = codes_more 2 2 _ _ _ (codes_above 1 0 _ _ refl)
codes_part (Boolean true) (Boolean true) f g = codes_more 2 2 _ _ _ (codes_more 1 1 _ _ _ codes_nothing)
codes_part (Boolean x) (Integer y) f g = codes_below 2 3 _ _ refl
codes_part (Boolean x) (Text y) f g = codes_below 2 4 _ _ refl
codes_part (Boolean x) (Binary y) f g = codes_below 2 5 _ _ refl
codes_part (Integer x) (Boolean y) f g = codes_above 3 2 _ _ refl
codes_part (Integer x) (Integer y) f g =
    codes_more 3 3 _ _ _
    (subst (Codes (big_bytes 9 (number_above_least x)) (big_bytes 9 (number_above_least y))) (above_least_order x y f g) (codes_number 9 (number_above_least x) (number_above_least y) (above_least_fits x f) (above_least_fits y g)))
codes_part (Integer x) (Text y) f g = codes_below 3 4 _ _ refl
codes_part (Integer x) (Binary y) f g = codes_below 3 5 _ _ refl
codes_part (Text x) (Boolean y) f g = codes_above 4 2 _ _ refl
codes_part (Text x) (Integer y) f g = codes_above 4 3 _ _ refl
codes_part (Text x) (Text y) f g = codes_more 4 4 _ _ _ (codes_text x y)
codes_part (Text x) (Binary y) f g = codes_below 4 5 _ _ refl
codes_part (Binary x) (Boolean y) f g = codes_above 5 2 _ _ refl
codes_part (Binary x) (Integer y) f g = codes_above 5 3 _ _ refl
codes_part (Binary x) (Text y) f g = codes_above 5 4 _ _ refl
codes_part (Binary x) (Binary y) f g = codes_more 5 5 _ _ _ (codes_text x y)

-- ---- keys

-- a part has bytes, the first of which is below 255
pub below_part : (p : KeyPart) (xs : List ℕ) → slice_cmp nat_cmp [] (part_bytes p ++ xs) ≡ Less
below_part (Boolean x) xs = refl
below_part (Integer x) xs = refl
below_part (Text x) xs = refl
below_part (Binary x) xs = refl

above_part : (p : KeyPart) (xs : List ℕ) → slice_cmp nat_cmp (part_bytes p ++ xs) [] ≡ Greater
above_part (Boolean x) xs = refl
above_part (Integer x) xs = refl
above_part (Text x) xs = refl
above_part (Binary x) xs = refl

no_part_in_nothing : (p : KeyPart) (xs : List ℕ) → is_prefix nat_cmp (part_bytes p ++ xs) [] ≡ false
no_part_in_nothing (Boolean x) xs = refl
no_part_in_nothing (Integer x) xs = refl
no_part_in_nothing (Text x) xs = refl
no_part_in_nothing (Binary x) xs = refl

pub part_below_last : (p : KeyPart) (xs : List ℕ) → slice_cmp nat_cmp (part_bytes p ++ xs) (255 ∷ []) ≡ Less
part_below_last (Boolean x) xs = refl
part_below_last (Integer x) xs = refl
part_below_last (Text x) xs = refl
part_below_last (Binary x) xs = refl

pub bytes_order : (one other : Key) → AreFit one → AreFit other → slice_cmp nat_cmp (comparable_of one) (comparable_of other) ≡ key_cmp one other
bytes_order [] [] f g = refl
bytes_order [] (q ∷ qs) f g = below_part q (comparable_of qs)
bytes_order (p ∷ ps) [] f g = above_part p (comparable_of ps)
bytes_order (p ∷ ps) (q ∷ qs) f g =
    let codes = codes_part p q f.0 g.0 in
    codes.order (comparable_of ps) (comparable_of qs) ∙ ap (ordering_then (part_cmp p q)) (bytes_order ps qs f.1 g.1)

pub bytes_prefix : (one other : Key) → AreFit one → AreFit other → is_prefix nat_cmp (comparable_of one) (comparable_of other) ≡ is_key_prefix one other
bytes_prefix [] other f g = refl
bytes_prefix (p ∷ ps) [] f g = no_part_in_nothing p (comparable_of ps)
bytes_prefix (p ∷ ps) (q ∷ qs) f g =
    let codes = codes_part p q f.0 g.0 in
    codes.prefix (comparable_of ps) (comparable_of qs) ∙ ap (λ (c : Bool). is_eq (part_cmp p q) && c) (bytes_prefix ps qs f.1 g.1)
