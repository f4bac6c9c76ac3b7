-- The first parts of a key's bytes, one after the other.
use Rattle.std.proofs.Common.{◌≡◌, ℕ, zero, suc, ◌+◌, ◌-◌, ◌<◌, ◌≤◌, Bool, true, false, List, [], ◌∷◌, ◌++◌, length, drop, refl, sym, ap, ◌∙◌, append_assoc, arith}
use Rattle.std.specs.Prelude.{◌==◌, if◌then◌else◌, min}
use Rattle.std.proofs.Math.Seq.{drop-append_seam, drop-nil}
use Rattle.std.proofs.lemmas.Bool.{eqb-true}
use Rattle.std.proofs.lemmas.List.{length-append, length-drop}
use Rattle.mx_key.specs.Comparable.{comparable_of, content_bytes, part_bytes}
use Rattle.mx_key.specs.Keys.{Key, KeyPart, Boolean, Integer, Text, Binary}
use Rattle.mx_key.specs.Prefixes.{content_size, part_size, prefix_size}

drop_both : (first second : ℕ) (bytes : List ℕ) → drop (first + second) bytes ≡ drop second (drop first bytes)
drop_both zero second bytes =
    let sum : 0 + second ≡ second = omega arith in
    ap (λ n. drop n bytes) sum
drop_both (suc first) second [] =
    let sum : suc first + second ≡ suc (first + second) = omega arith in
    ap (λ n. drop n []) sum ∙ sym (drop-nil second)
drop_both (suc first) second (byte ∷ bytes) =
    let sum : suc first + second ≡ suc (first + second) = omega arith in
    ap (λ n. drop n (byte ∷ bytes)) sum ∙ drop_both first second bytes

-- behind one part more there is one less to come
pub one_part : (left size part : ℕ) (bytes : List ℕ) → 0 < left → part ≡ part_size (drop size bytes)
    → (size + part) + prefix_size (left - 1) (drop (size + part) bytes) ≡ size + prefix_size left (drop size bytes)
one_part zero size part bytes more is = absurd (omega (arith, more))
one_part (suc left) size part bytes more is =
    let less : suc left - 1 ≡ left = omega arith in
    let rest : prefix_size (suc left - 1) (drop (size + part) bytes) ≡ prefix_size left (drop (part_size (drop size bytes)) (drop size bytes)) =
    ap (λ n. prefix_size n (drop (size + part) bytes)) less ∙ ap (prefix_size left) (drop_both size part bytes ∙ ap (λ n. drop n (drop size bytes)) is) in
    let first : size + part ≡ size + part_size (drop size bytes) = ap (λ n. size + n) is in
    let whole : prefix_size (suc left) (drop size bytes) ≡ part_size (drop size bytes) + prefix_size left (drop (part_size (drop size bytes)) (drop size bytes)) = refl in
    omega (arith, rest, first, whole)

-- ---- within the bytes

content_within : (was_zero : Bool) (bytes : List ℕ) → content_size was_zero bytes ≤ length bytes
content_within was_zero [] = omega arith
content_within false (byte ∷ bytes) = let rest = content_within (byte == 0) bytes in omega (arith, rest)
content_within true (byte ∷ bytes) = by_escape (byte == 255) (content_within false bytes)
  where
    by_escape : (is : Bool) → content_size false bytes ≤ length bytes → (if is then suc (content_size false bytes) else 1) ≤ length (byte ∷ bytes)
    by_escape true rest = omega (arith, rest)
    by_escape false rest = omega arith

part_within : (bytes : List ℕ) → part_size bytes ≤ length bytes
part_within [] = omega arith
part_within (kind ∷ bytes) = by_kind (kind == 2) (kind == 3)
  where
    by_kind : (is_boolean is_number : Bool) → (if is_boolean then min 2 (length (kind ∷ bytes)) else (if is_number then min 10 (length (kind ∷ bytes)) else content_size false (kind ∷ bytes))) ≤ length (kind ∷ bytes)
    by_kind true is_number = omega arith
    by_kind false true = omega arith
    by_kind false false = content_within false (kind ∷ bytes)

pub prefix_within : (parts : ℕ) (bytes : List ℕ) → prefix_size parts bytes ≤ length bytes
prefix_within zero bytes = omega arith
prefix_within (suc parts) bytes =
    let first = part_within bytes in
    let others = prefix_within parts (drop (part_size bytes) bytes) in
    let left = length-drop (part_size bytes) bytes in
    omega (arith, first, others, left)

-- ---- a key's bytes

-- a text's bytes end at its two bytes 0
pub content_ends : (text rest : List ℕ) → content_size false (content_bytes text ++ rest) ≡ length (content_bytes text)
content_ends [] rest = refl
content_ends (zero ∷ text) rest = ap (λ n. suc (suc n)) (content_ends text rest)
content_ends (suc byte ∷ text) rest = ap suc (by_zero (suc byte == 0) refl (content_ends text rest))
  where
    by_zero : (is : Bool) → (suc byte == 0) ≡ is → content_size false (content_bytes text ++ rest) ≡ length (content_bytes text)
        → content_size is (content_bytes text ++ rest) ≡ length (content_bytes text)
    by_zero true is ends = absurd (let none : suc byte ≡ 0 = eqb-true (suc byte) 0 is in omega (arith, none))
    by_zero false is ends = ends

-- a part's bytes end with it
pub part_ends : (part : KeyPart) (rest : List ℕ) → part_size (part_bytes part ++ rest) ≡ length (part_bytes part)
part_ends (Boolean truth) rest = omega arith
part_ends (Integer number) rest = omega arith
part_ends (Text text) rest = ap suc (content_ends text rest)
part_ends (Binary content) rest = ap suc (content_ends content rest)

-- and a key's bytes with its last part
pub key_ends : (key : Key) (rest : List ℕ) → prefix_size (length key) (comparable_of key ++ rest) ≡ length (comparable_of key)
key_ends [] rest = refl
key_ends (part ∷ parts) rest =
    let grouped : comparable_of (part ∷ parts) ++ rest ≡ part_bytes part ++ (comparable_of parts ++ rest) = append_assoc (part_bytes part) (comparable_of parts) rest in
    let size : part_size (part_bytes part ++ (comparable_of parts ++ rest)) ≡ length (part_bytes part) = part_ends part (comparable_of parts ++ rest) in
    let after : drop (part_size (part_bytes part ++ (comparable_of parts ++ rest))) (part_bytes part ++ (comparable_of parts ++ rest)) ≡ comparable_of parts ++ rest =
    ap (λ n. drop n (part_bytes part ++ (comparable_of parts ++ rest))) size ∙ drop-append_seam (part_bytes part) (comparable_of parts ++ rest) in
    ap (prefix_size (length (part ∷ parts))) grouped
    ∙ (λ i. size i + prefix_size (length parts) (after i))
    ∙ ap (λ n. length (part_bytes part) + n) (key_ends parts rest)
    ∙ sym (length-append (part_bytes part) (comparable_of parts))
