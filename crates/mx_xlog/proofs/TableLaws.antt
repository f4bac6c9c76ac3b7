-- The register of a checksum by tables, a byte or eight bytes at a step.
use Rattle.std.proofs.Common.{◌≡◌, ℕ, zero, suc, ◌+◌, ◌*◌, ◌/◌, ◌%◌, ◌^◌, ◌<◌, ◌≤◌, Bool, true, false, ◌&&◌, eqb, nat_eq, get_or, slice_index, List, [], ◌∷◌, ◌++◌, length, take, drop, map, refl, sym, ap, ◌∙◌, inl, inr, arith, bit_xor, bit_and}
use Rattle.std.proofs.lemmas.Bool.{cases_eq, eqb-true}
use Rattle.std.proofs.lemmas.Grind.{fold-append}
use Rattle.std.proofs.lemmas.List.{get_or-map, length-map, take-append-drop}
use Rattle.std.proofs.lemmas.Nat.{xor_shr, and_mask}
use Rattle.std.specs.Int.Bits.{xor_assoc, xor_zero_r, xor_shifted}
use Rattle.std.specs.Cmp.Lexicographic.{pointwise, same_text}
use Rattle.std.specs.List.{fold}
use mathlib.Core.Path.{subst}
use Rattle.byteorder.specs.Endian.{little_number}
use Rattle.byteorder.specs.Numbers.{little_from-cons}
use Rattle.mx_xlog.specs.Registers.{after_zeros}
use Rattle.mx_xlog.specs.Checksums.{after_bits, next_checksum}
use Rattle.mx_xlog.proofs.RegisterLaws.{after_bits_low, after_bits_shifted, after_bits_xor, swap_last, zeros_low, zeros_more}

-- ---- the tables

-- a table has the register after so many bytes, of which the first is its place and the others are 0
record IsTable (count : ℕ) (table : List ℕ) : Type 0 where
  pub long : length table ≡ 256
  pub entries : (i : ℕ) → i < 256 → get_or table i 0 ≡ after_zeros count i

-- the table and the definition agree below n
abbrev pub agree_below : List ℕ → ℕ → Bool
agree_below table zero = true
agree_below table (suc n) = eqb (get_or table n 0) (after_bits 8 n) && agree_below table n

-- the register after one byte 0 more, by the first table
abbrev pub step_by : List ℕ → ℕ → ℕ
step_by first register = bit_xor (get_or first (register % 256) 0) (register / 256)

-- each of the other tables is the one before it, one byte 0 later
abbrev pub follow_on : (first table : List ℕ) → List (List ℕ) → Bool
follow_on first table [] = true
follow_on first table (next ∷ others) = pointwise nat_eq next (map (step_by first) table) && follow_on first next others

-- eight tables
abbrev pub are_tables : List (List ℕ) → Bool
are_tables [] = false
are_tables (first ∷ others) = eqb (length others) 7 && (eqb (length first) 256 && (agree_below first 256 && follow_on first first others))

both_of : (x rest : Bool) → (x && rest) ≡ true → (x ≡ true) × (rest ≡ true)
both_of true rest h = (refl, h)
both_of false rest h = cc

entry_at : (table : List ℕ) (n : ℕ) → agree_below table n ≡ true → (i : ℕ) → i < n → get_or table i 0 ≡ after_bits 8 i
entry_at table zero h i below = absurd (omega arith)
entry_at table (suc n) h i below =
    let both = both_of (eqb (get_or table n 0) (after_bits 8 n)) (agree_below table n) h in
    elim (cases_eq i n) [
      | inl same ↦ rw same (eqb-true (get_or table n 0) (after_bits 8 n) both.0)
      | inr other ↦ entry_at table n both.1 i (omega arith)
    ]

first_table : (table : List ℕ) → length table ≡ 256 → agree_below table 256 ≡ true → IsTable 1 table
unfolding after_zeros
first_table table long agrees = record { long = long; entries = entry_at table 256 agrees }

step_is : (first : List ℕ) → IsTable 1 first → (register : ℕ) → step_by first register ≡ after_bits 8 register
unfolding after_zeros
step_is first is register =
    ap (λ x. bit_xor x (register / 256)) (is.entries (register % 256) (omega arith)) ∙ sym (after_bits_low register)

next_table : (first table next : List ℕ) (count : ℕ) → IsTable 1 first → IsTable count table → next ≡ map (step_by first) table → IsTable (suc count) next
next_table first table next count is before follows = record {
  long = ap length follows ∙ length-map table (step_by first) ∙ before.long;
  entries = λ i below.
      ap (λ l. get_or l i 0) follows ∙ get_or-map (step_by first) table i 0 0 (omega (arith, before.long))
      ∙ ap (step_by first) (before.entries i below) ∙ step_is first is (after_zeros count i) ∙ sym (zeros_more count i);
}

table_at : (first table : List ℕ) (others : List (List ℕ)) (count k all : ℕ) → IsTable 1 first → IsTable count table → follow_on first table others ≡ true
    → k ≤ length others → all ≡ count + k → IsTable all (get_or (table ∷ others) k [])
table_at first table others count zero all is here follow within sum = subst (λ n. IsTable n table) (omega (arith, sum)) here
table_at first table [] count (suc k) all is here follow within sum = absurd (omega arith)
table_at first table (next ∷ others) count (suc k) all is here follow within sum =
    let both = both_of (pointwise nat_eq next (map (step_by first) table)) (follow_on first next others) follow in
    table_at first next others (suc count) k all is
    (next_table first table next count is here (same_text next (map (step_by first) table) (sym both.0))) both.1 (omega arith) (omega (arith, sum))

-- what a table has at the place of a number's low byte
pub entry_of : (tables : List (List ℕ)) → are_tables tables ≡ true → (later bytes : ℕ) → later < 8
    → get_or (get_or tables later []) (bit_and bytes 255) 0 ≡ after_zeros (suc later) (bytes % 256)
entry_of [] are later bytes below = cc
entry_of (first ∷ others) are later bytes below =
    let eight = both_of (eqb (length others) 7) _ are in
    let long = both_of (eqb (length first) 256) _ eight.1 in
    let right = both_of (agree_below first 256) (follow_on first first others) long.1 in
    let is = first_table first (eqb-true (length first) 256 long.0) right.0 in
    let others_long = eqb-true (length others) 7 eight.0 in
    let table = table_at first first others 1 later (suc later) is is right.1 (omega (arith, others_long)) (omega arith) in
    ap (λ i. get_or (get_or (first ∷ others) later []) i 0) (and_mask bytes 8) ∙ table.entries (bytes % 256) (omega arith)

-- ---- a byte, and eight bytes

pub step_by_entry : (register byte mixed entry : ℕ) → mixed ≡ bit_xor register byte → byte < 256 → entry ≡ after_zeros 1 (mixed % 256)
    → bit_xor entry (register / 256) ≡ next_checksum register byte
unfolding after_zeros
step_by_entry register byte mixed entry same small is =
    let none : byte / 256 ≡ 0 = omega arith in
    let high : mixed / 256 ≡ register / 256 =
    ap (λ x. x / 256) same ∙ xor_shr register byte 8 ∙ ap (bit_xor (register / 256)) none ∙ xor_zero_r (register / 256) in
    ap (λ x. bit_xor x (register / 256)) is ∙ ap (bit_xor (after_bits 8 (mixed % 256))) (sym high)
    ∙ sym (after_bits_low mixed) ∙ ap (after_bits 8) same

low_apart : (count a next sum : ℕ) → next ≡ a / 256
    → bit_xor sum (after_zeros (suc count) a) ≡ bit_xor (bit_xor sum (after_zeros (suc count) (a % 256))) (after_zeros count next)
low_apart count a next sum shifted =
    ap (bit_xor sum) (zeros_low count a) ∙ sym (xor_assoc sum (after_zeros (suc count) (a % 256)) (after_zeros count (a / 256)))
    ∙ ap (λ x. bit_xor (bit_xor sum (after_zeros (suc count) (a % 256))) (after_zeros count x)) (sym shifted)

-- so many bytes are one number that all goes through the register
pub fold_number : (bytes : List ℕ) (register : ℕ) → ((k : ℕ) → slice_index bytes k < 256)
    → fold next_checksum register bytes ≡ after_zeros (length bytes) (bit_xor register (little_number (length bytes) bytes))
unfolding after_zeros
fold_number [] register small = sym (xor_zero_r register)
fold_number (byte ∷ bytes) register small =
    let high = little_number (length bytes) bytes in
    let moved : little_number (length (byte ∷ bytes)) (byte ∷ bytes) ≡ byte + 256 * high =
    ap (λ n. byte + 256 * n) (little_from-cons 0 (length bytes) byte bytes) in
    let low : byte < 256 = small 0 in
    let parts : bit_xor (high * 2 ^ 8) byte ≡ byte + 256 * high = xor_shifted high 8 byte (omega arith) ∙ omega arith in
    let mixed : after_bits 8 (bit_xor register (byte + 256 * high)) ≡ bit_xor (after_bits 8 (bit_xor register byte)) high =
    ap (λ n. after_bits 8 (bit_xor register n)) (sym parts) ∙ ap (after_bits 8) (sym (xor_assoc register (high * 2 ^ 8) byte) ∙ swap_last register (high * 2 ^ 8) byte)
    ∙ after_bits_xor 8 (bit_xor register byte) (high * 2 ^ 8) ∙ ap (bit_xor (after_bits 8 (bit_xor register byte))) (after_bits_shifted 8 high) in
    fold_number bytes (next_checksum register byte) (λ k. small (suc k))
    ∙ ap (after_zeros (length bytes)) (sym mixed)
    ∙ ap (λ n. after_zeros (length bytes) (after_bits 8 (bit_xor register n))) (sym moved)

-- each of a number's eight bytes goes its own way
pub eight_apart : (a : ℕ) → a < 2 ^ 64 → bit_xor (bit_xor (bit_xor (bit_xor (bit_xor (bit_xor (bit_xor
    (after_zeros 8 (a % 256)) (after_zeros 7 (a / 256 % 256))) (after_zeros 6 (a / 65536 % 256))) (after_zeros 5 (a / 16777216 % 256)))
    (after_zeros 4 (a / 4294967296 % 256))) (after_zeros 3 (a / 1099511627776 % 256))) (after_zeros 2 (a / 281474976710656 % 256)))
    (after_zeros 1 (a / 72057594037927936 % 256)) ≡ after_zeros 8 a
unfolding after_zeros
eight_apart a below =
    let none : a / 72057594037927936 / 256 ≡ 0 = omega arith in
    sym (zeros_low 7 a ∙ low_apart 6 (a / 256) (a / 65536) _ (omega arith) ∙ low_apart 5 (a / 65536) (a / 16777216) _ (omega arith)
    ∙ low_apart 4 (a / 16777216) (a / 4294967296) _ (omega arith) ∙ low_apart 3 (a / 4294967296) (a / 1099511627776) _ (omega arith)
    ∙ low_apart 2 (a / 1099511627776) (a / 281474976710656) _ (omega arith) ∙ low_apart 1 (a / 281474976710656) (a / 72057594037927936) _ (omega arith)
    ∙ low_apart 0 (a / 72057594037927936) 0 _ (sym none) ∙ xor_zero_r _)

pub eight_folded : (eight : List ℕ) (register number : ℕ) → length eight ≡ 8 → ((k : ℕ) → slice_index eight k < 256) → number ≡ little_number 8 eight
    → after_zeros 8 (bit_xor register number) ≡ fold next_checksum register eight
eight_folded eight register number long small read =
    ap (λ n. after_zeros 8 (bit_xor register n)) read ∙ ap (λ n. after_zeros n (bit_xor register (little_number n eight))) (sym long)
    ∙ sym (fold_number eight register small)

-- the first bytes go at once
pub folded_front : (bytes front back : List ℕ) (register next all : ℕ) → front ≡ take 8 bytes → back ≡ drop 8 bytes
    → next ≡ fold next_checksum register front → fold next_checksum register bytes ≡ all → fold next_checksum next back ≡ all
folded_front bytes front back register next all first others is before =
    let whole : front ++ back ≡ bytes = ap (λ l. l ++ back) first ∙ ap (λ l. take 8 bytes ++ l) others ∙ take-append-drop 8 bytes in
    ap (λ r. fold next_checksum r back) is ∙ sym (fold-append next_checksum register front back) ∙ ap (fold next_checksum register) whole ∙ before
