-- Maps that are written are read again, pair by pair.
use Rattle.std.proofs.Common.{◌≡◌, ℕ, suc, ◌+◌, ◌-◌, ◌^◌, ◌<◌, ◌≤◌, List, [], ◌∷◌, ◌++◌, length, take, drop, Some, Ok, refl, sym, ap, ◌∙◌, inl, inr, arith}
use Rattle.std.specs.Prelude.{⊤, pos, map, nat_lt}
use Rattle.std.proofs.lemmas.Bool.{cond_both, ltb-true, ltb-false, le-ltb}
use Rattle.std.proofs.lemmas.List.{append-nil, take_all, take_at, drop_at, length-append}
use Rattle.byteorder.specs.Endian.{big_number, big_bytes}
use Rattle.byteorder.specs.Numbers.{big_number-reads_back, length-bytes_high_first}
use Rattle.mx_msgpack.specs.Grammar.{Value, Int, Map, Pairs, NoPair, MorePairs, pair_count, max_length, MapHead, Spells, SpellsPairs}
use Rattle.mx_msgpack.specs.Reading.{head_at, after_first, reading_of, ShownMap}
use Rattle.mx_msgpack.specs.Spelling.{map_head}
use Rattle.mx_msgpack.proofs.FrontLaws.{map_read}
use Rattle.mx_msgpack.proofs.GrammarLaws.{value_again}
use Rattle.mx_msgpack.proofs.NumberSpellings.{map_head_spelled}
use Rattle.mx_msgpack.proofs.SpellingLaws.{wide_spelled}
use Rattle.mx_msgpack.proofs.UnsignedLaws.{unsigned_read}
use Rattle.mx_msgpack.specs.Maps.{Pair, pairs_from, pairs_in}
use Rattle.mx_request.specs.Spelling.{Written, map_text, request_body_text}
use Rattle.mx_msgpack.proofs.InnerLaws.{IsInner}
use Rattle.mx_msgpack.proofs.ItemLaws.{first_is}
use Rattle.mx_request.proofs.WriterLaws.{pairs_text}

-- ---- the pairs of a map

-- each key is one byte, and each value one with room for so many containers
abbrev pub AreWithin : ℕ → List Written → Type 0
AreWithin room [] = ⊤
AreWithin room (pair ∷ others) = (pair.0 < 0x80) × ((value : Value) × Spells room value pair.1) × AreWithin room others

-- the values may stand in a map
abbrev pub AreWhole : List Written → Type 0
AreWhole pairs = AreWithin 63 pairs

-- a pair as it is read
abbrev pub as_read : Written → Pair
as_read pair = record { key = Some pair.0; value = pair.1 }

-- the pairs of the grammar that the text spells
pub record Spelled (room : ℕ) (pairs : List Written) : Type 0 where
  pub all : Pairs
  pub many : pair_count all ≡ length pairs
  pub spelled : SpellsPairs room all (pairs_text pairs)

pub spelled_so : (room : ℕ) (pairs : List Written) → AreWithin room pairs → Spelled room pairs
spelled_so room [] whole = record { all = NoPair; many = refl; spelled = refl }
spelled_so room (pair ∷ others) (low, (value, s), rest) =
    let r = spelled_so room others rest in
    record {
      all = MorePairs (Int (pos pair.0)) value r.all;
      many = omega (arith, r.many);
      spelled = (pair.0 ∷ [], pair.1, pairs_text others, refl, inl (pair.0, refl, inl (low, refl)), s, r.spelled);
    }

pub pairs_again : (pairs : List Written) → AreWhole pairs → pairs_from (length pairs) (pairs_text pairs) ≡ map as_read pairs
pairs_again [] whole = refl
pairs_again (pair ∷ others) (low, (value, s), rest) =
    let behind = pairs_text others in
    let key = unsigned_read pair.0 (pair.0 ∷ []) (pair.1 ++ behind) (inl (low, refl)) in
    let first = first_is (Int (pos pair.0)) (pair.0 ∷ []) (pair.1 ++ behind) (inl (pair.0, refl, inl (low, refl))) in
    let second = first_is value pair.1 behind s in
    rw (key, first.1, second.0, second.1, pairs_again others rest) refl

-- ---- maps

nothing_after : (xs : List ℕ) → take (length xs - length {A = ℕ} []) xs ≡ xs
nothing_after xs = take_all (length xs - length {A = ℕ} []) xs (omega arith)

-- a head of three bytes
wide_reads : (rest : List ℕ) → 2 ≤ length rest → after_first (length (0xde ∷ rest)) 64 (0xde ∷ rest) ≡ Ok []
    → reading_of (0xde ∷ rest) ≡ Ok (ShownMap (big_number 2 (take 2 rest)) (take (length (drop 2 rest) - length {A = ℕ} []) (drop 2 rest)), length (0xde ∷ rest) - length {A = ℕ} [])
unfolding reading_of head_at
wide_reads rest two alone = rw (alone, le-ltb (length rest) 2 two) refl

wide_shown : (count : ℕ) (pairs : Pairs) (content : List ℕ) → count ≡ pair_count pairs → count < 2 ^ 16 → count ≤ max_length → SpellsPairs 63 pairs content
    → (size : ℕ) × (reading_of ((0xde ∷ big_bytes 2 count) ++ content) ≡ Ok (ShownMap count content, size))
wide_shown count pairs content many fits few s =
    let digits = big_bytes 2 count in
    let two : length digits ≡ 2 = length-bytes_high_first 2 count in
    let bytes = (0xde ∷ digits) ++ content in
    let head : MapHead (pair_count pairs) (0xde ∷ digits) = rw (← many) (inr (inl (wide_spelled 0xde 2 count (omega arith)))) in
    let alone : after_first (length bytes) 64 bytes ≡ Ok [] =
    ap (after_first (length bytes) 64) (sym (append-nil bytes))
    ∙ value_again (length bytes) 64 (Map pairs) bytes [] (0xde ∷ digits, content, head, rw (← many) few, refl, s) in
    let l = length-append digits content in
    let read = wide_reads (digits ++ content) (omega arith) alone in
    let number : big_number 2 (take 2 (digits ++ content)) ≡ count =
    ap (big_number 2) (take_at digits content 2 two ∙ sym (append-nil digits)) ∙ big_number-reads_back 2 count [] (omega arith) in
    let items : take (length (drop 2 (digits ++ content)) - length {A = ℕ} []) (drop 2 (digits ++ content)) ≡ content =
    nothing_after (drop 2 (digits ++ content)) ∙ drop_at digits content 2 two in
    (length bytes - length {A = ℕ} [], read ∙ (λ i. Ok (ShownMap (number i) (items i), length bytes - length {A = ℕ} [])))

-- a head of one byte
short_shown : (count : ℕ) (pairs : Pairs) (content : List ℕ) → count ≡ pair_count pairs → count < 0x10 → SpellsPairs 63 pairs content
    → (size : ℕ) × (reading_of (((0x80 + count) ∷ []) ++ content) ≡ Ok (ShownMap count content, size))
short_shown count pairs content many low s =
    (suc (length content), ap (λ (l : List ℕ). reading_of ((0x80 + count) ∷ l)) (sym (append-nil content)) ∙ rw many (map_read pairs content [] (rw (← many) low) s))

headed_shown : (count : ℕ) (pairs : Pairs) (content : List ℕ) → count ≡ pair_count pairs → count < 2 ^ 16 → SpellsPairs 63 pairs content
    → (size : ℕ) × (reading_of (map_head count ++ content) ≡ Ok (ShownMap count content, size))
unfolding map_head
headed_shown count pairs content many fits s =
    let P = λ (head : List ℕ). (size : ℕ) × (reading_of (head ++ content) ≡ Ok (ShownMap count content, size)) in
    cond_both (nat_lt count 0x10) _ _ P (λ t. short_shown count pairs content many (ltb-true _ _ t) s) (λ _.
    cond_both (nat_lt count (2 ^ 16)) _ _ P (λ _. wide_shown count pairs content many fits (omega arith) s) (λ f.
    absurd (omega (arith, ltb-false _ _ f))))

pub map_shown : (pairs : List Written) → AreWhole pairs → length pairs < 2 ^ 16
    → (size : ℕ) × (reading_of (map_text pairs) ≡ Ok (ShownMap (length pairs) (pairs_text pairs), size))
map_shown pairs whole few = let s = spelled_so 63 pairs whole in headed_shown (length pairs) s.all (pairs_text pairs) (sym s.many) few s.spelled

-- a map may stand in a map, where its values nest no deeper than that allows
pub map_inner : (pairs : List Written) → AreWithin 62 pairs → length pairs ≤ max_length → IsInner (map_text pairs)
map_inner pairs within few =
    let s = spelled_so 62 pairs within in
    (Map s.all, (map_head (length pairs), pairs_text pairs, rw s.many (map_head_spelled (length pairs) few), rw s.many few, refl, s.spelled))

pub map_again : (pairs : List Written) → AreWhole pairs → length pairs < 2 ^ 16 → pairs_in (map_text pairs) ≡ map as_read pairs
map_again pairs whole few = rw (map_shown pairs whole few).1 (pairs_again pairs whole)

no_map : pairs_in [] ≡ []
unfolding reading_of head_at
no_map = refl

pub body_again : (pairs : List Written) → AreWhole pairs → length pairs < 2 ^ 16 → pairs_in (request_body_text pairs) ≡ map as_read pairs
body_again [] whole few = no_map
body_again (pair ∷ others) whole few = map_again (pair ∷ others) whole few
