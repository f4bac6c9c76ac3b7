-- Maps as the grammar has them, and as they are read.
use Rattle.std.proofs.Common.{◌≡◌, ℕ, ◌-◌, ◌≤◌, List, [], ◌∷◌, ◌++◌, length, take, drop, Some, Ok, refl, sym, ap, ◌∙◌, subst, append_assoc, inl, inr, arith}
use Rattle.std.proofs.lemmas.Bool.{le-ltb}
use Rattle.std.proofs.lemmas.List.{take_at, drop_at, length-append}
use Rattle.byteorder.specs.Endian.{big_number}
use Rattle.mx_msgpack.specs.Grammar as grammar
use Rattle.mx_msgpack.specs.Grammar.{Value, Pairs, pair_count, MapHead, max_length, Spells, SpellsPairs}
use Rattle.mx_msgpack.specs.Maps.{map_at, pairs_from, pairs_in}
use Rattle.mx_msgpack.specs.Projections.{as_map, shown_first}
use Rattle.mx_msgpack.specs.Reading.{head_at, after_first, reading_of, Shown, ShownMap, shown}
use Rattle.mx_msgpack.specs.View.{Shows}
use Rattle.mx_msgpack.proofs.FrontLaws.{map_read}
use Rattle.mx_msgpack.proofs.GrammarLaws.{value_again}
use Rattle.mx_msgpack.proofs.Heads.{head_spelled}
use Rattle.mx_msgpack.proofs.Options.{bind_some, same_some}
use Rattle.mx_msgpack.proofs.ProjectionLaws.{first_read, map_is}
use Rattle.mx_msgpack.proofs.Results.{bind_ok, ok_is}
use Rattle.mx_msgpack.proofs.Shown.{Seen, value_seen}
use Rattle.mx_msgpack.proofs.ValueLaws.{measured_ok}

-- ---- a map that is spelled is read

-- heads of three and of five bytes
two_reads : (rest behind : List ℕ) → 2 ≤ length behind → after_first (length (0xde ∷ behind)) 64 (0xde ∷ behind) ≡ Ok rest
    → reading_of (0xde ∷ behind)
    ≡ Ok (ShownMap (big_number 2 (take 2 behind)) (take (length (drop 2 behind) - length rest) (drop 2 behind)), length (0xde ∷ behind) - length rest)
unfolding reading_of head_at
two_reads rest behind two e = rw (e, le-ltb (length behind) 2 two) refl

four_reads : (rest behind : List ℕ) → 4 ≤ length behind → after_first (length (0xdf ∷ behind)) 64 (0xdf ∷ behind) ≡ Ok rest
    → reading_of (0xdf ∷ behind)
    ≡ Ok (ShownMap (big_number 4 (take 4 behind)) (take (length (drop 4 behind) - length rest) (drop 4 behind)), length (0xdf ∷ behind) - length rest)
unfolding reading_of head_at
four_reads rest behind four e = rw (e, le-ltb (length behind) 4 four) refl

module _ (leading width : ℕ) (digits content rest : List ℕ) (long : length digits ≡ width) where
  abbrev behind : List ℕ
  behind = digits ++ (content ++ rest)

  wide_shown : reading_of (leading ∷ behind)
      ≡ Ok (ShownMap (big_number width (take width behind)) (take (length (drop width behind) - length rest) (drop width behind)), length (leading ∷ behind) - length rest)
      → reading_of (leading ∷ behind) ≡ Ok (ShownMap (big_number width digits) content, length ((leading ∷ digits) ++ content))
  wide_shown e =
      let number : big_number width (take width behind) ≡ big_number width digits = ap (big_number width) (take_at digits (content ++ rest) width long) in
      let after : drop width behind ≡ content ++ rest = drop_at digits (content ++ rest) width long in
      let l = length-append content rest in
      let l' = length-append digits (content ++ rest) in
      let l'' = length-append digits content in
      let inside : length content ≡ length (content ++ rest) - length rest = omega arith in
      let items : take (length (drop width behind) - length rest) (drop width behind) ≡ content =
      ap (λ (x : List ℕ). take (length x - length rest) x) after ∙ take_at content rest (length (content ++ rest) - length rest) inside in
      let size : length (leading ∷ behind) - length rest ≡ length ((leading ∷ digits) ++ content) = omega arith in
      e ∙ (λ i. Ok (ShownMap (number i) (items i), size i))

  wide_long : width ≤ length behind
  wide_long = let l = length-append digits (content ++ rest) in omega arith

pub map_reads : (pairs : Pairs) (head content rest : List ℕ) → MapHead (pair_count pairs) head → pair_count pairs ≤ max_length → SpellsPairs 63 pairs content
    → reading_of ((head ++ content) ++ rest) ≡ Ok (ShownMap (pair_count pairs) content, length (head ++ content))
map_reads pairs head content rest (inl (few, is)) fits s = rw is (map_read pairs content rest few s)
map_reads pairs head content rest (inr (inl (digits, long, number, is))) fits s =
    let whole = append_assoc (0xde ∷ digits) content rest in
    let stands = value_again (length (0xde ∷ (digits ++ (content ++ rest)))) 64 (grammar.Map pairs) ((0xde ∷ digits) ++ content) rest
    (0xde ∷ digits, content, inr (inl (digits, long, number, refl)), fits, refl, s) in
    rw (is, number)
    (ap reading_of whole
    ∙ wide_shown 0xde 2 digits content rest long
    (two_reads rest (digits ++ (content ++ rest)) (wide_long 0xde 2 digits content rest long)
    (ap (after_first (length (0xde ∷ (digits ++ (content ++ rest)))) 64) (sym whole) ∙ stands)))
map_reads pairs head content rest (inr (inr (digits, long, number, is))) fits s =
    let whole = append_assoc (0xdf ∷ digits) content rest in
    let stands = value_again (length (0xdf ∷ (digits ++ (content ++ rest)))) 64 (grammar.Map pairs) ((0xdf ∷ digits) ++ content) rest
    (0xdf ∷ digits, content, inr (inr (digits, long, number, refl)), fits, refl, s) in
    rw (is, number)
    (ap reading_of whole
    ∙ wide_shown 0xdf 4 digits content rest long
    (four_reads rest (digits ++ (content ++ rest)) (wide_long 0xdf 4 digits content rest long)
    (ap (after_first (length (0xdf ∷ (digits ++ (content ++ rest)))) 64) (sym whole) ∙ stands)))

-- ---- a map that stands first

pub map_known : (bytes : List ℕ) (count : ℕ) (items : List ℕ) (size : ℕ) → reading_of bytes ≡ Ok (ShownMap count items, size)
    → map_at bytes ≡ Some (take size bytes, drop size bytes)
unfolding map_at
map_known bytes count items size e = rw e refl

pub pairs_known : (bytes : List ℕ) (count : ℕ) (items : List ℕ) (size : ℕ) → reading_of bytes ≡ Ok (ShownMap count items, size)
    → pairs_in bytes ≡ pairs_from count items
pairs_known bytes count items size e = rw e refl

-- how a map was read
pub record MapRead (bytes : List ℕ) (found : List ℕ × List ℕ) : Type 0 where
  pub count : ℕ
  pub items : List ℕ
  pub size : ℕ
  pub read : reading_of bytes ≡ Ok (ShownMap count items, size)
  pub front : take size bytes ≡ found.0
  pub rest : drop size bytes ≡ found.1

pub map_parts : (bytes : List ℕ) (found : List ℕ × List ℕ) → map_at bytes ≡ Some found → MapRead bytes found
unfolding map_at
map_parts bytes found e =
    let first = bind_some (shown_first bytes) _ found e in
    let inside = bind_some (as_map first.0.0) _ found first.2 in
    let same = same_some (take first.0.1 bytes, drop first.0.1 bytes) found inside.2 in
    let what = map_is first.0.0 inside.0 inside.1 in
    record {
      count = inside.0.0;
      items = inside.0.1;
      size = first.0.1;
      read = first_read bytes first.0 first.1 ∙ ap (λ (w : Shown). Ok (w, first.0.1)) what;
      front = ap (λ (x : List ℕ × List ℕ). x.0) same;
      rest = ap (λ (x : List ℕ × List ℕ). x.1) same;
    }

-- the value that stands first, and its bytes
pub first_spelled : (bytes : List ℕ) (what : Shown) (size : ℕ) → reading_of bytes ≡ Ok (what, size) → (value : Value) × Spells 64 value (take size bytes) × Shows what value
unfolding reading_of
first_spelled bytes what size e =
    let a = bind_ok (head_at 0 bytes) _ (what, size) e in
    let b = bind_ok (after_first (length bytes) 64 bytes) (λ rest. Ok (shown a.0.0 (take (length a.0.1 - length rest) a.0.1) (take (length bytes - length rest) bytes), length bytes - length rest)) (what, size) a.2 in
    let h = head_spelled 0 bytes a.0.0 a.0.1 a.1 in
    let l = ap length h.1 ∙ length-append h.0 a.0.1 in
    let short : length a.0.1 ≤ length bytes = omega arith in
    let s = value_seen bytes a.0.0 a.0.1 (length bytes - length b.0) short a.1 (sym (measured_ok bytes b.0 b.1)) _ _ _ refl refl refl in
    as_read _ (length bytes - length b.0) s
  where
    as_read : (seen : Shown) (n : ℕ) → Seen bytes seen n → (value : Value) × Spells 64 value (take size bytes) × Shows what value
    as_read seen n s =
        let same = ok_is (seen, n) (what, size) (sym s.exact ∙ e) in (
          s.spelled.1,
          subst (λ (x : Shown × ℕ). Spells 64 s.spelled.1 (take x.1 bytes)) same s.spelled.2,
          subst (λ (x : Shown × ℕ). Shows x.0 s.spelled.1) same s.spelled.3,
        )

-- one map and nothing else is spelled so
pub map_is_spelled : (bytes : List ℕ) → map_at bytes ≡ Some (bytes, []) → (pairs : Pairs) × Spells 64 (grammar.Map pairs) bytes
map_is_spelled bytes e =
    let p = map_parts bytes (bytes, []) e in
    let (value, s, (pairs, is, n, inside)) = first_spelled bytes (ShownMap p.count p.items) p.size p.read in
    (pairs, subst (λ (v : Value). Spells 64 v bytes) is (subst (λ (l : List ℕ). Spells 64 value l) p.front s))
