-- What stands first in bytes: what is spelled is read, whatever follows, and takes a byte at least.
use Rattle.std.proofs.Common.{◌≡◌, ℕ, zero, suc, ◌+◌, ◌-◌, ◌<◌, ◌≤◌, List, [], ◌∷◌, ◌++◌, length, take, drop, Ok, Err, refl, sym, ap, ◌∙◌, inl, arith}
use Rattle.std.proofs.lemmas.List.{take_at, drop_at, length-append}
use Rattle.mx_msgpack.specs.declared.bad.Bad.TheVariants.{Short}
use Rattle.mx_msgpack.specs.declared.head.Head.TheVariants.{Map}
use Rattle.mx_msgpack.specs.Grammar as grammar
use Rattle.mx_msgpack.specs.Grammar.{Value, Values, NoValue, MoreValues, Pairs, NoPair, MorePairs, pair_count, Spells, SpellsAll, SpellsPairs}
use Rattle.mx_msgpack.specs.Reading.{Shown, ShownMap, shown, head_at, after_first, reading_of, measured}
use Rattle.mx_msgpack.proofs.Results.{bind_ok, ok_is}
use Rattle.mx_msgpack.proofs.ValueLaws.{value_is, measured_ok}
use Rattle.mx_msgpack.proofs.Heads.{head_again}
use Rattle.mx_msgpack.proofs.GrammarLaws.{value_again, value_spelled}
use Rattle.mx_msgpack.proofs.Shown.{reads}

-- what is spelled with this much room is spelled with more
mutual
  pub roomier : (room : ℕ) (value : Value) (bytes : List ℕ) → Spells room value bytes → Spells (suc room) value bytes
  roomier room grammar.Nil bytes s = s
  roomier room (grammar.Boolean truth) bytes s = s
  roomier room (grammar.Int number) bytes s = s
  roomier room (grammar.Str text) bytes s = s
  roomier room (grammar.Bin content) bytes s = s
  roomier zero (grammar.Array values) bytes s = absurd s
  roomier (suc room) (grammar.Array values) bytes (head, content, h, few, e, s) = (head, content, h, few, e, all_roomier room values content s)
  roomier zero (grammar.Map pairs) bytes s = absurd s
  roomier (suc room) (grammar.Map pairs) bytes (head, content, h, few, e, s) = (head, content, h, few, e, pairs_roomier room pairs content s)
  roomier room (grammar.Opaque spelling) bytes s = s

  all_roomier : (room : ℕ) (values : Values) (bytes : List ℕ) → SpellsAll room values bytes → SpellsAll (suc room) values bytes
  all_roomier room NoValue bytes e = e
  all_roomier room (MoreValues value others) bytes (front, rest, e, s, ss) = (front, rest, e, roomier room value front s, all_roomier room others rest ss)

  pairs_roomier : (room : ℕ) (pairs : Pairs) (bytes : List ℕ) → SpellsPairs room pairs bytes → SpellsPairs (suc room) pairs bytes
  pairs_roomier room NoPair bytes e = e
  pairs_roomier room (MorePairs key value others) bytes (front, middle, rest, e, s, t, ss) =
      (front, middle, rest, e, roomier room key front s, roomier room value middle t, pairs_roomier room others rest ss)

-- in no bytes stands no value
none_first : (total room : ℕ) → after_first total room [] ≡ Err Short
unfolding head_at
none_first total room = value_is total room []

-- a value takes a byte at least
pub spelled_some : (room : ℕ) (value : Value) (front : List ℕ) → Spells room value front → 1 ≤ length front
spelled_some room value [] s = let read = sym (none_first 0 room) ∙ value_again 0 room value [] [] s in absurd cc
spelled_some room value (byte ∷ front) s = omega arith

pub measured_again : (value : Value) (front rest : List ℕ) → Spells 64 value front → measured (front ++ rest) ≡ Ok (length front)
measured_again value front rest s =
    let l = length-append front rest in
    let size : length (front ++ rest) - length rest ≡ length front = omega arith in
    sym (measured_ok (front ++ rest) rest (value_again (length (front ++ rest)) 64 value front rest s)) ∙ ap Ok size

-- a map is read as its pairs' count and their bytes
pub map_read : (pairs : Pairs) (content rest : List ℕ) → pair_count pairs < 0x10 → SpellsPairs 63 pairs content
    → reading_of ((0x80 + pair_count pairs) ∷ (content ++ rest)) ≡ Ok (ShownMap (pair_count pairs) content, suc (length content))
map_read pairs content rest few s =
    let count = pair_count pairs in
    let front = (0x80 + count) ∷ content in
    let bytes = front ++ rest in
    let head : head_at 0 bytes ≡ Ok (Map count, content ++ rest) = head_again 0 (Map count) ((0x80 + count) ∷ []) (content ++ rest) (inl (few, refl)) in
    let value : after_first (length bytes) 64 bytes ≡ Ok rest = value_again (length bytes) 64 (grammar.Map pairs) front rest ((0x80 + count) ∷ [], content, inl (few, refl), omega arith, refl, s) in
    let l = length-append content rest in
    let inside : length content ≡ length (content ++ rest) - length rest = omega arith in
    let size : length bytes - length rest ≡ suc (length content) = omega arith in
    reads bytes (Map count) (content ++ rest) rest head value
    ∙ (λ i. Ok (ShownMap count (take_at content rest (length (content ++ rest) - length rest) inside i), size i))

-- what is read begins with a value's bytes, and the others follow
pub read_shorter : (bytes : List ℕ) (what : Shown) (size : ℕ) → reading_of bytes ≡ Ok (what, size) → length (drop size bytes) < length bytes
unfolding reading_of
read_shorter bytes what size e =
    let a = bind_ok (head_at 0 bytes) _ (what, size) e in
    let b = bind_ok (after_first (length bytes) 64 bytes) (λ rest. Ok (shown a.0.0 (take (length a.0.1 - length rest) a.0.1) (take (length bytes - length rest) bytes), length bytes - length rest)) (what, size) a.2 in
    let same = ap (λ (x : Shown × ℕ). x.1) (ok_is (shown a.0.0 (take (length a.0.1 - length b.0) a.0.1) (take (length bytes - length b.0) bytes), length bytes - length b.0) (what, size) b.2) in
    let v = value_spelled (length bytes) 64 bytes b.0 b.1 in
    let some = spelled_some 64 v.0 v.1 v.3 in
    let l = ap length v.2 ∙ length-append v.1 b.0 in
    let front : length v.1 ≡ size = omega arith in
    let rest = ap length (ap (drop size) v.2 ∙ drop_at v.1 b.0 size front) in
    omega arith
