-- The shortest spelling of a value is one of its spellings, and none in bytes is shorter.
use Rattle.std.proofs.Common.{◌≡◌, ℕ, zero, suc, ◌≤◌, List, [], ◌∷◌, ◌++◌, length, subst, refl, ap, ◌∙◌, arith}
use Rattle.std.proofs.lemmas.List.{length-append}
use Rattle.mx_msgpack.specs.Grammar.{Value, Nil, Boolean, Int, Str, Bin, Array, Map, Opaque, Values, NoValue, MoreValues, Pairs, NoPair, MorePairs, value_count, pair_count, Spells, SpellsAll, SpellsPairs}
use Rattle.mx_msgpack.specs.Spelling.{AreBytes, shortest, shortest_all, shortest_pairs, str_head, bin_head, array_head, map_head}
use Rattle.mx_msgpack.proofs.NumberSpellings.{int_spelled, int_least, str_head_spelled, bin_head_spelled, array_head_spelled, map_head_spelled, str_least, bin_least, array_least, map_least}

-- ---- bytes in two parts

pub front-bytes : (front rest : List ℕ) → AreBytes (front ++ rest) → AreBytes front
front-bytes [] rest each i = omega arith
front-bytes (x ∷ xs) rest each zero = each zero
front-bytes (x ∷ xs) rest each (suc i) = front-bytes xs rest (λ k. each (suc k)) i

pub rest-bytes : (front rest : List ℕ) → AreBytes (front ++ rest) → AreBytes rest
rest-bytes [] rest each = each
rest-bytes (x ∷ xs) rest each = rest-bytes xs rest (λ k. each (suc k))

pub front_of : (bytes front rest : List ℕ) → bytes ≡ front ++ rest → AreBytes bytes → AreBytes front
front_of bytes front rest e each = front-bytes front rest (subst AreBytes e each)

pub rest_of : (bytes front rest : List ℕ) → bytes ≡ front ++ rest → AreBytes bytes → AreBytes rest
rest_of bytes front rest e each = rest-bytes front rest (subst AreBytes e each)

-- ---- it is a spelling

mutual
  pub shortest_spells : (room : ℕ) (value : Value) (bytes : List ℕ) → AreBytes bytes → Spells room value bytes → Spells room value (shortest value)
  shortest_spells room Nil bytes each s = refl
  shortest_spells room (Boolean truth) bytes each s = refl
  shortest_spells room (Int number) bytes each s = int_spelled number bytes each s
  shortest_spells room (Str text) bytes each (head, h, few, e) = (str_head (length text), str_head_spelled (length text) few, few, refl)
  shortest_spells room (Bin content) bytes each (head, h, few, e) = (bin_head (length content), bin_head_spelled (length content) few, few, refl)
  shortest_spells zero (Array values) bytes each s = absurd s
  shortest_spells (suc room) (Array values) bytes each (head, content, h, few, e, all) = (
    array_head (value_count values),
    shortest_all values,
    array_head_spelled (value_count values) few,
    few,
    refl,
    shortest_spells_all room values content (rest_of bytes head content e each) all,
  )
  shortest_spells zero (Map pairs) bytes each s = absurd s
  shortest_spells (suc room) (Map pairs) bytes each (head, content, h, few, e, all) = (
    map_head (pair_count pairs),
    shortest_pairs pairs,
    map_head_spelled (pair_count pairs) few,
    few,
    refl,
    shortest_spells_pairs room pairs content (rest_of bytes head content e each) all,
  )
  shortest_spells room (Opaque spelling) bytes each (is, e) = (is, refl)

  pub shortest_spells_all : (room : ℕ) (values : Values) (bytes : List ℕ) → AreBytes bytes → SpellsAll room values bytes → SpellsAll room values (shortest_all values)
  shortest_spells_all room NoValue bytes each s = refl
  shortest_spells_all room (MoreValues value others) bytes each (front, rest, e, one, all) = (
    shortest value,
    shortest_all others,
    refl,
    shortest_spells room value front (front_of bytes front rest e each) one,
    shortest_spells_all room others rest (rest_of bytes front rest e each) all,
  )

  pub shortest_spells_pairs : (room : ℕ) (pairs : Pairs) (bytes : List ℕ) → AreBytes bytes → SpellsPairs room pairs bytes → SpellsPairs room pairs (shortest_pairs pairs)
  shortest_spells_pairs room NoPair bytes each s = refl
  shortest_spells_pairs room (MorePairs key value others) bytes each (front, middle, rest, e, k, v, all) =
      let both = front_of bytes (front ++ middle) rest e each in (
        shortest key,
        shortest value,
        shortest_pairs others,
        refl,
        shortest_spells room key front (front-bytes front middle both) k,
        shortest_spells room value middle (rest-bytes front middle both) v,
        shortest_spells_pairs room others rest (rest_of bytes (front ++ middle) rest e each) all,
      )

-- ---- none is shorter

parts_least : (bytes front rest head content : List ℕ) → bytes ≡ front ++ rest → length head ≤ length front → length content ≤ length rest
    → length (head ++ content) ≤ length bytes
parts_least bytes front rest head content e h c =
    let l = ap length e ∙ length-append front rest in
    let m = length-append head content in
    omega arith

mutual
  pub shortest_least : (room : ℕ) (value : Value) (bytes : List ℕ) → AreBytes bytes → Spells room value bytes → length (shortest value) ≤ length bytes
  shortest_least room Nil bytes each s = let l : length bytes ≡ 1 = ap length s in omega arith
  shortest_least room (Boolean truth) bytes each s = let l : length bytes ≡ 1 = ap length s in omega arith
  shortest_least room (Int number) bytes each s = int_least number bytes each s
  shortest_least room (Str text) bytes each (head, h, few, e) =
      parts_least bytes head text (str_head (length text)) text e (str_least (length text) head (front_of bytes head text e each) h) (omega arith)
  shortest_least room (Bin content) bytes each (head, h, few, e) =
      parts_least bytes head content (bin_head (length content)) content e (bin_least (length content) head (front_of bytes head content e each) h) (omega arith)
  shortest_least zero (Array values) bytes each s = absurd s
  shortest_least (suc room) (Array values) bytes each (head, content, h, few, e, all) =
      parts_least bytes head content (array_head (value_count values)) (shortest_all values) e
      (array_least (value_count values) head (front_of bytes head content e each) h)
      (shortest_least_all room values content (rest_of bytes head content e each) all)
  shortest_least zero (Map pairs) bytes each s = absurd s
  shortest_least (suc room) (Map pairs) bytes each (head, content, h, few, e, all) =
      parts_least bytes head content (map_head (pair_count pairs)) (shortest_pairs pairs) e
      (map_least (pair_count pairs) head (front_of bytes head content e each) h)
      (shortest_least_pairs room pairs content (rest_of bytes head content e each) all)
  shortest_least room (Opaque spelling) bytes each (is, e) = let l = ap length e in omega arith

  pub shortest_least_all : (room : ℕ) (values : Values) (bytes : List ℕ) → AreBytes bytes → SpellsAll room values bytes → length (shortest_all values) ≤ length bytes
  shortest_least_all room NoValue bytes each s = omega arith
  shortest_least_all room (MoreValues value others) bytes each (front, rest, e, one, all) =
      parts_least bytes front rest (shortest value) (shortest_all others) e
      (shortest_least room value front (front_of bytes front rest e each) one)
      (shortest_least_all room others rest (rest_of bytes front rest e each) all)

  pub shortest_least_pairs : (room : ℕ) (pairs : Pairs) (bytes : List ℕ) → AreBytes bytes → SpellsPairs room pairs bytes → length (shortest_pairs pairs) ≤ length bytes
  shortest_least_pairs room NoPair bytes each s = omega arith
  shortest_least_pairs room (MorePairs key value others) bytes each (front, middle, rest, e, k, v, all) =
      let both = front_of bytes (front ++ middle) rest e each in
      parts_least bytes (front ++ middle) rest (shortest key ++ shortest value) (shortest_pairs others) e
      (parts_least (front ++ middle) front middle (shortest key) (shortest value) refl
      (shortest_least room key front (front-bytes front middle both) k) (shortest_least room value middle (rest-bytes front middle both) v))
      (shortest_least_pairs room others rest (rest_of bytes (front ++ middle) rest e each) all)
