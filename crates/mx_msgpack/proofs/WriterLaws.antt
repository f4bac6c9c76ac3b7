-- What can be written: what is spelled can, and a list of values is written value by value.
use Rattle.std.proofs.Common.{◌≡◌, ℕ, zero, suc, ◌+◌, ◌<◌, List, [], ◌∷◌, ◌++◌, length, take, get_or, sym, ap, ◌∙◌, append_assoc, arith}
use Rattle.std.proofs.lemmas.List.{append-nil}
use Rattle.mx_msgpack.specs.declared.value.Value.{Value}
use Rattle.mx_msgpack.specs.Grammar as grammar
use Rattle.mx_msgpack.specs.Grammar.{Nil, Boolean, Int, Str, Bin, Array, Map, Opaque, Values, NoValue, MoreValues, Pairs, NoPair, MorePairs, value_count, pair_count, Spells, SpellsAll, SpellsPairs}
use Rattle.mx_msgpack.specs.Owned.{value_view, list_view, pair_list_view}
use Rattle.mx_msgpack.specs.Spelling.{AreBytes, shortest, shortest_all, shortest_pairs}
use Rattle.mx_msgpack.specs.Writing.{IsWritable, AreWritable, ArePairsWritable}
use Rattle.mx_msgpack.proofs.NumberSpellings.{int_fits}
use Rattle.mx_msgpack.proofs.ShortestLaws.{front-bytes, rest-bytes, front_of, rest_of}

-- ---- what is spelled can be written

mutual
  pub spelled_writable : (room : ℕ) (value : grammar.Value) (bytes : List ℕ) → AreBytes bytes → Spells room value bytes → IsWritable value
  spelled_writable room Nil bytes each s = tt
  spelled_writable room (Boolean truth) bytes each s = tt
  spelled_writable room (Int number) bytes each s = int_fits number bytes each s
  spelled_writable room (Str text) bytes each (head, h, few, e) = few
  spelled_writable room (Bin content) bytes each (head, h, few, e) = few
  spelled_writable zero (Array values) bytes each s = absurd s
  spelled_writable (suc room) (Array values) bytes each (head, content, h, few, e, all) =
      (few, spelled_all_writable room values content (rest_of bytes head content e each) all)
  spelled_writable zero (Map pairs) bytes each s = absurd s
  spelled_writable (suc room) (Map pairs) bytes each (head, content, h, few, e, all) =
      (few, spelled_pairs_writable room pairs content (rest_of bytes head content e each) all)
  spelled_writable room (Opaque spelling) bytes each s = tt

  spelled_all_writable : (room : ℕ) (values : Values) (bytes : List ℕ) → AreBytes bytes → SpellsAll room values bytes → AreWritable values
  spelled_all_writable room NoValue bytes each s = tt
  spelled_all_writable room (MoreValues value others) bytes each (front, rest, e, one, all) = (
    spelled_writable room value front (front_of bytes front rest e each) one,
    spelled_all_writable room others rest (rest_of bytes front rest e each) all,
  )

  spelled_pairs_writable : (room : ℕ) (pairs : Pairs) (bytes : List ℕ) → AreBytes bytes → SpellsPairs room pairs bytes → ArePairsWritable pairs
  spelled_pairs_writable room NoPair bytes each s = tt
  spelled_pairs_writable room (MorePairs key value others) bytes each (front, middle, rest, e, k, v, all) =
      let both = front_of bytes (front ++ middle) rest e each in (
        spelled_writable room key front (front-bytes front middle both) k,
        spelled_writable room value middle (rest-bytes front middle both) v,
        spelled_pairs_writable room others rest (rest_of bytes (front ++ middle) rest e each) all,
      )

-- ---- values and pairs in a row

pub writable_at : (values : List Value) (i : ℕ) (d : Value) → AreWritable (list_view values) → i < length values → IsWritable (value_view (get_or values i d))
writable_at [] i d all below = absurd (omega arith)
writable_at (value ∷ others) zero d all below = all.0
writable_at (value ∷ others) (suc i) d all below = writable_at others i d all.1 (omega arith)

pub pair_writable_at : (pairs : List (Value × Value)) (i : ℕ) (d : Value × Value) → ArePairsWritable (pair_list_view pairs) → i < length pairs
    → IsWritable (value_view (get_or pairs i d).0) × IsWritable (value_view (get_or pairs i d).1)
pair_writable_at [] i d all below = absurd (omega arith)
pair_writable_at (pair ∷ others) zero d all below = (all.0, all.1)
pair_writable_at (pair ∷ others) (suc i) d all below = pair_writable_at others i d all.2 (omega arith)

-- one more value, and one more pair
all_later : (values : List Value) (i : ℕ) (d : Value) → i < length values
    → shortest_all (list_view (take (suc i) values)) ≡ shortest_all (list_view (take i values)) ++ shortest (value_view (get_or values i d))
all_later [] i d below = absurd (omega arith)
all_later (value ∷ others) zero d below = append-nil (shortest (value_view value))
all_later (value ∷ others) (suc i) d below =
    ap (λ (bytes : List ℕ). shortest (value_view value) ++ bytes) (all_later others i d (omega arith))
    ∙ sym (append_assoc (shortest (value_view value)) (shortest_all (list_view (take i others))) (shortest (value_view (get_or others i d))))

pairs_later : (pairs : List (Value × Value)) (i : ℕ) (d : Value × Value) → i < length pairs
    → shortest_pairs (pair_list_view (take (suc i) pairs))
    ≡ shortest_pairs (pair_list_view (take i pairs)) ++ (shortest (value_view (get_or pairs i d).0) ++ shortest (value_view (get_or pairs i d).1))
pairs_later [] i d below = absurd (omega arith)
pairs_later (pair ∷ others) zero d below = append-nil (shortest (value_view pair.0) ++ shortest (value_view pair.1))
pairs_later (pair ∷ others) (suc i) d below =
    let spelled = λ (p : Value × Value). shortest (value_view p.0) ++ shortest (value_view p.1) in
    ap (λ (bytes : List ℕ). spelled pair ++ bytes) (pairs_later others i d (omega arith))
    ∙ sym (append_assoc (spelled pair) (shortest_pairs (pair_list_view (take i others))) (spelled (get_or others i d)))

-- the same as the code counts, after what was there before
pub all_more : (before now new : List ℕ) (values : List Value) (i : ℕ) (d : Value) → i < length values
    → now ≡ before ++ shortest_all (list_view (take i values)) → new ≡ now ++ shortest (value_view (get_or values i d))
    → new ≡ before ++ shortest_all (list_view (take (i + 1) values))
all_more before now new values i d below e f =
    let next : suc i ≡ i + 1 = omega arith in
    f ∙ ap (λ (l : List ℕ). l ++ shortest (value_view (get_or values i d))) e
    ∙ append_assoc before (shortest_all (list_view (take i values))) (shortest (value_view (get_or values i d)))
    ∙ ap (λ (l : List ℕ). before ++ l) (sym (all_later values i d below))
    ∙ ap (λ (k : ℕ). before ++ shortest_all (list_view (take k values))) next

pub pairs_more : (before now keyed new : List ℕ) (pairs : List (Value × Value)) (i : ℕ) (d : Value × Value) → i < length pairs
    → now ≡ before ++ shortest_pairs (pair_list_view (take i pairs)) → keyed ≡ now ++ shortest (value_view (get_or pairs i d).0)
    → new ≡ keyed ++ shortest (value_view (get_or pairs i d).1)
    → new ≡ before ++ shortest_pairs (pair_list_view (take (i + 1) pairs))
pairs_more before now keyed new pairs i d below e f g =
    let next : suc i ≡ i + 1 = omega arith in
    let key = shortest (value_view (get_or pairs i d).0) in
    let value = shortest (value_view (get_or pairs i d).1) in
    g ∙ ap (λ (l : List ℕ). l ++ value) (f ∙ ap (λ (l : List ℕ). l ++ key) e)
    ∙ append_assoc (before ++ shortest_pairs (pair_list_view (take i pairs))) key value
    ∙ append_assoc before (shortest_pairs (pair_list_view (take i pairs))) (key ++ value)
    ∙ ap (λ (l : List ℕ). before ++ l) (sym (pairs_later pairs i d below))
    ∙ ap (λ (k : ℕ). before ++ shortest_pairs (pair_list_view (take k pairs))) next
