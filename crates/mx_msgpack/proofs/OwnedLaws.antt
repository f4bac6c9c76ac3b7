-- The views of an array and of a map, by the lists of what they hold.
use Rattle.std.proofs.Common.{◌≡◌, ℕ, zero, suc, ◌+◌, ◌<◌, ◌≤◌, List, [], ◌∷◌, ◌++◌, length, get_or, rules, refl, sym, ap, ◌∙◌, subst, append_assoc, arith}
use Rattle.mx_msgpack.specs.declared.value.Value.{Value, Row_of-Value, end_of-Value, more_of-Value, items-the_row-Value}
use Rattle.mx_msgpack.specs.declared.value.Value.TheViews as shown
use Rattle.mx_msgpack.specs.declared.value.Value.{the_lemmas}
use Rattle.mx_msgpack.specs.declared.value.Values.{Values}
use Rattle.mx_msgpack.specs.declared.value.Pairs.{Pairs, Row_of-Pairs-items-2, end_of-Pairs-items-2, more_of-Pairs-items-2, items-the_row-Pairs-items-2}
use Rattle.mx_msgpack.specs.Grammar as grammar
use Rattle.mx_msgpack.specs.Grammar.{value_count, pair_count, max_length}
use Rattle.mx_msgpack.specs.Spelling.{shortest, shortest_all, shortest_pairs, array_head, map_head}
use Rattle.mx_msgpack.specs.Writing.{IsWritable, AreWritable, ArePairsWritable}
use Rattle.mx_msgpack.specs.Owned.{value_view, row_view, pair_row_view, list_view, pair_list_view, value_list, pair_list}

row_list : (n : _) (row : Row_of-Value n) → row_view row ≡ list_view (items-the_row-Value n row)
row_list n end_of-Value = refl
row_list n (more_of-Value value others) = ap (grammar.MoreValues (value_view value)) (row_list _ others)

pair_row_list : (n : _) (row : Row_of-Pairs-items-2 n) → pair_row_view row ≡ pair_list_view (items-the_row-Pairs-items-2 n row)
pair_row_list n end_of-Pairs-items-2 = refl
pair_row_list n (more_of-Pairs-items-2 key value others) = ap (grammar.MorePairs (value_view key) (value_view value)) (pair_row_list _ others)

pub array_view : (values : Values) → value_view (shown.Array values) ≡ grammar.Array (list_view (value_list values))
array_view values = search (rules, the_lemmas, row_list)

pub map_view : (pairs : Pairs) → value_view (shown.Map pairs) ≡ grammar.Map (pair_list_view (pair_list pairs))
map_view pairs = search (rules, the_lemmas, pair_row_list)

pub count_list : (values : List Value) → value_count (list_view values) ≡ length values
count_list [] = refl
count_list (value ∷ others) = ap suc (count_list others)

pub count_pair_list : (pairs : List (Value × Value)) → pair_count (pair_list_view pairs) ≡ length pairs
count_pair_list [] = refl
count_pair_list (pair ∷ others) = ap suc (count_pair_list others)

-- ---- an array and a map that are written

pub array_writable : (value : Value) (values : Values) → value ≡ shown.Array values → IsWritable (value_view value)
    → (length (value_list values) ≤ max_length) × AreWritable (list_view (value_list values))
array_writable value values e w =
    let parts = subst IsWritable (ap value_view e ∙ array_view values) w in
    (subst (λ (n : ℕ). n ≤ max_length) (count_list (value_list values)) parts.0, parts.1)

pub map_writable : (value : Value) (pairs : Pairs) → value ≡ shown.Map pairs → IsWritable (value_view value)
    → (length (pair_list pairs) ≤ max_length) × ArePairsWritable (pair_list_view (pair_list pairs))
map_writable value pairs e w =
    let parts = subst IsWritable (ap value_view e ∙ map_view pairs) w in
    (subst (λ (n : ℕ). n ≤ max_length) (count_pair_list (pair_list pairs)) parts.0, parts.1)

pub array_written : (before headed new : List ℕ) (value : Value) (values : Values) → value ≡ shown.Array values
    → headed ≡ before ++ array_head (length (value_list values)) → new ≡ headed ++ shortest_all (list_view (value_list values))
    → new ≡ before ++ shortest (value_view value)
array_written before headed new value values e f g =
    let all = shortest_all (list_view (value_list values)) in
    g ∙ ap (λ (l : List ℕ). l ++ all) f ∙ append_assoc before (array_head (length (value_list values))) all
    ∙ ap (λ (n : ℕ). before ++ (array_head n ++ all)) (sym (count_list (value_list values)))
    ∙ ap (λ (v : grammar.Value). before ++ shortest v) (sym (ap value_view e ∙ array_view values))

pub map_written : (before headed new : List ℕ) (value : Value) (pairs : Pairs) → value ≡ shown.Map pairs
    → headed ≡ before ++ map_head (length (pair_list pairs)) → new ≡ headed ++ shortest_pairs (pair_list_view (pair_list pairs))
    → new ≡ before ++ shortest (value_view value)
map_written before headed new value pairs e f g =
    let all = shortest_pairs (pair_list_view (pair_list pairs)) in
    g ∙ ap (λ (l : List ℕ). l ++ all) f ∙ append_assoc before (map_head (length (pair_list pairs))) all
    ∙ ap (λ (n : ℕ). before ++ (map_head n ++ all)) (sym (count_pair_list (pair_list pairs)))
    ∙ ap (λ (v : grammar.Value). before ++ shortest v) (sym (ap value_view e ∙ map_view pairs))

-- ---- how much there is to write

abbrev mutual
  pub nodes : grammar.Value → ℕ
  nodes grammar.Nil = 1
  nodes (grammar.Boolean truth) = 1
  nodes (grammar.Int number) = 1
  nodes (grammar.Str text) = 1
  nodes (grammar.Bin content) = 1
  nodes (grammar.Array values) = suc (all_nodes values)
  nodes (grammar.Map pairs) = suc (pair_nodes pairs)
  nodes (grammar.Opaque spelling) = 1

  pub all_nodes : grammar.Values → ℕ
  all_nodes grammar.NoValue = 0
  all_nodes (grammar.MoreValues value others) = suc (nodes value + all_nodes others)

  pub pair_nodes : grammar.Pairs → ℕ
  pair_nodes grammar.NoPair = 0
  pair_nodes (grammar.MorePairs key value others) = suc (nodes key + nodes value + pair_nodes others)

pub array_nodes : (value : Value) (values : Values) → value ≡ shown.Array values → all_nodes (list_view (value_list values)) < nodes (value_view value)
array_nodes value values e =
    let same = ap nodes (ap value_view e ∙ array_view values) in
    omega arith

pub map_nodes : (value : Value) (pairs : Pairs) → value ≡ shown.Map pairs → pair_nodes (pair_list_view (pair_list pairs)) < nodes (value_view value)
map_nodes value pairs e =
    let same = ap nodes (ap value_view e ∙ map_view pairs) in
    omega arith

pub item_nodes : (values : List Value) (i : ℕ) (d : Value) → i < length values → nodes (value_view (get_or values i d)) < all_nodes (list_view values)
item_nodes [] i d below = absurd (omega arith)
item_nodes (value ∷ others) zero d below = omega arith
item_nodes (value ∷ others) (suc i) d below = let h = item_nodes others i d (omega arith) in omega arith

pub pair_item_nodes : (pairs : List (Value × Value)) (i : ℕ) (d : Value × Value) → i < length pairs
    → (nodes (value_view (get_or pairs i d).0) < pair_nodes (pair_list_view pairs)) × (nodes (value_view (get_or pairs i d).1) < pair_nodes (pair_list_view pairs))
pair_item_nodes [] i d below = absurd (omega arith)
pair_item_nodes (pair ∷ others) zero d below = (omega arith, omega arith)
pair_item_nodes (pair ∷ others) (suc i) d below = let h = pair_item_nodes others i d (omega arith) in (omega arith, omega arith)
