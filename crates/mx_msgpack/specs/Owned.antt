-- The grammar's value of an owned value.
use Rattle.std.specs.Prelude.{◌≡◌, ℕ, List, [], ◌∷◌, ◌++◌}
use Rattle.mx_msgpack.specs.declared.value.Value.{Value, Nil, Bool as Boolean, Int, Str, Bin, Array', Map', Opaque, Row_of-Value, end_of-Value, more_of-Value}
use Rattle.mx_msgpack.specs.declared.value.Values.{Values}
use Rattle.mx_msgpack.specs.declared.value.Pairs.{Pairs, Row_of-Pairs-items-2, end_of-Pairs-items-2, more_of-Pairs-items-2}
use Rattle.mx_msgpack.specs.Grammar as grammar

abbrev mutual
  pub value_view : Value → grammar.Value
  value_view Nil = grammar.Nil
  value_view (Boolean truth) = grammar.Boolean truth
  value_view (Int number) = grammar.Int number
  value_view (Str text) = grammar.Str text
  value_view (Bin content) = grammar.Bin content
  value_view (Array' shape all) = grammar.Array (row_view all)
  value_view (Map' shape all) = grammar.Map (pair_row_view all)
  value_view (Opaque spelling) = grammar.Opaque spelling

  pub row_view : {m : _} → Row_of-Value m → grammar.Values
  row_view end_of-Value = grammar.NoValue
  row_view (more_of-Value value others) = grammar.MoreValues (value_view value) (row_view others)

  pub pair_row_view : {m : _} → Row_of-Pairs-items-2 m → grammar.Pairs
  pair_row_view end_of-Pairs-items-2 = grammar.NoPair
  pair_row_view (more_of-Pairs-items-2 key value others) = grammar.MorePairs (value_view key) (value_view value) (pair_row_view others)

-- values in a row, and pairs
abbrev pub list_view : List Value → grammar.Values
list_view [] = grammar.NoValue
list_view (value ∷ others) = grammar.MoreValues (value_view value) (list_view others)

abbrev pub pair_list_view : List (Value × Value) → grammar.Pairs
pair_list_view [] = grammar.NoPair
pair_list_view (pair ∷ others) = grammar.MorePairs (value_view pair.0) (value_view pair.1) (pair_list_view others)

abbrev pub value_list : Values → List Value
value_list values = values.items.items

abbrev pub pair_list : Pairs → List (Value × Value)
pair_list pairs = pairs.items.items

-- the bytes before the rest spell the value, or the values, or the pairs
abbrev pub SpelledUpTo : ℕ → grammar.Value → List ℕ → List ℕ → Type 0
SpelledUpTo room value bytes rest = (front : List ℕ) × (bytes ≡ front ++ rest) × grammar.Spells room value front

abbrev pub AllSpelledUpTo : ℕ → grammar.Values → List ℕ → List ℕ → Type 0
AllSpelledUpTo room values bytes rest = (front : List ℕ) × (bytes ≡ front ++ rest) × grammar.SpellsAll room values front

abbrev pub PairsSpelledUpTo : ℕ → grammar.Pairs → List ℕ → List ℕ → Type 0
PairsSpelledUpTo room pairs bytes rest = (front : List ℕ) × (bytes ≡ front ++ rest) × grammar.SpellsPairs room pairs front
