-- A key as an array of its parts, each in its shortest spelling.
use Rattle.std.specs.Prelude.{ℕ, ◌≤◌, List, [], ◌∷◌, ◌++◌, length, map, if◌then◌else◌}
use Rattle.std.specs.List.{concat}
use Rattle.mx_msgpack.specs.Grammar as grammar
use Rattle.mx_msgpack.specs.Grammar.{Value, Values, NoValue, MoreValues, max_length}
use Rattle.mx_msgpack.specs.Spelling.{array_head, bin_head, shortest_int, str_head}
use Rattle.mx_key.specs.Keys.{Key, KeyPart, Boolean, Integer, Text, Binary}

-- the shortest spelling of a part
abbrev pub part_spelling : KeyPart → List ℕ
part_spelling (Boolean truth) = (if truth then 0xc3 else 0xc2) ∷ []
part_spelling (Integer number) = shortest_int number
part_spelling (Text text) = str_head (length text) ++ text
part_spelling (Binary content) = bin_head (length content) ++ content

-- an array of all parts
abbrev pub key_array : Key → List ℕ
key_array key = array_head (length key) ++ concat (map part_spelling key)

-- a part and a key as values
abbrev pub value_of_part : KeyPart → Value
value_of_part (Boolean truth) = grammar.Boolean truth
value_of_part (Integer number) = grammar.Int number
value_of_part (Text text) = grammar.Str text
value_of_part (Binary content) = grammar.Bin content

abbrev pub values_of_key : Key → Values
values_of_key [] = NoValue
values_of_key (part ∷ parts) = MoreValues (value_of_part part) (values_of_key parts)

-- a text or other bytes that a value may have
abbrev pub IsShort : KeyPart → Type 0
IsShort (Text text) = length text ≤ max_length
IsShort (Binary content) = length content ≤ max_length
IsShort _ = Unit {0}
