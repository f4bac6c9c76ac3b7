-- What the fields of a map cost, and the least that they can cost in a map that bytes can become.
use Rattle.std.specs.Prelude.{◌≡◌, ⊤, ℕ, ◌+◌, ◌<◌, ◌≤◌, ◌&&◌, List, [], ◌∷◌, ◌++◌, length, Option, Some, None, nat_le, ◌==◌, is_some, if◌then◌else◌}
use Rattle.std.specs.List.{AllByRecursion}
use Rattle.std.specs.Option.{option_map}
use Rattle.mx_msgpack.specs.Maps.{Pair, map_at, pairs_in, value_under}
use Rattle.mx_msgpack.specs.Readers.{◌>>=◌, unsigned_in}
use Rattle.mx_msgpack.specs.Spelling.{AreBytes, shortest_unsigned}
use Rattle.mx_request.specs.Operators.{shape_fault}
use Rattle.mx_request.specs.Values.{number_to, number_32, array_in}
use Rattle.mx_completion.specs.declared.field.Field.{Field}
use Rattle.mx_completion.specs.declared.field.Form.{Form}
use Rattle.mx_completion.specs.declared.field.Form.TheVariants.{Absent, Number, NotOne, Space, Base, Array, Operations}

-- ---- what a field costs

-- a number costs nothing from the least one to the greatest one
abbrev pub cost_within : (least most : ℕ) → Option ℕ → Option ℕ
cost_within least most None = None
cost_within least most (Some number) = if nat_le least number && nat_le number most then Some 0 else None

abbrev pub cost_unless_one : Option ℕ → Option ℕ
cost_unless_one None = Some 0
cost_unless_one (Some number) = if number == 1 then None else Some 0

abbrev pub base_cost : ℕ → ℕ
base_cost base = if base == 0 then 0 else 2

-- an array of update operations, as its spelling
abbrev pub operations_of : List ℕ → Option (List ℕ)
operations_of value = do
  operations ← array_in value
  if is_some (shape_fault operations) then None else Some operations

-- what a value under a key costs, or that there is none; none where the form doesn't allow it
abbrev pub cost_of : Form → Option (List ℕ) → Option ℕ
cost_of Absent None = Some 0
cost_of Absent (Some value) = None
cost_of (Number least most) None = None
cost_of (Number least most) (Some value) = cost_within least most (unsigned_in value)
cost_of NotOne None = Some 0
cost_of NotOne (Some value) = cost_unless_one (unsigned_in value)
cost_of Space None = None
cost_of Space (Some value) = option_map (λ number. length (shortest_unsigned number)) (number_32 value)
cost_of Base None = Some 0
cost_of Base (Some value) = option_map base_cost (number_to 1 value)
cost_of Array None = None
cost_of Array (Some value) = option_map length (array_in value)
cost_of Operations None = None
cost_of Operations (Some value) = option_map length (operations_of value)

-- what all fields cost together in a map of these pairs, where it has them
abbrev pub total_cost : List Field → List Pair → Option ℕ
total_cost [] pairs = Some 0
total_cost (field ∷ fields) pairs = do
  cost ← cost_of field.form (value_under field.key pairs)
  others ← total_cost fields pairs
  Some (cost + others)

-- ---- the least cost

-- the keys are numbers of a byte that is a spelling by itself, and no two are one
abbrev pub AreKeys : List Field → Type 0
AreKeys [] = ⊤
AreKeys (field ∷ fields) = (field.key < 0x80) × AllByRecursion (λ other. ¬ (other.key ≡ field.key)) fields × AreKeys fields

-- the bytes can become one map, with one more byte or more, in which the fields cost this much
abbrev pub CostsOf : (most : ℕ) → List Field → (bytes : List ℕ) → (cost : ℕ) → Type 0
CostsOf most fields bytes cost =
    (missing : List ℕ) × AreBytes missing × (1 ≤ length missing) × (map_at (bytes ++ missing) ≡ Some (bytes ++ missing, []))
    × (total_cost fields (pairs_in (bytes ++ missing)) ≡ Some cost) × (cost ≤ most)

-- the least number that has the property; none where no number has it
abbrev pub IsLeast : (ℕ → Type 0) → Option ℕ → Type 0
IsLeast Has None = (number : ℕ) → ¬ Has number
IsLeast Has (Some least) = Has least × ((number : ℕ) → Has number → least ≤ number)
