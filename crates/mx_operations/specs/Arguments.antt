-- Only private functions need these: the pieces of an operation, in the order in which they are read.
use Rattle.std.specs.Prelude.{ℕ, List, [], ◌∷◌, Option, Some, None}
use Rattle.mx_operations.specs.declared.operator.Operator.{Operator}
use Rattle.mx_operations.specs.declared.operator.Operator.TheVariants.{Splice}

-- how many arguments follow the field number
abbrev pub argument_count : Operator → ℕ
argument_count Splice = 3
argument_count _ = 1

-- the byte of a text that has no other
abbrev pub only_letter : List ℕ → Option ℕ
only_letter (letter ∷ []) = Some letter
only_letter _ = None
