-- Only private functions need these: an operation on a number as a value.
use Rattle.std.specs.Prelude.{Result, ◌+ℤ◌, ◌-ℤ◌, bit_and, bit_or, bit_xor}
use Rattle.mx_update.specs.declared.arithmetic.Arithmetic.{Arithmetic}
use Rattle.mx_update.specs.declared.arithmetic.Arithmetic.TheVariants.{Add, Subtract, And, Or, Xor}
use Rattle.mx_update.specs.Updates.{Field, Failure, computed, computed_by_bits}

abbrev pub arithmetic_of : Arithmetic → Field → Result Field Failure
arithmetic_of (Add operand) = computed (λ n. n +ℤ operand.now)
arithmetic_of (Subtract operand) = computed (λ n. n -ℤ operand.now)
arithmetic_of (And operand) = computed_by_bits (λ n. bit_and n operand)
arithmetic_of (Or operand) = computed_by_bits (λ n. bit_or n operand)
arithmetic_of (Xor operand) = computed_by_bits (λ n. bit_xor n operand)
