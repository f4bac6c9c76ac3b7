-- An operation, one value after the other.
use Rattle.std.proofs.Common.{◌≡◌, ℕ, zero, suc, ◌+◌, ◌-◌, List, ◌∷◌, Option, Some, None, refl, sym, ap, arith}
use Rattle.std.specs.Prelude.{ℤ}
use Rattle.std.specs.Option.{option_and_then}
use Rattle.mx_msgpack.specs.Items.{first_value, after_value, values_from, array_of}
use Rattle.mx_msgpack.specs.Projections.{as_int, as_text, first_as}
use Rattle.mx_msgpack.specs.Readers.{◌>>=◌}
use Rattle.mx_operations.specs.declared.operator.Operator.{Operator}
use Rattle.mx_operations.specs.declared.operator.Operator.TheVariants.{Assign, Insert, Delete, Add, Subtract, And, Or, Xor, Splice}
use Rattle.mx_operations.specs.Arguments.{argument_count}
use Rattle.mx_operations.specs.Operations.{operation_by_name, operation_in, operation_of, operation_with}

-- another number of arguments
other_count : (operator : Operator) (field : ℤ) (count : ℕ) (bytes : List ℕ) → (count ≡ argument_count operator → ⊥)
    → operation_of operator field (values_from count bytes) ≡ None
other_count Assign field zero bytes other = refl
other_count Assign field (suc zero) bytes other = absurd (other refl)
other_count Assign field (suc (suc count)) bytes other = refl
other_count Insert field zero bytes other = refl
other_count Insert field (suc zero) bytes other = absurd (other refl)
other_count Insert field (suc (suc count)) bytes other = refl
other_count Delete field zero bytes other = refl
other_count Delete field (suc zero) bytes other = absurd (other refl)
other_count Delete field (suc (suc count)) bytes other = refl
other_count Add field zero bytes other = refl
other_count Add field (suc zero) bytes other = absurd (other refl)
other_count Add field (suc (suc count)) bytes other = refl
other_count Subtract field zero bytes other = refl
other_count Subtract field (suc zero) bytes other = absurd (other refl)
other_count Subtract field (suc (suc count)) bytes other = refl
other_count And field zero bytes other = refl
other_count And field (suc zero) bytes other = absurd (other refl)
other_count And field (suc (suc count)) bytes other = refl
other_count Or field zero bytes other = refl
other_count Or field (suc zero) bytes other = absurd (other refl)
other_count Or field (suc (suc count)) bytes other = refl
other_count Xor field zero bytes other = refl
other_count Xor field (suc zero) bytes other = absurd (other refl)
other_count Xor field (suc (suc count)) bytes other = refl
other_count Splice field zero bytes other = refl
other_count Splice field (suc zero) bytes other = refl
other_count Splice field (suc (suc zero)) bytes other = refl
other_count Splice field (suc (suc (suc zero))) bytes other = absurd (other refl)
other_count Splice field (suc (suc (suc (suc count)))) bytes other = refl

pub operands_other : (operator : Operator) (count : ℕ) (bytes : List ℕ) → (count ≡ 1 + argument_count operator → ⊥) → None ≡ operation_with operator (values_from count bytes)
operands_other operator zero bytes other = refl
operands_other operator (suc count) bytes other = by_field (first_as as_int (first_value bytes))
  where
    by_field : (field : Option ℤ) → None ≡ (field >>= (λ number. operation_of operator number (values_from count (after_value bytes))))
    by_field None = refl
    by_field (Some number) = sym (other_count operator number count (after_value bytes) (λ e. other (omega arith)))

and_then : {A B : Type 0} (o : Option A) (f : A → Option B) → (o >>= f) ≡ option_and_then f o
and_then None f = refl
and_then (Some x) f = refl

pub operands_right : (operator : Operator) (count : ℕ) (bytes field arguments : List ℕ) → count ≡ 1 + argument_count operator
    → field ≡ first_value bytes → arguments ≡ after_value bytes
    → operation_with operator (values_from count bytes)
    ≡ option_and_then (λ number. operation_of operator number (values_from (argument_count operator) arguments)) (first_as as_int field)
operands_right operator count bytes field arguments right first after =
    let more : count ≡ suc (argument_count operator) = omega arith in
    rw (more, first, after) (and_then (first_as as_int (first_value bytes)) _)

-- an array of an operator and its operands
pub elements_stand : (bytes : List ℕ) (count : ℕ) (items name operands : List ℕ) → Some (count, items) ≡ array_of bytes → (count ≡ 0 → ⊥)
    → name ≡ first_value items → operands ≡ after_value items
    → operation_in bytes ≡ operation_by_name (first_as as_text name) (values_from (count - 1) operands)
unfolding operation_in
elements_stand bytes count items name operands array some first after =
    let more : count ≡ suc (count - 1) = omega arith in
    let values : values_from count items ≡ first_value items ∷ values_from (count - 1) (after_value items) = ap (λ (n : ℕ). values_from n items) more in
    rw (← array, values, first, after) refl
