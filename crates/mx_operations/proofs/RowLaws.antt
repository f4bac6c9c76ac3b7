-- Operations that stand in a row: all are told by those that are left.
use Rattle.std.proofs.Common.{◌≡◌, ℕ, suc, ◌+◌, ◌-◌, ◌<◌, ◌≤◌, true, false, cond, List, [], ◌∷◌, Result, Ok, Err, refl, subst, ◌∙◌, arith, ltb, lt-ltb, le-ltb}
use Rattle.mx_msgpack.specs.Items.{first_value, after_value, values_from}
use Rattle.mx_operations.specs.declared.fault.ShapeFault.{ShapeFault}
use Rattle.mx_operations.specs.declared.fault.ShapeFault.TheVariants.{BadArgument}
use Rattle.mx_operations.specs.declared.fault.OperationFault.{OperationFault}
use Rattle.mx_operations.specs.Operations.{Operation, operation_and_others, max_operations, operation_in, operations_from}

-- where the rest are operations so are all, and a fault of the rest is that of all
pub record Follows (whole rest : Result (List Operation) OperationFault) : Type 0 where
  pub good : (others : List Operation) → rest ≡ Ok others → (all : List Operation) × (whole ≡ Ok all)
  pub bad : (fault : OperationFault) → rest ≡ Err fault → whole ≡ Err fault

pub begins : (count : ℕ) (bytes : List ℕ) → Follows (operations_from 0 (values_from count bytes)) (operations_from 0 (values_from (count - 0) bytes))
begins count bytes =
    let e : count - 0 ≡ count = omega arith in
    rw e (record { good = λ others e. (others, e); bad = λ fault e. e })

-- the operation that stands first, and the others
pub one_more : (place count : ℕ) (bytes : List ℕ) → place < count
    → operations_from place (values_from (count - place) bytes)
    ≡ cond (ltb place max_operations) (operation_and_others place (operation_in (first_value bytes)) (operations_from (place + 1) (values_from (count - (place + 1)) (after_value bytes))))
    (Err (record { place = place; fault = BadArgument }))
one_more place count bytes below =
    let more : count - place ≡ suc (count - (place + 1)) = omega arith in
    let next : suc place ≡ place + 1 = omega arith in
    rw (more, ← next) refl

pub one_too_many : (place count : ℕ) (bytes : List ℕ) (whole : Result (List Operation) OperationFault) → place < count → max_operations ≤ place
    → Follows whole (operations_from place (values_from (count - place) bytes)) → whole ≡ Err (record { place = place; fault = BadArgument })
one_too_many place count bytes whole below many all =
    let known : ltb place max_operations ≡ false = le-ltb place max_operations many in
    all.bad (record { place = place; fault = BadArgument }) (one_more place count bytes below ∙ rw known refl)

pub faulty : (place count : ℕ) (bytes operation : List ℕ) (fault : ShapeFault) (whole : Result (List Operation) OperationFault) → place < count → place < max_operations
    → operation ≡ first_value bytes → operation_in operation ≡ Err fault
    → Follows whole (operations_from place (values_from (count - place) bytes)) → whole ≡ Err (record { place = place; fault = fault })
faulty place count bytes operation fault whole below few first told all =
    let known : ltb place max_operations ≡ true = lt-ltb place max_operations few in
    all.bad (record { place = place; fault = fault }) (one_more place count bytes below ∙ rw (known, ← first, told) refl)

one_passed : (whole rest : Result (List Operation) OperationFault) (place : ℕ) (operation : Operation) → Follows whole (operation_and_others place (Ok operation) rest) → Follows whole rest
one_passed whole (Ok all) place operation follows = record { good = λ others e. follows.good (operation ∷ all) refl; bad = λ fault e. absurd cc }
one_passed whole (Err fault) place operation follows = record { good = λ others e. absurd cc; bad = λ other e. follows.bad other e }

pub passes : (place count : ℕ) (bytes spelling rest : List ℕ) (operation : Operation) (whole : Result (List Operation) OperationFault) → place < count → place < max_operations
    → spelling ≡ first_value bytes → rest ≡ after_value bytes → operation_in spelling ≡ Ok operation
    → Follows whole (operations_from place (values_from (count - place) bytes)) → Follows whole (operations_from (place + 1) (values_from (count - (place + 1)) rest))
passes place count bytes spelling rest operation whole below few first after told all =
    let known : ltb place max_operations ≡ true = lt-ltb place max_operations few in
    let rest_is : operations_from place (values_from (count - place) bytes)
    ≡ operation_and_others place (Ok operation) (operations_from (place + 1) (values_from (count - (place + 1)) rest)) =
    one_more place count bytes below ∙ rw (known, ← first, ← after, told) refl in
    one_passed whole (operations_from (place + 1) (values_from (count - (place + 1)) rest)) place operation (subst (Follows whole) rest_is all)

-- where none is left all are operations
pub ends : (place count : ℕ) (bytes : List ℕ) (whole : Result (List Operation) OperationFault) → count ≤ place
    → Follows whole (operations_from place (values_from (count - place) bytes)) → (all : List Operation) × (whole ≡ Ok all)
ends place count bytes whole none all =
    let e : count - place ≡ 0 = omega arith in
    all.good [] (rw e refl)
