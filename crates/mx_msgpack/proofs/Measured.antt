-- What is measured is a value's length, and each value is measured.
use Rattle.std.proofs.Common.{◌≡◌, ℕ, ◌-◌, ◌≤◌, List, ◌++◌, length, take, drop, Result, Ok, Err, sym, ap, ◌∙◌, arith}
use Rattle.std.specs.Prelude.{IfOk}
use Rattle.std.proofs.lemmas.List.{take_at, take-append-drop, length-append, length-drop}
use Rattle.mx_msgpack.specs.declared.bad.Bad.{Bad}
use Rattle.mx_msgpack.specs.Grammar.{Value, Spells, max_nesting}
use Rattle.mx_msgpack.specs.Reading.{after_first, measured}
use Rattle.mx_msgpack.proofs.ValueLaws.{measured_ok, read_ok}
use Rattle.mx_msgpack.proofs.GrammarLaws.{value_spelled, value_again}

-- the bytes before a rest
pub front_is : (bytes front rest : List ℕ) (size : ℕ) → bytes ≡ front ++ rest → length bytes - length rest ≡ size → take size bytes ≡ front
front_is bytes front rest size e n =
    let len : length front ≡ size = omega (arith, length-append front rest, ap length e) in
    rw e (take_at front rest size len)

pub size_spelled : (bytes : List ℕ) (size : ℕ) → measured bytes ≡ Ok size → (size ≤ length bytes) × (value : Value) × Spells max_nesting value (take size bytes)
size_spelled bytes size e =
    let r = read_ok bytes size e in
    let v = value_spelled (length bytes) 64 bytes r.0 r.1 in
    (omega (arith, r.2), v.0, rw (front_is bytes v.1 r.0 size v.2 r.2) v.3)

pub measured_spelled : (bytes : List ℕ) (answer : Result ℕ Bad) → answer ≡ measured bytes
    → IfOk answer (λ size. (size ≤ length bytes) × (value : Value) × Spells max_nesting value (take size bytes))
measured_spelled bytes (Ok size) e = size_spelled bytes size (sym e)
measured_spelled bytes (Err bad) e = tt

pub measured_only : (bytes : List ℕ) (value : Value) (size : ℕ) → size ≤ length bytes → Spells max_nesting value (take size bytes) → measured bytes ≡ Ok size
measured_only bytes value size le s =
    let again = value_again (length bytes) 64 value (take size bytes) (drop size bytes) s in
    let read : after_first (length bytes) 64 bytes ≡ Ok (drop size bytes) = ap (λ (x : List ℕ). after_first (length bytes) 64 x) (sym (take-append-drop size bytes)) ∙ again in
    let n : length bytes - length (drop size bytes) ≡ size = omega (arith, length-drop size bytes) in
    sym (measured_ok bytes (drop size bytes) read) ∙ ap Ok n
