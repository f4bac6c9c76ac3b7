-- A value from its head on, and what is measured.
use Rattle.std.proofs.Common.{◌≡◌, ℕ, zero, suc, ◌-◌, List, length, Option, Some, None, Result, Ok, Err, refl, sym, ap, ◌∙◌}
use Rattle.mx_msgpack.specs.declared.bad.Bad.{Bad}
use Rattle.mx_msgpack.specs.declared.head.Head.{Head}
use Rattle.mx_msgpack.specs.Reading.{◌>>=◌, head_at, after_content, after_first, measured}
use Rattle.mx_msgpack.proofs.Results.{bind_ok, bind_err, ok_is}

-- how a container's values are read, where there is room for a container
abbrev pub inside_of : ℕ → ℕ → Option (List ℕ → Result (List ℕ) Bad)
inside_of total zero = None
inside_of total (suc room) = Some (after_first total room)

pub value_is : (total room : ℕ) (bytes : List ℕ)
    → after_first total room bytes ≡ (head_at (total - length bytes) bytes >>= λ head. after_content (inside_of total room) (total - length bytes) head.0 head.1)
unfolding after_first
value_is total zero bytes = refl
value_is total (suc room) bytes = refl

pub value_begins : (total room : ℕ) (bytes : List ℕ) (head : Head) (rest : List ℕ) → head_at (total - length bytes) bytes ≡ Ok (head, rest)
    → after_first total room bytes ≡ after_content (inside_of total room) (total - length bytes) head rest
value_begins total room bytes head rest e =
    value_is total room bytes
    ∙ ap (λ (r : Result (Head × List ℕ) Bad). r >>= λ head. after_content (inside_of total room) (total - length bytes) head.0 head.1) e

-- ---- what is measured

pub measured_ok : (bytes rest : List ℕ) → after_first (length bytes) 64 bytes ≡ Ok rest → Ok (length bytes - length rest) ≡ measured bytes
unfolding measured
measured_ok bytes rest e = sym (ap (λ (r : Result (List ℕ) Bad). r >>= λ x. Ok (length bytes - length x)) e)

pub measured_err : (bytes : List ℕ) (bad : Bad) → after_first (length bytes) 64 bytes ≡ Err bad → Err bad ≡ measured bytes
unfolding measured
measured_err bytes bad e = sym (ap (λ (r : Result (List ℕ) Bad). r >>= λ x. Ok (length bytes - length x)) e)

pub read_ok : (bytes : List ℕ) (size : ℕ) → measured bytes ≡ Ok size
    → (rest : List ℕ) × (after_first (length bytes) 64 bytes ≡ Ok rest) × (length bytes - length rest ≡ size)
unfolding measured
read_ok bytes size e =
    let b = bind_ok (after_first (length bytes) 64 bytes) (λ rest. Ok (length bytes - length rest)) size e in
    (b.0, b.1, ok_is (length bytes - length b.0) size b.2)

pub read_err : (bytes : List ℕ) (bad : Bad) → measured bytes ≡ Err bad → after_first (length bytes) 64 bytes ≡ Err bad
unfolding measured
read_err bytes bad e = bind_err (after_first (length bytes) 64 bytes) (λ rest. length bytes - length rest) bad e
