-- A value that stands in a container: it is read there, and alone, as it is spelled.
use Rattle.std.proofs.Common.{◌≡◌, ℕ, ◌-◌, List, length, Option, Some, None, Result, Ok, Err, refl, ap, ◌∙◌}
use Rattle.std.specs.Result.{result_ok}
use Rattle.mx_msgpack.specs.declared.size.Inside.{Inside}
use Rattle.mx_msgpack.specs.declared.bad.Bad.{Bad}
use Rattle.mx_msgpack.specs.Reading.{◌>>=◌, after_first, measured}
use Rattle.mx_msgpack.specs.Steps.{after_inner, step_over}
use Rattle.mx_msgpack.proofs.FrontLaws.{roomier}
use Rattle.mx_msgpack.proofs.GrammarLaws.{value_again, value_spelled}
use Rattle.mx_msgpack.proofs.Options.{same_some}
use Rattle.mx_msgpack.proofs.Stack.{after_step, value_steps}
use Rattle.mx_msgpack.proofs.ValueLaws.{inside_of, measured_ok}

pub found_ok : {X : Type 0} (r : Result X Bad) (x : X) → result_ok r ≡ Some x → r ≡ Ok x
found_ok (Ok y) x e = ap (λ z. Ok z) (same_some y x e)
found_ok (Err bad) x e = absurd cc

-- it is read so whatever its place
pub anywhere : (total other : ℕ) (bytes rest : List ℕ) → after_first total 63 bytes ≡ Ok rest → after_first other 63 bytes ≡ Ok rest
anywhere total other bytes rest e =
    let v = value_spelled total 63 bytes rest e in
    ap (after_first other 63) v.2 ∙ value_again other 63 v.0 v.1 rest v.3

pub found_inner : (total : ℕ) (bytes rest : List ℕ) → after_first total 63 bytes ≡ Ok rest → after_inner bytes ≡ Some rest
found_inner total bytes rest e = ap result_ok (anywhere total 0 bytes rest e)

pub inner_found : (total : ℕ) (bytes rest : List ℕ) → after_inner bytes ≡ Some rest → after_first total 63 bytes ≡ Ok rest
inner_found total bytes rest e = anywhere 0 total bytes rest (found_ok (after_first 0 63 bytes) rest e)

-- none is found at one place where there is none at another
pub none_inner : (total : ℕ) (bytes : List ℕ) (bad : Bad) → after_first total 63 bytes ≡ Err bad → after_inner bytes ≡ None
none_inner total bytes bad e = by_read (after_first 0 63 bytes) refl
  where
    by_read : (read : Result (List ℕ) Bad) → after_first 0 63 bytes ≡ read → result_ok read ≡ None
    by_read (Ok rest) is = let other = anywhere 0 total bytes rest is in absurd cc
    by_read (Err other) is = refl

-- a value without values inside
pub plain_inner : (bytes rest : List ℕ) → ((at : ℕ) → step_over at bytes ≡ Ok (None, rest)) → after_inner bytes ≡ Some rest
plain_inner bytes rest s =
    ap result_ok
    (value_steps 0 63 bytes
    ∙ ap (λ (r : Result (Option Inside × List ℕ) Bad). r >>= λ x. after_step (inside_of 0 63) (0 - length bytes) x.0 x.1) (s (0 - length bytes)))

-- it is measured too where it stands alone
pub inner_measured : (bytes rest : List ℕ) → after_inner bytes ≡ Some rest → Ok (length bytes - length rest) ≡ measured bytes
inner_measured bytes rest e =
    let total = length bytes in
    let v = value_spelled 0 63 bytes rest (inner_found 0 bytes rest e) in
    measured_ok bytes rest (ap (after_first total 64) v.2 ∙ value_again total 64 v.0 v.1 rest (roomier 63 v.0 v.1 v.3))
