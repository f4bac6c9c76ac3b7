use Rattle.std.proofs.Common.{◌≡◌, ◌++◌, [], ◌∷◌, ◌/◌, ◌^◌, ◌<◌, ℕ, List, sym, subst, ap, ◌∙◌, arith}
use Rattle.byteorder.specs.Endian.{big_bytes}
use Rattle.mx_msgpack.specs.Writing.{Fits64}
use Rattle.mx_key.specs.Comparable.{part_bytes, number_above_least}
use Rattle.mx_key.specs.Keys.{Integer}
use Rattle.mx_key.proofs.FitLaws.{wide_kept}
use Rattle.mx_key.proofs.DigitLaws.{nine_bytes}
use Rattle.mx_key.proofs.writing.write_number.Goals as goal

pub returns : goal.returns
returns c = λ fits.
    let passed = wide_kept c.args.number fits in
    let above = c.number_above_least-above.ensures.exact (subst Fits64 (sym passed) fits) ∙ ap number_above_least passed in
    let x = c.number_above_least-above.result in
    let few : x < 2 ^ 72 = omega (arith, c.number_above_least-above.ensures.fits) in
    let spelled : 3 ∷ x / 2 ^ 64 ∷ (c.write_u64.new.buf ++ []) ≡ part_bytes (Integer c.args.number) =
    ap (λ (l : List ℕ). 3 ∷ x / 2 ^ 64 ∷ (l ++ [])) c.write_u64.ensures
    ∙ ap (λ (l : List ℕ). 3 ∷ l) (nine_bytes x few)
    ∙ ap (λ (y : ℕ). 3 ∷ big_bytes 9 y) above in
    c.in_ok-extend_from_slice.ensures ∙ (λ i. c.in_ok-reserve.ensures i ++ spelled i)
