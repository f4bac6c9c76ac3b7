use Rattle.std.proofs.Common.{◌≡◌, ◌∙◌, ap, arith, to_z, of_z, SFits, pos, inl, inr}
use Rattle.std.specs.Int.{w128, FitsUnsigned, w64}
use Rattle.std.specs.Prelude.{Ok}
use Rattle.std.specs.Result.{OkIff}
use Rattle.std.proofs.lemmas.Int.{ints, to_z-of_z}
use Rattle.std.proofs.lemmas.Result.{Ok-from_Ok_iff}
use Rattle.mx_msgpack.specs.Reading.{ShownInt}
use Rattle.mx_msgpack.proofs.NumberLaws.{number_fits}
use Rattle.mx_msgpack.proofs.UnsignedLaws.{none_below}
use Rattle.mx_msgpack.proofs.readers.unsigned_read.Goals as goal

-- a number of 0 or more that stands in bytes fits
pub returns-in-Err : goal.returns-in-Err
returns-in-Err c =
    let s = c.in-Ok-Int-default.ensures.spelled in
    let number = c.in-Ok-Int-default.number in
    let size = c.in-Ok-Int-default.size in
    elim (number_fits c.args.bytes.now size number s.1 (λ i. omega (arith, c.type_inv.bytes i)) s.2 (rw c.in-Ok-Int-default.field-0-0-is at s.3)) [
      | inl (n, is, below) ↦
          let fits : SFits w128 (pos n) = omega (arith, ints) in
          let same : to_z w128 (of_z w128 number) ≡ pos n = ap (λ z. to_z w128 (of_z w128 z)) is ∙ to_z-of_z w128 (pos n) fits in
          let told : OkIff c.try_from.result (FitsUnsigned w64 (pos n)) n = rw same at c.try_from.ensures in
          let room : FitsUnsigned w64 (pos n) = omega (arith, ints) in
          let there : c.try_from.result ≡ Ok n = Ok-from_Ok_iff c.try_from.result (FitsUnsigned w64 (pos n)) n told room in
          absurd (cc (there, c.in-Err.is))
      | inr (n, is, below) ↦
          none_below c.args.bytes.now n size ((rw c.in-Ok-Int-default.field-0-0-is at c.in-Ok-Int-default.ensures.exact) ∙ ap (λ z. Ok (ShownInt z, size)) is)
    ]
