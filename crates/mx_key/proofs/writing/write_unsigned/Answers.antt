use Rattle.std.proofs.Common.{rules, ◌≡◌, ◌++◌, ◌<◌, ◌^◌, ap, sym, subst, ◌∙◌, Some, None, to_z, of_z}
use Rattle.std.specs.Prelude.{ℤ, pos}
use Rattle.std.specs.Int.{w128}
use Rattle.mx_msgpack.specs.Writing.{Fits64}
use Rattle.mx_key.specs.Comparable.{part_bytes}
use Rattle.mx_key.specs.Keys.{Integer}
use Rattle.mx_key.proofs.FitLaws.{wide_kept}
use Rattle.mx_key.proofs.PlaceLaws.{unsigned_first}
use Rattle.mx_key.proofs.writing.write_unsigned.Goals as goal

pub returns-in_default : goal.returns-in_default
returns-in_default c = sym (unsigned_first c.args.bytes.now None c.in_default.ensures).part

pub returns : goal.returns
returns c =
    let first = unsigned_first c.args.bytes.now (Some (c.in-Some.number, c.in-Some.after.now)) c.in-Some.ensures in
    let below : c.in-Some.number < 2 ^ 64 = search rules in
    let passed : to_z w128 (of_z w128 c.from.result) ≡ pos c.in-Some.number =
    ap (λ (z : ℤ). to_z w128 (of_z w128 z)) c.from.ensures ∙ wide_kept (pos c.in-Some.number) below in
    let written = c.in_ok-write_number.ensures (subst Fits64 (sym passed) below) in
    (Integer (pos c.in-Some.number), sym first.part, below, first.after, written ∙ ap (λ (z : ℤ). c.args.out.now ++ part_bytes (Integer z)) passed)
