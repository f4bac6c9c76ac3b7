use Rattle.std.proofs.Common.{◌∙◌, None, ap, map, refl, sym, arith}
use Rattle.std.specs.Option.{option_copied}
use Rattle.std.proofs.lemmas.List.{take_all}
use Rattle.mx_msgpack.proofs.LookupLaws.{cleared_more}
use Rattle.mx_msgpack.proofs.lookup.clear.Goals as goal

pub loop-place-preserved : goal.loop-place-preserved
loop-place-preserved c =
    cleared_more option_copied None c.loop-place.values c.args.values.now c.loop-place.place refl c.loop-place.auto.values c.loop-place-test.true c.loop-place.invariant

pub returns : goal.returns
returns c =
    ap (map option_copied) (sym (take_all c.loop-place.place c.loop-place.values (omega (arith, c.loop-place.auto.values, c.loop-place-test.false))))
    ∙ c.loop-place.invariant ∙ ap (map (λ value. None)) (take_all c.loop-place.place c.args.values.now c.loop-place-test.false)
