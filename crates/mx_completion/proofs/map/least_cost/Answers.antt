use Rattle.std.proofs.Common.{◌∙◌, arith, length, take}
use Rattle.std.proofs.Math.ListN.{length-set}
use Rattle.std.specs.Option.{option_map}
use Rattle.mx_msgpack.specs.Maps.{pairs_from}
use Rattle.mx_completion.proofs.ChoiceLaws.{choices_all, choices_more, least_is, none_so}
use Rattle.mx_completion.proofs.map.least_cost.Goals as goal

pub returns-in_err-begun : goal.returns-in_err-begun
returns-in_err-begun c =
    rw c.from_residual.ensures (none_so c.args.most c.args.fields.now c.args.bytes.now (rw c.in_err-begun.was at c.begun_map.ensures))

pub loop-place-preserved : goal.loop-place-preserved
loop-place-preserved c = record {
  long = length-set c.loop-place.choices c.loop-place.place c.choice_of.result ∙ c.loop-place.invariant.long;
  each =
      choices_more c.args.most (pairs_from c.in_ok-begun.begun.count c.in_ok-begun.begun.pairs.now) (option_map (λ cut. (cut.0, cut.1.now)) c.in_ok-begun.begun.cut) c.args.fields.now
      c.loop-place.choices c.loop-place.place _ c.choice_of.result c.loop-place-test.true (omega (arith, c.loop-place.invariant.long)) c.loop-place.invariant.each c.choice_of.ensures;
}

pub returns : goal.returns
returns c =
    let stands = pairs_from c.in_ok-begun.begun.count c.in_ok-begun.begun.pairs.now in
    let choices = take (length c.args.fields.now) c.loop-place.choices in
    rw c.least_sum.ensures
    (least_is c.args.most c.args.fields.now c.args.bytes.now (pairs_from c.in_ok-begun.begun.count c.in_ok-begun.begun.pairs.now) c.in_ok-begun.begun.free choices c.requires.keys
    (option_map (λ cut. (cut.0, cut.1.now)) c.in_ok-begun.begun.cut)
    (rw c.in_ok-begun.was at c.begun_map.ensures)
    (choices_all c.args.most stands (option_map (λ cut. (cut.0, cut.1.now)) c.in_ok-begun.begun.cut) c.args.fields.now c.loop-place.choices c.loop-place.place c.loop-place-test.false
    c.loop-place.auto.place-end c.loop-place.invariant.each))
