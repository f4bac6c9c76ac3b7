use Rattle.std.proofs.Common.{◌≡◌, ◌∙◌, ap, length, arith}
use Rattle.std.proofs.lemmas.List.{length-map}
use Rattle.mx_msgpack.proofs.InnerLaws.{are_values}
use Rattle.mx_msgpack.proofs.PassLaws.{none_under}
use Rattle.mx_msgpack.proofs.lookup.values_at.Goals as goal

pub returns-in-Some-clause-whole : goal.returns-in-Some-clause-whole
returns-in-Some-clause-whole c = are_values c.args.keys.now c.args.bytes.now _ c.in-Some.ensures.values

pub returns : goal.returns
returns c =
    let long : length c.values_before.new.values ≡ length c.args.keys.now =
    omega (arith, c.values_before.auto.values, simp length-map at (ap length c.requires)) in
    let none = c.clear.ensures ∙ none_under c.args.keys.now c.args.bytes.now c.values_before.new.values c.in_default.ensures.rest long in
    record {
      rest = c.in_default.ensures.rest;
      values = none;
      whole = are_values c.args.keys.now c.args.bytes.now _ none;
    }
