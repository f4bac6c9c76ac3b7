use Rattle.std.proofs.Common.{rules, ◌≡◌, ◌<◌, length, refl, ap, ◌∙◌, get_or}
use Rattle.mx_schema.specs.Stored.{stored_list}
use Rattle.mx_schema.proofs.StoredLaws.{none_indexed}
use Rattle.mx_slow_state.proofs.SlowLaws.{one_listed, all_listed}
use Rattle.mx_slow_state.proofs.slow_state.index_tuples.Goals as goal

pub loop-one-init : goal.loop-one-init
loop-one-init c = λ all keeps.
    none_indexed c.args.def.now all (stored_list c.new-indexed.result.items) (stored_list c.args.kept.now) (stored_list c.args.kept.now)
    (ap stored_list c.new-indexed.ensures.items) refl keeps

pub loop-one-preserved : goal.loop-one-preserved
loop-one-preserved c = λ all keeps.
    let one = c.one-item.result in
    let within : c.loop-one.one-index < length c.args.kept.now = search rules in
    let is : one ≡ get_or c.args.kept.now c.loop-one.one-index one = search rules in
    one_listed c.args.def.now all c.args.kept.now c.loop-one.one-index one c.loop-one.indexed.items c.put.new.kept.items c.in_ok-keyed.keyed within is
    (λ first fit told. rw c.as_slice-in-loop-one.ensures at (c.in_ok-keyed.ensures first fit (c.as_slice.ensures ∙ told)))
    c.in_ok-put.ensures (c.loop-one.invariant all keeps)

pub returns : goal.returns
returns c = λ all keeps.
    all_listed c.args.def.now all c.args.kept.now c.loop-one.one-index c.loop-one.indexed.items c.loop-one-test.false (c.loop-one.invariant all keeps)
