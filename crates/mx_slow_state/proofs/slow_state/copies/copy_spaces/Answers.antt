use Rattle.mx_slow_state.proofs.SlowCopyLaws.{all_copied, none_copied, one_copied}
use Rattle.mx_slow_state.proofs.slow_state.copies.copy_spaces.Goals as goal

pub loop-id-init : goal.loop-id-init
loop-id-init c =
    none_copied c.new-copy.result.entries c.into_iter-id-iterator.result c.args.spaces.now.entries c.new-copy.ensures.empty
    c.into_iter-id-iterator.ensures.into_iter_gives.0 c.into_iter-id-iterator.ensures.into_iter_gives.5

pub loop-id-preserved : goal.loop-id-preserved
loop-id-preserved c =
    one_copied c.loop-id.copy.entries c.loop-id.id-iterator c.next.new.self c.insert.new.self.entries c.args.spaces.now.entries c.in-Some.id.now c.in_ok-copy_space.field-0 c.in-Some.space.now
    c.in-Some.ensures.steps c.in_ok-copy_space.ensures c.in_ok-insert.ensures.entries c.loop-id.invariant

pub loop-id-preserved-in_ok-insert : goal.loop-id-preserved-in_ok-insert
loop-id-preserved-in_ok-insert c =
    one_copied c.loop-id.copy.entries c.loop-id.id-iterator c.next.new.self c.insert.new.self.entries c.args.spaces.now.entries c.in-Some.id.now c.in_ok-copy_space.field-0 c.in-Some.space.now
    c.in-Some.ensures.steps c.in_ok-copy_space.ensures c.in_ok-insert.ensures.entries c.loop-id.invariant

pub returns : goal.returns
returns c = all_copied c.loop-id.copy.entries c.loop-id.id-iterator c.args.spaces.now.entries c.in-None.ensures.steps.0 c.loop-id.invariant
