use Rattle.std.proofs.Common.{nat_cmp}
use Rattle.std.specs.BTreeMap.{get_by}
use Rattle.mx_slow_state.proofs.SlowMoveLaws.{one_moved}
use Rattle.mx_slow_state.proofs.slow_state.move_spaces.Goals as goal

pub loop-id-preserved-in_ok-insert : goal.loop-id-preserved-in_ok-insert
loop-id-preserved-in_ok-insert c =
    one_moved c.args.left.items c.loop-id.left.items c.pop.new.self.items c.in-Some.field-0 c.in_ok-move_space.field-0 (λ q. get_by (nat_cmp q) c.loop-id.spaces)
    (λ q. get_by (nat_cmp q) c.insert.new.self) c.in-Some.ensures.items c.in_ok-move_space.ensures c.in_ok-insert.ensures.updates.0 c.loop-id.invariant

pub loop-id-preserved : goal.loop-id-preserved
loop-id-preserved c =
    one_moved c.args.left.items c.loop-id.left.items c.pop.new.self.items c.in-Some.field-0 c.in_ok-move_space.field-0 (λ q. get_by (nat_cmp q) c.loop-id.spaces)
    (λ q. get_by (nat_cmp q) c.insert.new.self) c.in-Some.ensures.items c.in_ok-move_space.ensures c.in_ok-insert.ensures.updates.0 c.loop-id.invariant
