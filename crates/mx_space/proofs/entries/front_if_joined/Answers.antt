use Rattle.mx_entries.proofs.SplitLaws.{other_front, other_rest}
use Rattle.mx_space.proofs.entries.front_if_joined.Goals as goal

pub returns-then-ne : goal.returns-then-ne
returns-then-ne c =
    other_front c.args.whole.now c.args.first.now c.args.second.now c.split_at.result.0.now c.split_at.result.1.now c.split_at.ensures.front c.split_at.ensures.back
    c.ne.result c.ne.ensures c.if-ne.true

pub returns-then-ne-2 : goal.returns-then-ne-2
returns-then-ne-2 c =
    other_rest c.args.whole.now c.args.first.now c.args.second.now c.split_at.result.0.now c.split_at.result.1.now c.split_at.ensures.front c.split_at.ensures.back
    c.ne-2.result c.ne-2.ensures c.if-ne-2.true
