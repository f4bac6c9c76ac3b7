use Rattle.std.proofs.Common.{rules, subst, ◌++◌}
use Rattle.mx_turn.specs.Counting.{IsSum}
use Rattle.mx_turn.proofs.CountingLaws.{closed_sum}
use Rattle.mx_turn.proofs.counter.sum_of_both.Goals as goal

pub returns : goal.returns
returns g c = let d = c.close.ensures in let v = c.add_both-seat.result.me.0 in
    closed_sum c.args.start c.close.result.sum c.args.first c.args.second v d.since c.add_both-seat.ensures.all (subst (λ b. IsSum b c.close.result.sum (d.since ++ v.seen)) (search rules) d.stands) d.entries
