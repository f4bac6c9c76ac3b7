use Rattle.mx_completion.proofs.CutPairLaws.{value_cut, value_never, value_whole}
use Rattle.mx_completion.proofs.pairs.next_value.Goals as goal

pub returns-in-Whole : goal.returns-in-Whole
returns-in-Whole c =
    value_whole c.args.key.now c.args.behind.now c.requires c.in-Whole.size c.split_at.result.1.now (rw c.in-Whole.is at c.value_completion.ensures.completes) c.split_at.ensures.back

pub returns-in-Missing : goal.returns-in-Missing
returns-in-Missing c =
    value_cut c.args.key.now c.args.behind.now c.requires c.in-Missing.least c.unsigned_in.result (rw c.in-Missing.is at c.value_completion.ensures.completes) c.unsigned_in.ensures

pub returns-in-Impossible : goal.returns-in-Impossible
returns-in-Impossible c = value_never c.args.key.now c.args.behind.now c.requires (rw c.in-Impossible.is at c.value_completion.ensures.completes)
