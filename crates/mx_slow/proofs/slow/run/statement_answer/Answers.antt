use Rattle.std.proofs.Common.{sym, ◌∙◌}
use Rattle.mx_slow.proofs.SlowRunLaws.{answer_refused, answer_taken}
use Rattle.mx_slow.proofs.slow.run.statement_answer.Goals as goal

pub returns-then-refuses : goal.returns-then-refuses
returns-then-refuses c = λ before is. answer_refused c.args.ids.now before c.args.request.now (sym c.refuses.ensures ∙ c.if-refuses.true)

pub returns : goal.returns
returns c = λ before is.
    answer_taken c.args.ids.now before c.args.request.now c.answer.result (sym c.refuses.ensures ∙ c.if-refuses.false) (c.answer.ensures before is)
