use Rattle.std.proofs.Common.{ap, ◌∙◌}
use Rattle.mx_model.specs.RunAlone.{answer_in_run}
use Rattle.mx_slow.specs.Slow.{standing_view, told_standing}
use Rattle.mx_slow_state.specs.SlowState.{HasAnswer}
use Rattle.mx_slow.proofs.SlowStreamLaws.{answer_is}
use Rattle.mx_slow.proofs.slow.statement.reply_after.Goals as goal

pub returns : goal.returns
returns c = λ before ran statement stands states.
    let answer = c.in-Some.answer in
    let has : HasAnswer answer ran.state statement.space (answer_in_run c.args.ids.now ran statement)
    = answer_is c.args.request.now statement states answer (λ s. HasAnswer answer ran.state s.space (answer_in_run c.args.ids.now ran s))
    (rw c.in-Some.is at (c.in_ok-answer.ensures before ran stands)) in
    c.told.ensures ∙ ap (told_standing (standing_view c.args.standing)) has.reply
