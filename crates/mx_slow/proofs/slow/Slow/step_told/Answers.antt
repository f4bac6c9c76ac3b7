use Rattle.std.proofs.Common.{◌≡◌, length, ap, ◌∙◌, subst}
use Rattle.mx_model.specs.declared.ids.Ids.{Ids}
use Rattle.mx_model.specs.Overlaps.{TransactionStep, statements_in}
use Rattle.mx_model.specs.RunAlone.{answer_alone, answer_in_run, run_alone, writes}
use Rattle.mx_slow.specs.Slow.{standing_view, told_standing}
use Rattle.mx_model.specs.Streams.{standing_now, state_read}
use Rattle.mx_model.specs.statements.Answer.{Answer}
use Rattle.mx_slow.proofs.SlowStreamLaws.{states_told}
use Rattle.mx_slow.proofs.slow.Slow.step_told.Goals as goal

pub returns : goal.returns
returns c = λ streams one statement is states stands how.
    let ids = streams.base.ids in
    let run = run_alone ids (state_read streams one) (statements_in one.steps) in
    let plain : Answer = answer_alone ids (state_read streams one) statement (statements_in one.steps) in
    let demanded = standing_now streams (writes statement.operation) one in
    let told : c.in_ok-reply.reply ≡ told_standing (standing_view c.args.standing) plain.reply
    = subst (λ (i : Ids). c.in_ok-reply.reply ≡ told_standing (standing_view c.args.standing) (answer_in_run i run statement).reply) is.ids
    (c.in_ok-reply.ensures (state_read streams one) run statement stands states) in
    let step : TransactionStep = record { statement = statement; after = length streams.journal; reply = told_standing demanded plain.reply; reads = plain.reads } in
    record {
      step = step;
      keeps = c.in_ok-step.ensures streams run statement (told_standing demanded plain.reply) is stands.state states;
      reply = told ∙ ap (λ h. told_standing h plain.reply) how;
      goes = states_told streams statement plain demanded;
    }
