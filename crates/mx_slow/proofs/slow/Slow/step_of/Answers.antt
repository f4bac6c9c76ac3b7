use Rattle.std.proofs.Common.{sym, ap, ◌∙◌, subst}
use Rattle.std.specs.List.{AllZip}
use Rattle.mx_model.specs.Overlaps.{standing, state_after_first, statements_in}
use Rattle.mx_model.specs.RunAlone.{run_alone}
use Rattle.mx_slow.specs.Slow.{KeepsStep, RunStands}
use Rattle.mx_slow.proofs.SlowRunLaws.{statement_writes}
use Rattle.mx_slow.proofs.slow.Slow.step_of.Goals as goal

pub returns : goal.returns
returns c = λ streams one statement is keeps states.
    let base = streams.base.state in
    let ids = streams.base.ids in
    let (place, within) = c.place_read-place.ensures streams one is keeps in
    let steps = subst (λ l. AllZip KeepsStep l one.steps) (sym c.as_slice.ensures.value) keeps.steps in
    let ran = c.in_ok-run.ensures streams one.steps is within steps in
    let stands = subst (λ n. RunStands c.in_ok-run.run' (state_after_first base streams.journal n) (run_alone ids (state_after_first base streams.journal n) (statements_in one.steps))) place ran in
    let writes = c.is_write.ensures c.args.request.now c.kind.ensures ∙ sym (statement_writes c.args.request.now statement states) in
    let how = c.in_ok-standing.ensures streams one is keeps ∙ ap (λ w. standing ids base streams.journal w one) writes in
    c.step_told.ensures streams one statement is states stands how
