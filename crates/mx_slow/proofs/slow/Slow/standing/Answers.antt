use Rattle.std.proofs.Common.{arith, ◌≤◌, ◌-◌, ◌||◌, drop, length, refl, sym, ap, ◌∙◌, subst}
use Rattle.std.specs.Prelude.{nat_le, ◌&&◌}
use Rattle.std.specs.List.{AllZip, list_any}
use Rattle.mx_slow.specs.declared.slow.transactions.SlowStep.{SlowStep}
use Rattle.mx_model.specs.Bases.{is_write}
use Rattle.mx_model.specs.Overlaps.{doomed_or_view, is_some_row}
use Rattle.mx_slow.specs.Slow.{KeepsStep}
use Rattle.mx_model.specs.Transactions.{is_schema_commit}
use Rattle.mx_slow.proofs.SlowStandingLaws.{active_where, one_less, overlapped_where, schema_since, written_since}
use Rattle.mx_slow.proofs.slow.Slow.standing.Goals as goal

pub returns-in_default : goal.returns-in_default
returns-in_default c = λ streams one is keeps.
    active_where streams.base.ids streams.base.state streams.journal c.args.is_write one (sym (c.in_default.ensures.found streams one is keeps).0)

pub returns : goal.returns
returns c = λ streams one is keeps.
    let base = streams.base.state in
    let number = c.in-Some.number in
    let (same, bounds) = c.in-Some.ensures.found streams one is keeps in
    let low : number - 1 ≤ length streams.journal = omega (arith, bounds) in
    let steps_are = c.as_slice-steps.ensures.value in
    let written = c.has_written_since-has_written.ensures ∙ ap (list_any (λ (step : SlowStep). nat_le number step.after && is_write step.request)) steps_are ∙ written_since number c.args.transaction.now.steps.items one.steps keeps.steps in
    let schema = c.has_schema_commit_since-has_schema.ensures ∙ schema_since base c.args.self.now.commits.items streams.journal (number - 1) is.commits
    ∙ ap (λ n. list_any is_schema_commit (drop n streams.journal)) (one_less number) in
    let ran = c.in_ok-run.ensures streams one.steps is low (subst (λ l. AllZip KeepsStep l one.steps) (sym steps_are) keeps.steps) in
    c.doomed_or_view.ensures
    ∙ ap (λ r. doomed_or_view (r || c.has_written_since-has_written.result || c.args.is_write || c.has_schema_commit_since-has_schema.result) (number - 1))
    (c.is_some_row-has_row.ensures ∙ ap is_some_row c.as_slice.ensures)
    ∙ overlapped_where streams.base.ids base streams.journal c.args.is_write one number (number - 1) c.in_ok-run.run'.rows c.has_written_since-has_written.result c.has_schema_commit_since-has_schema.result
    (sym same) refl ran.rows written schema
