use Rattle.std.proofs.Common.{◌≡◌, refl, ap, ◌∙◌}
use Rattle.std.specs.List.{list_any}
use Rattle.std.proofs.lemmas.Result.{err_from_is_err_and}
use Rattle.mx_slow.specs.declared.slow.Slow.{Slow}
use Rattle.mx_slow.specs.declared.slow.SlowCommit.{SlowCommit}
use Rattle.mx_model.specs.Transactions.{is_schema_row}
use Rattle.mx_slow.proofs.SlowStreamLaws.{installed, same_kept}
use Rattle.mx_slow.proofs.slow.Slow.install.Goals as goal

pub returns : goal.returns
returns c = λ streams plain row rows is stands rows_are me last_is.
    let old = c.args.self.now in
    let run = c.args.run in
    let coded : SlowCommit = record { state = run.state; touched = run.touched; is_schema = c.has_schema_row-is_schema.result } in
    let new : Slow = record old { clock = c.set.new.self; commits = c.push.new.self } in
    let schema : c.has_schema_row-is_schema.result ≡ list_any is_schema_row run.rows = c.has_schema_row-is_schema.ensures ∙ ap (list_any is_schema_row) c.as_slice.ensures in
    installed old new streams coded plain run row rows c.args.last is stands rows_are me last_is refl refl schema refl c.set.ensures refl c.in_ok-push.ensures.items refl

pub returns-in_err-push : goal.returns-in_err-push
returns-in_err-push c = λ streams plain row rows is stands rows_are me last_is.
    let p = err_from_is_err_and c.from_residual.result c.from_residual.ensures.1 in
    rw (p.1, p.2) (same_kept c.args.self.now (record c.args.self.now { commits = c.push.new.self }) streams is refl refl refl c.in_err-push.ensures.items refl)
