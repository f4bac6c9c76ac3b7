use Rattle.std.proofs.Common.{◌∙◌}
use Rattle.std.proofs.lemmas.Result.{err_from_is_err_and}
use Rattle.mx_msgpack.proofs.ValueLaws.{measured_ok, measured_err}
use Rattle.mx_msgpack.proofs.Stack.{first_fails, first_ends}
use Rattle.mx_msgpack.proofs.StepLaws.{headed_steps}
use Rattle.mx_msgpack.proofs.size.measure_behind.Goals as goal

pub returns-in_err-inside : goal.returns-in_err-inside
returns-in_err-inside c =
    let p = err_from_is_err_and c.from_residual.result c.from_residual.ensures.1 in
    rw (p.1, p.2)
    (measured_err c.args.bytes.now _
    (first_fails c.args.bytes.now _ (headed_steps 0 c.args.bytes.now c.args.head c.args.rest.now c.requires.head ∙ c.in_err-inside.ensures.exact)))

pub returns-in-None : goal.returns-in-None
returns-in-None c =
    measured_ok c.args.bytes.now c.in_ok-inside.after.now
    (first_ends c.args.bytes.now c.in_ok-inside.after.now
    (headed_steps 0 c.args.bytes.now c.args.head c.args.rest.now c.requires.head ∙ rw c.in-None.is at c.in_ok-inside.ensures.exact))
