use Rattle.std.proofs.lemmas.Result.{err_from_is_err_and}
use Rattle.mx_msgpack.proofs.InnerSteps.{inner_measured}
use Rattle.mx_msgpack.proofs.ValueLaws.{measured_ok, measured_err}
use Rattle.mx_msgpack.proofs.size.measure_walked.Goals as goal

pub returns-in-Some : goal.returns-in-Some
returns-in-Some c = inner_measured c.args.bytes.now c.in-Some.rest.now c.in-Some.ensures.inner

pub returns-in_err-rest : goal.returns-in_err-rest
returns-in_err-rest c =
    let p = err_from_is_err_and c.from_residual.result c.from_residual.ensures.1 in
    rw (p.1, p.2) (measured_err c.args.bytes.now _ c.in_err-rest.ensures.exact)

pub returns : goal.returns
returns c = measured_ok c.args.bytes.now c.in_ok-rest.rest.now c.in_ok-rest.ensures.exact
