use Rattle.std.proofs.lemmas.Result.{err_from_is_err_and}
use Rattle.mx_msgpack.proofs.Shown.{head_fails}
use Rattle.mx_msgpack.proofs.value_ref.read_ref.Goals as goal

pub returns-in_err-head-clause-exact : goal.returns-in_err-head-clause-exact
returns-in_err-head-clause-exact c =
    let p = err_from_is_err_and c.from_residual.result c.from_residual.ensures.1 in
    rw (p.1, p.2) (head_fails c.args.bytes.now _ c.in_err-head.ensures.exact)
