use Rattle.std.proofs.Common.{refl}
use Rattle.std.proofs.lemmas.Result.{err_from_is_err_and}
use Rattle.mx_slow.proofs.slow.Slow.commit_told.Goals as goal

pub returns : goal.returns
returns c = λ streams change is made me last_is. (refl, c.in_ok-commit_write.ensures streams change is made me last_is)

pub returns-in_err-commit_write : goal.returns-in_err-commit_write
returns-in_err-commit_write c = λ streams change is made me last_is.
    let p = err_from_is_err_and c.from_residual.result c.from_residual.ensures.1 in
    rw p.1 (c.in_err-commit_write.ensures streams change is made me last_is)
