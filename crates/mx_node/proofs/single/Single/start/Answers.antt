use Rattle.std.proofs.Common.{refl}
use Rattle.std.proofs.lemmas.Result.{err_from_is_err_and}
use Rattle.mx_node.specs.Starts.{Start}
use Rattle.mx_node.proofs.single.Single.start.Goals as goal

pub returns-in_err-opened-clause-damaged : goal.returns-in_err-opened-clause-damaged
returns-in_err-opened-clause-damaged g c = λ damage is.
    let p = err_from_is_err_and c.from_residual.result c.from_residual.ensures.1 in
    let from = p.1 in
    let same = p.2 in
    let was = c.in_err-opened.was in
    c.open.ensures.damaged damage cc

pub returns-clause-serves : goal.returns-clause-serves
returns-clause-serves g c =
    let (base, based, stands, has) = c.in_ok-opened.ensures.opened in
    let start : Start = record { salt = c.args.salt.now; base = base } in (
      start,
      record { salted = refl; based = based },
      c.in_ok-over.ensures start (g.D.Dir.states c.open.new.dir) refl stands has,
    )
