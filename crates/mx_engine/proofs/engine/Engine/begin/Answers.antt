use Rattle.std.proofs.Common.{inl, refl}
use Rattle.std.proofs.lemmas.Bool.{ne_eqb}
use Rattle.std.proofs.lemmas.Result.{err_from_is_err_and}
use Rattle.mx_engine.proofs.OutcomeLaws.{begins_told, only_opened}
use Rattle.mx_engine.proofs.engine.Engine.begin.Goals as goal

pub returns-in_err-begin-clause-answers : goal.returns-in_err-begin-clause-answers
returns-in_err-begin-clause-answers c = λ streams found has all.
    let p = err_from_is_err_and c.from_residual.result c.from_residual.ensures.1 in
    rw (p.1, p.2) (inl (begins_told c.args.self.now _ streams c.args.name _ _ has (only_opened c.args.self.now c.begin.new.self) (ne_eqb c.args.name.stream.0 0 c.if-name-eq0.false)
    (c.in_err-begin.ensures streams has.transactions has.commits) refl))
