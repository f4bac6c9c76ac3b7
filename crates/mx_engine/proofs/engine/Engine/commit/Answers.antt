use Rattle.std.proofs.lemmas.Bool.{ne_eqb}
use Rattle.mx_engine.proofs.engine.Engine.commit.Goals as goal

pub returns-clause-answers : goal.returns-clause-answers
returns-clause-answers c = λ streams found has all counts.
    let at = c.in-Some.ensures in
    c.commit_open.ensures.answers streams found has all counts at.apart (ne_eqb c.args.name.stream.0 0 c.if-name-eq0.false) (at.found streams has.transactions)
