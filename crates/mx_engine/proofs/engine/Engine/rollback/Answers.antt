use Rattle.std.proofs.Common.{inl}
use Rattle.std.proofs.lemmas.Bool.{ne_eqb}
use Rattle.mx_engine.proofs.OutcomeLaws.{only_opened, rolls_back, rolls_nothing_back}
use Rattle.mx_engine.proofs.engine.Engine.rollback.Goals as goal
use Rattle.mx_engine.proofs.engine.Engine.rollback.Goals.{in-Some, in_default}

pub returns-clause-answers : goal.returns-clause-answers
returns-clause-answers c = λ streams found has all.
    let stream = ne_eqb c.args.name.stream.0 0 c.if-name-eq0.false in
    elim c.match-find.branch [
      | in-Some w ↦ rw w.self-is (inl (rolls_back c.args.self.now _ streams c.args.name has (only_opened c.args.self.now w.end.new.self) stream (w.end.ensures.left streams has.transactions)))
      | in_default w ↦ rw w.self-is (inl (rolls_nothing_back c.args.self.now streams c.args.name has stream (w.in_default.ensures.found streams has.transactions)))
    ]
