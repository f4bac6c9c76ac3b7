use Rattle.std.proofs.Common.{inl, sym, subst}
use Rattle.mx_engine.specs.Steps.{AnswersAlone}
use Rattle.mx_engine.proofs.StepLaws.{tells_noted, with_open}
use Rattle.mx_engine.proofs.engine.Engine.note.Goals as goal

pub returns-in-Ok-clause-answers : goal.returns-in-Ok-clause-answers
returns-in-Ok-clause-answers c = λ streams name one statement found all active plain answers.
    inl (tells_noted c.args.self.now _ streams name c.args.slot one active
    (with_open c.args.self.now c.note.new.self)
    statement found c.args.answered c.in-Some.reads plain
    (subst (λ noted. AnswersAlone streams one statement found c.args.answered noted) (sym c.in-Some.ensures) answers)
    (c.lacks_memory.ensures.has c.if-lacks_memory.false)
    (c.in-Ok.ensures.ok active.is_open.kept active.is_open.is))
