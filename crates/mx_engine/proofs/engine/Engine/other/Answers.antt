use Rattle.std.proofs.Common.{sym, ◌∙◌, subst}
use Rattle.mx_request.specs.declared.request.Request.{Request}
use Rattle.mx_engine.specs.Steps.{AnswersRequest}
use Rattle.mx_engine.specs.Views.{reply_of}
use Rattle.mx_engine.proofs.OutcomeLaws.{is_begin, is_commit, is_rollback}
use Rattle.mx_engine.proofs.engine.Engine.other.Goals as goal

pub returns-in-14-clause-answers : goal.returns-in-14-clause-answers
returns-in-14-clause-answers c = λ streams asked found has all counts kind none.
    subst (λ (r : Request). AnswersRequest c.args.self.now c.begin.new.self streams c.args.name r (reply_of c.begin.result found)) (sym (is_begin asked (sym kind ∙ c.in-14.is)))
    (c.begin.ensures.answers streams found has all)

pub returns-in-15-clause-answers : goal.returns-in-15-clause-answers
returns-in-15-clause-answers c = λ streams asked found has all counts kind none.
    subst (λ (r : Request). AnswersRequest c.args.self.now c.commit.new.self streams c.args.name r (reply_of c.commit.result found)) (sym (is_commit asked (sym kind ∙ c.in-15.is)))
    (c.commit.ensures.answers streams found has all counts)

pub returns-in-16-clause-answers : goal.returns-in-16-clause-answers
returns-in-16-clause-answers c = λ streams asked found has all counts kind none.
    subst (λ (r : Request). AnswersRequest c.args.self.now c.rollback.new.self streams c.args.name r (reply_of c.rollback.result found)) (sym (is_rollback asked (sym kind ∙ c.in-16.is)))
    (c.rollback.ensures.answers streams found has all)
