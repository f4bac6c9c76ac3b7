use Rattle.std.proofs.Common.{sym, subst}
use Rattle.mx_model.specs.Frame.{OperationHasBytes}
use Rattle.mx_model.specs.Streams.{states_alone}
use Rattle.mx_engine.specs.declared.statement.StatementRef.{StatementRef}
use Rattle.mx_transactions.specs.Open.{newest_state}
use Rattle.mx_engine.specs.StatementViews.{statement_view}
use Rattle.mx_engine.specs.Steps.{AnswersStatement}
use Rattle.mx_engine.specs.Views.{reply_of}
use Rattle.mx_engine.proofs.WriteLaws.{select_told}
use Rattle.mx_engine.proofs.engine.Engine.alone.Goals as goal

pub returns-in-Select-clause-answers : goal.returns-in-Select-clause-answers
returns-in-Select-clause-answers c = λ streams name has all counts bytes.
    let old = c.args.self.now in
    let wanted = c.in-Select.wanted in
    let reply = reply_of c.select.result c.select.new.found in
    subst (λ (s : StatementRef). AnswersStatement old old streams name (states_alone streams (statement_view s)) reply) (sym c.in-Select.is)
    (select_told old streams name wanted.space.0 wanted.index.0 wanted.limit wanted.offset wanted.iterator wanted.key.now reply has
    (rw c.pick.ensures at (c.select.ensures (newest_state streams) has.holds)))

pub returns-in-Write-clause-answers : goal.returns-in-Write-clause-answers
returns-in-Write-clause-answers c = λ streams name has all counts bytes.
    subst (λ (s : StatementRef). AnswersStatement c.args.self.now c.write.new.self streams name (states_alone streams (statement_view s)) (reply_of c.write.result c.write.new.found)) (sym c.in-Write.is)
    (c.write.ensures.answers streams name has all counts (subst (λ (s : StatementRef). OperationHasBytes (statement_view s).operation) c.in-Write.is bytes))
