use Rattle.std.proofs.Common.{rules, ◌≡◌, length, Some, subst}
use Rattle.mx_model.specs.declared.ids.Ids.{Ids}
use Rattle.mx_model.specs.RunAlone.{statement_answer}
use Rattle.mx_slow_state.specs.SlowState.{HasAnswer, IsSlowState}
use Rattle.mx_model.specs.Transactions.{state_after}
use Rattle.mx_model.specs.statements.Answer.{Answer}
use Rattle.mx_model.specs.statements.Statement.{Statement, statement_of}
use Rattle.mx_slow.proofs.SlowStreamLaws.{all_within, answer_is, newest_there}
use Rattle.mx_slow.proofs.slow.Slow.alone.Goals as goal

pub returns : goal.returns
returns c = λ streams name statement is states.
    let old = c.args.self.now in
    let ids = streams.base.ids in
    let newest = state_after streams.base.state streams.journal in
    let plain : Answer = statement_answer ids newest statement in
    let counted : c.len-newest.result ≡ length old.commits.items = search rules in
    let state = subst (IsSlowState c.state_at.result.now) (newest_there old streams c.len-newest.result is counted) (c.state_at.ensures streams is (all_within old streams c.len-newest.result is counted)) in
    let has : HasAnswer c.in-Some.answer newest statement.space plain
    = answer_is c.args.request.now statement states c.in-Some.answer (λ s. HasAnswer c.in-Some.answer newest s.space (statement_answer ids newest s))
    (subst (λ (i : Ids). (s : Statement) × (statement_of c.args.request.now ≡ Some s) × HasAnswer c.in-Some.answer newest s.space (statement_answer i newest s)) is.ids
    (rw c.in-Some.is at (c.in_ok-answer.ensures newest state))) in
    c.commit_answer.ensures streams name statement is has
