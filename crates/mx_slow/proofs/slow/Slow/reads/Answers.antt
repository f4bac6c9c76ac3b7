use Rattle.std.proofs.Common.{rules, ◌≡◌, length, subst}
use Rattle.std.specs.Prelude.{IfOk}
use Rattle.mx_model.specs.declared.ids.Ids.{Ids}
use Rattle.mx_slow.specs.Slow.{statement_reads}
use Rattle.mx_slow.specs.SlowReads.{HasRead}
use Rattle.mx_slow_state.specs.SlowState.{IsSlowState}
use Rattle.mx_model.specs.Transactions.{state_after}
use Rattle.mx_slow.proofs.SlowStreamLaws.{all_within, newest_there}
use Rattle.mx_slow.proofs.slow.Slow.reads.Goals as goal

pub returns : goal.returns
returns c = λ streams is.
    let counted : c.len.result ≡ length c.args.self.now.commits.items = search rules in
    let newest = state_after streams.base.state streams.journal in
    let stands = subst (IsSlowState c.state_at.result.now) (newest_there c.args.self.now streams c.len.result is counted) (c.state_at.ensures streams is (all_within c.args.self.now streams c.len.result is counted)) in
    subst (λ (i : Ids). IfOk c.statement_reads.result (λ reads. HasRead reads (statement_reads i newest c.args.request.now))) is.ids (c.statement_reads.ensures newest stands)
