use Rattle.std.proofs.Common.{rules, ◌≡◌, length, ap, ◌∙◌, subst}
use Rattle.mx_model.specs.declared.ids.Ids.{Ids}
use Rattle.mx_slow.specs.Slow.{statement_reads}
use Rattle.mx_slow.specs.SlowReads.{HasRead}
use Rattle.mx_model.specs.statements.Statement.{statement_of}
use Rattle.mx_slow.proofs.SlowStandingLaws.{same_length}
use Rattle.mx_slow.proofs.SlowStreamLaws.{reads_are}
use Rattle.mx_slow.proofs.slow.Slow.step_after.Goals as goal

pub returns : goal.returns
returns c = λ streams ran statement reply is stands states.
    let old = c.args.self.now in
    let ids = streams.base.ids in
    let (read, fit) = reads_are ids ran statement c.args.request.now states c.in_ok-reads.reads
    (subst (λ (i : Ids). HasRead c.in_ok-reads.reads (statement_reads i ran.state c.args.request.now)) is.ids (c.in_ok-reads.ensures ran.state stands)) in
    let counted : c.len-after.result ≡ length old.commits.items = search rules in
    record {
      statement = ap statement_of (rw c.in-Some.is at c.in_ok-request.ensures) ∙ states;
      after = counted ∙ same_length streams.base.state old.commits.items streams.journal is.commits;
      reads = read;
      fit = fit;
    }
