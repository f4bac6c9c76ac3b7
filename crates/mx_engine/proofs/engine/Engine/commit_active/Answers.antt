use Rattle.std.proofs.Common.{inl, inr, length, refl, sym, ap, subst}
use Rattle.mx_model.specs.declared.reply.Reply.TheVariants.{Empty}
use Rattle.mx_model.specs.Streams.{Outcome, commit_may_lack}
use Rattle.mx_engine.specs.Steps.{TellsOutcome, newest_run}
use Rattle.mx_engine.proofs.OutcomeLaws.{commits_whole, some_rows}
use Rattle.mx_engine.proofs.WriteLaws.{is_writable_node}
use Rattle.mx_engine.proofs.engine.Engine.commit_active.Goals as goal

pub returns-in-Ok-clause-answers : goal.returns-in-Ok-clause-answers
returns-in-Ok-clause-answers c = λ streams one found stand is counts.
    let old = c.args.self.now in
    let has = is.is_open.has in
    let (row, rest, rows_are, count) = some_rows old streams c.args.name c.args.slot one c.work.result.now _ is c.work.ensures (ap length c.as_slice-rows.ensures) c.if-rows-eq0.false in
    let me = is_writable_node old streams c.is_writable.result has c.is_writable.ensures c.if-not-is_writable.false in
    let (last_is, low, within) = c.in-Some.ensures in
    inl (subst (λ (o : Outcome). TellsOutcome old c.commit_work.new.self streams c.args.name o Empty)
    (sym (commits_whole old streams row rest _ c.in-Some.last (newest_run streams one).rows has me rows_are count last_is low))
    (c.in-Ok.ensures.answers streams one row rest stand is counts rows_are me count last_is))

pub returns-in-Err-clause-answers : goal.returns-in-Err-clause-answers
returns-in-Err-clause-answers c = λ streams one found stand is counts.
    let old = c.args.self.now in
    let has = is.is_open.has in
    let (row, rest, rows_are, count) = some_rows old streams c.args.name c.args.slot one c.work.result.now _ is c.work.ensures (ap length c.as_slice-rows.ensures) c.if-rows-eq0.false in
    let me = is_writable_node old streams c.is_writable.result has c.is_writable.ensures c.if-not-is_writable.false in
    let (last_is, low, within) = c.in-Some.ensures in
    inr (
      ap commit_may_lack (commits_whole old streams row rest _ c.in-Some.last (newest_run streams one).rows has me rows_are count last_is low),
      refl,
      c.in-Err.ensures.answers streams one row rest stand is counts rows_are me count last_is,
    )
