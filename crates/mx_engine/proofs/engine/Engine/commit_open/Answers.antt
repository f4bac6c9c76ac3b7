use Rattle.std.proofs.Common.{inl, refl, sym, subst}
use Rattle.mx_base.specs.declared.refusal.Refusal.TheVariants.{Conflict}
use Rattle.mx_request.specs.declared.request.Request.TheVariants as request
use Rattle.mx_txn.specs.declared.state.TxnState.{TxnState}
use Rattle.mx_model.specs.declared.reply.Reply.TheVariants.{Empty, Refused}
use Rattle.mx_model.specs.Streams.{Outcome, outcome_of}
use Rattle.mx_transactions.specs.OpenSteps.{FindsIn}
use Rattle.mx_engine.specs.Steps.{AnswersCommit}
use Rattle.mx_engine.specs.Views.{reply_of}
use Rattle.mx_engine.proofs.OutcomeLaws.{active_commits, doomed_commits, ends_with, is_active_in, only_opened, view_commits}
use Rattle.mx_engine.proofs.engine.Engine.commit_open.Goals as goal

pub returns-in-Active-clause-answers : goal.returns-in-Active-clause-answers
returns-in-Active-clause-answers c = λ streams found has all counts apart stream found_in.
    let old = c.args.self.now in
    let name = c.args.name in
    let slot = c.args.slot in
    let finds = subst (λ (state : TxnState). FindsIn streams old.open name slot state) c.in-Active.is found_in in
    let is = is_active_in old streams name slot c.in-Active.since has all c.requires apart finds in
    let told = c.commit_active.ensures.answers streams finds.transaction found all is counts in
    subst (λ (o : Outcome). AnswersCommit old c.commit_active.new.self streams name o (reply_of c.commit_active.result found)) (sym (active_commits streams old.open name slot stream c.in-Active.since finds)) told

pub returns-in-View-clause-answers : goal.returns-in-View-clause-answers
returns-in-View-clause-answers c = λ streams found has all counts apart stream found_in.
    let old = c.args.self.now in
    let name = c.args.name in
    let finds = subst (λ (state : TxnState). FindsIn streams old.open name c.args.slot state) c.in-View.is found_in in
    inl (ends_with old _ streams name (outcome_of streams name request.Commit) Empty Empty has (only_opened old c.end.new.self) (c.end.ensures.left streams has.transactions)
    (view_commits streams old.open name c.args.slot stream c.in-View.at finds) refl)

pub returns-in-Aborted-clause-answers : goal.returns-in-Aborted-clause-answers
returns-in-Aborted-clause-answers c = λ streams found has all counts apart stream found_in.
    let old = c.args.self.now in
    let name = c.args.name in
    let finds = subst (λ (state : TxnState). FindsIn streams old.open name c.args.slot state) c.in-Aborted.is found_in in
    inl (ends_with old _ streams name (outcome_of streams name request.Commit) (Refused Conflict) (Refused Conflict) has (only_opened old c.end-in-Aborted.new.self)
    (c.end-in-Aborted.ensures.left streams has.transactions) (doomed_commits streams old.open name c.args.slot stream c.in-Aborted.by finds) refl)
