use Rattle.std.proofs.Common.{[], Result, Ok, Err, refl, sym, ap, ◌∙◌, subst}
use Rattle.std.specs.Prelude.{MatchResult, nat_lt}
use Rattle.mx_base.specs.declared.refusal.Refusal.TheVariants.{LsnsUsedUp}
use Rattle.mx_vclock.specs.Vclocks.{max_lsn}
use Rattle.mx_model.specs.declared.reply.Reply.TheVariants.{Refused}
use Rattle.mx_model.specs.RunAlone.{statement_answer}
use Rattle.mx_slow_state.specs.SlowState.{IsSlowMade}
use Rattle.mx_model.specs.Streams.{states_alone}
use Rattle.mx_model.specs.Transactions.{state_after}
use Rattle.mx_model.specs.statements.Answer.{Answer}
use Rattle.mx_slow.proofs.SlowRunLaws.{nothing_made, write_made}
use Rattle.mx_model.proofs.StreamOutcomes.{alone_unwritten, alone_used_up, alone_written, row_writable}
use Rattle.mx_slow.proofs.SlowStreamLaws.{lsn_is, states_committed, stays_told}
use Rattle.mx_slow.proofs.slow.Slow.commit_answer.Goals as goal

pub returns-in_default : goal.returns-in_default
returns-in_default c = λ streams name statement is has.
    let newest = state_after streams.base.state streams.journal in
    let plain : Answer = statement_answer streams.base.ids newest statement in
    let (none, same) = nothing_made c.args.answer newest statement.space [] plain has c.in_default.is in
    stays_told c.args.self.now streams name (states_alone streams statement) c.args.answer.reply plain.reply is (alone_unwritten streams statement none) has.reply

pub returns-in_default-last_lsn : goal.returns-in_default-last_lsn
returns-in_default-last_lsn c = λ streams name statement is has.
    let old = c.args.self.now in
    let newest = state_after streams.base.state streams.journal in
    let plain : Answer = statement_answer streams.base.ids newest statement in
    let write = c.in-Some.write in
    let (space, row_is, made) = write_made c.args.answer newest statement.space [] plain has write c.in-Some.is in
    let me = row_writable streams statement write.row row_is in
    let above = ap (nat_lt max_lsn) (lsn_is old streams 1 is me) ∙ c.in_default-last_lsn.ensures in
    stays_told old streams name (states_alone streams statement) (Refused LsnsUsedUp) (Refused LsnsUsedUp) is (alone_used_up streams statement write.row row_is above) refl

where_told : {X E : Type 0} {P Q : X → Type 0} (B : Type 0) (result : Result X E) → MatchResult result P (λ _. B) → ((x : X) → P x → Q x) → MatchResult result Q (λ _. B)
where_told B (Ok x) told follows = follows x told
where_told B (Err e) told follows = told

pub returns : goal.returns
returns c = λ streams name statement is has.
    let old = c.args.self.now in
    let newest = state_after streams.base.state streams.journal in
    let plain : Answer = statement_answer streams.base.ids newest statement in
    let write = c.in-Some.write in
    let (space, row_is, made) = write_made c.args.answer newest statement.space [] plain has write c.in-Some.is in
    let me = row_writable streams statement write.row row_is in
    let (last_is, low, within) = c.in-Some-last_lsn.ensures in
    let below = ap (nat_lt max_lsn) (lsn_is old streams 1 is me ∙ sym last_is) ∙ low in
    where_told _ c.commit_told.result
    (c.commit_told.ensures streams plain.change is (subst (λ n. IsSlowMade newest n write.row write.made plain.change) (sym space) made) me last_is)
    (λ reply committed.
    states_committed c.commit_told.new.self streams name (states_alone streams statement) plain write.row reply committed.1
    (alone_written streams statement write.row row_is below) (committed.0 ∙ has.reply))
