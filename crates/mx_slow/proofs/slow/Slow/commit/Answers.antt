use Rattle.std.proofs.Common.{rules, ◌≡◌, ◌<◌, length, refl, sym, ap, ◌∙◌, subst}
use Rattle.std.specs.Prelude.{MatchResult}
use Rattle.std.specs.List.{AllZip}
use Rattle.std.proofs.lemmas.Bool.{ne_eqb}
use Rattle.mx_base.specs.Keys.{stream_key}
use Rattle.mx_base.specs.declared.refusal.Refusal.TheVariants.{Conflict, IllegalValue}
use Rattle.mx_model.specs.declared.reply.Reply.TheVariants.{Empty, Refused}
use Rattle.mx_model.specs.Overlaps.{statements_in}
use Rattle.mx_model.specs.RunAlone.{run_alone}
use Rattle.mx_slow.specs.Slow.{IsSlow, KeepsStep, KeepsTransaction, RunStands, Tells, standing_view}
use Rattle.mx_model.specs.Streams.{Outcome, commits, in_stream, transaction_named}
use Rattle.mx_model.specs.Transactions.{state_after}
use Rattle.mx_slow.proofs.SlowNameLaws.{kept_there}
use Rattle.mx_model.proofs.StreamOutcomes.{commits_active, commits_doomed, commits_view, no_stream_test, with_stream, without_stream}
use Rattle.mx_slow.proofs.SlowStreamLaws.{all_within, ends_with, newest_there, stays_told}
use Rattle.mx_slow.proofs.slow.Slow.commit.Goals as goal

pub returns-then-name-eq0 : goal.returns-then-name-eq0
returns-then-name-eq0 c = λ streams is.
    let name = c.args.name in
    let all = commits streams (transaction_named name streams.transactions) in
    stays_told c.args.self.now streams name (in_stream name all) c.no_stream.result (Refused (IllegalValue stream_key)) is
    (without_stream streams name all (no_stream_test name.stream.0 c.if-name-eq0.true)) c.no_stream.ensures

pub returns-in_default : goal.returns-in_default
returns-in_default c = λ streams is.
    let name = c.args.name in
    let none = c.in_default.ensures.named streams.transactions (subst (λ l. AllZip KeepsTransaction l streams.transactions) (sym c.as_slice.ensures.value) is.transactions) in
    let all = commits streams (transaction_named name streams.transactions) in
    stays_told c.args.self.now streams name (in_stream name all) Empty Empty is
    (with_stream streams name all (ne_eqb name.stream.0 0 c.if-name-eq0.false) ∙ ap (commits streams) none) refl

pub returns-in-View : goal.returns-in-View
returns-in-View c = λ streams is.
    let name = c.args.name in
    let (one, at) = c.in-Some.ensures.named streams.transactions (subst (λ l. AllZip KeepsTransaction l streams.transactions) (sym c.as_slice.ensures.value) is.transactions) in
    let within = subst (λ l. c.in-Some.place < length l) c.as_slice.ensures.value c.in-Some.ensures.within in
    let keeps = kept_there c.args.self.now.transactions.items streams.transactions c.in-Some.place c.index-transaction.result.now one is.transactions within c.index-transaction.ensures at.there in
    let told = with_stream streams name (commits streams (transaction_named name streams.transactions)) (ne_eqb name.stream.0 0 c.if-name-eq0.false) ∙ ap (commits streams) at.named in
    let how = c.in_ok-standing.ensures streams one is keeps in
    let all = commits streams (transaction_named name streams.transactions) in
    ends_with c.end.new.self streams name (in_stream name all) Empty Empty (c.end.ensures streams is)
    (told ∙ commits_view streams one c.in-View.place (ap standing_view (sym c.in-View.is) ∙ how)) refl

pub returns-in-Doomed : goal.returns-in-Doomed
returns-in-Doomed c = λ streams is.
    let name = c.args.name in
    let (one, at) = c.in-Some.ensures.named streams.transactions (subst (λ l. AllZip KeepsTransaction l streams.transactions) (sym c.as_slice.ensures.value) is.transactions) in
    let within = subst (λ l. c.in-Some.place < length l) c.as_slice.ensures.value c.in-Some.ensures.within in
    let keeps = kept_there c.args.self.now.transactions.items streams.transactions c.in-Some.place c.index-transaction.result.now one is.transactions within c.index-transaction.ensures at.there in
    let told = with_stream streams name (commits streams (transaction_named name streams.transactions)) (ne_eqb name.stream.0 0 c.if-name-eq0.false) ∙ ap (commits streams) at.named in
    let how = c.in_ok-standing.ensures streams one is keeps in
    let all = commits streams (transaction_named name streams.transactions) in
    ends_with c.end-in-Doomed.new.self streams name (in_stream name all) (Refused Conflict) (Refused Conflict) (c.end-in-Doomed.ensures streams is)
    (told ∙ commits_doomed streams one (ap standing_view (sym c.in-Doomed.is) ∙ how)) refl

pub returns-in_ok-run-in-Active : goal.returns-in_ok-run-in-Active
returns-in_ok-run-in-Active c = λ streams is.
    let name = c.args.name in
    let (one, at) = c.in-Some.ensures.named streams.transactions (subst (λ l. AllZip KeepsTransaction l streams.transactions) (sym c.as_slice.ensures.value) is.transactions) in
    let within = subst (λ l. c.in-Some.place < length l) c.as_slice.ensures.value c.in-Some.ensures.within in
    let keeps = kept_there c.args.self.now.transactions.items streams.transactions c.in-Some.place c.index-transaction.result.now one is.transactions within c.index-transaction.ensures at.there in
    let told = with_stream streams name (commits streams (transaction_named name streams.transactions)) (ne_eqb name.stream.0 0 c.if-name-eq0.false) ∙ ap (commits streams) at.named in
    let how = c.in_ok-standing.ensures streams one is keeps in
    let old = c.args.self.now in
    let counted : c.len.result ≡ length old.commits.items = search rules in
    let base = streams.base.state in
    let steps = subst (λ l. AllZip KeepsStep l one.steps) (sym c.as_slice-in-Active.ensures.value) keeps.steps in
    let ran = c.in_ok-run-in-Active.ensures streams one.steps is (all_within old streams c.len.result is counted) steps in
    let stands = subst (λ s. RunStands c.in_ok-run-in-Active.run' s (run_alone streams.base.ids s (statements_in one.steps))) (newest_there old streams c.len.result is counted) ran in
    let plain = run_alone streams.base.ids (state_after base streams.journal) (statements_in one.steps) in
    subst (λ (o : Outcome). MatchResult c.commit_rows.result (λ reply. Tells c.commit_rows.new.self streams name o reply) (λ _. IsSlow c.commit_rows.new.self streams))
    (sym (told ∙ commits_active streams one (ap standing_view (sym c.in-Active.is) ∙ how))) (c.commit_rows.ensures streams plain is stands)
