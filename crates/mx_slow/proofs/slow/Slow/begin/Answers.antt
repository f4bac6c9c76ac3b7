use Rattle.std.proofs.Common.{refl, sym, ap, ◌∙◌, subst}
use Rattle.std.specs.Prelude.{MatchResult}
use Rattle.std.specs.List.{AllZip}
use Rattle.std.proofs.lemmas.Bool.{ne_eqb}
use Rattle.mx_base.specs.Keys.{stream_key}
use Rattle.mx_base.specs.declared.refusal.Refusal.TheVariants.{IllegalValue, TransactionOpen}
use Rattle.mx_model.specs.declared.reply.Reply.TheVariants.{Refused}
use Rattle.mx_slow.specs.Slow.{IsSlow, KeepsTransaction, Tells}
use Rattle.mx_model.specs.Streams.{Outcome, begins_beside, in_stream, transaction_named}
use Rattle.mx_model.proofs.StreamOutcomes.{begins_open, no_stream_test, with_stream, without_stream}
use Rattle.mx_slow.proofs.SlowStreamLaws.{stays_told}
use Rattle.mx_slow.proofs.slow.Slow.begin.Goals as goal

pub returns-then-name-eq0 : goal.returns-then-name-eq0
returns-then-name-eq0 c = λ streams is.
    let name = c.args.name in
    let begun = begins_beside streams.transactions name.conn.0 (transaction_named name streams.transactions) in
    stays_told c.args.self.now streams name (in_stream name begun) c.no_stream.result (Refused (IllegalValue stream_key)) is
    (without_stream streams name begun (no_stream_test name.stream.0 c.if-name-eq0.true)) c.no_stream.ensures

pub returns-in-Some : goal.returns-in-Some
returns-in-Some c = λ streams is.
    let name = c.args.name in
    let (one, at) = c.in-Some.ensures.named streams.transactions (subst (λ l. AllZip KeepsTransaction l streams.transactions) (sym c.as_slice.ensures.value) is.transactions) in
    let begun = begins_beside streams.transactions name.conn.0 (transaction_named name streams.transactions) in
    stays_told c.args.self.now streams name (in_stream name begun) (Refused TransactionOpen) (Refused TransactionOpen) is
    (with_stream streams name begun (ne_eqb name.stream.0 0 c.if-name-eq0.false) ∙ begins_open streams name one at.named) refl

pub returns-in-None : goal.returns-in-None
returns-in-None c = λ streams is.
    let name = c.args.name in
    let none = c.in-None.ensures.named streams.transactions (subst (λ l. AllZip KeepsTransaction l streams.transactions) (sym c.as_slice.ensures.value) is.transactions) in
    let begun = begins_beside streams.transactions name.conn.0 (transaction_named name streams.transactions) in
    subst (λ (o : Outcome). MatchResult c.open.result (λ reply. Tells c.open.new.self streams name o reply) (λ _. IsSlow c.open.new.self streams))
    (sym (with_stream streams name begun (ne_eqb name.stream.0 0 c.if-name-eq0.false) ∙ ap (begins_beside streams.transactions name.conn.0) none))
    (c.open.ensures streams is none)
