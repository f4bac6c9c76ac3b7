use Rattle.std.proofs.Common.{◌∷◌, refl, sym, ◌∙◌, subst}
use Rattle.std.specs.Prelude.{slice_set}
use Rattle.std.specs.Vec.{with_item}
use Rattle.std.specs.List.{AllZip}
use Rattle.std.proofs.lemmas.Result.{err_from_is_err_and}
use Rattle.mx_base.specs.declared.kinds.Unsupported.TheVariants.{SchemaInTransaction}
use Rattle.mx_base.specs.declared.refusal.Refusal.TheVariants.{Unsupported}
use Rattle.mx_model.specs.declared.reply.Reply.TheVariants.{Refused}
use Rattle.mx_slow.specs.declared.slow.transactions.SlowTransaction.{SlowTransaction}
use Rattle.mx_slow.specs.Slow.{KeepsStep, KeepsTransaction}
use Rattle.mx_model.specs.Streams.{states_in, transaction_with, with_step}
use Rattle.mx_slow.proofs.SlowNameLaws.{kept_there, stays_there, step_kept}
use Rattle.mx_model.proofs.StreamOutcomes.{schema_passed, schema_refused}
use Rattle.mx_slow.proofs.SlowStreamLaws.{goes_on_as, is_beside, same_transactions, stays_told}
use Rattle.mx_slow.proofs.slow.Slow.step.Goals as goal

pub returns : goal.returns
returns c = λ streams name one statement is named asked states.
    let old = c.args.self.now in
    let place = c.args.place in
    let item = c.index_mut.result.now in
    let keeps_there = kept_there old.transactions.items streams.transactions place c.index.result.now one is.transactions c.requires c.index.ensures named.there in
    let goes = c.in_ok-step.ensures streams one statement is keeps_there states in
    let keeps = kept_there old.transactions.items streams.transactions place item one is.transactions c.requires c.index_mut.ensures.value named.there in
    let coded : SlowTransaction = record item { steps = c.insert.new.self } in
    let further : KeepsTransaction coded (transaction_with goes.step one) = record {
      name = keeps.name;
      begun = keeps.begun;
      steps = subst (λ l. AllZip KeepsStep l (goes.step ∷ one.steps)) (sym c.in_ok-insert.ensures.items) (goes.keeps, keeps.steps);
    } in
    let after = with_step name goes.step streams.transactions in
    goes_on_as (record old { transactions = with_item old.transactions place coded }) streams name (states_in streams one statement) goes.step c.in_ok-step.field-0.reply
    (is_beside old (record old { transactions = with_item old.transactions place coded }) streams after is refl refl refl refl
    (subst (AllZip KeepsTransaction (slice_set old.transactions.items place coded)) (sym (named.changed goes.step))
    (step_kept old.transactions.items streams.transactions place coded (transaction_with goes.step one) is.transactions further)))
    (schema_passed streams one statement (sym (c.writes_schema.ensures statement asked states) ∙ c.if-writes_schema.false) ∙ goes.goes) goes.reply

pub returns-in_err-insert : goal.returns-in_err-insert
returns-in_err-insert c = λ streams name one statement is named asked states.
    let old = c.args.self.now in
    let place = c.args.place in
    let item = c.index_mut.result.now in
    let keeps = kept_there old.transactions.items streams.transactions place item one is.transactions c.requires c.index_mut.ensures.value named.there in
    let coded : SlowTransaction = record item { steps = c.insert.new.self } in
    let same : KeepsTransaction coded one = record {
      name = keeps.name;
      begun = keeps.begun;
      steps = subst (λ l. AllZip KeepsStep l one.steps) (sym c.in_err-insert.ensures.items) keeps.steps;
    } in
    let p = err_from_is_err_and c.from_residual-in_err-insert.result c.from_residual-in_err-insert.ensures.1 in
    rw (p.1, p.2) (same_transactions old (record old { transactions = with_item old.transactions place coded }) streams is refl refl refl refl
    (subst (AllZip KeepsTransaction (slice_set old.transactions.items place coded)) (stays_there streams.transactions place one named.there)
    (step_kept old.transactions.items streams.transactions place coded one is.transactions same)))

pub returns-then-writes_schema : goal.returns-then-writes_schema
returns-then-writes_schema c = λ streams name one statement is named asked states.
    stays_told c.args.self.now streams name (states_in streams one statement) (Refused (Unsupported SchemaInTransaction)) (Refused (Unsupported SchemaInTransaction)) is
    (schema_refused streams one statement (sym (c.writes_schema.ensures statement asked states) ∙ c.if-writes_schema.true)) refl
