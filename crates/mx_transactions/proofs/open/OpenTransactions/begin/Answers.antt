use Rattle.std.proofs.Common.{rules, ◌<◌, Err, sym, ◌∙◌, subst}
use Rattle.mx_base.specs.declared.refusal.Refusal.TheVariants.{AllOfConnectionOpen, AllTransactionsOpen, TransactionOpen}
use Rattle.mx_txn.specs.Slots.{max_open}
use Rattle.mx_model.specs.Streams.{begins_beside, transaction_named}
use Rattle.mx_transactions.specs.Open.{HoldsOpen}
use Rattle.mx_transactions.specs.OpenSteps.{TellsOpen}
use Rattle.mx_transactions.proofs.BeginLaws.{begins_again, begins_beyond, begins_beyond_all, begins_in, none_there}
use Rattle.mx_transactions.proofs.TableLaws.{begun_table}
use Rattle.mx_transactions.proofs.open.OpenTransactions.begin.Goals as goal

pub returns-then-is_some : goal.returns-then-is_some
returns-then-is_some c = λ streams holds is.
    let told = begins_beside streams.transactions c.args.name.conn.0 (transaction_named c.args.name streams.transactions) in
    subst (λ all. TellsOpen streams all c.args.name told (Err TransactionOpen)) c.self.view_is
    (begins_again streams _ c.args.name (subst (HoldsOpen streams) (sym c.self.view_is) holds) c.find.result c.find.ensures (sym c.is_some.ensures ∙ c.if-is_some.true))

pub returns-then-count-ge-MAX_OPEN_OF_CONNECTION : goal.returns-then-count-ge-MAX_OPEN_OF_CONNECTION
returns-then-count-ge-MAX_OPEN_OF_CONNECTION c = λ streams holds is.
    let told = begins_beside streams.transactions c.args.name.conn.0 (transaction_named c.args.name streams.transactions) in
    subst (λ all. TellsOpen streams all c.args.name told (Err AllOfConnectionOpen)) c.self.view_is
    (begins_beyond streams _ c.args.name (subst (HoldsOpen streams) (sym c.self.view_is) holds) (none_there c.find.result _ (sym c.is_some.ensures ∙ c.if-is_some.false) c.find.ensures)
    c.count.result c.count.ensures c.if-count-ge-MAX_OPEN_OF_CONNECTION.true)

pub invariant_of-self : goal.invariant_of-self
invariant_of-self c =
    rw (c.insert.ensures, c.in-Ok.ensures.begun)
    (begun_table _ (record { name = c.args.name; slot = c.in-Ok.slot }) c.args.commits c.in-Ok.ensures.free c.self.invariant
    (none_there c.find.result _ (sym c.is_some.ensures ∙ c.if-is_some.false) c.find.ensures))

pub returns-in-Ok : goal.returns-in-Ok
returns-in-Ok c = λ streams holds is.
    let within : c.in-Ok.slot < max_open = search rules in
    begins_in streams _ c.args.name (subst (HoldsOpen streams) (sym c.self.view_is) holds) (none_there c.find.result _ (sym c.is_some.ensures ∙ c.if-is_some.false) c.find.ensures)
    c.count.result c.count.ensures c.if-count-ge-MAX_OPEN_OF_CONNECTION.false c.self.invariant c.in-Ok.ensures.room c.in-Ok.slot c.args.commits within c.in-Ok.ensures.free
    is c.insert.new.self c.begin.new.self c.insert.ensures c.in-Ok.ensures.begun

pub returns-in-Err : goal.returns-in-Err
returns-in-Err c = λ streams holds is.
    let told = begins_beside streams.transactions c.args.name.conn.0 (transaction_named c.args.name streams.transactions) in
    let (full, live, same) = c.in-Err.ensures.full in
    rw (same, c.self.view_is)
    (subst (λ all. TellsOpen streams all c.args.name told (Err AllTransactionsOpen)) c.self.view_is
    (begins_beyond_all streams _ c.args.name (subst (HoldsOpen streams) (sym c.self.view_is) holds) (none_there c.find.result _ (sym c.is_some.ensures ∙ c.if-is_some.false) c.find.ensures)
    c.count.result c.count.ensures c.if-count-ge-MAX_OPEN_OF_CONNECTION.false c.self.invariant full))
