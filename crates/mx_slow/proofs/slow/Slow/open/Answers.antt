use Rattle.std.proofs.Common.{rules, arith, ◌≡◌, ◌≤◌, ◌<◌, ◌∷◌, [], length, None, refl, sym, ap, ◌∙◌, subst}
use Rattle.std.specs.Prelude.{◌==◌}
use Rattle.std.specs.List.{AllZip, filter}
use Rattle.std.proofs.lemmas.Result.{err_from_is_err_and}
use Rattle.mx_base.specs.declared.refusal.Refusal.TheVariants.{AllOfConnectionOpen, AllTransactionsOpen}
use Rattle.mx_model.specs.declared.reply.Reply.TheVariants.{Empty, Refused}
use Rattle.mx_model.specs.Overlaps.{Transaction}
use Rattle.mx_slow.specs.Slow.{KeepsStep, KeepsTransaction}
use Rattle.mx_model.specs.Streams.{begins_beside, max_transactions, max_transactions_of_connection, of_connection}
use Rattle.mx_slow.specs.declared.slow.transactions.SlowTransaction.{SlowTransaction}
use Rattle.mx_slow.proofs.SlowStandingLaws.{same_length}
use Rattle.mx_slow.proofs.SlowNameLaws.{connection_counted, same_number}
use Rattle.mx_model.proofs.StreamOutcomes.{at_least, begins_all_full, begins_full, begins_new, fewer}
use Rattle.mx_slow.proofs.SlowStreamLaws.{begins_with, is_beside, same_kept, stays_told}
use Rattle.mx_slow.proofs.slow.Slow.open.Goals as goal

pub returns-then-count_of-ge-MAX_TRANSACTIONS_OF_CONNECTION : goal.returns-then-count_of-ge-MAX_TRANSACTIONS_OF_CONNECTION
returns-then-count_of-ge-MAX_TRANSACTIONS_OF_CONNECTION c = λ streams is none.
    let connection = c.args.name.conn.0 in
    let counts = c.count_of.ensures ∙ ap (λ l. length (filter (λ one. one.name.conn.0 == connection) l)) c.as_slice.ensures.value ∙ connection_counted connection c.args.self.now.transactions.items streams.transactions is.transactions in
    stays_told c.args.self.now streams c.args.name (begins_beside streams.transactions connection None) (Refused AllOfConnectionOpen) (Refused AllOfConnectionOpen) is
    (begins_full streams c.args.name (at_least max_transactions_of_connection (length (of_connection connection streams.transactions)) (subst (λ n. max_transactions_of_connection ≤ n) counts c.if-count_of-ge-MAX_TRANSACTIONS_OF_CONNECTION.true))) refl

pub returns-then-len-ge-MAX_TRANSACTIONS : goal.returns-then-len-ge-MAX_TRANSACTIONS
returns-then-len-ge-MAX_TRANSACTIONS c = λ streams is none.
    let connection = c.args.name.conn.0 in
    let counts = c.count_of.ensures ∙ ap (λ l. length (filter (λ one. one.name.conn.0 == connection) l)) c.as_slice.ensures.value ∙ connection_counted connection c.args.self.now.transactions.items streams.transactions is.transactions in
    let few : length (of_connection connection streams.transactions) < max_transactions_of_connection = omega (arith, counts, c.if-count_of-ge-MAX_TRANSACTIONS_OF_CONNECTION.false) in
    let counted : c.len.result ≡ length c.args.self.now.transactions.items = search rules in
    let many = same_number c.args.self.now.transactions.items streams.transactions is.transactions in
    let full : max_transactions ≤ length streams.transactions = omega (arith, counted, many, c.if-len-ge-MAX_TRANSACTIONS.true) in
    stays_told c.args.self.now streams c.args.name (begins_beside streams.transactions connection None) (Refused AllTransactionsOpen) (Refused AllTransactionsOpen) is
    (begins_all_full streams c.args.name (fewer max_transactions_of_connection (length (of_connection connection streams.transactions)) few) (at_least max_transactions (length streams.transactions) full)) refl

pub returns : goal.returns
returns c = λ streams is none.
    let old = c.args.self.now in
    let name = c.args.name in
    let connection = name.conn.0 in
    let counts = c.count_of.ensures ∙ ap (λ l. length (filter (λ one. one.name.conn.0 == connection) l)) c.as_slice.ensures.value ∙ connection_counted connection old.transactions.items streams.transactions is.transactions in
    let few : length (of_connection connection streams.transactions) < max_transactions_of_connection = omega (arith, counts, c.if-count_of-ge-MAX_TRANSACTIONS_OF_CONNECTION.false) in
    let counted : c.len.result ≡ length old.transactions.items = search rules in
    let many = same_number old.transactions.items streams.transactions is.transactions in
    let room : length streams.transactions < max_transactions = omega (arith, counted, many, c.if-len-ge-MAX_TRANSACTIONS.false) in
    let commits : c.len-2.result ≡ length old.commits.items = search rules in
    let one : Transaction = record { name = name; begun = length streams.journal; steps = [] } in
    let coded : SlowTransaction = record { name = name; begun = c.len-2.result; steps = c.new.result } in
    let keeps : KeepsTransaction coded one = record {
      name = refl;
      begun = commits ∙ same_length streams.base.state old.commits.items streams.journal is.commits;
      steps = subst (λ l. AllZip KeepsStep l []) (sym c.new.ensures.items) tt;
    } in
    begins_with (record old { transactions = c.insert.new.self }) streams name (begins_beside streams.transactions connection None) Empty
    (is_beside old (record old { transactions = c.insert.new.self }) streams (one ∷ streams.transactions) is refl refl refl refl
    (subst (λ l. AllZip KeepsTransaction l (one ∷ streams.transactions)) (sym c.in_ok-insert.ensures.items) (keeps, is.transactions)))
    (begins_new streams name (fewer max_transactions_of_connection (length (of_connection connection streams.transactions)) few) (fewer max_transactions (length streams.transactions) room)) refl

pub returns-in_err-insert : goal.returns-in_err-insert
returns-in_err-insert c = λ streams is none.
    let p = err_from_is_err_and c.from_residual.result c.from_residual.ensures.1 in
    rw (p.1, p.2) (same_kept c.args.self.now (record c.args.self.now { transactions = c.insert.new.self }) streams is refl refl refl refl c.in_err-insert.ensures.items)
