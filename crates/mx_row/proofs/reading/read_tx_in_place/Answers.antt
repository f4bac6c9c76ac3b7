use Rattle.std.proofs.Common.{ℕ, List, sym, ◌∙◌}
use Rattle.mx_row.specs.declared.header.Header.{Header}
use Rattle.mx_row.specs.declared.row.Row.{Row}
use Rattle.mx_row.specs.Views.{row_value, tx_view}
use Rattle.mx_row.proofs.BehindLaws.{none_first, none_begins, one_begins, one_alone, read_sound, read_rows, transaction_is}
use Rattle.mx_row.proofs.ReadLaws.{whole_row_is}
use Rattle.mx_row.proofs.reading.read_tx_in_place.Goals as goal

pub returns-in_default-clause-tx : goal.returns-in_default-clause-tx
returns-in_default-clause-tx c = sym (none_first c.args.bytes.now (sym c.in_default.ensures))

pub returns-then-row_number-ne0-clause-tx : goal.returns-then-row_number-ne0-clause-tx
returns-then-row_number-ne0-clause-tx c =
    let first : (Header × Row) × List ℕ = ((c.in-Some.header, row_value c.in-Some.row), c.in-Some.rest.now) in
    sym (none_begins c.args.bytes.now first (sym c.in-Some.ensures) (λ e. c.if-row_number-ne0.true (c.row_number.ensures ∙ e)))

pub returns-then-ends_transaction-clause-tx : goal.returns-then-ends_transaction-clause-tx
returns-then-ends_transaction-clause-tx c =
    let first : (Header × Row) × List ℕ = ((c.in-Some.header, row_value c.in-Some.row), c.in-Some.rest.now) in
    rw c.one.ensures (sym (one_alone c.args.bytes.now first (sym c.in-Some.ensures) (sym c.row_number.ensures ∙ c.if-row_number-ne0.false)
    (sym c.ends_transaction.ensures ∙ c.if-ends_transaction.true)))

pub returns-then-ends_transaction-clause-sound : goal.returns-then-ends_transaction-clause-sound
returns-then-ends_transaction-clause-sound c =
    let first : (Header × Row) × List ℕ = ((c.in-Some.header, row_value c.in-Some.row), c.in-Some.rest.now) in
    rw c.one.ensures (transaction_is c.args.bytes.now _ (one_alone c.args.bytes.now first (sym c.in-Some.ensures)
    (sym c.row_number.ensures ∙ c.if-row_number-ne0.false) (sym c.ends_transaction.ensures ∙ c.if-ends_transaction.true)))

pub returns-then-ends_transaction-clause-rows : goal.returns-then-ends_transaction-clause-rows
returns-then-ends_transaction-clause-rows c =
    let first : (Header × Row) × List ℕ = ((c.in-Some.header, row_value c.in-Some.row), c.in-Some.rest.now) in
    rw c.one.ensures ((whole_row_is c.args.bytes.now first (sym c.in-Some.ensures)).row_is, tt)

pub returns-clause-tx : goal.returns-clause-tx
returns-clause-tx c =
    let first : (Header × Row) × List ℕ = ((c.in-Some.header, row_value c.in-Some.row), c.in-Some.rest.now) in
    rw (one_begins c.args.bytes.now first (sym c.in-Some.ensures) (sym c.row_number.ensures ∙ c.if-row_number-ne0.false)) c.read_several.ensures

pub returns-clause-sound : goal.returns-clause-sound
returns-clause-sound c =
    let first : (Header × Row) × List ℕ = ((c.in-Some.header, row_value c.in-Some.row), c.in-Some.rest.now) in
    read_sound (λ x. (tx_view x.0, x.1.now)) c.args.bytes.now c.read_several.result
    (rw (one_begins c.args.bytes.now first (sym c.in-Some.ensures) (sym c.row_number.ensures ∙ c.if-row_number-ne0.false)) c.read_several.ensures)

pub returns-clause-rows : goal.returns-clause-rows
returns-clause-rows c =
    let first : (Header × Row) × List ℕ = ((c.in-Some.header, row_value c.in-Some.row), c.in-Some.rest.now) in
    read_rows (λ x. (tx_view x.0, x.1.now)) c.args.bytes.now c.read_several.result
    (rw (one_begins c.args.bytes.now first (sym c.in-Some.ensures) (sym c.row_number.ensures ∙ c.if-row_number-ne0.false)) c.read_several.ensures)
