use Rattle.std.proofs.Common.{◌≡◌, ◌-◌, ℕ, length, Err, Some, sym, ap, ◌∙◌, arith}
use Rattle.std.specs.Prelude.{Option, Result}
use Rattle.std.specs.Option.{option_map}
use Rattle.mx_row.specs.declared.row_fault.RowFault.{RowFault}
use Rattle.mx_row.specs.declared.row_fault.RowFault.TheVariants.{Bad}
use Rattle.mx_row.specs.declared.tx.Tx.{Tx}
use Rattle.mx_row.specs.Rows.{transaction_at}
use Rattle.mx_row.specs.Views.{tx_view}
use Rattle.mx_row.proofs.GrammarLaws.{read_spelled}
use Rattle.mx_row.proofs.StopLaws.{never_stands, none_whole, part_behind, part_within, prefix_never}
use Rattle.mx_row.proofs.owned_tx.read_tx.Goals as goal

abbrev bad : ℕ → Result (Option (Tx × ℕ)) RowFault
bad at = Err (Bad at)

place_is : (one other : ℕ) → bad one ≡ bad other → one ≡ other
place_is one other e = cc

pub returns-in-Some-stop_in-clause-prefix : goal.returns-in-Some-stop_in-clause-prefix
returns-in-Some-stop_in-clause-prefix c = λ prefix.
    let bytes = c.args.bytes.now in
    absurd (prefix_never bytes (length bytes - length c.in-Some-stop_in.rest.now) prefix (rw c.in-Some-stop_in.is at c.stop_in.ensures.stop))

pub returns-in-Some-stop_in-clause-bad : goal.returns-in-Some-stop_in-clause-bad
returns-in-Some-stop_in-clause-bad c = λ at e more each.
    let bytes = c.args.bytes.now in
    never_stands bytes more (length bytes - length c.in-Some-stop_in.rest.now) each (rw c.in-Some-stop_in.is at c.stop_in.ensures.stop)

pub overflow_sub-result-2 : goal.overflow_sub-result-2
overflow_sub-result-2 c =
    let (front, parts, spelled) = read_spelled c.args.bytes.now c.in-Some.rest.now (tx_view c.in-Some.tx) (sym c.in_ok-tx.ensures.tx
    ∙ ap (option_map (λ x. (tx_view x.0, x.1.now))) c.in-Some.is) in
    part_within c.args.bytes.now front c.in-Some.rest.now parts

pub returns-clause-whole : goal.returns-clause-whole
returns-clause-whole c =
    let bytes = c.args.bytes.now in
    let rest = c.in-Some.rest.now in
    let stands : transaction_at bytes ≡ Some (tx_view c.in-Some.tx, rest) = sym c.in_ok-tx.ensures.tx ∙ ap (option_map (λ x. (tx_view x.0, x.1.now))) c.in-Some.is in
    let (front, parts, spelled) = read_spelled bytes rest (tx_view c.in-Some.tx) stands in
    (omega arith, stands ∙ (λ i. Some (sym c.in_ok-to_owned.ensures i, sym (part_behind bytes front rest parts) i)))

pub returns-clause-prefix : goal.returns-clause-prefix
returns-clause-prefix c = λ prefix.
    absurd (none_whole c.args.bytes.now prefix (tx_view c.in-Some.tx) c.in-Some.rest.now
    (sym c.in_ok-tx.ensures.tx ∙ ap (option_map (λ x. (tx_view x.0, x.1.now))) c.in-Some.is))
