use Rattle.std.proofs.Common.{◌≡◌, drop, map, take, ap, ◌∙◌, subst}
use Rattle.std.specs.Option.{option_map}
use Rattle.std.proofs.lemmas.Result.{err_from_is_err_and}
use Rattle.mx_schema.specs.Stored.{stored_tuple}
use Rattle.mx_entries.specs.Windows.{IsCollected, found_in}
use Rattle.mx_space.specs.ShownRows.{rows_left}
use Rattle.mx_entries.proofs.PickLaws.{stopped_told}
use Rattle.mx_space.proofs.shown_select.select_rows.Goals as goal

pub returns : goal.returns
returns c = λ all key fits fit edges same.
    let wanted = c.args.wanted.now in
    let taken : take wanted.limit (rows_left c.pass_over.new.self) ≡ found_in (map stored_tuple all) c.args.range.now wanted.iterator wanted.offset wanted.limit =
    ap (take wanted.limit) (c.in_ok-pass_over.ensures ∙ ap (drop wanted.offset) same) in
    c.in_ok-read_to.ensures all key fits fit edges
    (subst (λ found. IsCollected c.collect_shown.new.tuples found (option_map (λ key. key.now) c.in_ok-last.last)) taken c.in_ok-last.ensures)

pub returns-in_err-last : goal.returns-in_err-last
returns-in_err-last c = λ all key fits fit edges same.
    let wanted = c.args.wanted.now in
    let taken : take wanted.limit (rows_left c.pass_over.new.self) ≡ found_in (map stored_tuple all) c.args.range.now wanted.iterator wanted.offset wanted.limit =
    ap (take wanted.limit) (c.in_ok-pass_over.ensures ∙ ap (drop wanted.offset) same) in
    let p = err_from_is_err_and c.from_residual-in_err-last.result c.from_residual-in_err-last.ensures.1 in
    rw (p.1, p.2) (stopped_told all wanted key fits fit c.args.range.now edges _ taken c.in_err-last.field-0.0 c.in_err-last.ensures)
