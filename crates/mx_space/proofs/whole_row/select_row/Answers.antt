use Rattle.std.proofs.Common.{rules, subst}
use Rattle.std.specs.Option.{option_map}
use Rattle.std.proofs.lemmas.Result.{err_from_is_err_and}
use Rattle.mx_entries.specs.Windows.{IsCollected}
use Rattle.mx_entries.proofs.PickLaws.{stopped_told}
use Rattle.mx_space.proofs.whole_row.select_row.Goals as goal

pub returns : goal.returns
returns c all key fits fit edges same =
    c.in_ok-read_to.ensures all key fits fit edges
    (subst (λ found. IsCollected c.collect_one.new.tuples found (option_map (λ key. key.now) c.in_ok-last.last)) (same (search rules)) c.in_ok-last.ensures)

pub returns-in_err-last : goal.returns-in_err-last
returns-in_err-last c all key fits fit edges same =
    let p = err_from_is_err_and c.from_residual.result c.from_residual.ensures.1 in
    rw (p.1, p.2) (stopped_told all c.args.wanted.now key fits fit c.args.range.now edges _ (same (search rules)) c.in_err-last.field-0.0 c.in_err-last.ensures)
