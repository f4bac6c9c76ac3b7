use Rattle.std.proofs.Common.{subst}
use Rattle.std.specs.Option.{option_map}
use Rattle.std.proofs.lemmas.Result.{err_from_is_err_and}
use Rattle.mx_entries.specs.Windows.{IsCollected}
use Rattle.mx_entries.proofs.PickLaws.{stopped_told}
use Rattle.mx_space.proofs.selection.select_range.Goals as goal

pub returns : goal.returns
returns c all key fits fit edges same =
    let wanted = c.args.wanted.now in
    let collected = c.in_ok-last.ensures in
    c.in_ok-read_to.ensures all key fits fit edges
    (subst (λ found. IsCollected c.collect_found.new.found found (option_map (λ key. key.now) c.in_ok-last.last)) same collected)

pub returns-in_err-last : goal.returns-in_err-last
returns-in_err-last c all key fits fit edges same =
    let wanted = c.args.wanted.now in
    let stopped = c.in_err-last.ensures in
    let p = err_from_is_err_and c.from_residual.result c.from_residual.ensures.1 in
    rw (p.1, p.2) (stopped_told all wanted key fits fit c.args.range.now edges _ same c.in_err-last.field-0.0 stopped)
