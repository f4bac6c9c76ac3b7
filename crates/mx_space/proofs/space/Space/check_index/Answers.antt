use Rattle.std.proofs.lemmas.Result.{err_from_is_err_and}
use Rattle.mx_space.proofs.SpaceLaws.{primary_long}
use Rattle.mx_space.proofs.space.Space.check_index.Goals as goal

pub returns-in_err-new_entries : goal.returns-in_err-new_entries
returns-in_err-new_entries c = λ was all stores none first.
    let whole = primary_long was c.args.self.now all stores in
    let why = c.in_err-new_entries.ensures all whole.0 stores.holds.keeps none (λ other. whole.1 (first other)) in
    let p = err_from_is_err_and c.from_residual.result c.from_residual.ensures.1 in
    rw (p.1, p.2) why

pub returns : goal.returns
returns c = λ was all stores none first.
    let whole = primary_long was c.args.self.now all stores in
    (c.in_ok-new_entries.ensures all whole.0 stores.holds.keeps none (λ other. whole.1 (first other))).0
