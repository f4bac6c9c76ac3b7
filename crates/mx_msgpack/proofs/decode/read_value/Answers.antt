use Rattle.std.proofs.Common.{ap, Err, arith}
use Rattle.std.proofs.lemmas.Result.{err_from_is_err_and}
use Rattle.mx_msgpack.specs.Owned.{value_view}
use Rattle.mx_msgpack.proofs.TakingLaws.{found_spellable, told_read_bad, whole_fault}
use Rattle.mx_msgpack.proofs.decode.read_value.Goals as goal

pub returns-in_err-value-clause-fault : goal.returns-in_err-value-clause-fault
returns-in_err-value-clause-fault c = λ bad e.
    let r = c.from_residual-in_err-value in
    let p = err_from_is_err_and r.result r.ensures.1 in
    let same = told_read_bad r.result p.0 c.in_err-value.field-0.0 bad p.1 p.2 e in
    whole_fault c.args.bytes.now bad (c.in_err-value.ensures.fault bad (ap (λ x. Err x) same))

pub returns-clause-spellable : goal.returns-clause-spellable
returns-clause-spellable c =
    found_spellable (value_view c.in_ok-value.value) c.args.bytes.now c.in_ok-value.rest.now (λ i. omega (arith, c.type_inv.bytes i)) c.in_ok-value.ensures.found
