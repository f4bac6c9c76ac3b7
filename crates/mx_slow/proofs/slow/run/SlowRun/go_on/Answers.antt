use Rattle.std.proofs.Common.{◌++◌, refl, sym, ap, subst}
use Rattle.std.specs.Option.{option_to_list}
use Rattle.mx_model.specs.RunAlone.{run_with}
use Rattle.mx_slow_state.specs.SlowState.{IsSlowMade}
use Rattle.mx_slow.proofs.SlowRunLaws.{none_taken, nothing_made, write_made}
use Rattle.mx_slow.proofs.slow.run.SlowRun.go_on.Goals as goal

pub returns-in-Some : goal.returns-in-Some
returns-in-Some c = λ before run space answer stands has.
    let write = c.in-Some.write in
    let (same, row, made) = write_made c.args.answer run.state space run.rows answer has write c.in-Some.is in
    c.take.ensures before run (run_with run answer) answer.change stands (subst (λ n. IsSlowMade run.state n write.row write.made answer.change) (sym same) made)
    (ap (λ o. run.rows ++ option_to_list o) row) refl

pub returns : goal.returns
returns c = λ before run space answer stands has.
    let (row, change) = nothing_made c.args.answer run.state space run.rows answer has c.in-None.is in
    none_taken c.args.self.now before run answer stands row change
