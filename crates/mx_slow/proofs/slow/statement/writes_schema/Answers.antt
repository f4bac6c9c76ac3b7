use Rattle.std.proofs.Common.{◌&&◌, sym, ap, ◌∙◌}
use Rattle.mx_write.specs.Writable.{describes_schema}
use Rattle.mx_slow.proofs.SlowStreamLaws.{names_space}
use Rattle.mx_slow.proofs.slow.statement.writes_schema.Goals as goal

pub returns-in-Some : goal.returns-in-Some
returns-in-Some c = λ statement asked states.
    let (space, writes_it) = names_space c.args.request.now statement _ states (c.in-Some.ensures.value asked.0) in
    c.describes_schema.ensures ∙ ap describes_schema space ∙ sym (ap (λ w. w && describes_schema statement.space) writes_it)

pub returns-in-None : goal.returns-in-None
returns-in-None c = λ statement asked states.
    let reads_it = names_space c.args.request.now statement _ states (c.in-None.ensures.value asked.0) in
    sym (ap (λ w. w && describes_schema statement.space) reads_it)
