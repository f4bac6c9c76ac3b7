use Rattle.std.proofs.Common.{sym, ap, ◌∙◌, subst}
use Rattle.std.specs.Prelude.{IfOk}
use Rattle.mx_slow.specs.SlowReads.{HasRead, reads_view}
use Rattle.mx_slow.specs.SlowTouches.{AreFitReads}
use Rattle.mx_slow.proofs.SlowRunLaws.{reads_refused, reads_taken}
use Rattle.mx_slow.proofs.slow.run.statement_reads.Goals as goal

pub returns-then-refuses : goal.returns-then-refuses
returns-then-refuses c = λ before is.
    let none = sym (reads_refused c.args.ids.now before c.args.request.now (sym c.refuses.ensures ∙ c.if-refuses.true)) in
    (c.new.ensures ∙ ap reads_view none, subst AreFitReads none tt)

pub returns : goal.returns
returns c = λ before is.
    subst (λ reads. IfOk c.reads.result (λ found. HasRead found reads))
    (reads_taken c.args.ids.now before c.args.request.now (sym c.refuses.ensures ∙ c.if-refuses.false)) (c.reads.ensures before is.keeps)
