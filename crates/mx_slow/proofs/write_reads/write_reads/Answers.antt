use Rattle.std.proofs.Common.{◌++◌, sym, ap, ◌∙◌, subst}
use Rattle.mx_write.specs.declared.writable.Writer.TheVariants.{Client}
use Rattle.mx_write.specs.Judge.{judged_write}
use Rattle.mx_write.specs.Views.{write_view}
use Rattle.mx_slow.specs.SlowReads.{HasRead, reads_view}
use Rattle.mx_slow.proofs.SlowReadLaws.{written_reads}
use Rattle.mx_slow.proofs.SlowStageLaws.{stopped_known}
use Rattle.mx_slow.proofs.write_reads.write_reads.Goals as goal

pub returns-in-Ok : goal.returns-in-Ok
returns-in-Ok c = λ before asked keeps writes.
    let write = write_view c.args.write.now in
    let whole = (judged_write Client before c.args.space.0 write).reads in
    let (adds, fit) = c.in-Ok.ensures before keeps in
    subst (HasRead c.judge_reads.new.reads) (sym (written_reads before asked c.args.space.0 write writes)) (adds ∙ ap (λ l. l ++ reads_view whole) c.new-reads.ensures, fit)

pub returns-in_ok-refused-in-Err : goal.returns-in_ok-refused-in-Err
returns-in_ok-refused-in-Err c = λ before asked keeps writes.
    let write = write_view c.args.write.now in
    let whole = (judged_write Client before c.args.space.0 write).reads in
    let (adds, fit) = stopped_known c.in-Err.refusal c.new-reads.result c.judge_reads.new.reads whole (c.in-Err.ensures before keeps) c.in_ok-refused-in-Err.ensures.1 in
    subst (HasRead c.judge_reads.new.reads) (sym (written_reads before asked c.args.space.0 write writes)) (adds ∙ ap (λ l. l ++ reads_view whole) c.new-reads.ensures, fit)
