use Rattle.std.proofs.Common.{◌++◌, sym, ap, ◌∙◌, subst}
use Rattle.std.specs.List.{AllZip}
use Rattle.mx_model.specs.RunTouches.{changes_of}
use Rattle.mx_transactions.specs.declared.work.Work.{Work}
use Rattle.mx_transactions.specs.Open.{SpellsKey, in_order, newest_state}
use Rattle.mx_engine.specs.Steps.{newest_run}
use Rattle.mx_engine.proofs.CommitWorkLaws.{both_marks, run_spelled}
use Rattle.mx_engine.proofs.OutcomeLaws.{same_work}
use Rattle.mx_engine.proofs.engine.Engine.marks_of_work.Goals as goal

pub returns : goal.returns
returns c = λ streams name one stand is.
    let before = newest_state streams in
    let own = changes_of (newest_run streams one).answers in
    let old = c.args.self.now in
    let work = c.work-work.result.now in
    let stood = c.in_ok-stood.stood in
    let same = same_work old.open.works c.args.slot is.is_open.kept.work work is.is_open.is.work c.work-work.ensures in
    let each = subst (λ keys. AllZip SpellsKey keys (in_order own)) (ap (λ (w : Work). w.changed.items) same ∙ sym c.as_slice.ensures.value) is.run.written.changed in
    let means = c.in_ok-stood.ensures before own is.is_open.has.holds each in (
      work.puts ++ stood,
      run_spelled old streams name c.args.slot one work.puts stood stand is (ap (λ (w : Work). w.puts) (sym same)) means,
      both_marks old.open c.overlapped-marks.result c.overlapped.result c.add.new.self work.puts stood c.overlapped-marks.ensures.marks c.overlapped.ensures.marks c.add.ensures,
    )
