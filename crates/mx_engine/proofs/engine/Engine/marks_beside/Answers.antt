use Rattle.std.proofs.Common.{Bool, List, None, length, subst, sym, ap, ◌∙◌}
use Rattle.std.proofs.lemmas.Result.{err_from_is_err_and}
use Rattle.mx_tracker.specs.Overlaps.{is_overlapped}
use Rattle.mx_tracker.specs.Tracks.{noted_reads}
use Rattle.mx_write.specs.declared.writable.Writer.TheVariants.{Client}
use Rattle.mx_write.specs.Views.{write_view}
use Rattle.mx_transactions.specs.declared.work.Work.{Work}
use Rattle.mx_tracker.specs.Marks.{is_marked}
use Rattle.mx_transactions.specs.Open.{newest_state}
use Rattle.mx_transactions.specs.OpenSteps.{ViewsAreKept}
use Rattle.mx_engine.proofs.CommitWorkLaws.{prepared}
use Rattle.mx_engine.proofs.OutcomeLaws.{keeps_same, only_opened}
use Rattle.mx_engine.proofs.WriteLaws.{row_spelled}
use Rattle.mx_engine.proofs.engine.Engine.marks_beside.Goals as goal

pub returns-in_err-prepare-clause-marks : goal.returns-in_err-prepare-clause-marks
returns-in_err-prepare-clause-marks c = λ streams write is.
    let old = c.args.self.now in
    let p = err_from_is_err_and c.from_residual-in_err-prepare.result c.from_residual-in_err-prepare.ensures.1 in
    let found = c.in_err-prepare.ensures in
    rw p.1 (keeps_same old _ streams is.has (only_opened old c.prepare.new.self)
    (prepared streams old.state old.commits old.open c.prepare.new.self is.has.holds is.has.commits found.same (found.new (newest_state streams) is.has.holds) found.others is.has.transactions))

pub returns-clause-marks : goal.returns-clause-marks
returns-clause-marks c = λ streams write is.
    let old = c.args.self.now in
    let found = c.in_ok-prepare.ensures in
    let keys = c.touch.new.keys in
    record {
      same = only_opened old c.prepare.new.self;
      transactions = prepared streams old.state old.commits old.open c.prepare.new.self is.has.holds is.has.commits found.same (found.new (newest_state streams) is.has.holds) found.others is.has.transactions;
      marks = (
        keys,
        row_spelled streams c.args.space write c.args.made.now old is c.new-keys.result keys c.new-keys.ensures
            (c.in_ok-touch.ensures (newest_state streams) Client (write_view write) is.to (c.of.ensures.shown (newest_state streams) is.has.holds) is.judged is.makes),
        λ slot within. ap (λ (marks : List Bool). is_marked marks slot) c.in_ok-marks.ensures.ok ∙ c.overlapped-marks.ensures.marks slot within ∙ ap (λ tracks. is_overlapped keys (noted_reads tracks slot)) (sym found.same.tracks),
        subst (λ (marks : List Bool). ViewsAreKept c.prepare.new.self marks old.commits None) c.deref.ensures found.ready,
        ap (λ (works : List Work). length works) found.same.works ∙ c.overlapped-marks.ensures.whole,
      );
    }
