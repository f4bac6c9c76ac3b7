use Rattle.std.specs.Option.{option_map}
use Rattle.std.proofs.Common.{[], ◌∷◌, ◌++◌, ap, ◌∙◌}
use Rattle.std.proofs.lemmas.Result.{err_from_is_err_and}
use Rattle.mx_write.specs.Made.{row_with}
use Rattle.mx_write.specs.Views.{write_view}
use Rattle.mx_engine.specs.Steps.{row_made, transaction_of}
use Rattle.mx_engine.proofs.WriteLaws.{keeps_prepared, keeps_pushed}
use Rattle.mx_engine.proofs.engine.Engine.ready.Goals as goal

pub returns-in_err-marks-clause-readies : goal.returns-in_err-marks-clause-readies
returns-in_err-marks-clause-readies c = λ streams is.
    let p = err_from_is_err_and c.from_residual-in_err-marks.result c.from_residual-in_err-marks.ensures.1 in
    rw p.1 (c.in_err-marks.ensures.marks streams c.args.write.now is)

pub returns-in_err-push-clause-readies : goal.returns-in_err-push-clause-readies
returns-in_err-push-clause-readies c = λ streams is.
    let old = c.args.self.now in
    let p = err_from_is_err_and c.from_residual-in_err-push.result c.from_residual-in_err-push.ensures.1 in
    rw p.1 (keeps_pushed old c.marks_of.new.self streams c.push.new.self
    (keeps_prepared old c.marks_of.new.self streams (row_made c.args.space c.args.write.now c.args.made.now) (option_map (λ b. b.value) c.in_ok-marks.marks) is.has (c.in_ok-marks.ensures.marks streams c.args.write.now is)) c.in_err-push.ensures.err)

pub returns-clause-readies : goal.returns-clause-readies
returns-clause-readies c = λ streams is.
    let between = c.marks_of.new.self in
    let made =
    c.in_ok-transaction.ensures ∙ ap (transaction_of c.args.lsn) c.row_of.ensures
    ∙ ap (λ key. transaction_of c.args.lsn (row_with c.args.space.0 (write_view c.args.write.now) key)) c.as_slice.ensures in
    record {
      between = between;
      prepares = c.in_ok-marks.ensures.marks streams c.args.write.now is;
      is = ap (λ pending. record between { pending = pending }) (c.in_ok-push.ensures.ok ∙ ap (λ commit. between.pending ++ commit ∷ []) made);
    }
