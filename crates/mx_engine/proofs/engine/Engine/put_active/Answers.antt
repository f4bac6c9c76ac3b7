use Rattle.std.proofs.Common.{inl, inr, Err, refl, sym, ap, ◌∙◌, subst}
use Rattle.std.specs.Prelude.{◌==◌}
use Rattle.mx_base.specs.declared.refusal.Refusal.TheVariants.{TransactionTooLong}
use Rattle.mx_row.specs.Limits.{has_room}
use Rattle.mx_write.specs.Made.{row_with}
use Rattle.mx_write.specs.Views.{write_view}
use Rattle.mx_model.specs.declared.ids.Ids.{Ids}
use Rattle.mx_model.specs.Bases.{writable_node}
use Rattle.mx_model.specs.statements.Answer.{refusal_after}
use Rattle.mx_transactions.specs.Open.{HasWritten, newest_state}
use Rattle.mx_engine.specs.StatementViews.{write_in_space}
use Rattle.mx_engine.specs.Steps.{newest_run, row_made}
use Rattle.mx_engine.proofs.StatementLaws.{alone_by, answer_full, its_judged}
use Rattle.mx_engine.proofs.StepLaws.{same_work}
use Rattle.mx_engine.proofs.engine.Engine.put_active.Goals as goal

pub returns-then-not-has_room-clause-answers : goal.returns-then-not-has_room-clause-answers
returns-then-not-has_room-clause-answers c = λ streams name one all active plain me made.
    let run = newest_run streams one in
    let written = subst (λ w. HasWritten (newest_state streams) run w) (same_work c.args.self.now streams name c.args.slot one active c.work.result.now c.work.ensures) active.run.written in
    let row = c.row_of-row.ensures ∙ ap (λ key. row_with c.args.space.0 (write_view c.args.write.now) key) c.as_slice.ensures in
    let full = sym (c.if-not-has_room.ensures run.rows written.rows written.size ∙ ap (λ r. has_room run.rows r) row) in
    let takes = ap (λ (i : Ids). i.me == writable_node) (sym active.is_open.has.ids) ∙ ap (λ m. m == writable_node) me in
    let judged = its_judged streams one c.args.space.0 (write_view c.args.write.now) in
    let statement = write_in_space c.args.space c.args.write.now in
    c.note.ensures.answers streams name one statement c.args.found.now all active plain
    (alone_by streams one c.args.found.now (Err TransactionTooLong) c.args.notes statement (refusal_after judged.reads TransactionTooLong)
    (answer_full streams one c.args.space.0 (write_view c.args.write.now) takes made.to made.judged (row_made c.args.space c.args.write.now c.args.made) made.makes.row full) refl refl refl made.notes)

pub returns-in-Ok-clause-answers : goal.returns-in-Ok-clause-answers
returns-in-Ok-clause-answers c = λ streams name one all active plain me made.
    let run = newest_run streams one in
    let written = subst (λ w. HasWritten (newest_state streams) run w) (same_work c.args.self.now streams name c.args.slot one active c.work.result.now c.work.ensures) active.run.written in
    let row = c.row_of-row.ensures ∙ ap (λ key. row_with c.args.space.0 (write_view c.args.write.now) key) c.as_slice.ensures in
    let room = sym (c.if-not-has_room.ensures run.rows written.rows written.size ∙ ap (λ r. has_room run.rows r) row) in
    inl (c.in-Ok.ensures.adds streams name one all active plain me made room)

pub returns-in-Err-clause-answers : goal.returns-in-Err-clause-answers
returns-in-Err-clause-answers c = λ streams name one all active plain me made.
    let run = newest_run streams one in
    let written = subst (λ w. HasWritten (newest_state streams) run w) (same_work c.args.self.now streams name c.args.slot one active c.work.result.now c.work.ensures) active.run.written in
    let row = c.row_of-row.ensures ∙ ap (λ key. row_with c.args.space.0 (write_view c.args.write.now) key) c.as_slice.ensures in
    let room = sym (c.if-not-has_room.ensures run.rows written.rows written.size ∙ ap (λ r. has_room run.rows r) row) in
    inr (refl, c.in-Err.ensures.adds streams name one all active plain me made room)
