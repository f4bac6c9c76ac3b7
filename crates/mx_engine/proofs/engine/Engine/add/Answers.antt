use Rattle.std.proofs.Common.{[], Some, sym, ap, ◌∙◌, subst}
use Rattle.std.specs.Prelude.{◌==◌}
use Rattle.std.specs.List.{AllZip}
use Rattle.mx_row.specs.Limits.{row_size, saturated}
use Rattle.mx_write.specs.Made.{row_with}
use Rattle.mx_write.specs.Notes.{AddsReads, SpellsRead}
use Rattle.mx_write.specs.Views.{write_view}
use Rattle.mx_model.specs.declared.ids.Ids.{Ids}
use Rattle.mx_model.specs.declared.reply.Reply.TheVariants.{Tuples}
use Rattle.mx_model.specs.Bases.{writable_node}
use Rattle.mx_model.specs.statements.Answer.{Answer}
use Rattle.mx_transactions.specs.Open.{newest_state}
use Rattle.mx_engine.specs.StatementViews.{write_in_space}
use Rattle.mx_engine.specs.Steps.{newest_answer, newest_run, row_made}
use Rattle.mx_engine.proofs.StatementLaws.{answer_made, its_judged}
use Rattle.mx_engine.proofs.StepLaws.{keeps_active, noted_all, tells_active, with_open}
use Rattle.mx_engine.proofs.ViewLaws.{newest_stands}
use Rattle.mx_engine.proofs.engine.Engine.add.Goals as goal

pub returns-in-Ok-clause-adds : goal.returns-in-Ok-clause-adds
returns-in-Ok-clause-adds c = λ streams name one all active plain me made room.
    let statement = write_in_space c.args.space c.args.write.now in
    let write = write_view c.args.write.now in
    let takes = ap (λ (i : Ids). i.me == writable_node) (sym active.is_open.has.ids) ∙ ap (λ m. m == writable_node) me in
    let judged = its_judged streams one c.args.space.0 write in
    let is = answer_made streams one c.args.space.0 write takes made.to made.judged (row_made c.args.space c.args.write.now c.args.made) made.makes.row room in
    let row = c.in_ok-row.ensures ∙ c.row_of-row.ensures ∙ ap (λ key. row_with c.args.space.0 write key) c.as_slice.ensures in
    let spelled = noted_all c.in-Some.reads judged.reads (subst (λ noted. AddsReads (Some []) noted judged.reads) (sym c.in-Some.ensures) made.notes) in
    let now = c.in-Ok.ensures (newest_state streams) (newest_run streams one) (newest_answer streams one statement) write made.to active.is_open.kept active.is_open.has.holds
    (newest_stands c.args.self.now streams name c.args.slot one all active) active.is_open.is active.run
    (subst (λ reads. AllZip SpellsRead c.in-Some.reads reads) (sym (ap (λ (a : Answer). a.reads) is)) spelled) plain.0 made.judged made.makes
    (made.makes.row ∙ ap (λ r. Some r) (sym row)) (c.size_of-size.ensures ∙ ap (λ r. saturated (row_size r)) (sym c.in_ok-row.ensures))
    (ap (λ (a : Answer). a.row) is) (ap (λ (a : Answer). a.change) is) in
    tells_active c.args.self.now _ streams name c.args.slot one active
    (with_open c.args.self.now c.add.new.self)
    statement plain now.0 now.1 now.2 now.3 (Tuples c.show.new.shown)
    (ap (λ t. Tuples t) (c.in_ok-show.ensures ∙ sym made.makes.shown) ∙ sym (ap (λ (a : Answer). a.reply) is))

pub returns-in-Err-clause-adds : goal.returns-in-Err-clause-adds
returns-in-Err-clause-adds c = λ streams name one all active plain me made room.
    let statement = write_in_space c.args.space c.args.write.now in
    let write = write_view c.args.write.now in
    let takes = ap (λ (i : Ids). i.me == writable_node) (sym active.is_open.has.ids) ∙ ap (λ m. m == writable_node) me in
    let judged = its_judged streams one c.args.space.0 write in
    let is = answer_made streams one c.args.space.0 write takes made.to made.judged (row_made c.args.space c.args.write.now c.args.made) made.makes.row room in
    let row = c.in_ok-row.ensures ∙ c.row_of-row.ensures ∙ ap (λ key. row_with c.args.space.0 write key) c.as_slice.ensures in
    let spelled = noted_all c.in-Some.reads judged.reads (subst (λ noted. AddsReads (Some []) noted judged.reads) (sym c.in-Some.ensures) made.notes) in
    let now = c.in-Err.ensures (newest_state streams) (newest_run streams one) (newest_answer streams one statement) write made.to active.is_open.kept active.is_open.has.holds
    (newest_stands c.args.self.now streams name c.args.slot one all active) active.is_open.is active.run
    (subst (λ reads. AllZip SpellsRead c.in-Some.reads reads) (sym (ap (λ (a : Answer). a.reads) is)) spelled) plain.0 made.judged made.makes
    (made.makes.row ∙ ap (λ r. Some r) (sym row)) (c.size_of-size.ensures ∙ ap (λ r. saturated (row_size r)) (sym c.in_ok-row.ensures))
    (ap (λ (a : Answer). a.row) is) (ap (λ (a : Answer). a.change) is) in
    keeps_active c.args.self.now _ streams name c.args.slot one active
    (with_open c.args.self.now c.add.new.self)
    now.0 now.1 now.2 now.3
