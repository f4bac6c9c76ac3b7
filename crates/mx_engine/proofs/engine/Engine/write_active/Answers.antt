use Rattle.std.proofs.Common.{◌≡◌, ◌⊎◌, inl, not, Result, Ok, Err, Option, Some, None, refl, sym, ap, ◌∙◌, subst}
use Rattle.std.specs.Prelude.{◌==◌}
use Rattle.std.proofs.lemmas.Bool.{eqb-true}
use Rattle.mx_base.specs.declared.refusal.Refusal.{Refusal}
use Rattle.mx_base.specs.declared.refusal.Refusal.TheVariants.{OutOfMemory}
use Rattle.mx_judge.specs.declared.made.Made as code
use Rattle.mx_write.specs.Made.{nothing}
use Rattle.mx_write.specs.Notes.{AddsReads}
use Rattle.mx_write.specs.Views.{write_view}
use Rattle.mx_model.specs.declared.ids.Ids.{Ids}
use Rattle.mx_model.specs.declared.reply.Reply.TheVariants.{Tuples}
use Rattle.mx_model.specs.Bases.{writable_node}
use Rattle.mx_model.specs.statements.Write.{answer_of_outcome}
use Rattle.mx_engine.specs.declared.answer.Answered.TheVariants as answered
use Rattle.mx_engine.specs.StatementViews.{write_in_space}
use Rattle.mx_engine.specs.Steps.{newest_run}
use Rattle.mx_engine.proofs.StatementLaws.{alone_by, answer_nothing, its_judged, judged_as, noted_ok, refused_alone}
use Rattle.mx_engine.proofs.StatementMemory.{active_may_lack, answers_where, tells_read_only}
use Rattle.mx_engine.proofs.ViewLaws.{sees_state}
use Rattle.mx_engine.proofs.engine.Engine.write_active.Goals as goal

pub returns-then-not-is_writable-clause-answers : goal.returns-then-not-is_writable-clause-answers
returns-then-not-is_writable-clause-answers c = λ streams name one all active plain.
    let refuses = ap (λ (i : Ids). i.me == writable_node) (sym active.is_open.has.ids) ∙ sym c.if-not-is_writable.ensures in
    inl (tells_read_only c.args.self.now streams name c.args.slot one active c.args.space.0 (write_view c.args.write.now) plain refuses)

pub returns-in-Ok-Some-clause-answers : goal.returns-in-Ok-Some-clause-answers
returns-in-Ok-Some-clause-answers c = λ streams name one all active plain.
    let before = (newest_run streams one).state in
    let shown = c.view_of.ensures streams name one active all in
    let write = write_view c.args.write.now in
    let judged = its_judged streams one c.args.space.0 write in
    let found = judged_as before c.args.space.0 write judged _ (Some c.in-Ok-Some.made) c.in-Ok-Some.field-0-is (c.in-Ok-Some.ensures.judges before (sees_state before _ shown plain.0)) in
    let takes = ap (λ (i : Ids). i.me == writable_node) (sym active.is_open.has.ids) ∙ sym c.if-not-is_writable.ensures in
    answers_where _ _ _ streams name _ _ (active_may_lack streams one (write_in_space c.args.space c.args.write.now) plain active.active (ap not takes))
    (c.put_active.ensures.answers streams name one all active plain (eqb-true _ _ (sym c.if-not-is_writable.ensures))
    (record {
      to = found.0;
      judged = found.1;
      makes = found.2;
      notes = subst (λ old. AddsReads old c.judge.new.notes judged.reads) c.on-notes.ensures
          (noted_ok c.in-Ok-Some.field-0 c.on-notes.result c.judge.new.notes judged.reads (c.in-Ok-Some.ensures.notes before (sees_state before _ shown plain.0)));
    }))

pub returns-in-Ok-None-clause-answers : goal.returns-in-Ok-None-clause-answers
returns-in-Ok-None-clause-answers c = λ streams name one all active plain.
    let before = (newest_run streams one).state in
    let shown = c.view_of.ensures streams name one active all in
    let takes = ap (λ (i : Ids). i.me == writable_node) (sym active.is_open.has.ids) ∙ sym c.if-not-is_writable.ensures in
    let judged = its_judged streams one c.args.space.0 (write_view c.args.write.now) in
    let written = write_in_space c.args.space c.args.write.now in
    answers_where _ _ _ streams name _ _ (active_may_lack streams one written plain active.active (ap not takes))
    (c.note.ensures.answers streams name one written c.clear.new.self all active plain
    (alone_by streams one c.clear.new.self (Ok answered.Tuples) c.judge.new.notes written (answer_of_outcome judged.reads (Ok nothing))
    (answer_nothing streams one c.args.space.0 (write_view c.args.write.now) takes
    (judged_as before c.args.space.0 (write_view c.args.write.now) judged _ None c.in-Ok-None.field-0-is (c.in-Ok-None.ensures.judges before (sees_state before _ shown plain.0))))
    (ap (λ t. Tuples t) c.clear.ensures) refl refl
    (subst (λ old. AddsReads old c.judge.new.notes judged.reads) c.on-notes.ensures
    (noted_ok c.in-Ok-None.field-0 c.on-notes.result c.judge.new.notes judged.reads (c.in-Ok-None.ensures.notes before (sees_state before _ shown plain.0))))))

pub returns-in-Err-clause-answers : goal.returns-in-Err-clause-answers
returns-in-Err-clause-answers c = λ streams name one all active plain.
    let before = (newest_run streams one).state in
    let shown = c.view_of.ensures streams name one active all in
    let takes = ap (λ (i : Ids). i.me == writable_node) (sym active.is_open.has.ids) ∙ sym c.if-not-is_writable.ensures in
    let judged = its_judged streams one c.args.space.0 (write_view c.args.write.now) in
    answers_where _ _ _ streams name _ _ (active_may_lack streams one (write_in_space c.args.space c.args.write.now) plain active.active (ap not takes))
    (c.note-in-Err.ensures.answers streams name one (write_in_space c.args.space c.args.write.now) c.args.found.now all active plain
    (refused_alone streams one c.args.space.0 (write_view c.args.write.now) takes c.in-Err.refusal c.args.found.now c.judge.new.notes (c.in-Err.ensures.judges before (sees_state before _ shown plain.0))
    (subst (λ old. (◌≡◌ {A = Result (Option code.Made) Refusal} (Err c.in-Err.refusal) (Err OutOfMemory)) ⊎ AddsReads old c.judge.new.notes judged.reads) c.on-notes.ensures
    (c.in-Err.ensures.notes before (sees_state before _ shown plain.0)))))
