use Rattle.std.proofs.Common.{◌≡◌, ◌⊎◌, Err, [], Some, refl, subst}
use Rattle.mx_base.specs.declared.refusal.Refusal.TheVariants.{OutOfMemory}
use Rattle.mx_write.specs.Notes.{AddsReads}
use Rattle.mx_model.specs.statements.Select.{select_answer_in}
use Rattle.mx_engine.specs.StatementViews.{select_view}
use Rattle.mx_engine.specs.Steps.{IsReplyOf, newest_run}
use Rattle.mx_engine.specs.Views.{reply_of}
use Rattle.mx_engine.proofs.StatementLaws.{selects_alone}
use Rattle.mx_engine.proofs.StatementMemory.{active_may_lack, answers_where}
use Rattle.mx_engine.proofs.engine.Engine.select_active.Goals as goal

pub returns-clause-answers : goal.returns-clause-answers
returns-clause-answers c = λ streams name one all active.
    let seen = (newest_run streams one).state in
    let shown = c.view_of-view.ensures streams name one active all in
    let wanted = c.args.wanted.now in
    let found = c.select-result.new.found in
    let result = c.select-result.result in
    let told = subst (λ p. IsReplyOf (reply_of result found) (select_answer_in seen wanted.space.0 wanted.index.0 p.limit p.offset p.iterator p.key.now)) c.pick.ensures
    (c.select-result.ensures.told seen shown) in
    let noted = subst (λ p. (result ≡ Err OutOfMemory) ⊎ AddsReads (Some []) c.select-result.new.notes (select_answer_in seen wanted.space.0 wanted.index.0 p.limit p.offset p.iterator p.key.now).reads) c.pick.ensures
    (subst (λ old. (result ≡ Err OutOfMemory) ⊎ AddsReads old c.select-result.new.notes (select_answer_in seen wanted.space.0 wanted.index.0 c.pick.result.limit c.pick.result.offset c.pick.result.iterator c.pick.result.key.now).reads) c.on-notes.ensures (c.select-result.ensures.notes seen shown)) in
    answers_where _ _ _ streams name _ _ (active_may_lack streams one (select_view wanted) (tt, tt) active.active refl)
    (c.note.ensures.answers streams name one (select_view wanted) found all active (tt, tt)
    (selects_alone streams one found result c.select-result.new.notes wanted.space.0 wanted.index.0 wanted.limit wanted.offset wanted.iterator wanted.key.now told noted))
