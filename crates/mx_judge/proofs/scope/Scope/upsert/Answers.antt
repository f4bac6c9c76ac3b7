use Rattle.std.proofs.Common.{◌≡◌, ℕ, [], ◌∷◌, List, Option, Some, None, refl, sym, ap, ◌∙◌, subst}
use Rattle.std.proofs.lemmas.Result.{err_from_is_err_and}
use Rattle.std.specs.Option.{option_copied}
use Rattle.mx_row.specs.Rows.{upsert_type}
use Rattle.mx_schema.specs.declared.index_def.IndexDef.{IndexDef}
use Rattle.mx_schema.specs.declared.schema.Schema.{Schema}
use Rattle.mx_schema.specs.State.{tuples_in}
use Rattle.mx_judge.specs.declared.scope.Scope.{Scope}
use Rattle.mx_write.specs.Judged.{reads_of, ◌>>=◌}
use Rattle.mx_write.specs.Lookup.{own_key, tuple_under}
use Rattle.mx_judge.specs.Makes.{JudgesMade}
use Rattle.mx_write.specs.Notes.{NotesJudged}
use Rattle.mx_write.specs.Reads.{key_read}
use Rattle.mx_write.specs.Stages.{in_target}
use Rattle.mx_write.specs.Upsert.{upsert_found, upserts}
use Rattle.mx_write.specs.Writes.{Upsert}
use Rattle.mx_write.proofs.NoteLaws.{as_result, noted_later, noted_result}
use Rattle.mx_judge.proofs.EntryStageLaws.{judged_by}
use Rattle.mx_judge.proofs.TargetLaws.{own_bytes, own_fits}
use Rattle.mx_judge.proofs.scope.Scope.upsert.Goals as goal

pub returns-in_err-target-clause-judges : goal.returns-in_err-target-clause-judges
unfolding upserts
returns-in_err-target-clause-judges c = λ before holds.
    let p = err_from_is_err_and c.from_residual.result c.from_residual.ensures.1 in
    let self = c.args.self in
    let tuple = c.args.tuple.now in
    let base = c.args.base in
    let operations = c.args.operations.now in
    let rest = λ (s : Scope) (schema : Schema) (primary : IndexDef). (reads_of (key_read s.space.0 0 (own_key primary tuple) ∷ [])
    >>= λ _. upsert_found s.writer before s.space.0 base tuple operations schema primary (tuple_under before s.space.0 (own_key primary tuple))) in
    rw (p.1, p.2) (c.in_err-target.ensures.judges before (rest self) holds)

pub returns-in_err-target-clause-notes : goal.returns-in_err-target-clause-notes
unfolding upserts
returns-in_err-target-clause-notes c = λ before holds.
    let p = err_from_is_err_and c.from_residual.result c.from_residual.ensures.1 in
    let self = c.args.self in
    let tuple = c.args.tuple.now in
    let base = c.args.base in
    let operations = c.args.operations.now in
    let rest = λ (s : Scope) (schema : Schema) (primary : IndexDef). (reads_of (key_read s.space.0 0 (own_key primary tuple) ∷ [])
    >>= λ _. upsert_found s.writer before s.space.0 base tuple operations schema primary (tuple_under before s.space.0 (own_key primary tuple))) in
    rw (p.1, p.2) (as_result c.in_err-target.field-0.0 (c.in_err-target.ensures.notes before (rest self) holds))

pub returns-in-Some-clause-judges : goal.returns-in-Some-clause-judges
unfolding upserts
returns-in-Some-clause-judges c = λ before holds.
    let self = c.args.self in
    let tuple = c.args.tuple.now in
    let base = c.args.base in
    let operations = c.args.operations.now in
    let rest = λ (s : Scope) (schema : Schema) (primary : IndexDef). (reads_of (key_read s.space.0 0 (own_key primary tuple) ∷ [])
    >>= λ _. upsert_found s.writer before s.space.0 base tuple operations schema primary (tuple_under before s.space.0 (own_key primary tuple))) in
    let target = c.in_ok-target.target in
    let schema = target.schema.now in
    let primary = target.primary.now in
    let own = own_key primary tuple in
    let found = λ (s : Scope) (old : Option (List ℕ)). upsert_found s.writer before s.space.0 base tuple operations schema primary old in
    let (scope, is_target, has, reaches) = c.in_ok-target.ensures.judges before (rest self) holds in
    let under : tuple_under before self.space.0 own ≡ (Some c.in-Some.old.now) =
    subst (λ (s : Scope). tuple_under before s.space.0 own ≡ (Some c.in-Some.old.now)) scope
    (sym (c.tuple.ensures.shown _ (tuples_in before target.scope.space.0) own is_target.stored (own_fits primary tuple _ has) (own_bytes primary tuple _ has)) ∙ ap option_copied c.in-Some.is) in
    judged_by before self.space.0 (Upsert base tuple operations) c.change.result (upserts self.writer before self.space.0 base tuple operations) (found self (Some c.in-Some.old.now))
    (reaches ∙ ap (λ (old : Option (List ℕ)). (found self old).outcome) under)
    (subst (λ (s : Scope). JudgesMade before s.space.0 (Upsert base tuple operations) c.change.result (found s (Some c.in-Some.old.now))) scope (c.change.ensures.judges before is_target has))

pub returns-in-Some-clause-notes : goal.returns-in-Some-clause-notes
unfolding upserts
returns-in-Some-clause-notes c = λ before holds.
    let self = c.args.self in
    let tuple = c.args.tuple.now in
    let base = c.args.base in
    let operations = c.args.operations.now in
    let rest = λ (s : Scope) (schema : Schema) (primary : IndexDef). (reads_of (key_read s.space.0 0 (own_key primary tuple) ∷ [])
    >>= λ _. upsert_found s.writer before s.space.0 base tuple operations schema primary (tuple_under before s.space.0 (own_key primary tuple))) in
    let target = c.in_ok-target.target in
    let schema = target.schema.now in
    let primary = target.primary.now in
    let own = own_key primary tuple in
    let found = λ (s : Scope) (old : Option (List ℕ)). upsert_found s.writer before s.space.0 base tuple operations schema primary old in
    let (scope, is_target, has, reaches) = c.in_ok-target.ensures.judges before (rest self) holds in
    let under : tuple_under before self.space.0 own ≡ (Some c.in-Some.old.now) =
    subst (λ (s : Scope). tuple_under before s.space.0 own ≡ (Some c.in-Some.old.now)) scope
    (sym (c.tuple.ensures.shown _ (tuples_in before target.scope.space.0) own is_target.stored (own_fits primary tuple _ has) (own_bytes primary tuple _ has)) ∙ ap option_copied c.in-Some.is) in
    let noted = subst (λ (s : Scope). NotesJudged c.note_key.new.self c.change.new.notes c.change.result (found s (Some c.in-Some.old.now))) scope (c.change.ensures.notes before is_target has) in
    noted_result c.args.notes.now c.find_target.new.notes c.change.new.notes c.change.result (in_target self.writer before self.space.0 upsert_type tuple (rest self)) (rest self schema primary)
    (c.in_ok-target.ensures.notes before (rest self) holds)
    (noted_later (reads_of (key_read self.space.0 0 own ∷ [])) (λ _. found self (tuple_under before self.space.0 own)) c.find_target.new.notes c.note_key.new.self tt c.change.new.notes refl
    (c.in_ok-note_key.ensures own (own_fits primary tuple _ has) (c.as_slice.ensures ∙ own_bytes primary tuple _ has))
    (subst (λ (old : Option (List ℕ)). NotesJudged c.note_key.new.self c.change.new.notes c.change.result (found self old)) (sym under) noted))

pub returns-in-None-clause-judges : goal.returns-in-None-clause-judges
unfolding upserts
returns-in-None-clause-judges c = λ before holds.
    let self = c.args.self in
    let tuple = c.args.tuple.now in
    let base = c.args.base in
    let operations = c.args.operations.now in
    let rest = λ (s : Scope) (schema : Schema) (primary : IndexDef). (reads_of (key_read s.space.0 0 (own_key primary tuple) ∷ [])
    >>= λ _. upsert_found s.writer before s.space.0 base tuple operations schema primary (tuple_under before s.space.0 (own_key primary tuple))) in
    let target = c.in_ok-target.target in
    let schema = target.schema.now in
    let primary = target.primary.now in
    let own = own_key primary tuple in
    let found = λ (s : Scope) (old : Option (List ℕ)). upsert_found s.writer before s.space.0 base tuple operations schema primary old in
    let (scope, is_target, has, reaches) = c.in_ok-target.ensures.judges before (rest self) holds in
    let under : tuple_under before self.space.0 own ≡ None =
    subst (λ (s : Scope). tuple_under before s.space.0 own ≡ None) scope
    (sym (c.tuple.ensures.shown _ (tuples_in before target.scope.space.0) own is_target.stored (own_fits primary tuple _ has) (own_bytes primary tuple _ has)) ∙ ap option_copied c.in-None.is) in
    judged_by before self.space.0 (Upsert base tuple operations) c.put.result (upserts self.writer before self.space.0 base tuple operations) (found self None)
    (reaches ∙ ap (λ (old : Option (List ℕ)). (found self old).outcome) under)
    (subst (λ (s : Scope). JudgesMade before s.space.0 (Upsert base tuple operations) c.put.result (found s None)) scope (c.put.ensures.judges before is_target has))

pub returns-in-None-clause-notes : goal.returns-in-None-clause-notes
unfolding upserts
returns-in-None-clause-notes c = λ before holds.
    let self = c.args.self in
    let tuple = c.args.tuple.now in
    let base = c.args.base in
    let operations = c.args.operations.now in
    let rest = λ (s : Scope) (schema : Schema) (primary : IndexDef). (reads_of (key_read s.space.0 0 (own_key primary tuple) ∷ [])
    >>= λ _. upsert_found s.writer before s.space.0 base tuple operations schema primary (tuple_under before s.space.0 (own_key primary tuple))) in
    let target = c.in_ok-target.target in
    let schema = target.schema.now in
    let primary = target.primary.now in
    let own = own_key primary tuple in
    let found = λ (s : Scope) (old : Option (List ℕ)). upsert_found s.writer before s.space.0 base tuple operations schema primary old in
    let (scope, is_target, has, reaches) = c.in_ok-target.ensures.judges before (rest self) holds in
    let under : tuple_under before self.space.0 own ≡ None =
    subst (λ (s : Scope). tuple_under before s.space.0 own ≡ None) scope
    (sym (c.tuple.ensures.shown _ (tuples_in before target.scope.space.0) own is_target.stored (own_fits primary tuple _ has) (own_bytes primary tuple _ has)) ∙ ap option_copied c.in-None.is) in
    let noted = subst (λ (s : Scope). NotesJudged c.note_key.new.self c.put.new.notes c.put.result (found s None)) scope (c.put.ensures.notes before is_target has) in
    noted_result c.args.notes.now c.find_target.new.notes c.put.new.notes c.put.result (in_target self.writer before self.space.0 upsert_type tuple (rest self)) (rest self schema primary)
    (c.in_ok-target.ensures.notes before (rest self) holds)
    (noted_later (reads_of (key_read self.space.0 0 own ∷ [])) (λ _. found self (tuple_under before self.space.0 own)) c.find_target.new.notes c.note_key.new.self tt c.put.new.notes refl
    (c.in_ok-note_key.ensures own (own_fits primary tuple _ has) (c.as_slice.ensures ∙ own_bytes primary tuple _ has))
    (subst (λ (old : Option (List ℕ)). NotesJudged c.note_key.new.self c.put.new.notes c.put.result (found self old)) (sym under) noted))
