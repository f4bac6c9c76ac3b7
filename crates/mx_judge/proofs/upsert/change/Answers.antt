use Rattle.std.proofs.Common.{◌≡◌, ◌⊎◌, ℕ, List, [], Result, Ok, Err, inl, refl, sym, ◌∙◌, subst}
use Rattle.std.proofs.lemmas.Result.{err_from_is_err_and}
use Rattle.mx_base.specs.declared.refusal.Refusal.{Refusal}
use Rattle.mx_base.specs.declared.refusal.Refusal.TheVariants.{OutOfMemory}
use Rattle.mx_operations.specs.Operations.{Operation}
use Rattle.mx_update.specs.Updates.{upserted}
use Rattle.mx_write.specs.Judged.{judged_as, ◌>>=◌}
use Rattle.mx_write.specs.Lookup.{own_key}
use Rattle.mx_write.specs.Update.{put_in_place, the_operations, tuple_or_refusal}
use Rattle.mx_write.specs.Writes.{Upsert}
use Rattle.mx_write.proofs.FieldLaws.{same_upsert}
use Rattle.mx_write.specs.Writable.{tuple_in_space}
use Rattle.mx_write.proofs.RowJudgeLaws.{made_so, refused_anywhere}
use Rattle.mx_write.proofs.StageLaws.{goes_on_after, refused_before}
use Rattle.mx_judge.proofs.EntryStageLaws.{judged_by}
use Rattle.mx_judge.proofs.TargetLaws.{own_bytes, own_fits}
use Rattle.mx_write.proofs.NoteLaws.{as_result, quiet_before, quiet_through}
use Rattle.mx_judge.proofs.upsert.change.Goals as goal

pub returns-in_err-updated-clause-judges : goal.returns-in_err-updated-clause-judges
returns-in_err-updated-clause-judges c = λ before target has.
    let p = err_from_is_err_and c.from_residual.result c.from_residual.ensures.1 in
    let t = c.args.target.now in
    let space = t.scope.space.0 in
    let tuple = c.args.tuple.now in
    let old = c.args.old.now in
    let base = c.args.base in
    let operations = c.args.operations.now in
    let write = Upsert base tuple operations in
    let apply = λ (applied : List Operation). judged_as (tuple_in_space t.scope.writer space (tuple_or_refusal (upserted base old applied))) in
    let put = λ (new : List ℕ). put_in_place before space t.schema.now t.primary.now write (own_key t.primary.now tuple) new [] in
    let why = c.in_err-updated.field-0.0 in
    rw (p.1, p.2) (refused_before (the_operations operations) apply put why
    (refused_anywhere t.scope.writer space (the_operations operations) (λ applied. tuple_or_refusal (upserted base old applied)) why
    (subst (λ (o : Result (List ℕ) Refusal). (o ≡ Err why) ⊎ (why ≡ OutOfMemory)) (same_upsert c.array_or_empty.result.now old c.array_or_empty.ensures.items base operations)
    c.in_err-updated.ensures)))

pub returns-in_err-new-clause-judges : goal.returns-in_err-new-clause-judges
returns-in_err-new-clause-judges c = λ before target has.
    let p = err_from_is_err_and c.from_residual-in_err-new.result c.from_residual-in_err-new.ensures.1 in
    let t = c.args.target.now in
    let space = t.scope.space.0 in
    let tuple = c.args.tuple.now in
    let old = c.args.old.now in
    let base = c.args.base in
    let operations = c.args.operations.now in
    let write = Upsert base tuple operations in
    let apply = λ (applied : List Operation). judged_as (tuple_in_space t.scope.writer space (tuple_or_refusal (upserted base old applied))) in
    let put = λ (new : List ℕ). put_in_place before space t.schema.now t.primary.now write (own_key t.primary.now tuple) new [] in
    let why = c.in_err-new.field-0.0 in
    rw (p.1, p.2) (refused_before (the_operations operations) apply put why
    (inl (made_so t.scope.writer space (the_operations operations) (λ applied. tuple_or_refusal (upserted base old applied)) c.in_ok-updated.updated (Err why)
    (sym (same_upsert c.array_or_empty.result.now old c.array_or_empty.ensures.items base operations) ∙ c.in_ok-updated.ensures) c.in_err-new.ensures)))

pub returns-clause-judges : goal.returns-clause-judges
returns-clause-judges c = λ before target has.
    let t = c.args.target.now in
    let space = t.scope.space.0 in
    let primary = t.primary.now in
    let tuple = c.args.tuple.now in
    let old = c.args.old.now in
    let base = c.args.base in
    let operations = c.args.operations.now in
    let write = Upsert base tuple operations in
    let apply = λ (applied : List Operation). judged_as (tuple_in_space t.scope.writer space (tuple_or_refusal (upserted base old applied))) in
    let put = λ (new : List ℕ). put_in_place before space t.schema.now primary write (own_key primary tuple) new [] in
    let new = c.in_ok-new.new in
    judged_by before space write c.put_in_place.result (the_operations operations >>= λ applied. (apply applied >>= put)) (put new)
    (goes_on_after (the_operations operations) apply put new
    (made_so t.scope.writer space (the_operations operations) (λ applied. tuple_or_refusal (upserted base old applied)) c.in_ok-updated.updated (Ok new)
    (sym (same_upsert c.array_or_empty.result.now old c.array_or_empty.ensures.items base operations) ∙ c.in_ok-updated.ensures) c.in_ok-new.ensures))
    (c.put_in_place.ensures.judges before (own_key primary tuple) target (own_fits primary tuple c.args.key has) (own_bytes primary tuple c.args.key has) refl)

pub returns-in_err-updated-clause-notes : goal.returns-in_err-updated-clause-notes
returns-in_err-updated-clause-notes c = λ before target has.
    let p = err_from_is_err_and c.from_residual.result c.from_residual.ensures.1 in
    let t = c.args.target.now in
    let space = t.scope.space.0 in
    let tuple = c.args.tuple.now in
    let old = c.args.old.now in
    let base = c.args.base in
    let operations = c.args.operations.now in
    let write = Upsert base tuple operations in
    let apply = λ (applied : List Operation). judged_as (tuple_in_space t.scope.writer space (tuple_or_refusal (upserted base old applied))) in
    let put = λ (new : List ℕ). put_in_place before space t.schema.now t.primary.now write (own_key t.primary.now tuple) new [] in
    let why = c.in_err-updated.field-0.0 in
    rw (p.1, p.2) (as_result why (quiet_before (the_operations operations) apply put refl (λ _. refl) c.args.notes.now why
    (refused_anywhere t.scope.writer space (the_operations operations) (λ applied. tuple_or_refusal (upserted base old applied)) why
    (subst (λ (o : Result (List ℕ) Refusal). (o ≡ Err why) ⊎ (why ≡ OutOfMemory)) (same_upsert c.array_or_empty.result.now old c.array_or_empty.ensures.items base operations)
    c.in_err-updated.ensures))))

pub returns-in_err-new-clause-notes : goal.returns-in_err-new-clause-notes
returns-in_err-new-clause-notes c = λ before target has.
    let p = err_from_is_err_and c.from_residual-in_err-new.result c.from_residual-in_err-new.ensures.1 in
    let t = c.args.target.now in
    let space = t.scope.space.0 in
    let tuple = c.args.tuple.now in
    let old = c.args.old.now in
    let base = c.args.base in
    let operations = c.args.operations.now in
    let write = Upsert base tuple operations in
    let apply = λ (applied : List Operation). judged_as (tuple_in_space t.scope.writer space (tuple_or_refusal (upserted base old applied))) in
    let put = λ (new : List ℕ). put_in_place before space t.schema.now t.primary.now write (own_key t.primary.now tuple) new [] in
    let why = c.in_err-new.field-0.0 in
    rw (p.1, p.2) (as_result why (quiet_before (the_operations operations) apply put refl (λ _. refl) c.args.notes.now why
    (inl (made_so t.scope.writer space (the_operations operations) (λ applied. tuple_or_refusal (upserted base old applied)) c.in_ok-updated.updated (Err why)
    (sym (same_upsert c.array_or_empty.result.now old c.array_or_empty.ensures.items base operations) ∙ c.in_ok-updated.ensures) c.in_err-new.ensures))))

pub returns-clause-notes : goal.returns-clause-notes
returns-clause-notes c = λ before target has.
    let t = c.args.target.now in
    let space = t.scope.space.0 in
    let primary = t.primary.now in
    let tuple = c.args.tuple.now in
    let old = c.args.old.now in
    let base = c.args.base in
    let operations = c.args.operations.now in
    let write = Upsert base tuple operations in
    let apply = λ (applied : List Operation). judged_as (tuple_in_space t.scope.writer space (tuple_or_refusal (upserted base old applied))) in
    let put = λ (new : List ℕ). put_in_place before space t.schema.now primary write (own_key primary tuple) new [] in
    let new = c.in_ok-new.new in
    quiet_through (the_operations operations) apply put refl (λ _. refl) c.args.notes.now new _
    (made_so t.scope.writer space (the_operations operations) (λ applied. tuple_or_refusal (upserted base old applied)) c.in_ok-updated.updated (Ok new)
    (sym (same_upsert c.array_or_empty.result.now old c.array_or_empty.ensures.items base operations) ∙ c.in_ok-updated.ensures) c.in_ok-new.ensures)
    (c.put_in_place.ensures.notes before (own_key primary tuple) target (own_fits primary tuple c.args.key has) (own_bytes primary tuple c.args.key has))
