use Rattle.std.proofs.Common.{◌≡◌, ◌⊎◌, ℕ, List, [], ◌∷◌, Some, Result, Ok, Err, inl, refl, sym, ap, ◌∙◌, subst}
use Rattle.std.proofs.lemmas.Result.{err_from_is_err_and}
use Rattle.mx_base.specs.declared.refusal.Refusal.{Refusal}
use Rattle.mx_base.specs.declared.refusal.Refusal.TheVariants.{OutOfMemory}
use Rattle.mx_operations.specs.Operations.{Operation}
use Rattle.mx_row.specs.Rows.{update_type}
use Rattle.mx_update.specs.Updates.{updated}
use Rattle.mx_write.specs.Judged.{judged_as, unless, ◌>>=◌}
use Rattle.mx_write.specs.Made.{row_with}
use Rattle.mx_write.specs.Update.{put_in_place, the_operations, tuple_or_refusal}
use Rattle.mx_write.specs.Writable.{tuple_in_space, write_refusal}
use Rattle.mx_write.specs.Writes.{Update}
use Rattle.mx_write.proofs.FieldLaws.{key_by_fields, same_update}
use Rattle.mx_write.proofs.RowJudgeLaws.{made_so, refused_anywhere}
use Rattle.mx_write.proofs.StageLaws.{goes_on, goes_on_after, none_refuses, refused_before, refused_later}
use Rattle.mx_judge.proofs.EntryStageLaws.{judged_by}
use Rattle.mx_write.proofs.NoteLaws.{as_result, quiet_before, quiet_later, quiet_through, unless_quiet}
use Rattle.mx_judge.proofs.update.change.Goals as goal

pub returns-in_err-updated-clause-judges : goal.returns-in_err-updated-clause-judges
returns-in_err-updated-clause-judges c = λ before own target fit bytes has.
    let p = err_from_is_err_and c.from_residual.result c.from_residual.ensures.1 in
    let t = c.args.target.now in
    let space = t.scope.space.0 in
    let old = c.args.entry.tuple.now in
    let base = c.args.base in
    let operations = c.args.operations.now in
    let write = Update c.args.index.0 base c.args.key.now operations in
    let stage = unless (write_refusal t.scope.writer space update_type (Some old)) in
    let writable = sym c.write_refusal.ensures ∙ c.in_default.is in
    let apply = λ (applied : List Operation). judged_as (tuple_in_space t.scope.writer space (tuple_or_refusal (updated base old applied))) in
    let put = λ (new : List ℕ). put_in_place before space t.schema.now t.primary.now write own new (new ∷ []) in
    let why = c.in_err-updated.field-0.0 in
    rw (p.1, p.2) (refused_later stage (λ _. the_operations operations >>= λ applied. (apply applied >>= put)) tt why (none_refuses _ writable)
    (refused_before (the_operations operations) apply put why
    (refused_anywhere t.scope.writer space (the_operations operations) (λ applied. tuple_or_refusal (updated base old applied)) why
    (subst (λ (o : Result (List ℕ) Refusal). (o ≡ Err why) ⊎ (why ≡ OutOfMemory)) (same_update c.array_or_empty-old.result.now old c.array_or_empty-old.ensures.items base operations)
    c.in_err-updated.ensures))))

pub returns-in_err-new-clause-judges : goal.returns-in_err-new-clause-judges
returns-in_err-new-clause-judges c = λ before own target fit bytes has.
    let p = err_from_is_err_and c.from_residual-in_err-new.result c.from_residual-in_err-new.ensures.1 in
    let t = c.args.target.now in
    let space = t.scope.space.0 in
    let old = c.args.entry.tuple.now in
    let base = c.args.base in
    let operations = c.args.operations.now in
    let write = Update c.args.index.0 base c.args.key.now operations in
    let stage = unless (write_refusal t.scope.writer space update_type (Some old)) in
    let writable = sym c.write_refusal.ensures ∙ c.in_default.is in
    let apply = λ (applied : List Operation). judged_as (tuple_in_space t.scope.writer space (tuple_or_refusal (updated base old applied))) in
    let put = λ (new : List ℕ). put_in_place before space t.schema.now t.primary.now write own new (new ∷ []) in
    let why = c.in_err-new.field-0.0 in
    rw (p.1, p.2) (refused_later stage (λ _. the_operations operations >>= λ applied. (apply applied >>= put)) tt why (none_refuses _ writable)
    (refused_before (the_operations operations) apply put why
    (inl (made_so t.scope.writer space (the_operations operations) (λ applied. tuple_or_refusal (updated base old applied)) c.in_ok-updated.updated (Err why)
    (sym (same_update c.array_or_empty-old.result.now old c.array_or_empty-old.ensures.items base operations) ∙ c.in_ok-updated.ensures) c.in_err-new.ensures))))

pub returns-clause-judges : goal.returns-clause-judges
returns-clause-judges c = λ before own target fit bytes has.
    let t = c.args.target.now in
    let space = t.scope.space.0 in
    let old = c.args.entry.tuple.now in
    let base = c.args.base in
    let operations = c.args.operations.now in
    let write = Update c.args.index.0 base c.args.key.now operations in
    let stage = unless (write_refusal t.scope.writer space update_type (Some old)) in
    let writable = sym c.write_refusal.ensures ∙ c.in_default.is in
    let apply = λ (applied : List Operation). judged_as (tuple_in_space t.scope.writer space (tuple_or_refusal (updated base old applied))) in
    let put = λ (new : List ℕ). put_in_place before space t.schema.now t.primary.now write own new (new ∷ []) in
    let new = c.in_ok-new.new in
    let array = c.in_ok-row_key.ensures own (key_by_fields c.array_or_empty-old.result.now old c.array_or_empty-old.ensures.items t.primary.now own has) in
    judged_by before space write c.put_in_place.result (stage >>= λ _. the_operations operations >>= λ applied. (apply applied >>= put)) (put new)
    (goes_on stage (λ _. the_operations operations >>= λ applied. (apply applied >>= put)) tt (none_refuses _ writable)
    ∙ goes_on_after (the_operations operations) apply put new
    (made_so t.scope.writer space (the_operations operations) (λ applied. tuple_or_refusal (updated base old applied)) c.in_ok-updated.updated (Ok new)
    (sym (same_update c.array_or_empty-old.result.now old c.array_or_empty-old.ensures.items base operations) ∙ c.in_ok-updated.ensures) c.in_ok-new.ensures))
    (c.put_in_place.ensures.judges before own target fit bytes (ap (row_with space write) array))

pub returns-in_err-updated-clause-notes : goal.returns-in_err-updated-clause-notes
returns-in_err-updated-clause-notes c = λ before own target fit bytes has.
    let p = err_from_is_err_and c.from_residual.result c.from_residual.ensures.1 in
    let t = c.args.target.now in
    let space = t.scope.space.0 in
    let old = c.args.entry.tuple.now in
    let base = c.args.base in
    let operations = c.args.operations.now in
    let write = Update c.args.index.0 base c.args.key.now operations in
    let stage = unless (write_refusal t.scope.writer space update_type (Some old)) in
    let writable = sym c.write_refusal.ensures ∙ c.in_default.is in
    let apply = λ (applied : List Operation). judged_as (tuple_in_space t.scope.writer space (tuple_or_refusal (updated base old applied))) in
    let put = λ (new : List ℕ). put_in_place before space t.schema.now t.primary.now write own new (new ∷ []) in
    let why = c.in_err-updated.field-0.0 in
    rw (p.1, p.2) (as_result why (quiet_later stage (λ _. the_operations operations >>= λ applied. (apply applied >>= put)) (unless_quiet _) c.args.notes.now tt c.args.notes.now (none_refuses _ writable)
    (quiet_before (the_operations operations) apply put refl (λ _. refl) c.args.notes.now why
    (refused_anywhere t.scope.writer space (the_operations operations) (λ applied. tuple_or_refusal (updated base old applied)) why
    (subst (λ (o : Result (List ℕ) Refusal). (o ≡ Err why) ⊎ (why ≡ OutOfMemory)) (same_update c.array_or_empty-old.result.now old c.array_or_empty-old.ensures.items base operations)
    c.in_err-updated.ensures)))))

pub returns-in_err-new-clause-notes : goal.returns-in_err-new-clause-notes
returns-in_err-new-clause-notes c = λ before own target fit bytes has.
    let p = err_from_is_err_and c.from_residual-in_err-new.result c.from_residual-in_err-new.ensures.1 in
    let t = c.args.target.now in
    let space = t.scope.space.0 in
    let old = c.args.entry.tuple.now in
    let base = c.args.base in
    let operations = c.args.operations.now in
    let write = Update c.args.index.0 base c.args.key.now operations in
    let stage = unless (write_refusal t.scope.writer space update_type (Some old)) in
    let writable = sym c.write_refusal.ensures ∙ c.in_default.is in
    let apply = λ (applied : List Operation). judged_as (tuple_in_space t.scope.writer space (tuple_or_refusal (updated base old applied))) in
    let put = λ (new : List ℕ). put_in_place before space t.schema.now t.primary.now write own new (new ∷ []) in
    let why = c.in_err-new.field-0.0 in
    rw (p.1, p.2) (as_result why (quiet_later stage (λ _. the_operations operations >>= λ applied. (apply applied >>= put)) (unless_quiet _) c.args.notes.now tt c.args.notes.now (none_refuses _ writable)
    (quiet_before (the_operations operations) apply put refl (λ _. refl) c.args.notes.now why
    (inl (made_so t.scope.writer space (the_operations operations) (λ applied. tuple_or_refusal (updated base old applied)) c.in_ok-updated.updated (Err why)
    (sym (same_update c.array_or_empty-old.result.now old c.array_or_empty-old.ensures.items base operations) ∙ c.in_ok-updated.ensures) c.in_err-new.ensures)))))

pub returns-clause-notes : goal.returns-clause-notes
returns-clause-notes c = λ before own target fit bytes has.
    let t = c.args.target.now in
    let space = t.scope.space.0 in
    let old = c.args.entry.tuple.now in
    let base = c.args.base in
    let operations = c.args.operations.now in
    let write = Update c.args.index.0 base c.args.key.now operations in
    let stage = unless (write_refusal t.scope.writer space update_type (Some old)) in
    let writable = sym c.write_refusal.ensures ∙ c.in_default.is in
    let apply = λ (applied : List Operation). judged_as (tuple_in_space t.scope.writer space (tuple_or_refusal (updated base old applied))) in
    let put = λ (new : List ℕ). put_in_place before space t.schema.now t.primary.now write own new (new ∷ []) in
    let new = c.in_ok-new.new in
    quiet_later stage (λ _. the_operations operations >>= λ applied. (apply applied >>= put)) (unless_quiet _) c.args.notes.now tt _ (none_refuses _ writable)
    (quiet_through (the_operations operations) apply put refl (λ _. refl) c.args.notes.now new _
    (made_so t.scope.writer space (the_operations operations) (λ applied. tuple_or_refusal (updated base old applied)) c.in_ok-updated.updated (Ok new)
    (sym (same_update c.array_or_empty-old.result.now old c.array_or_empty-old.ensures.items base operations) ∙ c.in_ok-updated.ensures) c.in_ok-new.ensures)
    (c.put_in_place.ensures.notes before own target fit bytes))
