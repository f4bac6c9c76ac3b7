use Rattle.std.proofs.Common.{◌≡◌, ◌⊎◌, ℕ, List, [], ◌∷◌, Result, Err, Some, sym, ap, ◌∙◌, subst}
use Rattle.std.proofs.lemmas.Result.{err_from_is_err_and}
use Rattle.mx_base.specs.declared.refusal.Refusal.{Refusal}
use Rattle.mx_base.specs.declared.refusal.Refusal.TheVariants.{OutOfMemory}
use Rattle.mx_operations.specs.Operations.{Operation}
use Rattle.mx_row.specs.Rows.{update_type}
use Rattle.mx_schema.specs.State.{key_in}
use Rattle.mx_update.specs.Updates.{updated}
use Rattle.mx_write.specs.declared.writable.Writer.TheVariants.{Client}
use Rattle.mx_write.specs.Judged.{judged_as, unless, ◌>>=◌}
use Rattle.mx_write.specs.Made.{row_with}
use Rattle.mx_write.specs.Update.{put_in_place, the_operations, tuple_or_refusal}
use Rattle.mx_write.specs.Writable.{write_refusal}
use Rattle.mx_write.specs.Writes.{Update}
use Rattle.mx_write.proofs.FieldLaws.{same_update}
use Rattle.mx_write.proofs.StageLaws.{goes_on, goes_on_after, none_refuses, refused_before, refused_later}
use Rattle.mx_judge.proofs.EntryStageLaws.{judged_by}
use Rattle.mx_slow_state.proofs.slow_state.updates.update_found.Goals as goal

pub returns-in_err-new : goal.returns-in_err-new
returns-in_err-new c = λ before own is fit bytes has.
    let p = err_from_is_err_and c.from_residual.result c.from_residual.ensures.1 in
    let t = c.args.site.now in
    let space = t.space.0 in
    let old = c.args.one.now.tuple in
    let base = c.args.base in
    let operations = c.args.operations.now in
    let write = Update c.args.index.0 base c.args.key.now operations in
    let stage = unless (write_refusal Client space update_type (Some old)) in
    let writable = ap (λ t. write_refusal Client space update_type (Some t)) (sym c.as_slice-old.ensures) ∙ sym c.write_refusal.ensures ∙ c.in_default.is in
    let apply = λ (applied : List Operation). judged_as (tuple_or_refusal (updated base old applied)) in
    let put = λ (new : List ℕ). put_in_place before space t.schema.now t.primary.now write own new (new ∷ []) in
    let why = c.in_err-new.field-0.0 in
    rw (p.1, p.2) (refused_later stage (λ _. the_operations operations >>= λ applied. (apply applied >>= put)) tt why (none_refuses _ writable)
    (refused_before (the_operations operations) apply put why
    (subst (λ (o : Result (List ℕ) Refusal). (o ≡ Err why) ⊎ (why ≡ OutOfMemory)) (same_update c.array_or_empty.result.now old (rw c.as_slice-old.ensures at c.array_or_empty.ensures.items) base operations) c.in_err-new.ensures)))

pub returns : goal.returns
returns c = λ before own is fit bytes has.
    let t = c.args.site.now in
    let space = t.space.0 in
    let old = c.args.one.now.tuple in
    let base = c.args.base in
    let operations = c.args.operations.now in
    let write = Update c.args.index.0 base c.args.key.now operations in
    let stage = unless (write_refusal Client space update_type (Some old)) in
    let writable = ap (λ t. write_refusal Client space update_type (Some t)) (sym c.as_slice-old.ensures) ∙ sym c.write_refusal.ensures ∙ c.in_default.is in
    let apply = λ (applied : List Operation). judged_as (tuple_or_refusal (updated base old applied)) in
    let put = λ (new : List ℕ). put_in_place before space t.schema.now t.primary.now write own new (new ∷ []) in
    let new = c.in_ok-new.new in
    let array = c.in_ok-array.ensures own (ap (key_in t.primary.now.key) c.as_slice-old.ensures ∙ has) in
    judged_by before space write c.put_in_place.result (stage >>= λ _. the_operations operations >>= λ applied. (apply applied >>= put)) (put new)
    (goes_on stage (λ _. the_operations operations >>= λ applied. (apply applied >>= put)) tt (none_refuses _ writable)
    ∙ goes_on_after (the_operations operations) apply put new (sym (same_update c.array_or_empty.result.now old (rw c.as_slice-old.ensures at c.array_or_empty.ensures.items) base operations) ∙ c.in_ok-new.ensures))
    (c.put_in_place.ensures before own is fit (c.in_ok-own.ensures ∙ c.as_slice.ensures ∙ bytes) (ap (row_with space write) array))
