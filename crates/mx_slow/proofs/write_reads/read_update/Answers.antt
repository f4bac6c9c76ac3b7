use Rattle.std.proofs.Common.{◌≡◌, ◌⊎◌, ℕ, List, [], ◌∷◌, Some, Err, Result, sym, ap, ◌∙◌, subst}
use Rattle.std.proofs.lemmas.Result.{err_from_is_err_and}
use Rattle.mx_base.specs.declared.refusal.Refusal.{Refusal}
use Rattle.mx_base.specs.declared.refusal.Refusal.TheVariants.{OutOfMemory}
use Rattle.mx_operations.specs.Operations.{Operation, operations_in}
use Rattle.mx_row.specs.Rows.{update_type}
use Rattle.mx_update.specs.Updates.{updated}
use Rattle.mx_write.specs.declared.writable.Writer.TheVariants.{Client}
use Rattle.mx_write.specs.Judged.{Judged, judged_as, ◌>>=◌}
use Rattle.mx_write.specs.Made.{Made}
use Rattle.mx_write.specs.Update.{operations_or_refusal, put_in_place, the_operations, tuple_or_refusal, update_found}
use Rattle.mx_write.specs.Writable.{write_refusal}
use Rattle.mx_write.specs.Writes.{Update}
use Rattle.mx_write.proofs.FieldLaws.{same_update}
use Rattle.mx_slow.proofs.SlowStageLaws.{Told, by_refusal, none_added, passed_reads, results_go_on, results_stop}
use Rattle.mx_slow.proofs.write_reads.read_update.Goals as goal

pub returns-in_err-new : goal.returns-in_err-new
returns-in_err-new c = λ before own index key is fit bytes.
    let p = err_from_is_err_and c.from_residual.result c.from_residual.ensures.1 in
    let site = c.args.site.now in
    let space = site.space.0 in
    let old = c.args.one.now.tuple in
    let base = c.args.base in
    let operations = c.args.operations.now in
    let writable = ap (λ t. write_refusal Client space update_type (Some t)) (sym c.as_slice-old.ensures) ∙ sym c.write_refusal.ensures ∙ c.in_default.is in
    let apply = λ (applied : List Operation). tuple_or_refusal (updated base old applied) in
    let put = λ (new : List ℕ). put_in_place before space site.schema.now site.primary.now (Update index base key operations) own new (new ∷ []) in
    let last : Judged Made = the_operations operations >>= λ applied. (judged_as (apply applied) >>= put) in
    let why = c.in_err-new.field-0.0 in
    rw (p.1, p.2) (by_refusal why _ _
    (λ e. none_added c.args.reads.now (update_found Client before space index base key operations site.schema.now site.primary.now (Some (own, old))).reads
    (passed_reads (write_refusal Client space update_type (Some old)) last writable ∙ results_stop (operations_or_refusal (operations_in operations)) apply put why e))
    (subst (λ (o : Result (List ℕ) Refusal). (o ≡ Err why) ⊎ (why ≡ OutOfMemory)) (same_update c.array_or_empty.result.now old (rw c.as_slice-old.ensures at c.array_or_empty.ensures.items) base operations) c.in_err-new.ensures))

pub returns : goal.returns
returns c = λ before own index key is fit bytes.
    let site = c.args.site.now in
    let space = site.space.0 in
    let old = c.args.one.now.tuple in
    let base = c.args.base in
    let operations = c.args.operations.now in
    let writable = ap (λ t. write_refusal Client space update_type (Some t)) (sym c.as_slice-old.ensures) ∙ sym c.write_refusal.ensures ∙ c.in_default.is in
    let apply = λ (applied : List Operation). tuple_or_refusal (updated base old applied) in
    let put = λ (new : List ℕ). put_in_place before space site.schema.now site.primary.now (Update index base key operations) own new (new ∷ []) in
    let last : Judged Made = the_operations operations >>= λ applied. (judged_as (apply applied) >>= put) in
    let new = c.in_ok-new.new in
    let same : (put c.as_slice.result.now).reads ≡ (update_found Client before space index base key operations site.schema.now site.primary.now (Some (own, old))).reads =
    ap (λ t. (put t).reads) c.as_slice.ensures
    ∙ sym (passed_reads (write_refusal Client space update_type (Some old)) last writable
    ∙ results_go_on (operations_or_refusal (operations_in operations)) apply put new
    (sym (same_update c.array_or_empty.result.now old (rw c.as_slice-old.ensures at c.array_or_empty.ensures.items) base operations) ∙ c.in_ok-new.ensures)) in
    subst (Told c.read_in_place.result c.args.reads.now c.read_in_place.new.reads) same
    (c.read_in_place.ensures before own (Update index base key operations) (c.as_slice.result.now ∷ []) is fit bytes)
