use Rattle.std.proofs.Common.{◌≡◌, ◌⊎◌, ℕ, List, [], Some, Err, Result, sym, ap, ◌∙◌, subst}
use Rattle.std.proofs.lemmas.Result.{err_from_is_err_and}
use Rattle.mx_base.specs.declared.refusal.Refusal.{Refusal}
use Rattle.mx_base.specs.declared.refusal.Refusal.TheVariants.{OutOfMemory}
use Rattle.mx_operations.specs.Operations.{Operation, operations_in}
use Rattle.mx_update.specs.Updates.{upserted}
use Rattle.mx_write.specs.declared.writable.Writer.TheVariants.{Client}
use Rattle.mx_write.specs.Lookup.{own_key}
use Rattle.mx_write.specs.Update.{operations_or_refusal, put_in_place, tuple_or_refusal}
use Rattle.mx_write.specs.Upsert.{upsert_found}
use Rattle.mx_write.specs.Writes.{Upsert}
use Rattle.mx_write.proofs.FieldLaws.{same_upsert}
use Rattle.mx_judge.proofs.TargetLaws.{own_bytes, own_fits}
use Rattle.mx_slow.proofs.SlowStageLaws.{Told, by_refusal, none_added, results_go_on, results_stop}
use Rattle.mx_slow.proofs.write_reads.read_upsert.Goals as goal

pub returns-in_err-new : goal.returns-in_err-new
returns-in_err-new c = λ before is has.
    let p = err_from_is_err_and c.from_residual.result c.from_residual.ensures.1 in
    let site = c.args.site.now in
    let space = site.space.0 in
    let primary = site.primary.now in
    let tuple = c.args.tuple.now in
    let old = c.args.one.now.tuple in
    let base = c.args.base in
    let operations = c.args.operations.now in
    let apply = λ (applied : List Operation). tuple_or_refusal (upserted base old applied) in
    let put = λ (new : List ℕ). put_in_place before space site.schema.now primary (Upsert base tuple operations) (own_key primary tuple) new [] in
    let why = c.in_err-new.field-0.0 in
    rw (p.1, p.2) (by_refusal why _ _
    (λ e. none_added c.args.reads.now (upsert_found Client before space base tuple operations site.schema.now primary (Some old)).reads
    (results_stop (operations_or_refusal (operations_in operations)) apply put why e))
    (subst (λ (o : Result (List ℕ) Refusal). (o ≡ Err why) ⊎ (why ≡ OutOfMemory)) (same_upsert c.array_or_empty.result.now old (rw c.as_slice-old.ensures at c.array_or_empty.ensures.items) base operations) c.in_err-new.ensures))

pub returns : goal.returns
returns c = λ before is has.
    let site = c.args.site.now in
    let space = site.space.0 in
    let primary = site.primary.now in
    let tuple = c.args.tuple.now in
    let old = c.args.one.now.tuple in
    let base = c.args.base in
    let operations = c.args.operations.now in
    let apply = λ (applied : List Operation). tuple_or_refusal (upserted base old applied) in
    let put = λ (new : List ℕ). put_in_place before space site.schema.now primary (Upsert base tuple operations) (own_key primary tuple) new [] in
    let new = c.in_ok-new.new in
    let same : (put c.as_slice.result.now).reads ≡ (upsert_found Client before space base tuple operations site.schema.now primary (Some old)).reads =
    ap (λ t. (put t).reads) c.as_slice.ensures
    ∙ sym (results_go_on (operations_or_refusal (operations_in operations)) apply put new
    (sym (same_upsert c.array_or_empty.result.now old (rw c.as_slice-old.ensures at c.array_or_empty.ensures.items) base operations) ∙ c.in_ok-new.ensures)) in
    subst (Told c.read_in_place.result c.args.reads.now c.read_in_place.new.reads) same
    (c.read_in_place.ensures before (own_key primary tuple) (Upsert base tuple operations) [] is (own_fits primary tuple _ has) (own_bytes primary tuple _ has))
