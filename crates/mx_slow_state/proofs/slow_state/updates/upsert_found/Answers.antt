use Rattle.std.proofs.Common.{◌≡◌, ◌⊎◌, ℕ, List, [], Result, Err, refl, sym, ◌∙◌, subst}
use Rattle.std.proofs.lemmas.Result.{err_from_is_err_and}
use Rattle.mx_base.specs.declared.refusal.Refusal.{Refusal}
use Rattle.mx_base.specs.declared.refusal.Refusal.TheVariants.{OutOfMemory}
use Rattle.mx_operations.specs.Operations.{Operation}
use Rattle.mx_update.specs.Updates.{upserted}
use Rattle.mx_write.specs.Judged.{judged_as, ◌>>=◌}
use Rattle.mx_write.specs.Lookup.{own_key}
use Rattle.mx_write.specs.Update.{put_in_place, the_operations, tuple_or_refusal}
use Rattle.mx_write.specs.Writes.{Upsert}
use Rattle.mx_write.proofs.FieldLaws.{same_upsert}
use Rattle.mx_write.proofs.StageLaws.{goes_on_after, refused_before}
use Rattle.mx_judge.proofs.EntryStageLaws.{judged_by}
use Rattle.mx_judge.proofs.TargetLaws.{own_bytes, own_fits}
use Rattle.mx_slow_state.proofs.slow_state.updates.upsert_found.Goals as goal

pub returns-in_err-new : goal.returns-in_err-new
returns-in_err-new c = λ before is has.
    let p = err_from_is_err_and c.from_residual.result c.from_residual.ensures.1 in
    let t = c.args.site.now in
    let space = t.space.0 in
    let tuple = c.args.tuple.now in
    let old = c.args.old.now in
    let base = c.args.base in
    let operations = c.args.operations.now in
    let write = Upsert base tuple operations in
    let apply = λ (applied : List Operation). judged_as (tuple_or_refusal (upserted base old applied)) in
    let put = λ (new : List ℕ). put_in_place before space t.schema.now t.primary.now write (own_key t.primary.now tuple) new [] in
    let why = c.in_err-new.field-0.0 in
    rw (p.1, p.2) (refused_before (the_operations operations) apply put why
    (subst (λ (o : Result (List ℕ) Refusal). (o ≡ Err why) ⊎ (why ≡ OutOfMemory)) (same_upsert c.array_or_empty.result.now old c.array_or_empty.ensures.items base operations) c.in_err-new.ensures))

pub returns : goal.returns
returns c = λ before is has.
    let t = c.args.site.now in
    let space = t.space.0 in
    let primary = t.primary.now in
    let tuple = c.args.tuple.now in
    let old = c.args.old.now in
    let base = c.args.base in
    let operations = c.args.operations.now in
    let write = Upsert base tuple operations in
    let apply = λ (applied : List Operation). judged_as (tuple_or_refusal (upserted base old applied)) in
    let put = λ (new : List ℕ). put_in_place before space t.schema.now primary write (own_key primary tuple) new [] in
    let new = c.in_ok-new.new in
    judged_by before space write c.put_in_place.result (the_operations operations >>= λ applied. (apply applied >>= put)) (put new)
    (goes_on_after (the_operations operations) apply put new (sym (same_upsert c.array_or_empty.result.now old c.array_or_empty.ensures.items base operations) ∙ c.in_ok-new.ensures))
    (c.put_in_place.ensures before (own_key primary tuple) is (own_fits primary tuple c.args.key has) (own_bytes primary tuple c.args.key has) refl)
