use Rattle.std.proofs.Common.{◌≡◌, [], ◌∷◌, ℕ, List, Some, None, sym, ap, ◌∙◌}
use Rattle.std.specs.Option.{option_copied, option_map}
use Rattle.std.proofs.lemmas.Result.{err_from_is_err_and}
use Rattle.mx_base.specs.declared.ids.SpaceId.{SpaceId}
use Rattle.mx_schema.specs.declared.index_def.IndexDef.{IndexDef}
use Rattle.mx_schema.specs.declared.keyed.Keyed.{Keyed}
use Rattle.mx_schema.specs.declared.schema.Schema.{Schema}
use Rattle.mx_schema.specs.State.{State}
use Rattle.mx_write.specs.declared.writable.Writer.TheVariants.{Client}
use Rattle.mx_write.specs.Judged.{Judged, reads_of, ◌>>=◌}
use Rattle.mx_write.specs.Lookup.{own_key, tuple_under}
use Rattle.mx_write.specs.Made.{Made}
use Rattle.mx_write.specs.Reads.{key_read}
use Rattle.mx_write.specs.Upsert.{upsert_found, upserts}
use Rattle.mx_write.specs.Writes.{Upsert}
use Rattle.mx_judge.proofs.TargetLaws.{own_bytes, own_fits}
use Rattle.mx_slow_state.proofs.SlowMakeLaws.{judged_at}
use Rattle.mx_slow_state.proofs.SlowSiteLaws.{found_under}
use Rattle.mx_slow_state.proofs.slow_state.SlowState.upsert.Goals as goal

-- what comes after the checks of the tuple
abbrev rest : State → (base : ℕ) → (tuple operations : List ℕ) → (space : ℕ) → Schema → IndexDef → Judged Made
rest before base tuple operations space schema primary =
    reads_of (key_read space 0 (own_key primary tuple) ∷ []) >>= λ _.
    upsert_found Client before space base tuple operations schema primary (tuple_under before space (own_key primary tuple))

pub returns-in_err-site : goal.returns-in_err-site
unfolding upserts
returns-in_err-site c = λ before keeps.
    let p = err_from_is_err_and c.from_residual.result c.from_residual.ensures.1 in
    rw (p.1, p.2) (c.in_err-site.ensures before (rest before c.args.base c.args.tuple.now c.args.operations.now c.args.space.0) keeps)

pub returns-in-Some : goal.returns-in-Some
unfolding upserts
returns-in-Some c = λ before keeps.
    let base = c.args.base in
    let tuple = c.args.tuple.now in
    let operations = c.args.operations.now in
    let space = c.args.space in
    let site = c.in_ok-site.site in
    let schema = site.schema.now in
    let primary = site.primary.now in
    let own = own_key primary tuple in
    let old = c.as_slice.result.now in
    let (same, is, has, reaches) = c.in_ok-site.ensures before (rest before base tuple operations space.0) keeps in
    let under : tuple_under before space.0 own ≡ Some old =
    ap (λ (s : SpaceId). tuple_under before s.0 own) (sym same)
    ∙ sym (found_under before site is c.in_ok-site.key own (own_fits primary tuple _ has) (own_bytes primary tuple _ has) (option_copied c.find.result) c.find.ensures.tuple)
    ∙ ap (λ o. option_map (λ (one : Keyed). one.tuple) (option_copied o)) c.in-Some.is ∙ ap (λ t. Some t) (sym c.as_slice.ensures) in
    judged_at before site.space space same (Upsert base tuple operations) (upserts Client before space.0 base tuple operations)
    (λ s. upsert_found Client before s base tuple operations schema primary (Some old)) c.upsert_found.result
    (reaches ∙ ap (λ u. (upsert_found Client before space.0 base tuple operations schema primary u).outcome) under) (c.upsert_found.ensures before is has)

pub returns-in-None : goal.returns-in-None
unfolding upserts
returns-in-None c = λ before keeps.
    let base = c.args.base in
    let tuple = c.args.tuple.now in
    let operations = c.args.operations.now in
    let space = c.args.space in
    let site = c.in_ok-site.site in
    let schema = site.schema.now in
    let primary = site.primary.now in
    let own = own_key primary tuple in
    let (same, is, has, reaches) = c.in_ok-site.ensures before (rest before base tuple operations space.0) keeps in
    let under : tuple_under before space.0 own ≡ None =
    ap (λ (s : SpaceId). tuple_under before s.0 own) (sym same)
    ∙ sym (found_under before site is c.in_ok-site.key own (own_fits primary tuple _ has) (own_bytes primary tuple _ has) (option_copied c.find.result) c.find.ensures.tuple)
    ∙ ap (λ o. option_map (λ (one : Keyed). one.tuple) (option_copied o)) c.in-None.is in
    judged_at before site.space space same (Upsert base tuple operations) (upserts Client before space.0 base tuple operations)
    (λ s. upsert_found Client before s base tuple operations schema primary None) c.upsert_new.result
    (reaches ∙ ap (λ u. (upsert_found Client before space.0 base tuple operations schema primary u).outcome) under) (c.upsert_new.ensures before is has)
