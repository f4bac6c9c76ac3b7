use Rattle.std.proofs.Common.{◌≡◌, [], ◌∷◌, ℕ, List, Some, None, refl, sym, ap, ◌∙◌, subst}
use Rattle.std.specs.Option.{option_copied, option_map}
use Rattle.std.proofs.lemmas.Result.{err_from_is_err_and}
use Rattle.mx_base.specs.declared.ids.SpaceId.{SpaceId}
use Rattle.mx_schema.specs.declared.index_def.IndexDef.{IndexDef}
use Rattle.mx_schema.specs.declared.keyed.Keyed.{Keyed}
use Rattle.mx_schema.specs.declared.schema.Schema.{Schema}
use Rattle.mx_schema.specs.State.{State}
use Rattle.mx_write.specs.declared.writable.Writer.TheVariants.{Client}
use Rattle.mx_write.specs.Judged.{Judged, reads_of, ◌>>=◌}
use Rattle.mx_write.specs.Lookup.{other_indexes, own_key, tuple_under}
use Rattle.mx_write.specs.Made.{Made, made}
use Rattle.mx_write.specs.Reads.{key_read}
use Rattle.mx_write.specs.Unique.{are_free}
use Rattle.mx_write.specs.Upsert.{upsert_found, upserts}
use Rattle.mx_write.specs.Writes.{Upsert}
use Rattle.mx_judge.proofs.TargetLaws.{own_bytes, own_fits}
use Rattle.mx_slow.specs.SlowReadSteps.{AddsUpTo}
use Rattle.mx_slow_state.proofs.SlowSiteLaws.{found_under}
use Rattle.mx_slow.proofs.SlowStageLaws.{Told, adds_on, free_added, made_reads, told_all}
use Rattle.mx_slow.proofs.write_reads.upsert_reads.Goals as goal

-- what comes after the checks of the tuple
abbrev rest : State → (base : ℕ) → (tuple operations : List ℕ) → (space : ℕ) → Schema → IndexDef → Judged Made
rest before base tuple operations space schema primary =
    reads_of (key_read space 0 (own_key primary tuple) ∷ []) >>= λ _.
    upsert_found Client before space base tuple operations schema primary (tuple_under before space (own_key primary tuple))

pub returns-in_err-site : goal.returns-in_err-site
unfolding upserts
returns-in_err-site c = λ before keeps.
    let p = err_from_is_err_and c.from_residual.result c.from_residual.ensures.1 in
    rw (p.1, p.2) (c.in_err-site.ensures before (rest before c.args.base c.args.tuple.now c.args.operations.now c.args.space.0) keeps)

pub returns-in-Some : goal.returns-in-Some
unfolding upserts
returns-in-Some c = λ before keeps.
    let base = c.args.base in
    let tuple = c.args.tuple.now in
    let operations = c.args.operations.now in
    let space = c.args.space in
    let site = c.in_ok-site.site in
    let schema = site.schema.now in
    let primary = site.primary.now in
    let own = own_key primary tuple in
    let one = c.in-Some.one.now.tuple in
    let whole = (upserts Client before space.0 base tuple operations).reads in
    let (same, is, has, upto) = c.in_ok-site.ensures before (rest before base tuple operations space.0) keeps in
    let under : tuple_under before space.0 own ≡ Some one =
    ap (λ (s : SpaceId). tuple_under before s.0 own) (sym same)
    ∙ sym (found_under before site is c.in_ok-site.key own (own_fits primary tuple _ has) (own_bytes primary tuple _ has) (option_copied c.find.result) c.find.ensures.tuple)
    ∙ ap (λ o. option_map (λ (one : Keyed). one.tuple) (option_copied o)) c.in-Some.is in
    let later = (upsert_found Client before space.0 base tuple operations schema primary (tuple_under before space.0 own)).reads in
    let pushed = adds_on c.args.reads.now c.read_site_of_tuple.new.reads c.push_key.new.self (rest before base tuple operations space.0 schema primary).reads whole upto
    (key_read space.0 0 own ∷ []) later refl (c.in_ok-push_key.ensures own (own_fits primary tuple _ has) (c.in_ok-copy.ensures ∙ c.as_slice.ensures ∙ own_bytes primary tuple _ has)) in
    told_all c.read_upsert.result c.args.reads.now c.push_key.new.self c.read_upsert.new.reads later whole pushed
    (subst (Told c.read_upsert.result c.push_key.new.self c.read_upsert.new.reads)
    (ap (λ (s : SpaceId). (upsert_found Client before s.0 base tuple operations schema primary (Some one)).reads) same
    ∙ ap (λ u. (upsert_found Client before space.0 base tuple operations schema primary u).reads) (sym under))
    (c.read_upsert.ensures before is has))

pub returns : goal.returns
unfolding upserts
returns c = λ before keeps.
    let base = c.args.base in
    let tuple = c.args.tuple.now in
    let operations = c.args.operations.now in
    let space = c.args.space in
    let site = c.in_ok-site.site in
    let schema = site.schema.now in
    let primary = site.primary.now in
    let own = own_key primary tuple in
    let whole = (upserts Client before space.0 base tuple operations).reads in
    let (same, is, has, upto) = c.in_ok-site.ensures before (rest before base tuple operations space.0) keeps in
    let under : tuple_under before space.0 own ≡ None =
    ap (λ (s : SpaceId). tuple_under before s.0 own) (sym same)
    ∙ sym (found_under before site is c.in_ok-site.key own (own_fits primary tuple _ has) (own_bytes primary tuple _ has) (option_copied c.find.result) c.find.ensures.tuple)
    ∙ ap (λ o. option_map (λ (one : Keyed). one.tuple) (option_copied o)) c.in-None.is in
    let later = (upsert_found Client before space.0 base tuple operations schema primary (tuple_under before space.0 own)).reads in
    let pushed = adds_on c.args.reads.now c.read_site_of_tuple.new.reads c.push_key.new.self (rest before base tuple operations space.0 schema primary).reads whole upto
    (key_read space.0 0 own ∷ []) later refl (c.in_ok-push_key.ensures own (own_fits primary tuple _ has) (c.in_ok-copy.ensures ∙ c.as_slice.ensures ∙ own_bytes primary tuple _ has)) in
    free_added site.space space same c.args.reads.now c.push_key.new.self c.read_duplicates_in_others.new.reads whole
    (λ s. are_free before s schema primary (Some own) tuple (other_indexes schema.indexes)) (λ s. made s (Upsert base tuple operations) own (Some tuple) [])
    (made_reads space.0 (Upsert base tuple operations) own (Some tuple) [])
    (subst (λ u. AddsUpTo c.args.reads.now c.push_key.new.self (upsert_found Client before space.0 base tuple operations schema primary u).reads whole) under pushed)
    (c.in_ok-read_duplicates_in_others-in-None.ensures before (Some own) is (own_fits primary tuple _ has, own_bytes primary tuple _ has))
