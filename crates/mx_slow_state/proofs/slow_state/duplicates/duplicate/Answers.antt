use Rattle.std.proofs.Common.{◌≡◌, None, Some, sym, ap, ◌∙◌, subst}
use Rattle.std.specs.Prelude.{IfOk}
use Rattle.std.specs.Option.{option_copied, option_map}
use Rattle.mx_schema.specs.declared.keyed.Keyed.{Keyed}
use Rattle.mx_write.specs.Lookup.{other_indexes, own_key}
use Rattle.mx_write.specs.Unique.{duplicate_refusal}
use Rattle.mx_judge.proofs.TargetLaws.{own_bytes, own_fits}
use Rattle.mx_write.proofs.UniqueLaws.{key_is_free, key_is_taken}
use Rattle.mx_slow_state.proofs.SlowSiteLaws.{found_under}
use Rattle.mx_slow_state.proofs.slow_state.duplicates.duplicate.Goals as goal

pub returns-in_ok-duplicate_refusal-in-Some : goal.returns-in_ok-duplicate_refusal-in-Some
returns-in_ok-duplicate_refusal-in-Some c = λ before is has.
    let site = c.args.site.now in
    let primary = site.primary.now in
    let tuple = c.args.tuple.now in
    let key = own_key primary tuple in
    key_is_taken before site.space.0 site.schema.now primary tuple is.primary c.in_ok-duplicate_refusal-in-Some.field-0 _
    (sym (found_under before site is c.args.key.now key (own_fits primary tuple _ has) (own_bytes primary tuple _ has) (option_copied c.find.result) c.find.ensures.tuple)
    ∙ ap (λ o. option_map (λ (one : Keyed). one.tuple) (option_copied o)) c.in-Some.is)
    (c.in_ok-duplicate_refusal-in-Some.ensures ∙ ap (λ t. duplicate_refusal site.space.0 site.schema.now primary (Some t)) c.as_slice.ensures) (other_indexes site.schema.now.indexes)

pub returns-in-None : goal.returns-in-None
returns-in-None c = λ before is has.
    let site = c.args.site.now in
    let primary = site.primary.now in
    let tuple = c.args.tuple.now in
    let key = own_key primary tuple in
    subst (λ r. IfOk c.duplicate_in_others.result (λ found. found ≡ r))
    (sym (key_is_free before site.space.0 site.schema.now primary tuple is.primary
    (sym (found_under before site is c.args.key.now key (own_fits primary tuple _ has) (own_bytes primary tuple _ has) (option_copied c.find.result) c.find.ensures.tuple)
    ∙ ap (λ o. option_map (λ (one : Keyed). one.tuple) (option_copied o)) c.in-None.is)
    (other_indexes site.schema.now.indexes)))
    (c.duplicate_in_others.ensures before None is tt)
