use Rattle.std.proofs.Common.{Some, None, sym, ap, ◌∙◌}
use Rattle.mx_write.specs.Lookup.{own_key}
use Rattle.mx_write.specs.Unique.{duplicate_refusal, is_another}
use Rattle.mx_write.proofs.UniqueLaws.{free_by, held_by_another, held_by_same, none_held}
use Rattle.mx_slow_state.proofs.slow_state.duplicates.duplicate_in.Goals as goal

pub returns-in_default : goal.returns-in_default
returns-in_default c = λ before key is other replaced.
    let site = c.args.site.now in
    let def = c.args.def.now in
    let tuple = c.args.tuple.now in
    free_by before site.space.0 site.schema.now site.primary.now key tuple def None None
    (sym c.in_default.is ∙ c.in_ok-holder.ensures before (own_key def tuple) is other c.in_ok-key.ensures.1 c.in_ok-key.ensures.0)
    (none_held before site.space.0 site.schema.now site.primary.now key tuple def)

pub returns-then-not-branch : goal.returns-then-not-branch
returns-then-not-branch c = λ before key is other replaced.
    let site = c.args.site.now in
    let def = c.args.def.now in
    let tuple = c.args.tuple.now in
    let held = c.in-Some.holder in
    free_by before site.space.0 site.schema.now site.primary.now key tuple def None (Some held)
    (sym c.in-Some.is ∙ c.in_ok-holder.ensures before (own_key def tuple) is other c.in_ok-key.ensures.1 c.in_ok-key.ensures.0)
    (held_by_same before site.space.0 site.schema.now site.primary.now key tuple def held c.in_ok-is_another.field-0
    (c.in_ok-is_another.ensures key replaced ∙ ap (λ t. is_another site.primary.now key (Some t)) c.as_slice.ensures) c.if-not-branch.true)

pub returns : goal.returns
returns c = λ before key is other replaced.
    let site = c.args.site.now in
    let def = c.args.def.now in
    let tuple = c.args.tuple.now in
    let held = c.in-Some.holder in
    free_by before site.space.0 site.schema.now site.primary.now key tuple def (Some c.in_ok-duplicate_refusal.field-0) (Some held)
    (sym c.in-Some.is ∙ c.in_ok-holder.ensures before (own_key def tuple) is other c.in_ok-key.ensures.1 c.in_ok-key.ensures.0)
    (held_by_another before site.space.0 site.schema.now site.primary.now key tuple def held c.in_ok-is_another.field-0 c.in_ok-duplicate_refusal.field-0
    (c.in_ok-is_another.ensures key replaced ∙ ap (λ t. is_another site.primary.now key (Some t)) c.as_slice.ensures) c.if-not-branch.false
    (c.in_ok-duplicate_refusal.ensures ∙ ap (λ t. duplicate_refusal site.space.0 site.schema.now def (Some t)) c.as_slice-2.ensures))
