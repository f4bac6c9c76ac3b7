use Rattle.std.proofs.Common.{Some, None, sym, ap, ◌∙◌}
use Rattle.std.specs.Option.{option_copied}
use Rattle.mx_write.specs.Lookup.{own_key}
use Rattle.mx_judge.proofs.EntryStageLaws.{held_so, unique_is}
use Rattle.mx_write.proofs.UniqueLaws.{free_by, held_by_another, held_by_same, none_held}
use Rattle.mx_judge.proofs.unique.duplicate_in.Goals as goal

pub returns-in_default-clause-finds : goal.returns-in_default-clause-finds
returns-in_default-clause-finds c = λ before key target replaced there unique.
    let t = c.args.target.now in
    let def = c.args.def.now in
    let tuple = c.args.tuple.now in
    free_by before t.scope.space.0 t.schema.now t.primary.now key tuple def None None
    (ap option_copied (sym c.in_default.is)
    ∙ held_so before t target def (own_key def tuple) c.in_ok-key.key (option_copied c.in_ok-holder.field-0) there (unique_is def unique)
    (λ schema tuples shows here alone. c.in_ok-holder.ensures.shown schema tuples (own_key def tuple) shows here alone c.in_ok-key.ensures.1 c.in_ok-key.ensures.0))
    (none_held before t.scope.space.0 t.schema.now t.primary.now key tuple def)

pub returns-then-not-branch-clause-finds : goal.returns-then-not-branch-clause-finds
returns-then-not-branch-clause-finds c = λ before key target replaced there unique.
    let t = c.args.target.now in
    let def = c.args.def.now in
    let tuple = c.args.tuple.now in
    let held = c.in-Some.holder.now in
    free_by before t.scope.space.0 t.schema.now t.primary.now key tuple def None (Some held)
    (ap option_copied (sym c.in-Some.is)
    ∙ held_so before t target def (own_key def tuple) c.in_ok-key.key (option_copied c.in_ok-holder.field-0) there (unique_is def unique)
    (λ schema tuples shows here alone. c.in_ok-holder.ensures.shown schema tuples (own_key def tuple) shows here alone c.in_ok-key.ensures.1 c.in_ok-key.ensures.0))
    (held_by_same before t.scope.space.0 t.schema.now t.primary.now key tuple def held _ (c.in_ok-is_another.ensures key replaced) c.if-not-branch.true)

pub returns-clause-finds : goal.returns-clause-finds
returns-clause-finds c = λ before key target replaced there unique.
    let t = c.args.target.now in
    let def = c.args.def.now in
    let tuple = c.args.tuple.now in
    let held = c.in-Some.holder.now in
    free_by before t.scope.space.0 t.schema.now t.primary.now key tuple def (Some c.in_ok-duplicate_refusal.field-0) (Some held)
    (ap option_copied (sym c.in-Some.is)
    ∙ held_so before t target def (own_key def tuple) c.in_ok-key.key (option_copied c.in_ok-holder.field-0) there (unique_is def unique)
    (λ schema tuples shows here alone. c.in_ok-holder.ensures.shown schema tuples (own_key def tuple) shows here alone c.in_ok-key.ensures.1 c.in_ok-key.ensures.0))
    (held_by_another before t.scope.space.0 t.schema.now t.primary.now key tuple def held c.in_ok-is_another.field-0 c.in_ok-duplicate_refusal.field-0
    (c.in_ok-is_another.ensures key replaced) c.if-not-branch.false c.in_ok-duplicate_refusal.ensures)
