use Rattle.std.proofs.Common.{Some, sym, ap, ◌∙◌, subst}
use Rattle.std.specs.Prelude.{IfOk, if◌then◌else◌}
use Rattle.std.proofs.lemmas.Bool.{ne_eqb}
use Rattle.std.specs.Option.{option_copied}
use Rattle.mx_write.specs.Lookup.{holder_of, primary_key_of}
use Rattle.mx_write.specs.Stages.{IsKeyOf}
use Rattle.mx_judge.proofs.EntryStageLaws.{held_so}
use Rattle.mx_judge.proofs.entry.primary_key_with.Goals as goal

pub returns : goal.returns
returns c = λ before wanted target there unique fit is.
    let t = c.args.target.now in
    let def = c.args.def.now in
    let primary = t.primary.now in
    let held = held_so before t target def wanted c.args.key (option_copied c.in_ok-holder.holder) there unique
    (λ schema tuples shows here alone. c.in_ok-holder.ensures.shown schema tuples wanted shows here alone fit is) in
    subst (λ o. IfOk c.primary_key_of.result (λ found. IsKeyOf found o))
    (ap (primary_key_of primary) held
    ∙ ap (λ b. if b then Some wanted else primary_key_of primary (holder_of before t.scope.space.0 def wanted)) (sym (ne_eqb def.id.0 0 c.if-def-eq0.false))) c.primary_key_of.ensures
