use Rattle.std.proofs.Common.{sym, ap, ◌∙◌}
use Rattle.std.specs.Option.{option_copied}
use Rattle.mx_key.specs.Parts.{key_of}
use Rattle.mx_schema.specs.State.{key_in}
use Rattle.mx_slow_state.proofs.SlowSiteLaws.{entry_by_holder, entry_by_primary, entry_found}
use Rattle.mx_slow_state.proofs.slow_state.site.find_entry.Goals as goal

pub returns-then-def-eq0 : goal.returns-then-def-eq0
returns-then-def-eq0 c = λ before wanted is fit bytes.
    let site = c.args.site.now in
    entry_by_primary before site.space.0 site.primary.now c.args.def.now wanted (option_copied c.find.result) c.if-def-eq0.true
    (entry_found before site is c.args.key.now wanted fit bytes (option_copied c.find.result) c.find.ensures.tuple c.find.ensures.key)

pub returns-in-Ok : goal.returns-in-Ok
returns-in-Ok c = λ before wanted is fit bytes.
    let site = c.args.site.now in
    let (own, has, own_fit, own_bytes) = c.in-Ok.ensures in
    let found = option_copied c.find-in-Ok.result in
    let held = sym c.in-Some.is ∙ c.in_ok-tuple.ensures before wanted is c.if-def-eq0.false fit bytes in
    entry_by_holder before site.space.0 site.primary.now c.args.def.now wanted found c.in-Some.tuple own c.if-def-eq0.false held
    (ap (key_in site.primary.now.key) (sym c.as_slice.ensures) ∙ ap (key_of site.primary.now.key) (sym c.array_or_empty.ensures.items) ∙ has)
    (entry_found before site is c.in-Ok.own own own_fit own_bytes found c.find-in-Ok.ensures.tuple c.find-in-Ok.ensures.key)
