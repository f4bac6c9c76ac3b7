use Rattle.std.proofs.Common.{◌≡◌, Some, refl, sym, ap, ◌∙◌, is_some, nat_cmp}
use Rattle.std.specs.BTreeMap.{get_by}
use Rattle.std.specs.Option.{option_copied_mut}
use Rattle.mx_schema.specs.Stored.{stored_list}
use Rattle.mx_schema.proofs.TakenLaws.{stores_left}
use Rattle.mx_slow_state.specs.declared.slow_state.SlowSpace.{SlowSpace}
use Rattle.mx_slow_state.proofs.SlowLaws.{keeps_left}
use Rattle.mx_slow_state.proofs.slow_state.changes.take_from.Goals as goal

pub returns : goal.returns
returns c = λ schemas state schema wanted keeps is fit bytes.
    let found = c.in-Some.found.now in
    let after : SlowSpace = record { schema = found.schema; tuples = c.take_out.new.kept } in
    let there : get_by (nat_cmp c.args.space.0) c.args.spaces.now ≡ Some found = sym c.get_mut.ensures.value ∙ ap option_copied_mut c.in-Some.is in
    let written = (c.get_mut.follows.holds after).3 (ap is_some there) in
    keeps_left schemas state c.args.space.0 wanted (λ q. get_by (nat_cmp q) c.args.spaces.now) (λ q. get_by (nat_cmp q) (c.get_mut.follows.lender after)) found after there refl
    (λ tuples stores. stores_left wanted (stored_list found.tuples.items) (stored_list c.take_out.new.kept.items) tuples c.args.key.now fit bytes c.take_out.ensures stores)
    written.0 keeps
