use Rattle.std.proofs.Common.{◌≡◌, Some, refl, sym, ap, ◌∙◌, is_some, nat_cmp}
use Rattle.std.specs.BTreeMap.{get_by}
use Rattle.std.specs.Option.{option_copied_mut}
use Rattle.mx_schema.specs.Stored.{stored_list}
use Rattle.mx_schema.proofs.StoredLaws.{stores_put}
use Rattle.mx_slow_state.specs.declared.slow_state.SlowSpace.{SlowSpace}
use Rattle.mx_slow_state.proofs.SlowLaws.{keeps_put, where_ok}
use Rattle.mx_slow_state.proofs.slow_state.put_into.Goals as goal

pub returns-clause-ok : goal.returns-clause-ok
returns-clause-ok c = λ schemas state schema key keeps is long fit bytes.
    let found = c.in-Some.found.now in
    let after : SlowSpace = record { schema = found.schema; tuples = c.put.new.kept } in
    let there : get_by (nat_cmp c.args.space.0) c.args.spaces.now ≡ Some found = sym c.get_mut.ensures.value ∙ ap option_copied_mut c.in-Some.is in
    let written = (c.get_mut.follows.holds after).3 (ap is_some there) in
    where_ok _ c.put.result c.put.ensures (λ put.
    keeps_put schemas state c.args.space.0 schema key c.args.keyed.tuple is long (λ q. get_by (nat_cmp q) c.args.spaces.now) (λ q. get_by (nat_cmp q) (c.get_mut.follows.lender after))
    found after there refl
    (λ tuples stores. stores_put (stored_list found.tuples.items) (stored_list c.put.new.kept.items) tuples key c.args.keyed.key c.args.keyed.tuple stores fit bytes put)
    written.0 keeps)
