use Rattle.std.proofs.Common.{◌≡◌, Some, sym, ap, ◌∙◌, is_some, nat_cmp}
use Rattle.std.specs.BTreeMap.{get_by}
use Rattle.std.specs.Option.{option_copied_mut}
use Rattle.mx_slow_state.specs.declared.slow_state.SlowSpace.{SlowSpace}
use Rattle.mx_slow_state.proofs.SlowSchemaLaws.{from_err, from_ok, index_added, space_stays}
use Rattle.mx_slow_state.proofs.slow_state.schemas.add_index.Goals as goal

pub returns-clause-ok : goal.returns-clause-ok
returns-clause-ok c = λ schemas state schema keeps described first.
    let found = c.in-Some.found.now in
    let after : SlowSpace = c.add_index.new.self in
    let there : get_by (nat_cmp c.args.id.0) c.args.spaces.now ≡ Some found = sym c.get_mut.ensures.value ∙ ap option_copied_mut c.in-Some.is in
    let written = (c.get_mut.follows.holds after).3 (ap is_some there) in
    from_ok c.add_index.result c.add_index.ensures.ok
    (λ is. index_added schemas state c.args.id.0 (λ q. get_by (nat_cmp q) c.args.spaces.now) (λ q. get_by (nat_cmp q) (c.get_mut.follows.lender after)) keeps schema described found after there
    c.args.def first is c.add_index.ensures.tuples written.0)

pub returns-clause-err : goal.returns-clause-err
returns-clause-err c = λ schemas state keeps.
    let found = c.in-Some.found.now in
    let after : SlowSpace = c.add_index.new.self in
    let there : get_by (nat_cmp c.args.id.0) c.args.spaces.now ≡ Some found = sym c.get_mut.ensures.value ∙ ap option_copied_mut c.in-Some.is in
    let written = (c.get_mut.follows.holds after).3 (ap is_some there) in
    from_err c.add_index.result c.add_index.ensures.err
    (λ same. space_stays schemas state c.args.id.0 (λ q. get_by (nat_cmp q) c.args.spaces.now) (λ q. get_by (nat_cmp q) (c.get_mut.follows.lender after)) keeps found after there
    same c.add_index.ensures.tuples written.0)
