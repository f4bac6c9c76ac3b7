use Rattle.std.proofs.Common.{◌≡◌, Some, sym, ap, ◌∙◌, is_some, nat_cmp}
use Rattle.std.specs.BTreeMap.{get_by}
use Rattle.std.specs.Option.{option_copied_mut}
use Rattle.mx_slow_state.specs.declared.slow_state.SlowSpace.{SlowSpace}
use Rattle.mx_slow_state.proofs.SlowSchemaLaws.{index_dropped}
use Rattle.mx_slow_state.proofs.slow_state.schemas.drop_index.Goals as goal

pub returns : goal.returns
returns c = λ schemas state schema keeps described.
    let found = c.in-Some.found.now in
    let after : SlowSpace = c.drop_index.new.self in
    let there : get_by (nat_cmp c.args.id.0) c.args.spaces.now ≡ Some found = sym c.get_mut.ensures.value ∙ ap option_copied_mut c.in-Some.is in
    let written = (c.get_mut.follows.holds after).3 (ap is_some there) in
    index_dropped schemas state c.args.id.0 (λ q. get_by (nat_cmp q) c.args.spaces.now) (λ q. get_by (nat_cmp q) (c.get_mut.follows.lender after)) keeps schema described found after there
    c.args.index.0 c.drop_index.ensures.schema c.drop_index.ensures.tuples written.0
