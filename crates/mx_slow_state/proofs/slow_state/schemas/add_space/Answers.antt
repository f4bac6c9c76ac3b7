use Rattle.std.proofs.Common.{ap, nat_cmp}
use Rattle.std.specs.BTreeMap.{get_by}
use Rattle.mx_slow_state.specs.declared.slow_state.SlowSpace.{SlowSpace}
use Rattle.mx_slow_state.proofs.SlowSchemaLaws.{space_added}
use Rattle.mx_slow_state.proofs.slow_state.schemas.add_space.Goals as goal

pub returns-clause-ok : goal.returns-clause-ok
returns-clause-ok c = λ schemas state keeps none.
    let def = c.args.def in
    let added : SlowSpace = record { schema = record { def = def; indexes = c.new-indexes.result }; tuples = c.new.result } in
    space_added schemas state def.id.0 (λ q. get_by (nat_cmp q) c.args.spaces.now) (λ q. get_by (nat_cmp q) c.insert.new.self) keeps def added none
    (ap (λ indexes. record { def = def; indexes = indexes }) c.new-indexes.ensures) c.new.ensures.items c.in_ok-insert.ensures.updates.0
