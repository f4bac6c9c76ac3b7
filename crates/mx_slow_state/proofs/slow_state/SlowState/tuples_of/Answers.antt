use Rattle.std.proofs.Common.{[], nat_cmp, subst}
use Rattle.std.specs.BTreeMap.{get_by}
use Rattle.mx_schema.specs.Catalogues.{schema_of}
use Rattle.mx_schema.specs.State.{tuples_in}
use Rattle.mx_schema.specs.Stored.{StoresTuples}
use Rattle.mx_slow_state.proofs.SlowLaws.{none_found}
use Rattle.mx_slow_state.proofs.slow_state.SlowState.tuples_of.Goals as goal

pub returns-in-None : goal.returns-in-None
returns-in-None c = λ state keeps.
    let source = c.source_of.result.0 in
    let none = none_found (schema_of state source) (tuples_in state source) (get_by (nat_cmp source) c.args.self.now.spaces) c.in-None.ensures.value (keeps source) in
    subst (λ s. StoresTuples [] (tuples_in state s)) c.source_of.ensures none.1
