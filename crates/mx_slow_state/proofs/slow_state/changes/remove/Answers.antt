use Rattle.std.proofs.Common.{rules, None, sym, subst, nat_cmp}
use Rattle.std.specs.Prelude.{MatchResult}
use Rattle.std.specs.BTreeMap.{get_by}
use Rattle.mx_schema.specs.Catalogues.{schema_of}
use Rattle.mx_write.specs.Change.{state_after_change}
use Rattle.mx_write.specs.Installs.{MayChange, Stands}
use Rattle.mx_write.proofs.EachSpaceLaws.{change_of, tuple_removed}
use Rattle.mx_slow_state.specs.SlowSteps.{KeepsState}
use Rattle.mx_slow_state.proofs.SlowChangeLaws.{kept}
use Rattle.mx_slow_state.proofs.slow_state.changes.remove.Goals as goal

pub returns-in-280 : goal.returns-in-280
returns-in-280 c = λ before key keeps sound fit bytes changes stands.
    subst (λ n. MatchResult c.remove_space.result (λ x. KeepsState (λ q. get_by (nat_cmp q) c.remove_space.new.spaces) (state_after_change before (change_of n key None)))
    (λ x. KeepsState (λ q. get_by (nat_cmp q) c.remove_space.new.spaces) before))
    (sym c.in-280.is) (c.remove_space.ensures before key keeps sound fit bytes (subst (λ n. MayChange before n key None) c.in-280.is changes)
    (subst (λ n. Stands before n key c.args.keyed.now.tuple) c.in-280.is stands))

pub returns-in-288 : goal.returns-in-288
returns-in-288 c = λ before key keeps sound fit bytes changes stands.
    subst (λ n. MatchResult c.remove_index.result (λ x. KeepsState (λ q. get_by (nat_cmp q) c.remove_index.new.spaces) (state_after_change before (change_of n key None)))
    (λ x. KeepsState (λ q. get_by (nat_cmp q) c.remove_index.new.spaces) before))
    (sym c.in-288.is) (c.remove_index.ensures before key keeps sound fit bytes (subst (λ n. MayChange before n key None) c.in-288.is changes)
    (subst (λ n. Stands before n key c.args.keyed.now.tuple) c.in-288.is stands))

pub returns-in_default : goal.returns-in_default
returns-in_default c = λ before key keeps sound fit bytes changes stands.
    tuple_removed (kept (λ q. get_by (nat_cmp q) c.take_from.new.spaces)) before c.args.space.0 key (search rules) (search rules)
    (c.take_from.ensures (schema_of before) before changes.schema key keeps changes.described fit bytes)
