use Rattle.std.proofs.Common.{rules, Some, sym, subst, nat_cmp}
use Rattle.std.specs.Prelude.{MatchResult}
use Rattle.std.specs.BTreeMap.{get_by}
use Rattle.mx_schema.specs.Catalogues.{schema_of}
use Rattle.mx_write.specs.Change.{state_after_change}
use Rattle.mx_write.specs.Installs.{MayChange}
use Rattle.mx_write.proofs.EachSpaceLaws.{change_of, tuple_put}
use Rattle.mx_judge.proofs.InstallLaws.{at_either}
use Rattle.mx_slow_state.specs.SlowSteps.{KeepsState}
use Rattle.mx_slow_state.proofs.SlowChangeLaws.{at_ends, kept, put_under}
use Rattle.mx_slow_state.proofs.slow_state.changes.put.Goals as goal

pub returns-in-280 : goal.returns-in-280
returns-in-280 c = λ before key keeps sound fit bytes changes.
    let tuple = c.args.keyed.tuple in
    subst (λ n. MatchResult c.put_space.result (λ x. KeepsState (λ q. get_by (nat_cmp q) c.put_space.new.spaces) (state_after_change before (change_of n key (Some tuple))))
    (λ x. KeepsState (λ q. get_by (nat_cmp q) c.put_space.new.spaces) before))
    (sym c.in-280.is) (c.put_space.ensures before key keeps sound fit bytes (subst (λ n. MayChange before n key (Some tuple)) c.in-280.is changes))

pub returns-in-288 : goal.returns-in-288
returns-in-288 c = λ before key keeps sound fit bytes changes.
    let tuple = c.args.keyed.tuple in
    subst (λ n. MatchResult c.put_index.result (λ x. KeepsState (λ q. get_by (nat_cmp q) c.put_index.new.spaces) (state_after_change before (change_of n key (Some tuple))))
    (λ x. KeepsState (λ q. get_by (nat_cmp q) c.put_index.new.spaces) before))
    (sym c.in-288.is) (c.put_index.ensures before key keeps sound fit bytes (subst (λ n. MayChange before n key (Some tuple)) c.in-288.is changes))

pub returns-in_default : goal.returns-in_default
returns-in_default c = λ before key keeps sound fit bytes changes.
    let tuple = c.args.keyed.tuple in
    at_either c.put_into.result
    (at_ends _ _ c.put_into.result
    (c.put_into.ensures.ok (schema_of before) before changes.schema key keeps changes.described (put_under before c.args.space.0 key tuple changes) fit bytes)
    (c.put_into.ensures.err (schema_of before) before keeps))
    (λ put. tuple_put (kept (λ q. get_by (nat_cmp q) c.put_into.new.spaces)) before c.args.space.0 key (search rules) (search rules) tuple put)
    (λ same. same)
