use Rattle.std.proofs.Common.{sym, ap, subst, nat_cmp}
use Rattle.std.specs.BTreeMap.{get_by}
use Rattle.mx_write.specs.declared.writable.Writer.TheVariants.{Client}
use Rattle.mx_write.specs.Change.{state_after_change}
use Rattle.mx_write.specs.Installs.{MayChange}
use Rattle.mx_judge.specs.Makes.{tuple_after}
use Rattle.mx_write.proofs.EachSpaceLaws.{change_of}
use Rattle.mx_judge.proofs.InstallLaws.{at_either, changed_so, judged_so, stood_so}
use Rattle.mx_slow_state.specs.SlowSteps.{KeepsState}
use Rattle.mx_slow_state.proofs.slow_state.changes.change.Goals as goal

pub returns-in-Put : goal.returns-in-Put
returns-in-Put c = λ before write is keeps sound outcome makes.
    let one = c.args.made in
    let space = c.args.space.0 in
    let effect = ap tuple_after c.in-Put.is in
    at_either c.put.result
    (c.put.ensures before makes.key keeps sound makes.fit makes.bytes (subst (MayChange before space makes.key) effect (judged_so before space write one is makes Client outcome)))
    (λ put. changed_so before space write one is makes Client outcome (KeepsState (λ q. get_by (nat_cmp q) c.put.new.spaces))
    (subst (λ t. KeepsState (λ q. get_by (nat_cmp q) c.put.new.spaces) (state_after_change before (change_of space makes.key t))) (sym effect) put))
    (λ same. same)

pub returns : goal.returns
returns c = λ before write is keeps sound outcome makes.
    let one = c.args.made in
    let space = c.args.space.0 in
    let effect = ap tuple_after c.in-Removed.is in
    at_either c.remove.result
    (c.remove.ensures before makes.key keeps sound makes.fit makes.bytes (subst (MayChange before space makes.key) effect (judged_so before space write one is makes Client outcome))
    (stood_so before space write one is makes Client outcome c.in-Removed.tuple c.in-Removed.is))
    (λ left. changed_so before space write one is makes Client outcome (KeepsState (λ q. get_by (nat_cmp q) c.remove.new.spaces))
    (subst (λ t. KeepsState (λ q. get_by (nat_cmp q) c.remove.new.spaces) (state_after_change before (change_of space makes.key t))) (sym effect) left))
    (λ same. same)
