use Rattle.std.proofs.Common.{ap, sym, subst}
use Rattle.mx_write.specs.Installs.{MayChange}
use Rattle.mx_judge.specs.Makes.{tuple_after}
use Rattle.mx_space.specs.Stored.{Holds}
use Rattle.mx_write.specs.Change.{state_after_change}
use Rattle.mx_write.proofs.EachSpaceLaws.{change_of}
use Rattle.mx_judge.proofs.InstallLaws.{at_either, changed_so, judged_so, stood_so}
use Rattle.mx_judge.proofs.made.Made.install.Goals as goal

pub returns-in-Put : goal.returns-in-Put
returns-in-Put c = λ before writer write made holds outcome makes.
    let one = c.args.self in
    let space = c.args.space.0 in
    let effect = ap tuple_after c.in-Put.is in
    at_either c.put.result
    (c.put.ensures before makes.key holds makes.fit makes.bytes (subst (MayChange before space makes.key) effect (judged_so before space write one made makes writer outcome)))
    (λ put. changed_so before space write one made makes writer outcome (Holds c.put.new.state)
    (subst (λ t. Holds c.put.new.state (state_after_change before (change_of space makes.key t))) (sym effect) put))
    (λ kept. kept)

pub returns : goal.returns
returns c = λ before writer write made holds outcome makes.
    let one = c.args.self in
    let space = c.args.space.0 in
    let effect = ap tuple_after c.in-Removed.is in
    at_either c.remove.result
    (c.remove.ensures before makes.key holds makes.fit makes.bytes (subst (MayChange before space makes.key) effect (judged_so before space write one made makes writer outcome))
    (stood_so before space write one made makes writer outcome c.in-Removed.tuple c.in-Removed.is))
    (λ left. changed_so before space write one made makes writer outcome (Holds c.remove.new.state)
    (subst (λ t. Holds c.remove.new.state (state_after_change before (change_of space makes.key t))) (sym effect) left))
    (λ kept. kept)
