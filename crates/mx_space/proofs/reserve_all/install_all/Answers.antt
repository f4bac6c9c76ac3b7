use Rattle.mx_entries.specs.PlainChanges.{state_with_all}
use Rattle.mx_space.proofs.ReserveLaws.{left_less, none_left}
use Rattle.mx_space.proofs.reserve_all.install_all.Goals as goal

pub loop-step-preserved : goal.loop-step-preserved
loop-step-preserved c = λ schemas state all ready.
    left_less schemas (state_with_all state all) c.loop-step.spaces.entries.items c.install.new.self.entries.items c.loop-step.left c.pop.new.self c.in-Some.step c.in-Some.ensures c.install.ensures
    (c.loop-step.invariant schemas state all ready)

pub returns : goal.returns
returns c = λ schemas state all ready.
    none_left schemas (state_with_all state all) c.loop-step.spaces.entries.items c.loop-step.left c.in_default.ensures (c.loop-step.invariant schemas state all ready)
