use Rattle.std.proofs.Common.{arith, length-take, ◌≤◌, length, ◌-◌, take, drop}
use Rattle.mx_top.proofs.UnitLaws.{waiting-consume}
use Rattle.mx_top.proofs.intake.Intake.consume.Goals as goal

pub returns-else-self : goal.returns-else-self
returns-else-self c =
    let view = c.self.inside in
    let within : c.args.count ≤ length (take (view.end - view.start) (drop view.start view.buffer.items)) = rw c.self.view_is c.requires in
    rw (← c.self.view_is) (waiting-consume view.start view.end c.args.count view.buffer.items (omega (arith, simp length-take at within)))
