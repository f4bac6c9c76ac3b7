use Rattle.std.proofs.Common.{◌∷◌, sym, subst}
use Rattle.mx_space.specs.Reserves.{AreReady}
use Rattle.mx_space.proofs.ReserveLaws.{ready_more}
use Rattle.mx_space.proofs.reserve_all.reserve_one.Goals as goal

pub returns-in-Ok-clause-ok : goal.returns-in-Ok-clause-ok
returns-in-Ok-clause-ok c = λ schemas state one all ready spells may apart.
    let old = c.args.spaces.now.entries.items in
    let new = c.reserve.new.self.entries.items in
    let step = c.in_ok-step.step in
    let made = c.in_ok-step.ensures in
    subst (λ steps. AreReady schemas new state steps (one ∷ all)) (sym c.in-Ok.ensures.ok)
    (ready_more schemas old new state c.args.prepared.now one all step c.args.change ready spells made.change may apart made.ok made.edits)
