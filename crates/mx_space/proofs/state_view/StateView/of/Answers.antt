use Rattle.std.proofs.Common.{[], refl}
use Rattle.mx_space.proofs.state_view.StateView.of.Goals as goal

pub returns-clause-shown : goal.returns-clause-shown
returns-clause-shown c = λ seen holds. record { base = seen; own = []; holds = holds; over = refl; is = refl; sound = holds.sound; plain = tt }
