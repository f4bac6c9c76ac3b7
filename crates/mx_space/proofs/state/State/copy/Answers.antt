use Rattle.mx_space.proofs.ReserveLaws.{none_reserved}
use Rattle.mx_space.proofs.state.State.copy.Goals as goal

pub returns : goal.returns
returns c = λ schemas state holds. none_reserved schemas c.args.self.now (record { spaces = c.in_ok-copy.field-0 }) state holds c.in_ok-copy.ensures
