use Rattle.mx_space.specs.declared.state.State.{State}
use Rattle.mx_space.proofs.ReserveLaws.{given_back}
use Rattle.mx_space.proofs.state.State.release.Goals as goal

pub returns : goal.returns
returns c = λ schemas state all reserved.
    let memory : State = record { spaces = c.release_all.new.spaces } in
    given_back schemas c.args.self.now memory state c.args.prepared all reserved c.release_all.ensures
