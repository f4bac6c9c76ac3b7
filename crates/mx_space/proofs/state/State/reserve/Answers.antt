use Rattle.std.proofs.lemmas.Result.{on_err_weaker}
use Rattle.mx_space.specs.declared.state.State.{State}
use Rattle.mx_space.proofs.ReserveLaws.{all_reserved, none_reserved}
use Rattle.mx_space.proofs.state.State.reserve.Goals as goal

pub returns-clause-ok : goal.returns-clause-ok
returns-clause-ok c = λ schemas state all holds spell stand apart.
    let memory : State = record { spaces = c.reserve_all.new.spaces } in
    all_reserved schemas c.args.self.now memory state all c.reserve_all.result holds (c.reserve_all.ensures.ok schemas state all holds spell stand apart) c.reserve_all.ensures.undo

pub returns-clause-err : goal.returns-clause-err
returns-clause-err c = λ schemas state holds.
    let memory : State = record { spaces = c.reserve_all.new.spaces } in
    on_err_weaker c.reserve_all.result (none_reserved schemas c.args.self.now memory state holds) c.reserve_all.ensures.err
