use Rattle.std.proofs.Common.{Some, refl}
use Rattle.std.proofs.lemmas.Result.{on_err_weaker, on_ok_weaker}
use Rattle.std.specs.FinMap.{empty}
use Rattle.mx_space.specs.declared.overlay.OverlaidSpace.{OverlaidSpace}
use Rattle.mx_entries.specs.OwnWrites.{under}
use Rattle.mx_space.proofs.OverlayLaws.{own_index, stores_put, stores_still}
use Rattle.mx_space.proofs.overlay.OverlaidSpace.put.Goals as goal

pub returns-clause-ok : goal.returns-clause-ok
returns-clause-ok c = λ schema written primary key stores there keyed fit is.
    let before = c.args.self.now in
    let after : OverlaidSpace = record { own = c.put.new.self; removed = before.removed } in
    on_ok_weaker c.put.result (λ own. stores_put (Some schema) before after written key stores fit c.args.keyed.tuple own refl)
    (c.put.ensures.ok (Some schema) (under written empty) primary key stores.own (own_index schema before written 0 primary stores there) keyed fit is)

pub returns-clause-err : goal.returns-clause-err
returns-clause-err c = λ schema written stores.
    let before = c.args.self.now in
    let after : OverlaidSpace = record { own = c.put.new.self; removed = before.removed } in
    on_err_weaker c.put.result (λ own. stores_still schema before after written stores refl own) (c.put.ensures.err schema (under written empty) stores.own)
