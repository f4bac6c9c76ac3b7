use Rattle.std.proofs.Common.{Some}
use Rattle.mx_space.specs.declared.overlay.OverlaidSpace.{OverlaidSpace}
use Rattle.mx_space.proofs.OverlayLaws.{stores_nothing}
use Rattle.mx_space.proofs.overlay.OverlaidSpace.new.Goals as goal

pub returns : goal.returns
returns c =
    let over : OverlaidSpace = record { own = c.in_ok-of_trees.field-0; removed = c.new.result } in
    stores_nothing (Some c.args.schema) over c.in_ok-of_trees.ensures c.new.ensures.empty
