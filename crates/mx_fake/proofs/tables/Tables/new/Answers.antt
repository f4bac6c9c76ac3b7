use Rattle.std.specs.FinMap as map
use Rattle.mx_fake.proofs.TableLaws.{nothing_saved}
use Rattle.mx_fake.proofs.tables.Tables.new.Goals as goal

pub returns : goal.returns
returns c =
    nothing_saved map.empty (record { files = c.new.result; before = c.new-2.result }) c.new.ensures c.new-2.ensures.empty c.new-2.ensures.ordered
