use Rattle.std.proofs.Common.{refl}
use Rattle.std.specs.FinMap as map
use Rattle.mx_outside.specs.Disks.{unsynced}
use Rattle.mx_fake.proofs.TableLaws.{changed}
use Rattle.mx_fake.proofs.tables.Tables.remove.Goals as goal

pub returns : goal.returns
returns c disk is =
    let name = c.args.name.now in
    changed (λ files. map.remove files name) (unsynced name disk) c.save.new.self
    (record { files = c.remove.new.self; before = c.save.new.self.before }) (c.in_ok-save.ensures disk is) c.remove.ensures.rest refl
