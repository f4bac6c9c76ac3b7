use Rattle.mx_outside.specs.Disks.{removed}
use Rattle.mx_fake.proofs.dir.MemoryDirDir.remove.Goals as goal

pub returns-clause-removed : goal.returns-clause-removed
returns-clause-removed c = let change = removed c.args.name.now in c.make_or_leave.ensures.made change change c.remove.ensures c.remove-2.ensures
