use Rattle.mx_outside.specs.Disks.{created}
use Rattle.mx_fake.proofs.dir.MemoryDirDir.create.Goals as goal

pub returns-clause-made : goal.returns-clause-made
returns-clause-made c = let change = created c.args.name.now in c.make_or_leave.ensures.made change change c.create.ensures c.create-2.ensures
