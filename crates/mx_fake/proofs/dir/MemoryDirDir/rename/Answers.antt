use Rattle.mx_outside.specs.Disks.{renamed}
use Rattle.mx_fake.proofs.dir.MemoryDirDir.rename.Goals as goal

pub returns-clause-renamed : goal.returns-clause-renamed
returns-clause-renamed c = let change = renamed c.args.from.now c.args.to.now in c.make_or_leave.ensures.made change change c.rename.ensures c.rename-2.ensures
