use Rattle.mx_fake.proofs.DirLaws.{known_alike}
use Rattle.mx_fake.proofs.dir.MemoryDir.refuse.Goals as goal

pub returns-clause-told : goal.returns-clause-told
returns-clause-told c = known_alike c.args.self.now.changes.items c.begin.new.self.changes.items
