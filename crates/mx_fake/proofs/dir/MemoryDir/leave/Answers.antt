use Rattle.mx_fake.proofs.DirLaws.{left_some}
use Rattle.mx_fake.proofs.dir.MemoryDir.leave.Goals as goal

pub returns-in-Ok-clause-left : goal.returns-in-Ok-clause-left
returns-in-Ok-clause-left c f is =
    left_some c.note.result c.args.self.now.changes.items c.note.new.self.changes.items c.in-Ok.part f (rw c.in-Ok.is at is) c.note.ensures.ok c.note.ensures.err
