use Rattle.mx_fake.proofs.DirLaws.{made_ok}
use Rattle.mx_fake.proofs.dir.MemoryDir.finish.Goals as goal

pub returns-in-Ok-note-clause-made : goal.returns-in-Ok-note-clause-made
returns-in-Ok-note-clause-made c f is =
    made_ok c.args.self.now.changes.items c.note.new.self.changes.items c.in-Ok.change f (rw c.in-Ok.is at is) (rw c.in-Ok-note.is at c.note.ensures.ok)
