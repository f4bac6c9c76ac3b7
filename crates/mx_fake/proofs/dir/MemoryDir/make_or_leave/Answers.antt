use Rattle.std.proofs.Common.{Some}
use mathlib.Core.Path.{subst}
use Rattle.mx_outside.specs.Disks.{Makes}
use Rattle.mx_fake.specs.Changes.{states_after, MayLeave}
use Rattle.mx_fake.specs.Dirs.{dir_states}
use Rattle.mx_fake.proofs.DirLaws.{known_alike, makes_whole}
use Rattle.mx_fake.proofs.dir.MemoryDir.make_or_leave.Goals as goal

pub returns-in-Ok-clause-told : goal.returns-in-Ok-clause-told
returns-in-Ok-clause-told c = known_alike c.args.self.now.changes.items c.finish.new.self.changes.items

pub returns-in-Err-clause-told : goal.returns-in-Err-clause-told
returns-in-Err-clause-told c = known_alike c.args.self.now.changes.items c.leave.new.self.changes.items

pub returns-in-Ok-clause-made : goal.returns-in-Ok-clause-made
returns-in-Ok-clause-made c f g is part =
    makes_whole (dir_states c.args.self.now) (dir_states c.finish.new.self) c.finish.result f g
    (subst (λ changes. Makes f (Some (states_after changes)) (dir_states c.finish.new.self) c.finish.result) c.begin.ensures.changes (c.finish.ensures.made f is))

pub returns-in-Err-clause-made : goal.returns-in-Err-clause-made
returns-in-Err-clause-made c f g is part =
    subst (λ changes. MayLeave g (Some (states_after changes)) (dir_states c.leave.new.self)) c.begin.ensures.changes (c.leave.ensures.left g part)
