use Rattle.std.proofs.Common.{Some}
use mathlib.Core.Path.{subst}
use Rattle.mx_outside.specs.Disks.{Makes}
use Rattle.mx_fake.specs.Changes.{states_after}
use Rattle.mx_fake.specs.Dirs.{dir_states}
use Rattle.mx_fake.proofs.DirLaws.{known_alike}
use Rattle.mx_fake.proofs.dir.MemoryDir.make.Goals as goal

pub returns-in_err-begin-clause-told : goal.returns-in_err-begin-clause-told
returns-in_err-begin-clause-told c = known_alike c.args.self.now.changes.items c.begin.new.self.changes.items

pub returns-clause-told : goal.returns-clause-told
returns-clause-told c = known_alike c.args.self.now.changes.items c.finish.new.self.changes.items

pub returns-clause-made : goal.returns-clause-made
returns-clause-made c f is =
    subst (λ changes. Makes f (Some (states_after changes)) (dir_states c.finish.new.self) c.finish.result) c.begin.ensures.changes (c.finish.ensures.made f is)
