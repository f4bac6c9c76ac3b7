use mathlib.Core.Path.{subst}
use Rattle.mx_outside.specs.Disks.{appended}
use Rattle.mx_fake.specs.Changes.{MakesOrLeaves}
use Rattle.mx_fake.specs.Dirs.{dir_states}
use Rattle.mx_fake.proofs.DirLaws.{appends}
use Rattle.mx_fake.proofs.dir.MemoryDirDir.append.Goals as goal

pub returns-clause-bytes : goal.returns-clause-bytes
returns-clause-bytes c =
    let name = c.args.name.now in
    let bytes = c.args.bytes.now in
    let before = dir_states c.args.self.now in
    let after = dir_states c.make_or_leave.new.self in
    appends before after c.make_or_leave.result name bytes c.min.result
    (subst (λ part. MakesOrLeaves (appended name bytes) (appended name part) before after c.make_or_leave.result) c.split_at.ensures.front
    (c.make_or_leave.ensures.made (appended name bytes) (appended name c.split_at.result.0.now) c.append.ensures c.append-2.ensures))
