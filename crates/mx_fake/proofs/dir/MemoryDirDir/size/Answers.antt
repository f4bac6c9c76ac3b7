use Rattle.std.specs.FinMap as map
use Rattle.mx_fake.specs.Dirs.{dir_states}
use Rattle.mx_fake.proofs.DirLaws.{where_known, sized}
use Rattle.mx_fake.proofs.dir.MemoryDirDir.size.Goals as goal

pub returns-clause-size : goal.returns-clause-size
returns-clause-size c =
    where_known (dir_states c.args.self.now) _ (λ disk past told.
    sized (map.get disk.now c.args.name.now) c.bytes.result.now (c.bytes.ensures disk (c.in_ok-tables.ensures.tables disk past told)))
