use Rattle.std.specs.FinMap as map
use Rattle.mx_fake.specs.Dirs.{dir_states}
use Rattle.mx_fake.proofs.DirLaws.{where_known, reads_there}
use Rattle.mx_fake.proofs.dir.MemoryDirDir.read.Goals as goal

pub returns-clause-bytes : goal.returns-clause-bytes
returns-clause-bytes c =
    where_known (dir_states c.args.self.now) _ (λ disk past told.
    reads_there (map.get disk.now c.args.name.now) c.bytes.result.now c.behind-rest.result.now c.args.into.now c.copy_from_slice.new.self c.args.at c.min-count.result
    (c.bytes.ensures disk (c.in_ok-tables.ensures.tables disk past told)) c.behind-rest.ensures c.min-count.ensures c.copy_from_slice.ensures.after)
