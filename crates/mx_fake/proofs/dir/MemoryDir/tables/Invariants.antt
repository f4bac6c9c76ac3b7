use Rattle.std.proofs.Common.{take}
use Rattle.mx_fake.specs.Changes.{replay, no_files}
use Rattle.mx_fake.specs.Tables.{IsTablesOf}
use Rattle.mx_fake.proofs.dir.MemoryDir.tables.Given as goal

abbrev pub invariant-loop-change : goal.invariant-loop-change
invariant-loop-change l = IsTablesOf (replay no_files (take l.change-index l.self.changes.items)) l.tables
