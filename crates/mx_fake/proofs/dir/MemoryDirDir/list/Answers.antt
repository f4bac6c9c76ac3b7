use Rattle.std.proofs.Common.{ap, sym, ◌∙◌, subst}
use Rattle.std.specs.Cmp.Lexicographic.{slice_cmp}
use Rattle.std.specs.FinMap as map
use Rattle.std.specs.List.Sorted.{IsStrictlySortedBy}
use Rattle.std.specs.Ordering.{nat_cmp}
use Rattle.mx_fake.specs.Dirs.{dir_states}
use Rattle.mx_fake.proofs.DirLaws.{where_known}
use Rattle.mx_fake.proofs.FileLaws.{names_ascend}
use Rattle.mx_fake.proofs.dir.MemoryDirDir.list.Goals as goal

pub returns-in-Ok-clause-order : goal.returns-in-Ok-clause-order
returns-in-Ok-clause-order c = subst (IsStrictlySortedBy (slice_cmp nat_cmp)) (sym c.in-Ok.ensures) (names_ascend c.files.result.now)

pub returns-in-Ok-clause-names : goal.returns-in-Ok-clause-names
returns-in-Ok-clause-names c =
    where_known (dir_states c.args.self.now) _ (λ disk past told.
    c.in-Ok.ensures ∙ ap map.keys (c.files.ensures disk (c.in_ok-tables.ensures.tables disk past told)))
