use Rattle.std.proofs.Common.{IsSome, ap, sym, ◌∙◌}
use Rattle.std.specs.FinMap as map
use Rattle.mx_fake.specs.Dirs.{dir_states}
use Rattle.mx_fake.proofs.DirLaws.{where_known, of_newest, seen_there, there_seen}
use Rattle.mx_fake.proofs.dir.MemoryDir.has.Goals as goal

pub returns : goal.returns
returns c =
    let name = c.args.name.now in (
      λ there.
          where_known (dir_states c.args.self.now) _ (λ disk past told.
          seen_there c.get.result (map.get disk.now name) (sym c.is_some-there.ensures ∙ there)
          (c.get.ensures ∙ ap (λ files. map.get files name) (c.files.ensures disk (c.in_ok-tables.ensures disk past told)))),
      λ there.
          of_newest c.args.self.now.changes.items (λ disk past. IsSome (map.get disk.now name)) _ (λ disk past told found.
          c.is_some-there.ensures ∙ there_seen c.get.result (map.get disk.now name) found
          (c.get.ensures ∙ ap (λ files. map.get files name) (c.files.ensures disk (c.in_ok-tables.ensures disk past told)))) there,
    )
