use Rattle.std.proofs.Common.{ap, ◌∙◌, string_bytes}
use Rattle.std.specs.FinMap as map
use Rattle.mx_fake.proofs.FileLaws.{inserted}
use Rattle.mx_fake.proofs.files.Files.insert.Goals as goal

pub returns : goal.returns
returns c =
    inserted c.self.inside.stored c.insert.new.self (string_bytes c.args.name) c.args.file c.in_ok-insert.ensures.updates
    ∙ ap (λ files. map.insert files (string_bytes c.args.name) c.args.file) c.self.view_is
