use Rattle.std.proofs.Common.{ap, sym, ◌∙◌}
use Rattle.std.specs.FinMap as map
use Rattle.mx_fake.proofs.FileLaws.{found}
use Rattle.mx_fake.proofs.files.Files.get.Goals as goal

pub returns : goal.returns
returns c = c.get.ensures.value ∙ sym (found c.self.inside.stored c.args.name.now) ∙ ap (λ files. map.get files c.args.name.now) c.self.view_is
