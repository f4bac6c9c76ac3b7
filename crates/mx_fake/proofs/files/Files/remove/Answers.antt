use Rattle.std.proofs.Common.{ap, sym, ◌∙◌}
use Rattle.std.specs.FinMap as map
use Rattle.mx_fake.proofs.FileLaws.{found, taken}
use Rattle.mx_fake.proofs.files.Files.remove.Goals as goal

pub returns-clause-file : goal.returns-clause-file
returns-clause-file c = c.remove.ensures.value ∙ sym (found c.self.inside.stored c.args.name.now) ∙ ap (λ files. map.get files c.args.name.now) c.self.view_is

pub returns-clause-rest : goal.returns-clause-rest
returns-clause-rest c =
    taken c.self.inside.stored c.remove.new.self c.args.name.now c.remove.ensures.updates
    ∙ ap (λ files. map.remove files c.args.name.now) c.self.view_is
