use Rattle.mx_entries.proofs.FoundLaws.{leads_once_by}
use Rattle.std.proofs.Common.{◌∙◌}
use Rattle.mx_entries.proofs.HolderKeyLaws.{some_has}
use Rattle.mx_space.proofs.build.has_key.Goals as goal

pub returns : goal.returns
returns c = λ def before long wanted built other unique fit is.
    c.is_some.ensures
    ∙ some_has def unique before (built.unique unique) built.have wanted long built.whole other fit c.args.index.now built.keeps c.args.key.now is
    (λ entry. entry.1.now) c.find.result
    (c.find.ensures.primary (leads_once_by def unique before (built.unique unique) built.have long built.whole wanted fit c.args.index.now built.keeps c.args.key.now is))
