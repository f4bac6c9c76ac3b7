use Rattle.std.proofs.Common.{◌∙◌, ap, refl}
use Rattle.mx_directory.proofs.DamageLaws.{name_read}
use Rattle.mx_directory.proofs.damage.name_text.Goals as goal

pub returns : goal.returns
returns c = ap (λ text. text.now) c.unwrap_or.ensures ∙ name_read _ c.args.name.now c.from_utf8.result _ c.from_utf8.ensures.cases refl
