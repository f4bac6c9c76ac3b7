use Rattle.mx_completion.proofs.KindLaws.{text_kind}
use Rattle.mx_completion.proofs.value.text_completion.Goals as goal

pub returns : goal.returns
returns c = text_kind c.args.bytes.now c.kind_completion.result c.kind_completion.ensures
