use Rattle.mx_completion.proofs.KindLaws.{int_kind}
use Rattle.mx_completion.proofs.value.int_completion.Goals as goal

pub returns : goal.returns
returns c = int_kind c.args.bytes.now c.kind_completion.result c.kind_completion.ensures
