use Rattle.mx_completion.proofs.KindLaws.{array_kind}
use Rattle.mx_completion.proofs.value.array_completion.Goals as goal

pub returns : goal.returns
returns c = array_kind c.args.room c.args.bytes.now c.kind_completion.result c.kind_completion.ensures
