use Rattle.mx_row.proofs.CompletionLaws.{least_decided}
use Rattle.mx_row.proofs.completion.can_have.Goals as goal

pub returns-then-keys-most : goal.returns-then-keys-most
returns-then-keys-most c =
    rw c.is_some.ensures (least_decided c.args.keys c.args.most c.args.fields.now c.args.bytes.now c.if-keys-most.true c.least_cost.result c.least_cost.ensures)
