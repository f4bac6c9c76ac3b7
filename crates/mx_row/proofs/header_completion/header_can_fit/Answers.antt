use Rattle.mx_row.proofs.FitLaws.{upsert_can_decide}
use Rattle.mx_row.proofs.header_completion.header_can_fit.Goals as goal

pub returns : goal.returns
returns c =
    upsert_can_decide c.args.rows.now c.args.bytes.now c.kind_can_fit-5.result (c.kind_can_fit.ensures.1 c.if-kind_can_fit.false)
    (c.kind_can_fit-2.ensures.1 c.if-kind_can_fit-2.false) (c.kind_can_fit-3.ensures.1 c.if-kind_can_fit-3.false)
    (c.kind_can_fit-4.ensures.1 c.if-kind_can_fit-4.false) c.kind_can_fit-5.ensures
