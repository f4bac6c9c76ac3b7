use Rattle.std.proofs.Common.{arith}
use Rattle.mx_row.proofs.FitLaws.{alone_decided}
use Rattle.mx_row.proofs.header_completion.kind_can_fit.Goals as goal

pub returns : goal.returns
returns c =
    let few = c.if-rows-gt0.false in
    alone_decided c.args.rows.now c.requires.room c.requires.numbered c.args.kind c.args.bytes.now c.place_can_fit-3.result
    (c.place_can_fit.ensures.1 c.if-place_can_fit.false) (c.place_can_fit-2.ensures.1 c.if-place_can_fit-2.false) (omega (arith, few)) c.place_can_fit-3.ensures
