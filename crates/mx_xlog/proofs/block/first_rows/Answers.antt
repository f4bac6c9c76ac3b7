use Rattle.std.proofs.Common.{sym, ◌∙◌, arith}
use Rattle.mx_xlog.proofs.BlockLaws.{block_found, same_bytes}
use Rattle.mx_xlog.proofs.block.first_rows.Goals as goal

pub returns : goal.returns
returns c =
    block_found c.args.bytes.now c.split_at.result.0.now c.split_at.result.1.now c.split_at-2.result.0.now c.read_u32-size.result c.read_u32-sum.result
    c.split_at.ensures.front c.split_at.ensures.back
    (same_bytes c.split_at.result.0.now c.as_slice.result.now c.if-ne.ensures ∙ c.as_slice.ensures ∙ c.block_head.ensures)
    (omega arith) (omega arith) (omega arith) c.split_at-2.ensures.front (sym c.if-checksum-sum.false ∙ c.checksum.ensures)
