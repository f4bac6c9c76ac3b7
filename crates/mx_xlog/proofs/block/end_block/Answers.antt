use Rattle.std.proofs.Common.{◌+◌, ap, ◌∙◌, drop, length}
use Rattle.mx_xlog.specs.Heads.{block_head}
use Rattle.mx_xlog.proofs.BlockLaws.{block_ended}
use Rattle.mx_xlog.proofs.block.end_block.Goals as goal

pub returns : goal.returns
returns c = λ before rows room.
    let behind = c.split_at.result.1.now in
    block_ended c.args.at before rows c.args.out.now behind c.block_head-head.result c.write_at.new.self room
    (c.split_at.ensures.back ∙ ap (drop (c.args.at + 19)) c.as_slice.ensures)
    (c.block_head-head.ensures ∙ ap (block_head (length behind)) c.checksum.ensures) c.write_at.ensures
