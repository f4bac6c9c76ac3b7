use mathlib.Core.Path.{subst}
use Rattle.mx_xlog.specs.Blocks.{IsBegun}
use Rattle.mx_xlog.proofs.BlockLaws.{data_behind}
use Rattle.mx_xlog.proofs.block.write_parts.Goals as goal

pub returns : goal.returns
returns c =
    c.end_block.ensures c.args.out.now c.args.rows.now
    (data_behind c.len-at.result c.args.out.now c.begin_block.new.out c.args.rows.now c.extend_from_slice.new.self c.len-at.ensures
    (subst (λ before. IsBegun before c.begin_block.new.out) c.reserve.ensures c.in_ok-begin_block.ensures) c.in_ok-extend_from_slice.ensures c.requires)
