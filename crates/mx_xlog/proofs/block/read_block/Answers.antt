use Rattle.std.proofs.Common.{refl, arith}
use Rattle.mx_xlog.proofs.BlockLaws.{no_end}
use Rattle.mx_xlog.proofs.block.read_block.Goals as goal

pub returns-in_default : goal.returns-in_default
returns-in_default c =
    let rest = c.split_at.result.1.now in
    rw (← c.split_at.ensures.back) (refl, (λ at_end. absurd (omega arith)), no_end rest c.if-starts_with.ensures.value, c.in_default.ensures)
