use Rattle.mx_write.proofs.RowJudgeLaws.{leaves_row, no_row_no_change}
use Rattle.mx_write.proofs.laws.a_write_leaves_a_row.Goals as goal

pub returns-clause-row : goal.returns-clause-row
returns-clause-row c = λ before space write made row sound well low outcome left. leaves_row before space write made row sound well low outcome left

pub returns-clause-none : goal.returns-clause-none
returns-clause-none c = λ before space write made outcome none. no_row_no_change before space write made outcome none
