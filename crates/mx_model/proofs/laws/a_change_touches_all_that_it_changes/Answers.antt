use Rattle.mx_model.proofs.FrameSteps.{answer_agrees, row_agrees}
use Rattle.mx_model.proofs.laws.a_change_touches_all_that_it_changes.Goals as goal

pub returns-clause-statement : goal.returns-clause-statement
returns-clause-statement c = λ before space operation sound. answer_agrees before sound space operation

pub returns-clause-row : goal.returns-clause-row
returns-clause-row c = λ before row sound. row_agrees before sound row
