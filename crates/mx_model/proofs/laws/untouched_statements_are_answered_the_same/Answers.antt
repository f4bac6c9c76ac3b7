use Rattle.mx_model.specs.Answers.{answer_in_space}
use Rattle.mx_model.proofs.FrameRuns.{answered_same}
use Rattle.mx_model.proofs.FrameSteps.{changed_agree, plain_change}
use Rattle.mx_model.proofs.laws.untouched_statements_are_answered_the_same.Goals as goal

pub returns-clause-answer : goal.returns-clause-answer
returns-clause-answer c = λ touched one other space operation agree sound still plain missed. answered_same touched one other agree sound still space operation plain missed

pub returns-clause-after : goal.returns-clause-after
returns-clause-after c = λ touched one other space operation agree plain.
    changed_agree touched one other agree (answer_in_space one space operation).change (plain_change one space operation plain)
