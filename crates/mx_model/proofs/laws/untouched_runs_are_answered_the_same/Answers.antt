use Rattle.mx_model.proofs.FrameRuns.{rows_leave, rows_stay_sound, run_same}
use Rattle.mx_model.proofs.laws.untouched_runs_are_answered_the_same.Goals as goal

pub returns-clause-answers : goal.returns-clause-answers
returns-clause-answers c = λ touched one other statements agree sound still plain missed. run_same touched one other statements agree sound still plain missed

pub returns-clause-rows : goal.returns-clause-rows
returns-clause-rows c = rows_leave

pub returns-clause-sound : goal.returns-clause-sound
returns-clause-sound c = rows_stay_sound
