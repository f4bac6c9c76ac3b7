use Rattle.mx_write.specs.Views.{write_view}
use Rattle.mx_slow_state.proofs.SlowAnswerLaws.{slow_finds_none, slow_refuses}
use Rattle.mx_slow_state.proofs.slow_state.SlowState.write_answer.Goals as goal

pub returns-in-Ok-Some : goal.returns-in-Ok-Some
returns-in-Ok-Some c = λ before asked is writes.
    c.answer_made.ensures before asked (rw c.in-Ok-Some.field-0-is at (c.in-Ok-Some.ensures before is.keeps is.sound)) writes

pub returns-in-Ok-None : goal.returns-in-Ok-None
returns-in-Ok-None c = λ before asked is writes.
    slow_finds_none before asked c.args.space.0 (write_view c.args.write.now) writes c.new.result c.new.ensures
    (rw c.in-Ok-None.field-0-is at (c.in-Ok-None.ensures before is.keeps is.sound))

pub returns-in_ok-refused-in-Err : goal.returns-in_ok-refused-in-Err
returns-in_ok-refused-in-Err c = λ before asked is writes.
    slow_refuses before asked c.args.space.0 (write_view c.args.write.now) writes c.in-Err.refusal c.in_ok-refused-in-Err.field-0 c.in_ok-refused-in-Err.ensures
    (c.in-Err.ensures before is.keeps is.sound)
