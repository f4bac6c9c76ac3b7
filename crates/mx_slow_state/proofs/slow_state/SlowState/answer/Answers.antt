use Rattle.std.proofs.Common.{rules}
use Rattle.mx_slow_state.proofs.SlowAnswerLaws.{slow_selects}
use Rattle.mx_slow_state.proofs.slow_state.SlowState.answer.Goals as goal

pub returns-in_ok-reply-in-Select : goal.returns-in_ok-reply-in-Select
returns-in_ok-reply-in-Select c = λ before is.
    let s = c.in-Select in
    slow_selects before c.args.request.now s.space s.index s.limit s.offset s.iterator s.key c.as_slice.result.now c.iterator_of.result c.in_ok-reply-in-Select.reply
    s.is c.as_slice.ensures c.iterator_of.ensures (c.in_ok-reply-in-Select.ensures before is.keeps)

pub returns-in_ok-answer-in-Insert : goal.returns-in_ok-answer-in-Insert
returns-in_ok-answer-in-Insert c = λ before is. c.in_ok-answer-in-Insert.ensures before c.args.request.now is (search rules)

pub returns-in_ok-answer-in-Replace : goal.returns-in_ok-answer-in-Replace
returns-in_ok-answer-in-Replace c = λ before is. c.in_ok-answer-in-Replace.ensures before c.args.request.now is (search rules)

pub returns-in_ok-answer-in-Update : goal.returns-in_ok-answer-in-Update
returns-in_ok-answer-in-Update c = λ before is. c.in_ok-answer-in-Update.ensures before c.args.request.now is (search rules)

pub returns-in_ok-answer-in-Delete : goal.returns-in_ok-answer-in-Delete
returns-in_ok-answer-in-Delete c = λ before is. c.in_ok-answer-in-Delete.ensures before c.args.request.now is (search rules)

pub returns-in_ok-answer-in-Upsert : goal.returns-in_ok-answer-in-Upsert
returns-in_ok-answer-in-Upsert c = λ before is. c.in_ok-answer-in-Upsert.ensures before c.args.request.now is (search rules)
