use Rattle.std.proofs.Common.{sym}
use Rattle.mx_model.proofs.AnswerLaws.{parts_are_counted}
use Rattle.mx_slow_state.proofs.slow_state.asked_key.count_parts.Goals as goal

pub returns-in-Some : goal.returns-in-Some
returns-in-Some c = sym (parts_are_counted c.args.key.now c.in-Some.items.count c.in-Some.items.bytes.now (sym c.in-Some.ensures))
