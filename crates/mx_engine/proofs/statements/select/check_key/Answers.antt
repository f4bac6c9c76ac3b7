use Rattle.std.proofs.Common.{sym}
use Rattle.mx_model.proofs.AnswerLaws.{parts_are_counted}
use Rattle.mx_engine.proofs.statements.select.check_key.Goals as goal

pub returns-in-Hash : goal.returns-in-Hash
returns-in-Hash c =
    let array = c.known_array.result in
    c.check_hash_key.ensures c.args.key.now c.in-Hash.is (sym (parts_are_counted c.args.key.now array.count array.bytes.now c.known_array.ensures))
