use Rattle.std.proofs.Common.{sym, arith}
use Rattle.std.proofs.lemmas.List.{nil_from_length}
use Rattle.mx_completion.specs.OperationForms.{IsLettered}
use Rattle.mx_completion.proofs.CountedLaws.{nothing_yet}
use Rattle.mx_completion.proofs.OperationCompletions.{lettered_least, lettered}
use Rattle.mx_completion.proofs.operations.lettered_completion.Goals as goal

pub returns-in_default-clause-completes : goal.returns-in_default-clause-completes
returns-in_default-clause-completes c =
    rw (nil_from_length c.args.bytes.now c.in_default.ensures.cases)
    (nothing_yet (IsLettered c.args.count) c.args.count (omega arith) (lettered_least c.args.count c.requires))

pub returns-else-operands-count-clause-completes : goal.returns-else-operands-count-clause-completes
returns-else-operands-count-clause-completes c =
    rw (c.in-Some.ensures.cases.0, c.longer.ensures)
    (lettered c.args.count c.in-Some.letter.now c.in-Some.rest.now c.in-Some-operands_of.operands.now c.operands_completion.result (sym c.in-Some-operands_of.ensures) (omega arith)
    c.operands_completion.ensures.completes)
