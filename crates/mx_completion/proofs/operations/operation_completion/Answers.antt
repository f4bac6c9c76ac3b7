use Rattle.std.proofs.Common.{inl, inr}
use Rattle.mx_completion.specs.declared.leading.Kind.TheVariants as kind
use Rattle.mx_completion.specs.OperationForms.{IsNamed}
use Rattle.mx_completion.proofs.CountedLaws.{counted_none, counted_full}
use Rattle.mx_completion.proofs.OperationCompletions.{operation_cut, operation_not_cut, operation_not_full}
use Rattle.mx_completion.proofs.operations.operation_completion.Goals as goal

pub returns-then-count-ne0-clause-completes : goal.returns-then-count-ne0-clause-completes
returns-then-count-ne0-clause-completes c =
    let arm = c.in-Some-Cut in
    operation_not_cut c.args.bytes.now arm.count arm.missing (rw arm.field-0-is at arm.ensures.announces) c.if-count-ne0.true

pub returns-then-count-ne5-clause-completes : goal.returns-then-count-ne5-clause-completes
returns-then-count-ne5-clause-completes c =
    let arm = c.in-Some-Full in
    operation_not_full c.args.bytes.now arm.count arm.size (rw arm.field-0-is at arm.ensures.announces) (λ which. elim which [ inl three ↦ c.if-count-ne3.true three | inr five ↦ c.if-count-ne5.true five ])

pub returns-else-count-ne0-clause-completes : goal.returns-else-count-ne0-clause-completes
returns-else-count-ne0-clause-completes c =
    let arm = c.in-Some-Cut in
    operation_cut c.args.bytes.now arm.missing (rw (arm.field-0-is, c.if-count-ne0.false) at arm.ensures.announces)

pub returns-else-count-ne3-clause-completes : goal.returns-else-count-ne3-clause-completes
returns-else-count-ne3-clause-completes c =
    let arm = c.in-Some-Full in
    rw c.longer.ensures (counted_full kind.Array IsNamed c.args.bytes.now arm.count arm.size (rw arm.field-0-is at arm.ensures.announces) c.named_completion.result (rw (← c.split_at.ensures.back) c.named_completion.ensures.completes))

pub returns-in-None-clause-completes : goal.returns-in-None-clause-completes
returns-in-None-clause-completes c =
    counted_none kind.Array IsNamed c.args.bytes.now c.in-None.ensures.announces
