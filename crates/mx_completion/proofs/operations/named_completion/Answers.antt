use Rattle.mx_completion.specs.declared.leading.Kind.TheVariants as kind
use Rattle.mx_completion.proofs.CountedLaws.{counted_none}
use Rattle.mx_completion.proofs.OperationCompletions.{OneLetter, named_cut, named_full, named_not_cut, named_not_full}
use Rattle.mx_completion.proofs.operations.named_completion.Goals as goal

pub returns-then-text-ne0-clause-completes : goal.returns-then-text-ne0-clause-completes
returns-then-text-ne0-clause-completes c =
    let arm = c.in-Some-Cut in
    named_not_cut c.args.count c.args.bytes.now arm.text arm.missing (rw arm.field-0-is at arm.ensures.announces) c.if-text-ne0.true

pub returns-then-text-ne1-clause-completes : goal.returns-then-text-ne1-clause-completes
returns-then-text-ne1-clause-completes c =
    let arm = c.in-Some-Full in
    named_not_full c.args.count c.args.bytes.now arm.text arm.size (rw arm.field-0-is at arm.ensures.announces) c.if-text-ne1.true

pub returns-else-text-ne0-clause-completes : goal.returns-else-text-ne0-clause-completes
returns-else-text-ne0-clause-completes c =
    let arm = c.in-Some-Cut in
    named_cut c.args.count c.requires c.args.bytes.now arm.missing (rw (arm.field-0-is, c.if-text-ne0.false) at arm.ensures.announces)

pub returns-else-text-ne1-clause-completes : goal.returns-else-text-ne1-clause-completes
returns-else-text-ne1-clause-completes c =
    let arm = c.in-Some-Full in
    rw c.longer.ensures (named_full c.args.count c.requires c.args.bytes.now arm.size c.lettered_completion.result (rw (arm.field-0-is, c.if-text-ne1.false) at arm.ensures.announces) (rw (← c.split_at.ensures.back) c.lettered_completion.ensures.completes))

pub returns-in-None-clause-completes : goal.returns-in-None-clause-completes
returns-in-None-clause-completes c =
    counted_none kind.Text (OneLetter c.args.count) c.args.bytes.now c.in-None.ensures.announces
