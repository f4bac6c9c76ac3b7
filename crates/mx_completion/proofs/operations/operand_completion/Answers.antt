use Rattle.std.proofs.Common.{◌^◌}
use Rattle.mx_completion.specs.Completions.{IsIntSpelling, IsUnsignedSpelling, IsTextSpelling}
use Rattle.mx_completion.proofs.ShortCompletions.{few_by_length, int_is_short, unsigned_is_short, text_is_short}
use Rattle.mx_completion.proofs.operations.operand_completion.Goals as goal

pub returns-in-Number-clause-few : goal.returns-in-Number-clause-few
returns-in-Number-clause-few c = few_by_length IsIntSpelling (2 ^ 32) int_is_short c.args.bytes.now c.int_completion.result c.int_completion.ensures

pub returns-in-Count-clause-few : goal.returns-in-Count-clause-few
returns-in-Count-clause-few c = few_by_length (IsUnsignedSpelling 1) (2 ^ 32) (unsigned_is_short 1) c.args.bytes.now c.unsigned_completion.result c.unsigned_completion.ensures

pub returns-in-Bits-clause-few : goal.returns-in-Bits-clause-few
returns-in-Bits-clause-few c = few_by_length (IsUnsignedSpelling 0) (2 ^ 32) (unsigned_is_short 0) c.args.bytes.now c.unsigned_completion-in-Bits.result c.unsigned_completion-in-Bits.ensures

pub returns-in-Text-clause-few : goal.returns-in-Text-clause-few
returns-in-Text-clause-few c = few_by_length IsTextSpelling (2 ^ 32) text_is_short c.args.bytes.now c.text_completion.result c.text_completion.ensures
