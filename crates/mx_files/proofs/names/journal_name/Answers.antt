use Rattle.std.proofs.Common.{codes}
use Rattle.mx_files.proofs.DigitLaws.{numbered}
use Rattle.mx_files.proofs.names.journal_name.Goals as goal

pub returns : goal.returns
returns c = numbered c.args.signature (codes ".xlog") c.format.result c.ranges.signature.fits (rw c.laid_out.ensures at c.format.ensures.ok)
