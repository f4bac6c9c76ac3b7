use Rattle.std.proofs.Common.{ap, ◌∙◌, bit_xor, arith}
use Rattle.mx_xlog.proofs.TableLaws.{step_by_entry}
use Rattle.mx_xlog.proofs.crc.next_checksum.Goals as goal

pub returns : goal.returns
returns c =
    step_by_entry c.args.register c.args.byte c.from-2.result c.entry.result (c.from-2.ensures ∙ ap (bit_xor c.args.register) c.from.ensures)
    (omega arith) c.entry.ensures
