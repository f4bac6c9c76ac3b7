use Rattle.std.proofs.Common.{bit_xor, ◌∙◌, arith}
use Rattle.std.proofs.lemmas.Nat.{xor_lt}
use Rattle.mx_xlog.proofs.TableLaws.{eight_apart, eight_folded}
use Rattle.mx_xlog.proofs.crc.after_eight.Goals as goal

pub returns : goal.returns
returns c =
    rw (c.entry.ensures, c.entry-2.ensures, c.entry-3.ensures, c.entry-4.ensures, c.entry-5.ensures, c.entry-6.ensures, c.entry-7.ensures, c.entry-8.ensures, c.from.ensures)
    (eight_apart (bit_xor c.args.register c.read_u64.result) (xor_lt 64 c.args.register c.read_u64.result (omega arith) (omega arith))
    ∙ eight_folded c.args.eight.now c.args.register c.read_u64.result (omega arith) c.fits-eight c.read_u64.ensures)
