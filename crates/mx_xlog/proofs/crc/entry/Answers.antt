use Rattle.std.proofs.Common.{refl}
use Rattle.mx_xlog.specs.declared.tables.TheConstants.{AFTER_BYTES}
use Rattle.mx_xlog.proofs.TableLaws.{entry_of}
use Rattle.mx_xlog.proofs.crc.entry.Goals as goal

pub returns : goal.returns
returns c = entry_of AFTER_BYTES refl c.args.zeros c.args.bytes c.requires
