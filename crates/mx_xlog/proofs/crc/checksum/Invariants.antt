use Rattle.std.proofs.Common.{◌≡◌, drop, length}
use Rattle.std.specs.List.{fold}
use Rattle.mx_xlog.specs.Checksums.{checksum_of, next_checksum}
use Rattle.mx_xlog.proofs.crc.checksum.Given as goal

abbrev pub invariant-loop-eight : goal.invariant-loop-eight
invariant-loop-eight l = fold next_checksum l.register l.rest ≡ checksum_of l.bytes

abbrev pub decreases-loop-eight : goal.decreases-loop-eight
decreases-loop-eight l = length l.rest

abbrev pub invariant-loop-byte : goal.invariant-loop-byte
invariant-loop-byte l = fold next_checksum l.register (drop l.byte-index l.byte-items) ≡ checksum_of l.bytes
