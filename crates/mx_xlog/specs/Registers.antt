-- For private contracts and proofs alone: the register of a checksum after bytes 0.
use Rattle.std.specs.Prelude.{ℕ, zero, suc}
use Rattle.mx_xlog.specs.Checksums.{after_bits}

-- the register after this many bytes 0
unfoldable pub after_zeros : ℕ → ℕ → ℕ
after_zeros zero register = register
after_zeros (suc count) register = after_zeros count (after_bits 8 register)
