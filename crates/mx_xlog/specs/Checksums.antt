-- The checksum of a block's data, bit by bit: the polynomial of CRC-32C, reflected; the register begins at 0 and isn't
-- inverted at the end.
use Rattle.std.specs.Prelude.{ℕ, zero, suc, ◌/◌, ◌%◌, List, bit_xor, ◌==◌, if◌then◌else◌}
use Rattle.std.specs.List.{fold}

-- CRC-32C's polynomial, reflected
abbrev pub polynomial : ℕ
polynomial = 0x82F63B78

-- the register shifted right by one bit, and changed by the polynomial where the bit shifted out was 1
abbrev pub after_bit : ℕ → ℕ
after_bit register = if (register % 2) == 1 then bit_xor (register / 2) polynomial else register / 2

-- the register after this many bits
abbrev pub after_bits : ℕ → ℕ → ℕ
after_bits zero register = register
after_bits (suc count) register = after_bits count (after_bit register)

-- the register after one byte more
abbrev pub next_checksum : ℕ → ℕ → ℕ
next_checksum register byte = after_bits 8 (bit_xor register byte)

-- the register after all the bytes, which begins at 0
abbrev pub checksum_of : List ℕ → ℕ
checksum_of bytes = fold next_checksum 0 bytes
