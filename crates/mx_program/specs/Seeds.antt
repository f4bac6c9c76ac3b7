-- The texts of a seed.
use Rattle.std.specs.Prelude.{ℕ, List, ◌≡◌, length}
use Rattle.std.specs.List.{AllPass}
use Rattle.hex.specs.Hex.{is_hex_digit}

-- Two hexadecimal digits for each of 32 bytes.
abbrev pub IsSeedText : List ℕ → Type 0
IsSeedText text = (length text ≡ 64) × AllPass is_hex_digit text
