-- Which numbers of 0 or more bytes can become that don't spell one yet.
use Rattle.std.specs.Prelude.{◌↔◌, ℕ, ◌≤◌, pos, List, ◌++◌, length, Option, Some, None}
use Rattle.mx_msgpack.specs.Grammar.{SpellsInt}
use Rattle.mx_msgpack.specs.Spelling.{AreBytes}
use Rattle.mx_completion.specs.declared.number.NumberRange.{NumberRange}

-- the bytes can become a spelling of the number with one more byte or more
abbrev pub CanBecome : (bytes : List ℕ) (number : ℕ) → Type 0
CanBecome bytes number = (missing : List ℕ) × AreBytes missing × (1 ≤ length missing) × SpellsInt (pos number) (bytes ++ missing)

-- the numbers that the bytes can become are those of the range
abbrev pub IsRange : (bytes : List ℕ) → Option NumberRange → Type 0
IsRange bytes None = (number : ℕ) → ¬ CanBecome bytes number
IsRange bytes (Some range) = (range.least ≤ range.most) × ((number : ℕ) → CanBecome bytes number ↔ ((range.least ≤ number) × (number ≤ range.most)))
