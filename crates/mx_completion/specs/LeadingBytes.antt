-- Only private functions and proofs need these: what the leading byte of a value says.
use Rattle.std.specs.Prelude.{◌≡◌, ◌⊎◌, ℕ, suc, ◌-◌, ◌*◌, ◌≤◌, Bool, true, false, Option, Some, None, nat_lt, ◌==◌, if◌then◌else◌}
use Rattle.mx_completion.specs.declared.leading.Kind.{Kind}
use Rattle.mx_completion.specs.declared.leading.Kind.TheVariants.{Int, Text, Array, Map, Extension, Other}
use Rattle.mx_completion.specs.declared.leading.Leading.{Leading}

-- a value of this type, whose length takes so many bytes, or is this where it takes none
abbrev pub leads : Kind → (width length : ℕ) → Option Leading
leads kind width length = Some (record { kind = kind; width = width; length = length })

-- the leading bytes from c0 to c9, from ca to d8, and from d9 to df
abbrev pub low_leading : ℕ → Option Leading
low_leading byte =
    if byte == 0xc0 then leads Other 0 0
    else if byte == 0xc2 then leads Other 0 0
    else if byte == 0xc3 then leads Other 0 0
    else if byte == 0xc4 then leads Other 1 0
    else if byte == 0xc5 then leads Other 2 0
    else if byte == 0xc6 then leads Other 4 0
    else if byte == 0xc7 then leads Extension 1 0
    else if byte == 0xc8 then leads Extension 2 0
    else if byte == 0xc9 then leads Extension 4 0
    else None

abbrev pub number_leading : ℕ → Option Leading
number_leading byte =
    if byte == 0xca then leads Other 0 4
    else if byte == 0xcb then leads Other 0 8
    else if byte == 0xcc then leads Int 0 1
    else if byte == 0xcd then leads Int 0 2
    else if byte == 0xce then leads Int 0 4
    else if byte == 0xcf then leads Int 0 8
    else if byte == 0xd0 then leads Int 0 1
    else if byte == 0xd1 then leads Int 0 2
    else if byte == 0xd2 then leads Int 0 4
    else if byte == 0xd3 then leads Int 0 8
    else if byte == 0xd4 then leads Other 0 2
    else if byte == 0xd5 then leads Other 0 3
    else if byte == 0xd6 then leads Other 0 5
    else if byte == 0xd7 then leads Other 0 9
    else leads Other 0 17

abbrev pub sized_leading : ℕ → Option Leading
sized_leading byte =
    if byte == 0xd9 then leads Text 1 0
    else if byte == 0xda then leads Text 2 0
    else if byte == 0xdb then leads Text 4 0
    else if byte == 0xdc then leads Array 2 0
    else if byte == 0xdd then leads Array 4 0
    else if byte == 0xde then leads Map 2 0
    else leads Map 4 0

-- what the leading byte says; none where it begins no value
unfoldable pub leading_of : ℕ → Option Leading
leading_of byte =
    if nat_lt byte 0x80 then leads Int 0 0
    else if nat_lt byte 0x90 then leads Map 0 (byte - 0x80)
    else if nat_lt byte 0xa0 then leads Array 0 (byte - 0x90)
    else if nat_lt byte 0xc0 then leads Text 0 (byte - 0xa0)
    else if nat_lt byte 0xca then low_leading byte
    else if nat_lt byte 0xd9 then number_leading byte
    else if nat_lt byte 0xe0 then sized_leading byte
    else if nat_lt byte 0x100 then leads Int 0 0
    else None

-- its width is one that the format has, and a length in the leading byte is short
pub record IsSized (leading : Leading) : Type 0 where
  pub width : (leading.width ≡ 0) ⊎ (leading.width ≡ 1) ⊎ (leading.width ≡ 2) ⊎ (leading.width ≡ 4)
  pub short : leading.length ≤ 31

-- what follows is values
abbrev pub holds_values : Kind → Bool
holds_values Array = true
holds_values Map = true
holds_values _ = false

-- how many bytes or values follow a head of this length
abbrev pub follow_count : Kind → (length : ℕ) → ℕ
follow_count Map length = 2 * length
follow_count Extension length = suc length
follow_count _ length = length
