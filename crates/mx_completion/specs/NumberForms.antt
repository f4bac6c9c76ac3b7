-- The digits behind a leading byte, which only private functions and proofs need.
use Rattle.std.specs.Prelude.{ℕ, suc, ◌-◌, ◌^◌, List, [], ◌∷◌, ◌++◌, length, replicate, Option, Some, None, nat_lt, nat_le, min, ◌==◌, if◌then◌else◌}
use Rattle.byteorder.specs.Endian.{big_number}
use Rattle.mx_completion.specs.declared.number.NumberRange.{NumberRange}
use Rattle.mx_completion.specs.declared.number.Digits.{Digits}

abbrev pub digits_behind : (leading : ℕ) → Option Digits
digits_behind leading =
    if leading == 0xcc then Some (record { width = 1; most = 2 ^ 8 - 1 })
    else if leading == 0xcd then Some (record { width = 2; most = 2 ^ 16 - 1 })
    else if leading == 0xce then Some (record { width = 4; most = 2 ^ 32 - 1 })
    else if leading == 0xcf then Some (record { width = 8; most = 2 ^ 64 - 1 })
    else if leading == 0xd0 then Some (record { width = 1; most = 2 ^ 7 - 1 })
    else if leading == 0xd1 then Some (record { width = 2; most = 2 ^ 15 - 1 })
    else if leading == 0xd2 then Some (record { width = 4; most = 2 ^ 31 - 1 })
    else if leading == 0xd3 then Some (record { width = 8; most = 2 ^ 63 - 1 })
    else None

-- the number of the digits and as many of this byte as are missing
abbrev pub filled : (byte width : ℕ) (digits : List ℕ) → ℕ
filled byte width digits = big_number width (digits ++ replicate (8 - length digits) byte)

-- the numbers of these digits and one more digit or more
abbrev pub filled_range : (form : Digits) (digits : List ℕ) → Option NumberRange
filled_range form digits =
    if nat_lt (length digits) form.width then
    if nat_le (filled 0x00 form.width digits) form.most then
    Some (record { least = filled 0x00 form.width digits; most = min (filled 0xff form.width digits) form.most })
    else None
    else None

abbrev pub size_of_form : Option Digits → ℕ
size_of_form None = 1
size_of_form (Some digits) = suc digits.width

-- how many bytes a number takes that begins with these
abbrev pub spelling_size : List ℕ → ℕ
spelling_size [] = 1
spelling_size (leading ∷ digits) = size_of_form (digits_behind leading)
