-- Only private functions and proofs need these: one step of the walk that measures a value, which is a head and what stands after it up
-- to the next head.
use Rattle.std.specs.Prelude.{◌≡◌, ℕ, suc, List, ◌∷◌, length, drop, Option, Some, None, Result, Ok, Err, nat_lt, ◌==◌, if◌then◌else◌}
use Rattle.mx_msgpack.specs.declared.bad.Bad.{Bad}
use Rattle.mx_msgpack.specs.declared.bad.Bad.TheVariants.{Short}
use Rattle.mx_msgpack.specs.declared.head.Head.{Head}
use Rattle.mx_msgpack.specs.declared.head.Head.TheVariants.{Str, Bin, Array, Map, Fixed, Extension}
use Rattle.mx_msgpack.specs.declared.size.Inside.{Inside}
use Rattle.mx_msgpack.specs.Reading.{◌>>=◌, head_at, after_all, after_bytes, after_first}
use Rattle.std.specs.Result.{result_ok}

-- the bytes after so many
abbrev pub after_few : ℕ → List ℕ → Result (List ℕ) Bad
after_few size rest = if nat_lt (length rest) size then Err Short else Ok (drop size rest)

-- how many bytes follow a leading byte from ca to d8
abbrev pub fixed_size : (leading : ℕ) → ℕ
fixed_size leading =
    if leading == 0xca then 4
    else if leading == 0xcb then 8
    else if leading == 0xcc then 1
    else if leading == 0xcd then 2
    else if leading == 0xce then 4
    else if leading == 0xcf then 8
    else if leading == 0xd0 then 1
    else if leading == 0xd1 then 2
    else if leading == 0xd2 then 4
    else if leading == 0xd3 then 8
    else if leading == 0xd4 then 2
    else if leading == 0xd5 then 3
    else if leading == 0xd6 then 5
    else if leading == 0xd7 then 9
    else 17

abbrev pub no_container : Result (List ℕ) Bad → Result (Option Inside × List ℕ) Bad
no_container (Ok rest) = Ok (None, rest)
no_container (Err bad) = Err bad

-- what a container announces, where the head is one's, and the bytes after the head and after what isn't values
abbrev pub step_behind : (at : ℕ) → Head → List ℕ → Result (Option Inside × List ℕ) Bad
step_behind at (Str size) rest = no_container (after_bytes at size size rest)
step_behind at (Bin size) rest = no_container (after_bytes at size size rest)
step_behind at (Array count) rest = Ok (Some (record { announced = count; each = 1 }), rest)
step_behind at (Map count) rest = Ok (Some (record { announced = count; each = 2 }), rest)
step_behind at (Fixed size) rest = no_container (after_bytes at size size rest)
step_behind at (Extension size) rest = no_container (after_bytes at size (suc size) rest)
step_behind _ _ rest = Ok (None, rest)

abbrev pub step_over : ℕ → List ℕ → Result (Option Inside × List ℕ) Bad
step_over at bytes = do
  head ← head_at at bytes
  step_behind at head.0 head.1

-- after this leading byte follow so many bytes, in which no values stand
abbrev pub IsPlain : (leading size : ℕ) → Type 0
IsPlain leading size = (at : ℕ) (rest : List ℕ) → step_over at (leading ∷ rest) ≡ no_container (after_few size rest)

-- the bytes after the value that stands first in a container, and after so many of them
abbrev pub after_inner : List ℕ → Option (List ℕ)
after_inner bytes = result_ok (after_first 0 63 bytes)

abbrev pub after_inners : ℕ → List ℕ → Option (List ℕ)
after_inners count bytes = result_ok (after_all (after_first 0 63) count bytes)
