-- Reading a value from the left: the bytes after it, or the first fault.
use Rattle.std.specs.Prelude.{◌≡◌, ℕ, zero, suc, ◌-◌, ◌*◌, ℤ, pos, ◌-ℤ◌, Bool, true, false, List, [], ◌∷◌, length, take, drop, Option, Some, None, Result, Ok, Err, nat_lt, ◌==◌, if◌then◌else◌}
use Rattle.byteorder.specs.Endian.{big_number, twos_complement}
use Rattle.mx_msgpack.specs.declared.bad.Bad.{Bad}
use Rattle.mx_msgpack.specs.declared.bad.Bad.TheVariants.{Unused, Short, Deep, Long}
use Rattle.mx_msgpack.specs.declared.head.Head.{Head}
use Rattle.mx_msgpack.specs.declared.head.Head.TheVariants.{Nil, Bool as Boolean, Int, Str, Bin, Array, Map, Fixed, Extension}
use Rattle.mx_msgpack.specs.declared.head.Kind.{Kind}
use Rattle.mx_msgpack.specs.declared.head.Kind.TheVariants as kind
use Rattle.mx_msgpack.specs.Grammar.{max_nesting, max_length}

infixl 10 ◌>>=◌
abbrev pub ◌>>=◌ : {A B E : Type 0} → Result A E → (A → Result B E) → Result B E
(Ok x) >>= f = f x
(Err error) >>= f = Err error

-- what a function returned, seen by `view`, is this
abbrev pub Gives : {X Y E : Type 0} → (X → Y) → Result X E → Result Y E → Type 0
Gives view (Ok x) answer = answer ≡ Ok (view x)
Gives view (Err error) answer = answer ≡ Err error

-- the head of this type and length
abbrev pub kind_head : Kind → ℕ → Head
kind_head kind.Str size = Str size
kind_head kind.Bin size = Bin size
kind_head kind.Array size = Array size
kind_head kind.Map size = Map size
kind_head kind.Extension size = Extension size

-- a head that goes on with a length of this many bytes, and the bytes after it
abbrev pub sized_at : Kind → ℕ → List ℕ → Result (Head × List ℕ) Bad
sized_at kind width rest =
    if nat_lt (length rest) width then Err Short else Ok (kind_head kind (big_number width (take width rest)), drop width rest)

-- a number of 0 or more of this many bytes, and one with a sign
abbrev pub unsigned_head : ℕ → List ℕ → Result (Head × List ℕ) Bad
unsigned_head width rest = if nat_lt (length rest) width then Err Short else Ok (Int (pos (big_number width (take width rest))), drop width rest)

abbrev pub signed_head : ℕ → List ℕ → Result (Head × List ℕ) Bad
signed_head width rest =
    if nat_lt (length rest) width then Err Short else Ok (Int (twos_complement width (big_number width (take width rest))), drop width rest)

-- the heads of the leading bytes from c0 to c9, from ca to d8, and from d9 to df; `at` is the leading byte's place
abbrev pub low_head : (at leading : ℕ) → List ℕ → Result (Head × List ℕ) Bad
low_head at leading rest =
    if leading == 0xc0 then Ok (Nil, rest)
    else if leading == 0xc2 then Ok (Boolean false, rest)
    else if leading == 0xc3 then Ok (Boolean true, rest)
    else if leading == 0xc4 then sized_at kind.Bin 1 rest
    else if leading == 0xc5 then sized_at kind.Bin 2 rest
    else if leading == 0xc6 then sized_at kind.Bin 4 rest
    else if leading == 0xc7 then sized_at kind.Extension 1 rest
    else if leading == 0xc8 then sized_at kind.Extension 2 rest
    else if leading == 0xc9 then sized_at kind.Extension 4 rest
    else Err (Unused at)

abbrev pub number_head : (leading : ℕ) → List ℕ → Result (Head × List ℕ) Bad
number_head leading rest =
    if leading == 0xca then Ok (Fixed 4, rest)
    else if leading == 0xcb then Ok (Fixed 8, rest)
    else if leading == 0xcc then unsigned_head 1 rest
    else if leading == 0xcd then unsigned_head 2 rest
    else if leading == 0xce then unsigned_head 4 rest
    else if leading == 0xcf then unsigned_head 8 rest
    else if leading == 0xd0 then signed_head 1 rest
    else if leading == 0xd1 then signed_head 2 rest
    else if leading == 0xd2 then signed_head 4 rest
    else if leading == 0xd3 then signed_head 8 rest
    else if leading == 0xd4 then Ok (Fixed 2, rest)
    else if leading == 0xd5 then Ok (Fixed 3, rest)
    else if leading == 0xd6 then Ok (Fixed 5, rest)
    else if leading == 0xd7 then Ok (Fixed 9, rest)
    else Ok (Fixed 17, rest)

abbrev pub sized_head : (leading : ℕ) → List ℕ → Result (Head × List ℕ) Bad
sized_head leading rest =
    if leading == 0xd9 then sized_at kind.Str 1 rest
    else if leading == 0xda then sized_at kind.Str 2 rest
    else if leading == 0xdb then sized_at kind.Str 4 rest
    else if leading == 0xdc then sized_at kind.Array 2 rest
    else if leading == 0xdd then sized_at kind.Array 4 rest
    else if leading == 0xde then sized_at kind.Map 2 rest
    else sized_at kind.Map 4 rest

-- What the leading byte and the bytes of its number say, and the bytes after them; `at` is the leading byte's place. A number
-- above ff is no byte and begins no value.
unfoldable pub head_at : ℕ → List ℕ → Result (Head × List ℕ) Bad
head_at at [] = Err Short
head_at at (leading ∷ rest) =
    if nat_lt leading 0x80 then Ok (Int (pos leading), rest)
    else if nat_lt leading 0x90 then Ok (Map (leading - 0x80), rest)
    else if nat_lt leading 0xa0 then Ok (Array (leading - 0x90), rest)
    else if nat_lt leading 0xc0 then Ok (Str (leading - 0xa0), rest)
    else if nat_lt leading 0xca then low_head at leading rest
    else if nat_lt leading 0xd9 then number_head leading rest
    else if nat_lt leading 0xe0 then sized_head leading rest
    else if nat_lt leading 0x100 then Ok (Int (pos leading -ℤ pos 0x100), rest)
    else Err (Unused at)

-- the bytes after this many values in a row, where `one` gives the bytes after one
abbrev pub after_all : (List ℕ → Result (List ℕ) Bad) → ℕ → List ℕ → Result (List ℕ) Bad
after_all one zero bytes = Ok bytes
after_all one (suc count) bytes = one bytes >>= after_all one count

-- The bytes after the values in a container at this place, which announces so many, or so many pairs of them. Without room
-- for one more container it is too deep, and then it may be too long.
abbrev pub after_inside : Option (List ℕ → Result (List ℕ) Bad) → (at announced values : ℕ) → List ℕ → Result (List ℕ) Bad
after_inside None at announced values rest = Err (Deep at)
after_inside (Some one) at announced values rest = if nat_lt max_length announced then Err (Long at) else after_all one values rest

-- the bytes after so many bytes at this place, where this length is announced
abbrev pub after_bytes : (at announced size : ℕ) → List ℕ → Result (List ℕ) Bad
after_bytes at announced size rest =
    if nat_lt max_length announced then Err (Long at) else if nat_lt (length rest) size then Err Short else Ok (drop size rest)

-- the bytes after what a head at this place announces
abbrev pub after_content : Option (List ℕ → Result (List ℕ) Bad) → ℕ → Head → List ℕ → Result (List ℕ) Bad
after_content one at (Str size) rest = after_bytes at size size rest
after_content one at (Bin size) rest = after_bytes at size size rest
after_content one at (Array count) rest = after_inside one at count count rest
after_content one at (Map count) rest = after_inside one at count (2 * count) rest
after_content one at (Fixed size) rest = after_bytes at size size rest
after_content one at (Extension size) rest = after_bytes at size (suc size) rest
after_content _ _ _ rest = Ok rest

-- the bytes after the value that stands first, inside `total` bytes that end where these end, with room for so many
-- containers one inside the other
unfoldable pub after_first : ℕ → ℕ → List ℕ → Result (List ℕ) Bad
after_first total zero bytes = do
  head ← head_at (total - length bytes) bytes
  after_content None (total - length bytes) head.0 head.1
after_first total (suc room) bytes = do
  head ← head_at (total - length bytes) bytes
  after_content (Some (after_first total room)) (total - length bytes) head.0 head.1

-- how many bytes the value takes that stands first, or the first fault from the left
unfoldable pub measured : List ℕ → Result ℕ Bad
measured bytes = do
  rest ← after_first (length bytes) max_nesting bytes
  Ok (length bytes - length rest)

-- the first fault from the left, where no value stands first
abbrev pub first_fault : List ℕ → Option Bad
first_fault bytes = fault_in (measured bytes)
  where
    fault_in : Result ℕ Bad → Option Bad
    fault_in (Ok size) = None
    fault_in (Err bad) = Some bad

-- a value as `ValueRef` shows it: a container as its count and the bytes of what it holds
pub data Shown : Type 0 where
  ShownNil : Shown
  ShownBool : Bool → Shown
  ShownInt : ℤ → Shown
  ShownStr : List ℕ → Shown
  ShownBin : List ℕ → Shown
  ShownArray : ℕ → List ℕ → Shown
  ShownMap : ℕ → List ℕ → Shown
  ShownOpaque : List ℕ → Shown

-- what a head, the bytes after it and all of the value's bytes show
abbrev pub shown : Head → (content whole : List ℕ) → Shown
shown Nil content whole = ShownNil
shown (Boolean truth) content whole = ShownBool truth
shown (Int number) content whole = ShownInt number
shown (Str size) content whole = ShownStr content
shown (Bin size) content whole = ShownBin content
shown (Array count) content whole = ShownArray count content
shown (Map count) content whole = ShownMap count content
shown (Fixed size) content whole = ShownOpaque whole
shown (Extension size) content whole = ShownOpaque whole

-- the value that stands first and how many bytes it takes, or the first fault from the left
unfoldable pub reading_of : List ℕ → Result (Shown × ℕ) Bad
reading_of bytes = do
  head ← head_at 0 bytes
  rest ← after_first (length bytes) max_nesting bytes
  Ok (shown head.0 (take (length head.1 - length rest) head.1) (take (length bytes - length rest) bytes), length bytes - length rest)
