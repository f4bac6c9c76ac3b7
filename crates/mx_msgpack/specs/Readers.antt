-- Reading small pieces from the left, and as many in a row as there are.
use Rattle.std.specs.Prelude.{◌≡◌, ℕ, zero, suc, ◌^◌, ◌<◌, ℤ, pos, negsuc, List, [], ◌∷◌, ◌++◌, length, take, drop, Option, Some, None, nat_lt, if◌then◌else◌}
use Rattle.std.specs.Option.{option_map}
use Rattle.byteorder.specs.Endian.{big_number}
use Rattle.mx_msgpack.specs.Projections.{as_int, shown_first}

-- what stands first in the bytes, and the bytes after it
abbrev pub Reader : Type 0 → Type 0
Reader X = List ℕ → Option (X × List ℕ)

infixl 10 ◌>>=◌
abbrev pub ◌>>=◌ : {A B : Type 0} → Option A → (A → Option B) → Option B
None >>= f = None
(Some x) >>= f = f x

-- a read takes a byte at least
abbrev pub Advances : {X : Type 0} → Reader X → Type 0
Advances {X} read = (bytes : List ℕ) (found : X × List ℕ) → read bytes ≡ Some found → length found.1 < length bytes

-- what stands first stands there whatever follows
abbrev pub IsStable : {X : Type 0} → Reader X → Type 0
IsStable {X} read = (bytes more : List ℕ) (found : X × List ℕ) → read bytes ≡ Some found → read (bytes ++ more) ≡ Some (found.0, found.1 ++ more)

abbrev pub in_front : {X : Type 0} → X → List X × List ℕ → List X × List ℕ
in_front x others = (x ∷ others.0, others.1)

-- what a read found, and then the others; nothing and all the bytes where it found nothing
abbrev pub first_and_others : {X : Type 0} → List ℕ → Option (X × List ℕ) → (List ℕ → List X × List ℕ) → List X × List ℕ
first_and_others bytes None others = ([], bytes)
first_and_others bytes (Some found) others = in_front found.0 (others found.1)

-- at most so many in a row, and the bytes after them
abbrev pub some_from : {X : Type 0} → Reader X → ℕ → List ℕ → List X × List ℕ
some_from read zero bytes = ([], bytes)
some_from read (suc most) bytes = first_and_others bytes (read bytes) (some_from read most)

-- as many in a row as there are, and the bytes after them
abbrev pub all_from : {X : Type 0} → Reader X → List ℕ → List X × List ℕ
all_from read bytes = some_from read (length bytes) bytes

-- a number of so many bytes, the highest first
abbrev pub number_at : ℕ → Reader ℕ
number_at width bytes = if nat_lt (length bytes) width then None else Some (big_number width (take width bytes), drop width bytes)

-- so many bytes, and the bytes after them
abbrev pub bytes_at : ℕ → Reader (List ℕ)
bytes_at count bytes = if nat_lt (length bytes) count then None else Some (take count bytes, drop count bytes)

-- a number that is 0 or more
abbrev pub as_unsigned : ℤ → Option ℕ
as_unsigned (pos number) = Some number
as_unsigned (negsuc _) = None

-- an Int of 0 or more in any spelling
unfoldable pub unsigned_at : Reader ℕ
unsigned_at bytes = do
  first ← shown_first bytes
  number ← as_int first.0
  unsigned ← as_unsigned number
  Some (unsigned, drop first.1 bytes)

-- the same without the bytes after it
abbrev pub unsigned_in : List ℕ → Option ℕ
unsigned_in bytes = option_map (λ found. found.0) (unsigned_at bytes)

-- an Int of 0 or more and at most 32 bits
unfoldable pub unsigned_32_at : Reader ℕ
unsigned_32_at bytes = do
  number ← unsigned_at bytes
  if nat_lt number.0 (2 ^ 32) then Some number else None
