-- The values that keys of requests take.
use Rattle.std.specs.Prelude.{ℕ, ◌-◌, ◌^◌, List, [], ◌∷◌, Option, Some, None, replicate, slice_set, nat_lt, nat_le, if◌then◌else◌}
use Rattle.std.specs.Option.{option_map}
use Rattle.uuid.specs.Text.{parsed_hyphenated}
use Rattle.mx_msgpack.specs.Projections.{as_text, as_array, as_map, first_as}
use Rattle.mx_msgpack.specs.Readers.{◌>>=◌, unsigned_in}
use Rattle.mx_msgpack.specs.Maps.{Pair, pairs_from}
use Rattle.mx_vclock.specs.Vclocks.{replicas, max_lsn}

-- a number from 0 to this one
abbrev pub number_to : (most : ℕ) → List ℕ → Option ℕ
number_to most value = do
  number ← unsigned_in value
  if nat_le number most then Some number else None

-- a number of 32 bits
abbrev pub number_32 : List ℕ → Option ℕ
number_32 = number_to (2 ^ 32 - 1)

-- an array, as its spelling
abbrev pub array_in : List ℕ → Option (List ℕ)
array_in value = option_map (λ array. value) (first_as as_array value)

-- a text that is a UUID with its hyphens, in letters of either case
abbrev pub uuid_in : List ℕ → Option (List ℕ)
uuid_in value = first_as as_text value >>= parsed_hyphenated

-- The vclock of pairs of ids and lsns that come after those of an earlier one. The last pair of an id counts, so that the
-- ids without a pair have the lsn 0.
abbrev pub vclock_from : List ℕ → List Pair → Option (List ℕ)
vclock_from clock [] = Some clock
vclock_from clock (pair ∷ others) = do
  id ← pair.key
  lsn ← number_to max_lsn pair.value
  if nat_lt id replicas then vclock_from (slice_set clock id lsn) others else None

-- a map of replica ids to lsns
abbrev pub vclock_in : List ℕ → Option (List ℕ)
vclock_in value = do
  map ← first_as as_map value
  vclock_from (replicate replicas 0) (pairs_from map.0 map.1)
