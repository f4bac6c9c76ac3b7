-- What can be written: numbers and lengths within the limits.
use Rattle.std.specs.Prelude.{◌^◌, ◌<◌, ◌≤◌, ℤ, pos, negsuc, ⊤, length}
use Rattle.mx_msgpack.specs.Grammar.{Value, Int, Str, Bin, Array, Map, Values, NoValue, MoreValues, Pairs, NoPair, MorePairs, value_count, pair_count, max_length}

-- from -2^63 up to 2^64 - 1
abbrev pub Fits64 : ℤ → Type 0
Fits64 (pos number) = number < 2 ^ 64
Fits64 (negsuc below) = below < 2 ^ 63

abbrev mutual
  pub IsWritable : Value → Type 0
  IsWritable (Int number) = Fits64 number
  IsWritable (Str text) = length text ≤ max_length
  IsWritable (Bin content) = length content ≤ max_length
  IsWritable (Array values) = (value_count values ≤ max_length) × AreWritable values
  IsWritable (Map pairs) = (pair_count pairs ≤ max_length) × ArePairsWritable pairs
  IsWritable _ = ⊤

  pub AreWritable : Values → Type 0
  AreWritable NoValue = ⊤
  AreWritable (MoreValues value others) = IsWritable value × AreWritable others

  pub ArePairsWritable : Pairs → Type 0
  ArePairsWritable NoPair = ⊤
  ArePairsWritable (MorePairs key value others) = IsWritable key × IsWritable value × ArePairsWritable others
