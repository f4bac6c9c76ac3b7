-- What the plain slow program has of the keys that commits touch, and whether they lie in what was read.
use Rattle.std.specs.Prelude.{◌≡◌, ⊤, Bool, ◌&&◌, List, Option, Some, None, ◌==◌}
use Rattle.std.specs.List.{AllByRecursion, list_any}
use Rattle.mx_key.specs.Comparable.{holds}
use Rattle.mx_key.specs.Ranges.{AreFitEnds, Range}
use Rattle.mx_schema.specs.declared.index_def.IndexDef.{IndexDef}
use Rattle.mx_schema.specs.Catalogues.{index_with}
use Rattle.mx_write.specs.Reads.{Read}
use Rattle.mx_write.specs.Touches.{Touched, lies_in_index}
use Rattle.mx_slow.specs.declared.read_ranges.ReadRange.{ReadRange}
use Rattle.mx_slow.specs.declared.touched.TouchedKey.{TouchedKey}

-- the key is one of the index that was read, and lies in the range
abbrev pub touches : TouchedKey → ReadRange → Bool
touches key read = (key.space.0 == read.space.0) && (key.index.0 == read.index.0) && holds read.range key.key

-- one of the keys lies in one of the ranges
abbrev pub meet : List TouchedKey → List ReadRange → Bool
meet keys reads = list_any (λ read. list_any (λ key. touches key read) keys) reads

-- the numbers in the ends of a range that was read have 64 bits
abbrev pub IsFitRead : Read → Type 0
IsFitRead read = AreFitEnds read.range

abbrev pub AreFitReads : List Read → Type 0
AreFitReads reads = AllByRecursion IsFitRead reads

abbrev pub IsFitRange : Option Range → Type 0
IsFitRange None = ⊤
IsFitRange (Some range) = AreFitEnds range

-- indexes have numbers of their own
abbrev pub AreOwn : List IndexDef → Type 0
AreOwn indexes = AllByRecursion (λ def. index_with def.id.0 indexes ≡ Some def) indexes

-- a tuple's key in the index that was read, which is one of these, lies in the range that was read
abbrev pub meets_in : List IndexDef → Touched → Read → Bool
meets_in indexes touched read = (touched.space == read.space) && lies_in_index (index_with read.index indexes) read.range touched

-- some of these tuples do
abbrev pub meet_in : List IndexDef → List Touched → List Read → Bool
meet_in indexes all reads = list_any (λ read. list_any (λ touched. meets_in indexes touched read) all) reads
