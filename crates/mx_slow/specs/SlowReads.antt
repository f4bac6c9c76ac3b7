-- What the plain slow program reads.
use Rattle.std.specs.Prelude.{◌≡◌, List, map}
use Rattle.std.specs.List.{AllByRecursion}
use Rattle.mx_key.specs.Comparable.{edges_of}
use Rattle.mx_key.specs.Ranges.{AreFitEnds}
use Rattle.mx_write.specs.Reads.{Read}
use Rattle.mx_slow.specs.declared.read_ranges.ReadRange.{ReadRange}

-- a range that is read, as the code has it
abbrev pub read_view : Read → ReadRange
read_view read = record { space = record { 0 = read.space }; index = record { 0 = read.index }; range = edges_of read.range }

abbrev pub reads_view : List Read → List ReadRange
reads_view reads = map read_view reads

-- the code has these ranges, in whose ends the numbers have 64 bits
abbrev pub HasRead : List ReadRange → List Read → Type 0
HasRead coded reads = (coded ≡ reads_view reads) × AllByRecursion (λ (read : Read). AreFitEnds read.range) reads
