-- Which reads the keys of a commit overlap.
use Rattle.std.specs.Prelude.{Bool, ◌&&◌, ◌==◌, List}
use Rattle.std.specs.List.{list_any}
use Rattle.mx_key.specs.Comparable.{holds}
use Rattle.mx_tracker.specs.declared.read.Read.{Read}
use Rattle.mx_tracker.specs.declared.touched.Touched.{Touched}

-- the key is one of the index that was read, and lies in the range
abbrev pub lies_in_read : Read → Touched → Bool
lies_in_read read key = (key.space == read.space) && (key.index == read.index) && holds (record { low = read.low; high = read.high }) key.key

-- one of the keys lies in one of the reads
abbrev pub is_overlapped : List Touched → List Read → Bool
is_overlapped keys reads = list_any (λ read. list_any (lies_in_read read) keys) reads
