-- Only private functions and proofs need these: what a scan reads, and how far the plain slow program has added what a write reads.
use Rattle.std.specs.Prelude.{◌≡◌, ◌⊎◌, ◌++◌, List, Option, Some, nat_lt, if◌then◌else◌}
use Rattle.mx_base.specs.declared.refusal.Refusal.{Refusal}
use Rattle.mx_base.specs.declared.refusal.Refusal.TheVariants.{OutOfMemory}
use Rattle.mx_key.specs.Keys.{Key}
use Rattle.mx_key.specs.Ranges.{Range, range_of}
use Rattle.mx_entries.specs.declared.pick.Pick.{Pick}
use Rattle.mx_schema.specs.Picks.{Indexed, total_bytes, max_result_size}
use Rattle.mx_entries.specs.Scans.{picked_of}
use Rattle.mx_write.specs.Reads.{Read}
use Rattle.mx_slow.specs.declared.read_ranges.ReadRange.{ReadRange}
use Rattle.mx_slow.specs.SlowReads.{reads_view}
use Rattle.mx_slow.specs.SlowTouches.{AreFitReads}

-- what a scan of an index's entries by this key reads: all of the range where the tuples have too many bytes
abbrev pub scan_read : List Indexed → Pick → Key → Option Range
scan_read all wanted key =
    if nat_lt max_result_size (total_bytes (picked_of all wanted key).tuples) then Some (range_of wanted.iterator key)
    else (picked_of all wanted key).read

-- all of these reads were added
abbrev pub HasAdded : (old new : List ReadRange) → (whole : List Read) → Type 0
HasAdded old new whole = (new ≡ old ++ reads_view whole) × AreFitReads whole

-- they were added but for these last ones
abbrev pub AddsUpTo : (old new : List ReadRange) → (rest whole : List Read) → Type 0
AddsUpTo old new rest whole = (new ++ reads_view rest ≡ old ++ reads_view whole) × (AreFitReads rest → AreFitReads whole)

-- a statement stops, and all that it reads was added, or memory ran out
abbrev pub StopsAfter : Refusal → (old new : List ReadRange) → (whole : List Read) → Type 0
StopsAfter refusal old new whole = HasAdded old new whole ⊎ (refusal ≡ OutOfMemory)
