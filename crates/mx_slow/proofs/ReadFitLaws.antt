-- That the numbers in the ends of what statements read have 64 bits.
use Rattle.std.proofs.Common.{ℕ, Bool, true, false, List, [], ◌∷◌, ◌++◌, Option, Some, None, Result, Ok, Err}
use Rattle.std.specs.Prelude.{IfOk, IfSome, nat_lt, if◌then◌else◌}
use Rattle.std.specs.List.{AllByRecursion}
use Rattle.mx_key.specs.Keys.{Key, AreFit}
use Rattle.mx_key.specs.Ranges.{Range, AreFitEnds, range_of}
use Rattle.mx_schema.specs.Picks.{Indexed, max_result_size, total_bytes}
use Rattle.mx_entries.proofs.PickLaws.{fit_ends, read_fit}
use Rattle.mx_entries.specs.declared.pick.Pick.{Pick}
use Rattle.mx_entries.specs.Scans.{picked_of}
use Rattle.mx_slow.specs.SlowReadSteps.{scan_read}
use Rattle.mx_write.specs.Reads.{Read}
use Rattle.mx_slow.specs.SlowTouches.{AreFitReads, IsFitRange}
use Rattle.mx_model.specs.statements.Select.{range_reads}

abbrev AreFitEntries : List Indexed → Type 0
AreFitEntries all = AllByRecursion (λ (entry : Indexed). AreFit entry.0) all

pub range_fit : (space index : ℕ) (range : Option Range) → IsFitRange range → AreFitReads (range_reads space index range)
range_fit space index None fit = tt
range_fit space index (Some range) fit = (fit, tt)

pub fit_both : (a b : List Read) → AreFitReads a → AreFitReads b → AreFitReads (a ++ b)
fit_both [] b first second = second
fit_both (read ∷ a) b (one, first) second = (one, fit_both a b first second)

-- the range that a scan reads
pub scan_fit : (all : List Indexed) (wanted : Pick) (key : Key) → AreFitEntries all → AreFit key → IsFitRange (scan_read all wanted key)
scan_fit all wanted key entries fit = by_test (nat_lt max_result_size (total_bytes (picked_of all wanted key).tuples))
  where
    as_range : (range : Option Range) → IfSome range AreFitEnds → IsFitRange range
    as_range None ends = tt
    as_range (Some range) ends = ends

    by_test : (b : Bool) → IsFitRange (if b then Some (range_of wanted.iterator key) else (picked_of all wanted key).read)
    by_test true = fit_ends wanted.iterator key fit
    by_test false = as_range (picked_of all wanted key).read (read_fit wanted.iterator key wanted.offset wanted.limit all fit entries)

-- what holds beside a result
pub with_fit : {X E : Type 0} (P : X → Type 0) (result : Result X E) (Q : Type 0) → Q → IfOk result P → IfOk result (λ x. P x × Q)
with_fit P (Ok x) Q q p = (p, q)
with_fit P (Err e) Q q p = tt
