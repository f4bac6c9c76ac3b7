-- What a SELECT of an index in memory gives.
use Rattle.std.specs.Prelude.{◌≡◌, ◌⊎◌, ◌<◌, ◌≤◌, List, ℕ, Option, Result, Ok, Err, IfSome, MatchResult}
use Rattle.std.specs.Option.{option_map}
use Rattle.mx_key.specs.declared.edge.KeyRange.{KeyRange}
use Rattle.mx_key.specs.declared.fault.Misfit.{Misfit}
use Rattle.mx_key.specs.Comparable.{edges_of}
use Rattle.mx_key.specs.Keys.{Key, AreFit}
use Rattle.mx_key.specs.Parts.{key_of_array}
use Rattle.mx_key.specs.Ranges.{AreFitEnds}
use Rattle.mx_schema.specs.declared.index_def.IndexDef.{IndexDef}
use Rattle.mx_entries.specs.declared.pick.Pick.{Pick}
use Rattle.mx_entries.specs.declared.pick.SelectFault.{SelectFault}
use Rattle.mx_entries.specs.declared.pick.SelectFault.TheVariants as fault
use Rattle.mx_entries.specs.declared.pick.SelectStop.{SelectStop}
use Rattle.mx_entries.specs.declared.pick.SelectStop.TheVariants as stop
use Rattle.mx_schema.specs.Picks.{Indexed, Selection, pick, total_bytes, max_result_size}

-- what a SELECT picks of an index's entries, by this key
abbrev pub picked_of : List Indexed → Pick → Key → Selection
picked_of all wanted key = pick all wanted.iterator key wanted.offset wanted.limit

-- these are the tuples that are picked and the keys that are read, whose numbers have 64 bits, or they have too many bytes, or memory ran out
abbrev pub Selects : List Indexed → Pick → Key → List (List ℕ) → Result (Option KeyRange) SelectStop → Type 0
Selects all wanted key tuples result = MatchResult result
    (λ read. (tuples ≡ (picked_of all wanted key).tuples) × (total_bytes tuples ≤ max_result_size)
    × (read ≡ option_map edges_of (picked_of all wanted key).read) × IfSome (picked_of all wanted key).read AreFitEnds)
    (λ why. ((why ≡ stop.TooLong) × (max_result_size < total_bytes (picked_of all wanted key).tuples)) ⊎ (why ≡ stop.NoMemory))

-- the same by an array, which may not fit the index
abbrev pub SelectsByKey : List Indexed → IndexDef → Pick → List (List ℕ) → Result (Option KeyRange) SelectFault → Type 0
SelectsByKey all def wanted tuples result = MatchResult result
    (λ read. (key : Key) × (key_of_array def.key wanted.key.now ≡ Ok key) × AreFit key × (tuples ≡ (picked_of all wanted key).tuples)
    × (total_bytes tuples ≤ max_result_size) × (read ≡ option_map edges_of (picked_of all wanted key).read) × IfSome (picked_of all wanted key).read AreFitEnds)
    (λ why. ((misfit : Misfit) × (why ≡ fault.Misfit misfit) × (key_of_array def.key wanted.key.now ≡ Err misfit))
    ⊎ ((why ≡ fault.TooLong) × (key : Key) × (key_of_array def.key wanted.key.now ≡ Ok key) × AreFit key
    × (max_result_size < total_bytes (picked_of all wanted key).tuples))
    ⊎ (why ≡ fault.NoMemory))
