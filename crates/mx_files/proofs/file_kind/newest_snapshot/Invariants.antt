use Rattle.std.proofs.Common.{◌≡◌, length, map}
use Rattle.std.specs.Prelude.{None}
use Rattle.std.specs.List.{filter, last_or}
use Rattle.std.specs.String.{string_bytes}
use Rattle.mx_files.specs.Names.{is_snapshot}
use Rattle.mx_files.proofs.file_kind.newest_snapshot.Given as goal

abbrev pub invariant-loop-last : goal.invariant-loop-last
invariant-loop-last l = last_or None (filter is_snapshot (map string_bytes l.rest)) ≡ last_or None (filter is_snapshot (map string_bytes l.names))

abbrev pub decreases-loop-last : goal.decreases-loop-last
decreases-loop-last l = length l.rest
