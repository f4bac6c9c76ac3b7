use Rattle.std.proofs.Common.{◌≡◌, length}
use Rattle.std.specs.List.{filter}
use Rattle.mx_schema.specs.Picks.{directed}
use Rattle.mx_space.specs.ShownRows.{is_shown}
use Rattle.mx_space.proofs.shown_rows.next_shown.Given as goal

-- none that was shown was passed over
abbrev pub invariant-loop-key : goal.invariant-loop-key
invariant-loop-key l = filter (is_shown l.fn.over l.fn.is_first) (directed l.fn.down l.fn.entries) ≡ filter (is_shown l.fn.over l.fn.is_first) (directed l.fn.down l.entries)

abbrev pub decreases-loop-key : goal.decreases-loop-key
decreases-loop-key l = length (directed l.fn.down l.entries)
