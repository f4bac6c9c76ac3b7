-- Only private functions and proofs need these: the entries of an index that a view shows.
use Rattle.std.specs.Prelude.{◌++◌, Bool, not, List, if◌then◌else◌}
use Rattle.std.specs.List.{filter}
use Rattle.std.specs.Option.{option_map, option_to_list}
use Rattle.mx_schema.specs.Picks.{directed}
use Rattle.mx_schema.specs.Stored.{StoredTuple}
use Rattle.mx_space.specs.declared.overlay.OverlaidSpace.{OverlaidSpace}
use Rattle.mx_space.specs.declared.shown_rows.ShownRows.{ShownRows}
use Rattle.mx_entries.specs.Entries.{IndexEntry}
use Rattle.mx_space.specs.Overlays.{hides}
use Rattle.mx_space.specs.Selecting.{row_of}
use Rattle.mx_entries.specs.MergedRows.{merged}

-- the tuple that an entry leads to wasn't written; in the index of the number 0 an entry's key is the primary key
abbrev pub is_shown : OverlaidSpace → (is_first : Bool) → IndexEntry → Bool
is_shown over is_first entry = not (hides over (if is_first then entry.0 else entry.1))

-- the rows that are still to come
abbrev pub rows_left : ShownRows → List StoredTuple
rows_left rows = merged rows.down (row_of rows.stored_source) (row_of rows.own_source)
    (option_to_list (option_map (λ entry. (entry.0.now, entry.1.now)) rows.held_stored) ++ filter (is_shown rows.over.now rows.is_first) (directed rows.down rows.stored))
    (option_to_list (option_map (λ entry. (entry.0.now, entry.1.now)) rows.held_own) ++ directed rows.down rows.own)
