use Rattle.std.proofs.Common.{◌≡◌, length, filter}
use Rattle.std.specs.Option.{option_copied, option_map}
use Rattle.mx_key.specs.Comparable.{holds}
use Rattle.mx_key.specs.Ranges.{descends}
use Rattle.mx_schema.specs.declared.keyed.Keyed.{Keyed}
use Rattle.mx_schema.specs.Picks.{directed, window}
use Rattle.mx_entries.specs.Windows.{last_key_of}
use Rattle.mx_schema.specs.Stored.{stored_list}
use Rattle.mx_entries.proofs.WindowLaws.{last_after}
use Rattle.mx_slow.proofs.reads.last_found.Given as goal

-- the last so far, or one of those to come
abbrev pub invariant-loop-left : goal.invariant-loop-left
invariant-loop-left l =
    last_key_of (window l.fn.pick.offset l.fn.pick.limit (directed (descends l.fn.pick.iterator) (filter (λ entry. holds l.fn.range entry.0) (stored_list l.fn.kept))))
    ≡ last_after (option_map (λ (one : Keyed). one.key) (option_copied l.last)) (window l.offset l.left (directed l.down (filter (λ entry. holds l.fn.range entry.0) (stored_list l.rest))))

abbrev pub decreases-loop-left : goal.decreases-loop-left
decreases-loop-left l = length l.rest
