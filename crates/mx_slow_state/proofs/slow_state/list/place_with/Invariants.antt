use Rattle.std.proofs.Common.{◌≡◌, ◌++◌, drop, take}
use Rattle.std.specs.BTreeMap.{is_at}
use Rattle.std.specs.Cmp.Lexicographic.{slice_cmp}
use Rattle.std.specs.Map.{remove_entry}
use Rattle.std.specs.Ordering.{nat_cmp}
use Rattle.mx_schema.specs.Stored.{stored_list}
use Rattle.mx_slow_state.proofs.slow_state.list.place_with.Given as goal

-- those that were looked at stay
abbrev pub invariant-loop-one : goal.invariant-loop-one
invariant-loop-one l = (l.place ≡ l.one-index)
    × (remove_entry (is_at (slice_cmp nat_cmp l.fn.key)) (stored_list l.fn.kept)
    ≡ stored_list (take l.place l.fn.kept) ++ remove_entry (is_at (slice_cmp nat_cmp l.fn.key)) (stored_list (drop l.place l.fn.kept)))
