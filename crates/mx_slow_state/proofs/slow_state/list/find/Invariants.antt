use Rattle.std.proofs.Common.{◌≡◌, drop}
use Rattle.std.specs.BTreeMap.{is_at}
use Rattle.std.specs.Cmp.Lexicographic.{slice_cmp}
use Rattle.std.specs.Map.{lookup}
use Rattle.std.specs.Ordering.{nat_cmp}
use Rattle.mx_schema.specs.Stored.{stored_list}
use Rattle.mx_slow_state.proofs.slow_state.list.find.Given as goal

-- what is found is among those to come
abbrev pub invariant-loop-one : goal.invariant-loop-one
invariant-loop-one l =
    lookup (is_at (slice_cmp nat_cmp l.fn.key)) (stored_list (drop l.one-index l.fn.kept)) ≡ lookup (is_at (slice_cmp nat_cmp l.fn.key)) (stored_list l.fn.kept)
