use Rattle.std.proofs.Common.{◌≡◌, ◌++◌, take}
use Rattle.mx_msgpack.specs.Owned.{value_view, list_view, pair_list_view}
use Rattle.mx_msgpack.specs.Spelling.{shortest_all, shortest_pairs}
use Rattle.mx_msgpack.proofs.OwnedLaws.{nodes, all_nodes, pair_nodes}
use Rattle.mx_msgpack.proofs.encode.+write.Given as goal

abbrev pub decreases-write_any : goal.decreases-write_any
decreases-write_any l = nodes (value_view l.value.now)

abbrev pub decreases-write_all : goal.decreases-write_all
decreases-write_all l = all_nodes (list_view l.values.now)

abbrev pub decreases-write_pairs : goal.decreases-write_pairs
decreases-write_pairs l = pair_nodes (pair_list_view l.pairs.now)

abbrev pub invariant-write_all-loop-value : goal.invariant-write_all-loop-value
invariant-write_all-loop-value l = l.out ≡ l.initial.out ++ shortest_all (list_view (take l.value-index l.values))

abbrev pub invariant-write_pairs-loop-key : goal.invariant-write_pairs-loop-key
invariant-write_pairs-loop-key l = l.out ≡ l.initial.out ++ shortest_pairs (pair_list_view (take l.key-index l.pairs))
