use Rattle.std.proofs.Common.{◌+◌, ◌*◌, ◌≤◌, length}
use Rattle.mx_msgpack.specs.Owned.{value_list, pair_list}
use Rattle.mx_msgpack.proofs.TakingLaws.{Came, CamePairs}
use Rattle.mx_msgpack.proofs.decode.+read.Given as goal

abbrev pub decreases-read_any : goal.decreases-read_any
decreases-read_any l = 2 * l.room

abbrev pub decreases-read_values : goal.decreases-read_values
decreases-read_values l = 2 * l.room + 1

abbrev pub decreases-read_pairs : goal.decreases-read_pairs
decreases-read_pairs l = 2 * l.room + 1

abbrev pub invariant-read_values-loop-left : goal.invariant-read_values-loop-left
invariant-read_values-loop-left l = Came l.total l.room l.count l.bytes l.left (value_list l.values) l.rest × (length l.rest ≤ length l.bytes)

abbrev pub decreases-read_values-loop-left : goal.decreases-read_values-loop-left
decreases-read_values-loop-left l = l.left

abbrev pub invariant-read_pairs-loop-left : goal.invariant-read_pairs-loop-left
invariant-read_pairs-loop-left l = CamePairs l.total l.room l.count l.bytes l.left (pair_list l.pairs) l.rest × (length l.rest ≤ length l.bytes)

abbrev pub decreases-read_pairs-loop-left : goal.decreases-read_pairs-loop-left
decreases-read_pairs-loop-left l = l.left
