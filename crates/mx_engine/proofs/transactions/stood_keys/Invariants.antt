use Rattle.std.proofs.Common.{List, length}
use Rattle.std.specs.List.{AllZip}
use Rattle.mx_schema.specs.State as plain
use Rattle.mx_space.specs.Stored.{Holds}
use Rattle.mx_write.specs.Change.{Change}
use Rattle.mx_transactions.specs.Open.{SpellsKey, in_order}
use Rattle.mx_engine.proofs.CommitWorkLaws.{StoodPart}
use Rattle.mx_engine.proofs.transactions.stood_keys.Given as goal

abbrev pub invariant-loop-first : goal.invariant-loop-first
invariant-loop-first l = (before : plain.State) (own : List Change) → Holds l.state before → AllZip SpellsKey l.changed (in_order own) → StoodPart before own l.left l.keys

abbrev pub decreases-loop-first : goal.decreases-loop-first
decreases-loop-first l = length l.left
