use Rattle.std.proofs.Common.{◌≡◌, ℕ, false}
use Rattle.std.specs.Prelude.{◌==◌}
use Rattle.mx_schema.specs.State as plain
use Rattle.mx_schema.specs.Stored.{StoresTuples}
use Rattle.mx_entries.specs.Built.{AreLong}
use Rattle.mx_entries.proofs.BuildLaws.{PartBuilt}
use Rattle.mx_space.proofs.build.build.Given as goal

abbrev pub invariant-loop-primary : goal.invariant-loop-primary
invariant-loop-primary l = (all : plain.Tuples) (long : ℕ) → StoresTuples l.tuples.entries all → AreLong long all → (l.def.id.0 == 0) ≡ false
    → PartBuilt l.def long all l.index l.primary-iterator
