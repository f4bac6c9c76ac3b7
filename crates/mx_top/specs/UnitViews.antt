-- Only private functions and proofs need these: what a clause sees of a unit's head.
use Rattle.std.specs.Prelude.{ℕ}
use Rattle.mx_top.specs.declared.units.UnitHead as coded
use Rattle.mx_top.specs.declared.units.UnitKind.{UnitKind}
use Rattle.mx_top.specs.declared.units.UnitKind.TheVariants as kind
use Rattle.mx_top.specs.Units.{UnitHead}

abbrev pub unit_kind_number : UnitKind → ℕ
unit_kind_number kind.Bytes = 0
unit_kind_number kind.Close = 1

abbrev pub head_view : coded.UnitHead → UnitHead
head_view head = record { kind = unit_kind_number head.kind; connection = head.connection.0; size = head.size }
