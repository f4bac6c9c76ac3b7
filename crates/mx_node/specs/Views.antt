-- What a clause sees of a unit: its bytes without where they lie in memory.
use Rattle.mx_node.specs.declared.unit.Unit.{Unit}
use Rattle.mx_node.specs.declared.unit.Unit.TheVariants as unit
use Rattle.mx_node.specs.Inputs.{InputUnit, Bytes, Close}

abbrev pub unit_view : Unit → InputUnit
unit_view (unit.Bytes conn bytes) = Bytes conn.0 bytes.now
unit_view (unit.Close conn) = Close conn.0
