-- What a run writes: what connections are sent, as output units.
use Rattle.std.specs.Prelude.{ℕ, List, [], ◌∷◌, ◌++◌, length}
use Rattle.byteorder.specs.Endian.{big_bytes}
use Rattle.mx_node.specs.declared.out_units.OutUnit.{OutUnit}

-- an output unit: a connection, a length and that many bytes
abbrev pub unit_text : OutUnit → List ℕ
unit_text unit = (big_bytes 4 unit.conn.0 ++ big_bytes 4 (length unit.bytes)) ++ unit.bytes

-- output units, one after the other
abbrev pub units_text : List OutUnit → List ℕ
units_text [] = []
units_text (unit ∷ units) = unit_text unit ++ units_text units
