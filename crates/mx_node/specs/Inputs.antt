-- What comes to a node: bytes on connections, in pieces, and the closes of connections.
use Rattle.std.specs.Prelude.{ℕ, List}

pub data InputUnit : Type 0 where
  Bytes : (connection : ℕ) (bytes : List ℕ) → InputUnit
  Close : (connection : ℕ) → InputUnit

-- the connection of a unit
abbrev pub connection_of : InputUnit → ℕ
connection_of (Bytes on bytes) = on
connection_of (Close on) = on

-- the greatest number of a connection, the most bytes that a unit brings, and the byte that no unit passes
abbrev pub max_connection : ℕ
max_connection = 1023
