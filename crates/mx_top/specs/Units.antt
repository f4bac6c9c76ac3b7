-- The units of an input: bytes that come on connections, in pieces, and the closes of connections.
use Rattle.std.specs.Prelude.{ℕ, ◌+◌, ◌-◌, ◌^◌, Bool, ◌&&◌, ◌||◌, List, length, Option, Some, None, nat_le, ◌==◌, if◌then◌else◌}
use Rattle.mx_msgpack.specs.Readers.{Reader, ◌>>=◌, all_from, number_at, bytes_at}
use Rattle.mx_node.specs.Inputs.{InputUnit, Bytes, Close, max_connection}

abbrev pub max_unit_size : ℕ
max_unit_size = 16777216

abbrev pub max_offset : ℕ
max_offset = 2 ^ 40

-- the head of a unit, which is before the bytes that it brings
pub record UnitHead : Type 0 where
  pub kind : ℕ
  pub connection : ℕ
  pub size : ℕ

-- bytes, or a close, which brings none
abbrev pub is_unit_kind : UnitHead → Bool
is_unit_kind head = (head.kind == 0) || ((head.kind == 1) && (head.size == 0))

-- the unit passes neither the greatest connection, nor the longest unit, nor the last place
abbrev pub is_within : (place : ℕ) → UnitHead → Bool
is_within place head =
    nat_le head.connection max_connection && nat_le head.size max_unit_size && nat_le ((place + 9) + head.size) max_offset

abbrev pub allowed_head : (place : ℕ) → UnitHead → List ℕ → Option (UnitHead × List ℕ)
allowed_head place head rest = if is_unit_kind head && is_within place head then Some (head, rest) else None

-- a kind, a connection and a length
unfoldable pub unit_head_at : (place : ℕ) → Reader UnitHead
unit_head_at place bytes = do
  kind ← number_at 1 bytes
  connection ← number_at 4 kind.1
  size ← number_at 4 connection.1
  allowed_head place (record { kind = kind.0; connection = connection.0; size = size.0 }) size.1

abbrev pub unit_by : UnitHead → List ℕ → InputUnit
unit_by head content = if head.kind == 0 then Bytes head.connection content else Close head.connection

-- the unit that stands first at this place
unfoldable pub content_at : (place : ℕ) → Reader InputUnit
content_at place bytes = do
  head ← unit_head_at place bytes
  content ← bytes_at head.0.size head.1
  Some (unit_by head.0 content.0, content.1)

-- the unit that stands first in bytes that end `total` bytes
unfoldable pub unit_at : (total : ℕ) → Reader InputUnit
unit_at total bytes = content_at (total - length bytes) bytes

-- the well-formed units that begin an input, and the bytes after them: none, or those of the first malformed unit on
unfoldable pub units_of : List ℕ → List InputUnit × List ℕ
units_of input = all_from (unit_at (length input)) input
