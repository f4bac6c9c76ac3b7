-- The sessions of a node's connections, in a table by their numbers.
use Rattle.std.specs.Prelude.{◌≡◌, ℕ, suc, Bool, false, not, List, [], length, slice_index_or, Option, Some, None}
use Rattle.mx_session.specs.Sessions.{SessionState}
use Rattle.mx_node.specs.Inputs.{max_connection}

-- the session of a connection
abbrev pub session_at : List (Option SessionState) → ℕ → Option SessionState
session_at sessions connection = slice_index_or sessions connection None

-- the session's connection is there
abbrev pub goes_on : Option SessionState → Bool
goes_on None = false
goes_on (Some session) = not session.ended

-- the table has a place for each connection
abbrev pub IsTable : List (Option SessionState) → Type 0
IsTable sessions = length sessions ≡ suc max_connection

-- the session of a connection that opens, to which this greeting is sent
abbrev pub opened : (connection : ℕ) → (greeting : List ℕ) → SessionState
opened connection greeting = record { connection = connection; rest = []; ended = false; waiting = []; out = greeting }
