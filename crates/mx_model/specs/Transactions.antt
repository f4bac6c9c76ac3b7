-- Transactions: what a journal is a list of.
use Rattle.std.specs.Prelude.{ℕ, ◌%◌, ◌^◌, Bool, ◌||◌, List, [], ◌∷◌, length, ◌==◌}
use Rattle.std.specs.List.{list_any, filter}
use Rattle.mx_schema.specs.State.{State, space_rows, index_rows}
use Rattle.mx_row.specs.declared.row.Row.{Row}
use Rattle.mx_row.specs.declared.tx.Tx.{Tx}
use Rattle.mx_model.specs.Answers.{state_after_rows}

-- the state after the transactions of a journal, the first of them first
abbrev pub state_after : State → List Tx → State
state_after base [] = base
state_after base (transaction ∷ others) = state_after (state_after_rows base transaction.rows) others

-- the row describes a space or an index
abbrev pub is_schema_row : Row → Bool
is_schema_row row = (row.space.0 == space_rows) || (row.space.0 == index_rows)

-- the transaction changes a space or an index
abbrev pub is_schema_commit : Tx → Bool
is_schema_commit transaction = list_any is_schema_row transaction.rows

-- the schema's version after these transactions: how many of them changed a space or an index, in 32 bits
abbrev pub schema_version : List Tx → ℕ
schema_version transactions = length (filter is_schema_commit transactions) % 2 ^ 32
