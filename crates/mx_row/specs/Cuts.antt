-- Bytes that end inside a transaction, and where others stop being one.
use Rattle.std.specs.Prelude.{◌≡◌, ◌⊎◌, ℕ, suc, ◌+◌, ◌≤◌, Bool, true, not, ◌&&◌, List, ◌++◌, length, Option, Some, None, nat_le, nat_lt, ◌==◌}
use Rattle.mx_msgpack.specs.Spelling.{AreBytes}
use Rattle.mx_vclock.specs.Vclocks.{max_lsn}
use Rattle.mx_row.specs.declared.header.Header.{Header}
use Rattle.mx_row.specs.declared.progress.Progress.{Progress}
use Rattle.mx_row.specs.declared.row.Row.{Row}
use Rattle.mx_row.specs.declared.tx.Tx.{Tx}
use Rattle.mx_row.specs.Grammar.{SpellsTransaction}
use Rattle.mx_row.specs.Limits.{max_rows, max_transaction_size, row_size}
use Rattle.mx_row.specs.Rows.{row_number, ends_transaction, comes_next, whole_row_at}

-- the bytes begin a transaction that they don't end
abbrev pub IsProperPrefix : List ℕ → Type 0
IsProperPrefix bytes = (transaction : Tx) × (missing : List ℕ) × AreBytes missing × (1 ≤ length missing) × SpellsTransaction transaction (bytes ++ missing)

-- the least size of a row: that of a DELETE from the space 0 by the key of no part
abbrev pub min_row_size : ℕ
min_row_size = 37

-- no row
abbrev pub no_rows : Progress
no_rows = record { count = 0; size = 0; last = None }

-- the rows, and this one behind them
abbrev pub and_row : Progress → Header → Row → Progress
and_row rows header row = record { count = suc rows.count; size = rows.size + row_size row; last = Some header }

abbrev pub is_lsn_left : Option Header → Bool
is_lsn_left None = true
is_lsn_left (Some last) = nat_lt last.lsn.0 max_lsn

-- one more row may follow the rows within the limits
abbrev pub has_room_behind : Progress → Bool
has_room_behind rows = nat_lt rows.count max_rows && nat_le (rows.size + min_row_size) max_transaction_size && is_lsn_left rows.last

-- a row with this header may follow the one with the last header, or be the first one
abbrev pub may_follow : Option Header → Header → Bool
may_follow None header = row_number header.place == 0
may_follow (Some last) header = comes_next last header

-- the row may follow the rows, and one more may follow it
abbrev pub leads_on : Progress → Header → Row → Bool
leads_on rows header row = may_follow rows.last header && not (ends_transaction header.place) && has_room_behind (and_row rows header row)

-- the row may follow the rows as the last one
abbrev pub is_end_of : Progress → Header → Row → Bool
is_end_of rows header row = may_follow rows.last header && ends_transaction header.place && nat_le (rows.size + row_size row) max_transaction_size

-- Whole rows stand first in the bytes that a transaction may begin with, and that don't end it, and then these bytes.
pub data AreSoFar : (bytes : List ℕ) → Progress → (rest : List ℕ) → Type 0 where
  none_yet : {bytes : List ℕ} → AreSoFar bytes no_rows bytes
  one_more : {bytes rest others : List ℕ} {rows : Progress} (header : Header) (row : Row)
      → AreSoFar bytes rows rest → whole_row_at rest ≡ Some ((header, row), others) → leads_on rows header row ≡ true
      → AreSoFar bytes (and_row rows header row) others

abbrev pub MayFollow : Progress → Header → Row → Type 0
MayFollow rows header row = (leads_on rows header row ≡ true) ⊎ (is_end_of rows header row ≡ true)

-- a row stands first that may follow the rows
abbrev pub FitsFirst : Progress → List ℕ → Type 0
FitsFirst rows bytes = (header : Header) × (row : Row) × (rest : List ℕ) × (whole_row_at bytes ≡ Some ((header, row), rest)) × MayFollow rows header row

-- behind such rows no row that may follow them stands at this place, whatever bytes follow
pub record RowsStopAt (bytes : List ℕ) (at : ℕ) : Type 0 where
  pub rows : Progress
  pub rest : List ℕ
  pub so_far : AreSoFar bytes rows rest
  pub place : at + length rest ≡ length bytes
  pub none : (more : List ℕ) → AreBytes more → ¬ FitsFirst rows (rest ++ more)
