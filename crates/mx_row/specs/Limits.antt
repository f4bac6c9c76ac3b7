-- The limits of a transaction.
use Rattle.std.specs.Prelude.{ℕ, ◌+◌, ◌-◌, ◌^◌, Bool, ◌&&◌, List, length, map, min, nat_le, nat_lt}
use Rattle.std.specs.List.{sum}
use Rattle.mx_row.specs.declared.row.Row.{Row}
use Rattle.mx_row.specs.Bodies.{row_body_text}

-- how many rows it may have, and how many bytes
abbrev pub max_rows : ℕ
max_rows = 4096

abbrev pub max_transaction_size : ℕ
max_transaction_size = 4194304

-- the bytes of a row, with those of its header
abbrev pub row_size : Row → ℕ
row_size row = length (row_body_text row) + 32

abbrev pub rows_size : List Row → ℕ
rows_size rows = sum (map row_size rows)

-- a transaction with these rows has room for a further one
abbrev pub has_room : List Row → Row → Bool
has_room rows row = nat_lt (length rows) max_rows && nat_le (rows_size rows + row_size row) max_transaction_size

-- a size, as far as 64 bits show it
abbrev pub saturated : ℕ → ℕ
saturated size = min size (2 ^ 64 - 1)
