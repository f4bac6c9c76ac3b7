-- What a write makes: a row of the journal, a change of the state, and the tuples of its reply.
use Rattle.std.specs.Prelude.{ℕ, List, [], length, Option, Some, None, nat_lt, ◌==◌, if◌then◌else◌}
use Rattle.mx_base.specs.declared.refusal.Refusal.TheVariants.{TransactionTooLong}
use Rattle.mx_key.specs.Arrays.{key_array}
use Rattle.mx_key.specs.Keys.{Key}
use Rattle.mx_row.specs.declared.row.Row.{Row}
use Rattle.mx_row.specs.Rows.{delete_row, delete_type, insert_row, insert_type, max_body_size, replace_row, replace_type, row_body_text, update_row, update_type, upsert_row}
use Rattle.mx_write.specs.Change.{Change}
use Rattle.mx_write.specs.Judged.{Judged, found, stopped}
use Rattle.mx_write.specs.Writes.{Write, Insert, Replace, Update, Delete, Upsert}

pub record Made : Type 0 where
  pub row : Option Row
  pub change : Option Change
  pub shown : List (List ℕ)

-- nothing was found that the write could change
abbrev pub nothing : Made
nothing = record { row = None; change = None; shown = [] }

-- the row of a write: the request, with this array in place of its key
abbrev pub row_with : (space : ℕ) → Write → (key : List ℕ) → Row
row_with space (Insert tuple) key = insert_row space tuple
row_with space (Replace tuple) key = replace_row space tuple
row_with space (Update index base asked operations) key = update_row space base key operations
row_with space (Delete index asked) key = delete_row space key
row_with space (Upsert base tuple operations) key = upsert_row space base tuple operations

-- a write of this row, unless it is too long
abbrev pub made_by : Row → Change → (shown : List (List ℕ)) → Judged Made
made_by row change shown =
    if nat_lt max_body_size (length (row_body_text row)) then stopped TransactionTooLong
    else found (record { row = Some row; change = Some change; shown = shown })

-- a write that leaves this under a primary key of a space, or nothing
abbrev pub made : (space : ℕ) → Write → Key → (tuple : Option (List ℕ)) → (shown : List (List ℕ)) → Judged Made
made space write key tuple shown = made_by (row_with space write (key_array key)) (record { space = space; key = key; tuple = tuple }) shown

-- the write that a row of a journal is
abbrev pub write_of : Row → Write
write_of row =
    if row.kind == insert_type then Insert row.tuple
    else if row.kind == replace_type then Replace row.tuple
    else if row.kind == update_type then Update 0 row.index_base row.key row.ops
    else if row.kind == delete_type then Delete 0 row.key
    else Upsert row.index_base row.tuple row.ops
