-- The rows of a journal and the transactions that they make up: for each row a header map and a body map of MessagePack
-- (Tarantool's xlog rows).
use Rattle.std.specs.Prelude.{◌≡◌, ◌⊎◌, ℕ, zero, suc, ◌-◌, ◌≤◌, ◌<◌, ◌^◌, Bool, true, false, ◌&&◌, List, [], ◌∷◌, ◌++◌, length, map, Option, Some, None, nat_le, ◌==◌, if◌then◌else◌}
use Rattle.std.specs.List.{concat, AllByRecursion}
use Rattle.std.specs.Option.{option_map}
use Rattle.mx_msgpack.specs.Readers.{Reader, ◌>>=◌, all_from, in_front, unsigned_in}
use Rattle.mx_msgpack.specs.Maps.{Pair, map_at, pairs_in, value_under}
use Rattle.mx_msgpack.specs.Spelling.{shortest_unsigned}
use Rattle.mx_vclock.specs.Vclocks.{max_lsn}
use Rattle.mx_base.specs.Keys.{type_key, replica_key, lsn_key, row_number_key, is_last_key, space_key, base_key, parts_key, tuple_key, operations_key}
use Rattle.mx_request.specs.Spelling.{Written, map_text, IsInnerArray, AreOperations}
use Rattle.mx_request.specs.Values.{number_to, number_32, array_in}
use Rattle.mx_row.specs.declared.row.Row.{Row}
use Rattle.mx_row.specs.declared.tx.Tx.{Tx}
use Rattle.mx_row.specs.declared.header.Header.{Header}
use Rattle.mx_row.specs.declared.header.Place.{Place}
use Rattle.mx_row.specs.declared.header.Place.TheVariants.{Alone, Numbered}
use Rattle.mx_row.specs.Clocks.{last_lsn}
use Rattle.mx_row.specs.Limits.{max_rows, max_transaction_size, rows_size}
use Rattle.mx_row.specs.Values.{value_held, lsn_in, base_in, row_operations_in}
pub use Rattle.mx_row.specs.Bodies.{insert_type, replace_type, update_type, delete_type, upsert_type, max_body_size, tuple_row, insert_row, replace_row, update_row, delete_row, upsert_row, tuple_pairs, update_pairs, delete_pairs, upsert_pairs, row_body_text}

-- ---- how rows are written

-- the keys of a row's header, and their values, of which the first two are a byte each
abbrev pub row_header_pairs : (kind replica lsn : ℕ) → List Written
row_header_pairs kind replica lsn = (type_key, kind ∷ []) ∷ (replica_key, replica ∷ []) ∷ (lsn_key, shortest_unsigned lsn) ∷ []

-- the keys of a header that say which row of its transaction it is, and their values; a row alone has none
abbrev pub place_pairs : Place → List Written
place_pairs Alone = []
place_pairs (Numbered number is_last) = (row_number_key, shortest_unsigned number) ∷ (if is_last then (is_last_key, 1 ∷ []) ∷ [] else [])

-- a row as it is written: a header of type, replica id, lsn and place, and a body
abbrev pub row_text : (replica lsn : ℕ) → Place → Row → List ℕ
row_text replica lsn place row = map_text (row_header_pairs row.kind replica lsn ++ place_pairs place) ++ row_body_text row

-- the place of the row of this number, where there are so many rows
abbrev pub place_among : (count number : ℕ) → Place
place_among count number = if count == 1 then Alone else Numbered number (suc number == count)

-- the rows from this number on, of so many: their lsns rise by 1
abbrev pub placed_text : (count replica lsn number : ℕ) → List Row → List ℕ
placed_text count replica lsn number [] = []
placed_text count replica lsn number (row ∷ rows) =
    row_text replica lsn (place_among count number) row ++ placed_text count replica (suc lsn) (suc number) rows

-- all rows of a transaction: a row alone where there is one, else numbered rows
abbrev pub rows_text : (replica lsn : ℕ) → List Row → List ℕ
rows_text replica lsn rows = placed_text (length rows) replica lsn 0 rows

abbrev pub transaction_text : Tx → List ℕ
transaction_text transaction = rows_text transaction.replica.0 transaction.first.0 transaction.rows

-- the rows of transactions, one after the other
abbrev pub transactions_text : List Tx → List ℕ
transactions_text transactions = concat (map transaction_text transactions)

-- the transactions of groups, one group after the other
abbrev pub transactions_of : List (List Tx) → List Tx
transactions_of [] = []
transactions_of (group ∷ groups) = group ++ transactions_of groups

-- ---- which rows and transactions there are

-- the row is of this type, and has just the parts that it has, each well formed
abbrev pub IsInsert : Row → Type 0
IsInsert row = (row ≡ insert_row row.space.0 row.tuple) × IsInnerArray row.tuple

abbrev pub IsReplace : Row → Type 0
IsReplace row = (row ≡ replace_row row.space.0 row.tuple) × IsInnerArray row.tuple

abbrev pub IsUpdate : Row → Type 0
IsUpdate row =
    (row ≡ update_row row.space.0 row.index_base row.key row.ops) × (row.index_base ≤ 1) × IsInnerArray row.key × AreOperations row.ops

abbrev pub IsDelete : Row → Type 0
IsDelete row = (row ≡ delete_row row.space.0 row.key) × IsInnerArray row.key

abbrev pub IsUpsert : Row → Type 0
IsUpsert row =
    (row ≡ upsert_row row.space.0 row.index_base row.tuple row.ops) × (row.index_base ≤ 1) × IsInnerArray row.tuple × AreOperations row.ops

-- A row that can be written.
pub record IsRow (row : Row) : Type 0 where
  pub space : row.space.0 < 2 ^ 32
  pub parts : IsInsert row ⊎ IsReplace row ⊎ IsUpdate row ⊎ IsDelete row ⊎ IsUpsert row
  pub short : length (row_body_text row) ≤ max_body_size

-- A transaction that can be written: its rows can, its numbers are those that a vclock allows, and it is within the limits.
pub record IsTransaction (transaction : Tx) : Type 0 where
  pub replica : transaction.replica.0 < 32
  pub lsns : (1 ≤ transaction.first.0) × (last_lsn transaction ≤ max_lsn)
  pub some : 1 ≤ length transaction.rows
  pub rows : AllByRecursion IsRow transaction.rows
  pub few : length transaction.rows ≤ max_rows
  pub short : rows_size transaction.rows ≤ max_transaction_size

-- ---- what is read

abbrev pub is_number : ℕ → Option ℕ → Bool
is_number wanted None = false
is_number wanted (Some number) = number == wanted

-- the place of a row, by the values under its header's keys; it is the last one where the number 1 says so
abbrev pub row_place_by : (row_number is_last : Option (List ℕ)) → Option Place
row_place_by None is_last = Some Alone
row_place_by (Some value) is_last = do
  number ← unsigned_in value
  Some (Numbered number (is_number 1 (value_held unsigned_in is_last)))

-- the header of a row, by the values under its keys
unfoldable pub header_by : (type replica lsn row_number is_last : Option (List ℕ)) → Option Header
header_by type replica lsn row_number is_last = do
  kind ← value_held unsigned_in type
  id ← value_held (number_to 31) replica
  lsn ← value_held lsn_in lsn
  place ← row_place_by row_number is_last
  Some (record { kind = kind; replica = record { 0 = id }; lsn = record { 0 = lsn }; place = place })

abbrev pub header_in : List Pair → Option Header
header_in header =
    header_by (value_under type_key header) (value_under replica_key header) (value_under lsn_key header)
    (value_under row_number_key header) (value_under is_last_key header)

-- the header that stands first, and the bytes after it
unfoldable pub header_at : Reader Header
header_at bytes = do
  map ← map_at bytes
  header ← header_in (pairs_in bytes)
  Some (header, map.1)

-- a row whose body is spelled in as many bytes as one may have
abbrev pub short_enough : Row → Option Row
short_enough row = if nat_le (length (row_body_text row)) max_body_size then Some row else None

-- the rows of each type, by the values under their bodies' keys
unfoldable pub tuple_by : (kind : ℕ) (space tuple : Option (List ℕ)) → Option Row
tuple_by kind space tuple = do
  space ← value_held number_32 space
  tuple ← value_held array_in tuple
  short_enough (tuple_row kind space tuple)

unfoldable pub update_by : (space base key operations : Option (List ℕ)) → Option Row
update_by space base key operations = do
  space ← value_held number_32 space
  base ← base_in base
  key ← value_held array_in key
  operations ← value_held row_operations_in operations
  short_enough (update_row space base key operations)

unfoldable pub delete_by : (space key : Option (List ℕ)) → Option Row
delete_by space key = do
  space ← value_held number_32 space
  key ← value_held array_in key
  short_enough (delete_row space key)

unfoldable pub upsert_by : (space base tuple operations : Option (List ℕ)) → Option Row
upsert_by space base tuple operations = do
  space ← value_held number_32 space
  base ← base_in base
  tuple ← value_held array_in tuple
  operations ← value_held row_operations_in operations
  short_enough (upsert_row space base tuple operations)

-- a row of this type by the pairs of its body, of which those of other keys are skipped
abbrev pub row_in : (kind : ℕ) → List Pair → Option Row
row_in kind body =
    if kind == insert_type then tuple_by insert_type (value_under space_key body) (value_under tuple_key body)
    else if kind == replace_type then tuple_by replace_type (value_under space_key body) (value_under tuple_key body)
    else if kind == update_type then
    update_by (value_under space_key body) (value_under base_key body) (value_under parts_key body) (value_under tuple_key body)
    else if kind == delete_type then delete_by (value_under space_key body) (value_under parts_key body)
    else if kind == upsert_type then
    upsert_by (value_under space_key body) (value_under base_key body) (value_under tuple_key body) (value_under operations_key body)
    else None

-- the body of a row of this type that stands first, and the bytes after it
unfoldable pub row_at : (kind : ℕ) → Reader Row
row_at kind bytes = do
  map ← map_at bytes
  row ← row_in kind (pairs_in bytes)
  Some (row, map.1)

-- the row that stands first with its header, and the bytes after it
unfoldable pub whole_row_at : Reader (Header × Row)
whole_row_at bytes = do
  header ← header_at bytes
  row ← row_at header.0.kind header.1
  Some ((header.0, row.0), row.1)

-- the number of a row in its transaction
abbrev pub row_number : Place → ℕ
row_number Alone = 0
row_number (Numbered number is_last) = number

-- the row ends its transaction
abbrev pub ends_transaction : Place → Bool
ends_transaction Alone = true
ends_transaction (Numbered number is_last) = is_last

-- the second header is that of the row after the first one's
abbrev pub comes_next : Header → Header → Bool
comes_next header next =
    (next.replica.0 == header.replica.0) && (next.lsn.0 == suc header.lsn.0) && (row_number next.place == suc (row_number header.place))

-- the rows after that with this header up to the last of its transaction, at most so many, and the bytes after them
unfoldable pub rows_behind : (most : ℕ) → Header → Reader (List Row)
rows_behind zero header bytes = if ends_transaction header.place then Some ([], bytes) else None
rows_behind (suc most) header bytes = if ends_transaction header.place then Some ([], bytes) else (do
  next ← whole_row_at bytes
  if comes_next header next.0.0 then option_map (in_front next.0.1) (rows_behind most next.0.0 next.1) else None)

-- a transaction of these rows, of which this is the first one's header, where it is short enough
abbrev pub tx_of : Header → List Row × List ℕ → Option (Tx × List ℕ)
tx_of first rows =
    if nat_le (rows_size rows.0) max_transaction_size then Some (record { replica = first.replica; first = first.lsn; rows = rows.0 }, rows.1) else None

-- the transaction whose first row this is, and the bytes after it
abbrev pub tx_behind : Header → Row → Reader Tx
tx_behind header row bytes = option_map (in_front row) (rows_behind (max_rows - 1) header bytes) >>= tx_of header

-- the transaction that stands first, in all spellings
unfoldable pub transaction_at : Reader Tx
transaction_at bytes = do
  first ← whole_row_at bytes
  if row_number first.0.0.place == 0 then tx_behind first.0.0 first.0.1 first.1 else None

abbrev pub only_whole : List Tx × List ℕ → Option (List Tx)
only_whole (transactions, []) = Some transactions
only_whole _ = None

-- the transactions of a block's data, which holds nothing else
unfoldable pub transactions_in : List ℕ → Option (List Tx)
transactions_in bytes = only_whole (all_from transaction_at bytes)
