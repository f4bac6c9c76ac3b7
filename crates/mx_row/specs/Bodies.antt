-- The rows of each type, and their bodies as they are written (Tarantool's xlog rows).
use Rattle.std.specs.Prelude.{ℕ, List, [], ◌∷◌, ◌++◌, ◌==◌, if◌then◌else◌}
use Rattle.mx_msgpack.specs.Spelling.{shortest_unsigned}
use Rattle.mx_base.specs.Keys.{space_key, base_key, parts_key, tuple_key, operations_key}
use Rattle.mx_request.specs.Spelling.{Written, unless_default, map_text}
use Rattle.mx_row.specs.declared.row.Row.{Row}

-- the types of rows
abbrev pub insert_type : ℕ
insert_type = 2

abbrev pub replace_type : ℕ
replace_type = 3

abbrev pub update_type : ℕ
update_type = 4

abbrev pub delete_type : ℕ
delete_type = 5

abbrev pub upsert_type : ℕ
upsert_type = 9

-- the maximum size of a row's body in bytes, spelled shortest
abbrev pub max_body_size : ℕ
max_body_size = 2097120

-- ---- the rows of each type

-- a row of this type that has a tuple
abbrev pub tuple_row : (kind space : ℕ) → List ℕ → Row
tuple_row kind space tuple = record { kind = kind; space = record { 0 = space }; index_base = 0; tuple = tuple; key = []; ops = [] }

abbrev pub insert_row : (space : ℕ) (tuple : List ℕ) → Row
insert_row space tuple = tuple_row insert_type space tuple

abbrev pub replace_row : (space : ℕ) (tuple : List ℕ) → Row
replace_row space tuple = tuple_row replace_type space tuple

abbrev pub update_row : (space base : ℕ) (key operations : List ℕ) → Row
update_row space base key operations =
    record { kind = update_type; space = record { 0 = space }; index_base = base; tuple = []; key = key; ops = operations }

abbrev pub delete_row : (space : ℕ) (key : List ℕ) → Row
delete_row space key = record { kind = delete_type; space = record { 0 = space }; index_base = 0; tuple = []; key = key; ops = [] }

abbrev pub upsert_row : (space base : ℕ) (tuple operations : List ℕ) → Row
upsert_row space base tuple operations =
    record { kind = upsert_type; space = record { 0 = space }; index_base = base; tuple = tuple; key = []; ops = operations }

-- ---- how rows are written

-- the keys of a row's body, and their values
abbrev pub tuple_pairs : (space : ℕ) (tuple : List ℕ) → List Written
tuple_pairs space tuple = (space_key, shortest_unsigned space) ∷ (tuple_key, tuple) ∷ []

abbrev pub update_pairs : (space base : ℕ) (key operations : List ℕ) → List Written
update_pairs space base key operations =
    (space_key, shortest_unsigned space) ∷ unless_default base_key 0 base ++ (parts_key, key) ∷ (tuple_key, operations) ∷ []

abbrev pub delete_pairs : (space : ℕ) (key : List ℕ) → List Written
delete_pairs space key = (space_key, shortest_unsigned space) ∷ (parts_key, key) ∷ []

abbrev pub upsert_pairs : (space base : ℕ) (tuple operations : List ℕ) → List Written
upsert_pairs space base tuple operations =
    (space_key, shortest_unsigned space) ∷ unless_default base_key 0 base ++ (tuple_key, tuple) ∷ (operations_key, operations) ∷ []

abbrev pub row_pairs : Row → List Written
row_pairs row =
    if row.kind == update_type then update_pairs row.space.0 row.index_base row.key row.ops
    else if row.kind == delete_type then delete_pairs row.space.0 row.key
    else if row.kind == upsert_type then upsert_pairs row.space.0 row.index_base row.tuple row.ops
    else tuple_pairs row.space.0 row.tuple

-- the body of a row as it is written
abbrev pub row_body_text : Row → List ℕ
row_body_text row = map_text (row_pairs row)
