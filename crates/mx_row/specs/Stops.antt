-- Only private functions and proofs need these: what bytes can become in which no whole row stands first.
use Rattle.std.specs.Prelude.{◌≡◌, ◌⊎◌, ℕ, suc, ◌+◌, ◌-◌, ◌<◌, ◌≤◌, Bool, true, false, List, [], ◌∷◌, ◌++◌, length, Option, Some, None, ◌==◌, min, if◌then◌else◌}
use Rattle.mx_base.specs.Keys.{type_key, replica_key, lsn_key, row_number_key, is_last_key, space_key, base_key, parts_key, tuple_key, operations_key}
use Rattle.mx_completion.specs.declared.field.Field.{Field}
use Rattle.mx_completion.specs.declared.field.Form.{Form}
use Rattle.mx_completion.specs.declared.field.Form.TheVariants.{Absent, Number, NotOne, Space, Base, Array, Operations}
use Rattle.mx_completion.specs.Costs.{CostsOf}
use Rattle.mx_msgpack.specs.Spelling.{AreBytes}
use Rattle.mx_row.specs.declared.header.Header.{Header}
use Rattle.mx_row.specs.declared.header.Place.{Place}
use Rattle.mx_row.specs.declared.header.Place.TheVariants.{Alone, Numbered}
use Rattle.mx_row.specs.declared.progress.Progress.{Progress}
use Rattle.mx_row.specs.declared.row.Row.{Row}
use Rattle.mx_row.specs.Bodies.{insert_type, replace_type, update_type, delete_type, upsert_type, max_body_size, row_body_text}
use Rattle.mx_row.specs.Cuts.{FitsFirst, MayFollow, min_row_size}
use Rattle.mx_row.specs.Limits.{max_transaction_size}
use Rattle.mx_row.specs.Rows.{row_number, ends_transaction, row_at, whole_row_at}
use Rattle.mx_vclock.specs.Vclocks.{max_lsn}

-- the answer says whether this holds
abbrev pub Decides : Type 0 → Bool → Type 0
Decides Holds answer = (answer ≡ true → Holds) × (answer ≡ false → ¬ Holds)

-- the next row after the rows has the number of their count, and the replica id of their last one is one
abbrev pub IsNumberedBy : (count : ℕ) → Option Header → Type 0
IsNumberedBy count None = count ≡ 0
IsNumberedBy count (Some last) = (count ≡ suc (row_number last.place)) × (last.replica.0 < 32)

abbrev pub IsNumbered : Progress → Type 0
IsNumbered rows = IsNumberedBy rows.count rows.last

-- some bytes that follow make a row of the bytes that may follow the rows
abbrev pub CanFit : Progress → List ℕ → Type 0
CanFit rows bytes = (more : List ℕ) × AreBytes more × FitsFirst rows (bytes ++ more)

-- the fields can cost no more than this in a map that the bytes can become
abbrev pub CanHave : (most : ℕ) → List Field → List ℕ → Type 0
CanHave most fields bytes = (cost : ℕ) × CostsOf most fields bytes cost

-- ---- bodies

abbrev pub bounded_field : (key least most : ℕ) → Field
bounded_field key least most = record { key = key; form = Number least most }

abbrev pub space_field : Field
space_field = record { key = space_key; form = Space }

abbrev pub base_field : Field
base_field = record { key = base_key; form = Base }

abbrev pub array_field : (key : ℕ) → Field
array_field key = record { key = key; form = Array }

abbrev pub operations_field : (key : ℕ) → Field
operations_field key = record { key = key; form = Operations }

abbrev pub tuple_fields : List Field
tuple_fields = space_field ∷ array_field tuple_key ∷ []

abbrev pub update_fields : List Field
update_fields = space_field ∷ base_field ∷ array_field parts_key ∷ operations_field tuple_key ∷ []

abbrev pub delete_fields : List Field
delete_fields = space_field ∷ array_field parts_key ∷ []

abbrev pub upsert_fields : List Field
upsert_fields = space_field ∷ base_field ∷ array_field tuple_key ∷ operations_field operations_key ∷ []

-- how many bytes a body of a type takes without what its fields cost: its head, and the keys that it always has
abbrev pub keys_size : (kind : ℕ) → ℕ
keys_size kind = if kind == update_type then 4 else if kind == upsert_type then 4 else 3

-- some bytes that follow make a body of this type of the bytes, which takes no more than this as it is written
abbrev pub CanBeBody : (kind most : ℕ) → List ℕ → Type 0
CanBeBody kind most bytes =
    (more : List ℕ) × AreBytes more × (row : Row) × (rest : List ℕ) × (row_at kind (bytes ++ more) ≡ Some (row, rest)) × (length (row_body_text row) ≤ most)

-- how many bytes a body may take behind the rows, where the row ends the transaction or doesn't
abbrev pub body_room : Progress → (ends : Bool) → ℕ
body_room rows ends = min max_body_size (max_transaction_size - (rows.size + (if ends then 32 else 32 + min_row_size)))

-- some bytes that follow make a body of the bytes, so that a row with this header may follow the rows
abbrev pub BodyFits : Progress → Header → List ℕ → Type 0
BodyFits rows header bytes =
    (more : List ℕ) × AreBytes more × (row : Row) × (rest : List ℕ) × (row_at header.kind (bytes ++ more) ≡ Some (row, rest)) × MayFollow rows header row

-- ---- headers

-- the types of rows
abbrev pub IsKind : ℕ → Type 0
IsKind kind = (kind ≡ insert_type) ⊎ (kind ≡ replace_type) ⊎ (kind ≡ update_type) ⊎ (kind ≡ delete_type) ⊎ (kind ≡ upsert_type)

-- how many bytes the smallest body of a type takes
abbrev pub least_body : (kind : ℕ) → ℕ
least_body kind = if kind == update_type then 7 else if kind == upsert_type then 7 else 5

-- what the key of a last row has to have, or that of another one
abbrev pub last_form : Bool → Form
last_form true = Number 1 1
last_form false = NotOne

-- the fields of a header of this type and of numbers in these ranges
abbrev pub first_fields : (kind replica other_replica lsn other_lsn : ℕ) → List Field → List Field
first_fields kind replica other_replica lsn other_lsn others =
    bounded_field type_key kind kind ∷ bounded_field replica_key replica other_replica ∷ bounded_field lsn_key lsn other_lsn ∷ others

-- the fields that say which row of its transaction it is
abbrev pub place_fields : Place → List Field
place_fields Alone = record { key = row_number_key; form = Absent } ∷ []
place_fields (Numbered number is_last) = bounded_field row_number_key number number ∷ record { key = is_last_key; form = last_form is_last } ∷ []

-- the least lsn that the next row may have, and the greatest
abbrev pub lowest_lsn : Option Header → ℕ
lowest_lsn None = 1
lowest_lsn (Some last) = suc last.lsn.0

abbrev pub highest_lsn : (ends : Bool) → Option Header → ℕ
highest_lsn ends None = if ends then max_lsn else max_lsn - 1
highest_lsn ends (Some last) = min (suc last.lsn.0) (if ends then max_lsn else max_lsn - 1)

abbrev pub lowest_replica : Option Header → ℕ
lowest_replica None = 0
lowest_replica (Some last) = last.replica.0

abbrev pub highest_replica : Option Header → ℕ
highest_replica None = 31
highest_replica (Some last) = last.replica.0

abbrev pub header_fields : Progress → (kind : ℕ) → Place → List Field
header_fields rows kind place =
    first_fields kind (lowest_replica rows.last) (highest_replica rows.last) (lowest_lsn rows.last) (highest_lsn (ends_transaction place) rows.last) (place_fields place)

-- some bytes that follow make a row of the bytes that may follow the rows, and it is of this type and in this place
abbrev pub HeaderFits : Progress → (kind : ℕ) → Place → List ℕ → Type 0
HeaderFits rows kind place bytes =
    (more : List ℕ) × AreBytes more × (header : Header) × (row : Row) × (rest : List ℕ) × (whole_row_at (bytes ++ more) ≡ Some ((header, row), rest))
    × MayFollow rows header row × (header.kind ≡ kind) × (header.place ≡ place)

-- the same in any place, and of any type
abbrev pub KindFits : Progress → (kind : ℕ) → List ℕ → Type 0
KindFits rows kind bytes =
    (more : List ℕ) × AreBytes more × (header : Header) × (row : Row) × (rest : List ℕ) × (whole_row_at (bytes ++ more) ≡ Some ((header, row), rest))
    × MayFollow rows header row × (header.kind ≡ kind)
