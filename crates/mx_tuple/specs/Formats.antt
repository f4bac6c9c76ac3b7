-- What a format asks of a tuple's fields.
use Rattle.std.specs.Prelude.{ℕ, suc, Bool, not, ◌&&◌, ◌||◌, List, [], ◌∷◌, length, Result, Ok, Err, ◌==◌, if◌then◌else◌}
use Rattle.mx_msgpack.specs.declared.bad.Bad.{Bad}
use Rattle.mx_msgpack.specs.declared.value_type.ValueType.{ValueType}
use Rattle.mx_msgpack.specs.declared.value_type.ValueType.TheVariants as type
use Rattle.mx_msgpack.specs.Reading.{Shown, reading_of}
use Rattle.mx_msgpack.specs.Types.{takes, is_any, is_nil}
use Rattle.mx_tuple.specs.declared.formats.FieldKind.{FieldKind}
use Rattle.mx_tuple.specs.declared.formats.FieldKind.TheVariants as kind
use Rattle.mx_tuple.specs.declared.formats.FormatEntry.{FormatEntry}
use Rattle.mx_tuple.specs.declared.formats.Format.{Format}
use Rattle.mx_tuple.specs.declared.checking.FieldFault.{FieldFault}
use Rattle.mx_tuple.specs.declared.checking.FieldFault.TheVariants.{Missing, Wrong, Count}

-- the type of the values that a field may have
abbrev pub entry_value_type : FieldKind → ValueType
entry_value_type kind.Any = type.Any
entry_value_type kind.Unsigned = type.Unsigned
entry_value_type kind.Integer = type.Integer
entry_value_type kind.String = type.String
entry_value_type kind.Boolean = type.Boolean
entry_value_type kind.Varbinary = type.Varbinary
entry_value_type kind.Scalar = type.Scalar
entry_value_type kind.Array = type.Array
entry_value_type kind.Map = type.Map

-- a value that is read meets an entry: it is of its type, or a Nil where the entry takes Nil
abbrev pub meets_read : FormatEntry → Result (Shown × ℕ) Bad → Bool
meets_read entry (Err bad) = is_any (entry_value_type entry.kind)
meets_read entry (Ok (shown, size)) = takes (entry_value_type entry.kind) shown || (entry.nullable && is_nil shown)

unfoldable pub meets : FormatEntry → List ℕ → Bool
meets entry field = meets_read entry (reading_of field)

-- an absent field meets an entry that takes Nil or any value
abbrev pub may_be_absent : FormatEntry → Bool
may_be_absent entry = entry.nullable || is_any (entry_value_type entry.kind)

-- the first of the fields, from this place on, that doesn't meet its entry; fields without an entry are free
abbrev pub fields_checked : ℕ → List FormatEntry → List (List ℕ) → Result Unit FieldFault
fields_checked place [] fields = Ok tt
fields_checked place (entry ∷ entries) [] =
    if may_be_absent entry then fields_checked (suc place) entries [] else Err (Missing place)
fields_checked place (entry ∷ entries) (field ∷ fields) =
    if meets entry field then fields_checked (suc place) entries fields else Err (Wrong place entry.kind)

-- the fields meet a format: first their count, where the format has one, and then one after the other
abbrev pub checked : Format → List (List ℕ) → Result Unit FieldFault
checked format fields =
    if not (format.count == 0) && not (length fields == format.count) then Err (Count (length fields) format.count)
    else fields_checked 0 format.entries fields
