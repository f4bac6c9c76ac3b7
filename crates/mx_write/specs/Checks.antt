-- What a space asks of a tuple: its size, its format, and a key in each index.
use Rattle.std.specs.Prelude.{ℕ, List, [], ◌∷◌, length, Option, Some, None, Result, Ok, Err, nat_lt, if◌then◌else◌}
use Rattle.mx_base.specs.declared.kinds.TypeName.{TypeName}
use Rattle.mx_base.specs.declared.kinds.TypeName.TheVariants as type
use Rattle.mx_base.specs.declared.refusal.Refusal.{Refusal}
use Rattle.mx_base.specs.declared.refusal.Refusal.TheVariants.{FieldCount, FieldMissing, FieldType, TupleTooLong}
use Rattle.mx_key.specs.declared.fault.NoKey.{NoKey}
use Rattle.mx_key.specs.declared.fault.NoKey.TheVariants.{Missing, Wrong}
use Rattle.mx_key.specs.Keys.{Key}
use Rattle.mx_tuple.specs.declared.checking.FieldFault.{FieldFault}
use Rattle.mx_tuple.specs.declared.checking.FieldFault.TheVariants as field
use Rattle.mx_tuple.specs.declared.formats.FieldKind.{FieldKind}
use Rattle.mx_tuple.specs.declared.formats.FieldKind.TheVariants as kind
use Rattle.mx_tuple.specs.Fields.{max_tuple_size, tuple_of}
use Rattle.mx_tuple.specs.Formats.{checked}
use Rattle.mx_schema.specs.declared.index_def.IndexDef.{IndexDef}
use Rattle.mx_schema.specs.declared.schema.Schema.{Schema}
use Rattle.mx_schema.specs.State.{key_in}
use Rattle.mx_write.specs.Lookup.{all_indexes, type_of}

-- the name of the type that a field has to be of; one of any type is never refused
abbrev pub field_type_of : FieldKind → TypeName
field_type_of kind.Any = type.Scalar
field_type_of kind.Unsigned = type.Unsigned
field_type_of kind.Integer = type.Integer
field_type_of kind.String = type.String
field_type_of kind.Boolean = type.Boolean
field_type_of kind.Varbinary = type.Varbinary
field_type_of kind.Scalar = type.Scalar
field_type_of kind.Array = type.Array
field_type_of kind.Map = type.Map

-- why a tuple doesn't meet a format
abbrev pub format_refusal : FieldFault → Refusal
format_refusal (field.Missing place) = FieldMissing place
format_refusal (field.Wrong place expected) = FieldType place (field_type_of expected)
format_refusal (field.Count has expected) = FieldCount has expected

-- why a tuple has no key in an index
abbrev pub fault_refusal : NoKey → Refusal
fault_refusal (Missing place) = FieldMissing place
fault_refusal (Wrong place expected) = FieldType place (type_of expected)

abbrev pub key_fault : Result Key NoKey → (otherwise : Option Refusal) → Option Refusal
key_fault (Err why) otherwise = Some (fault_refusal why)
key_fault (Ok key) otherwise = otherwise

-- why a tuple has no key in the first of these indexes in which it has none
abbrev pub keys_fault : List IndexDef → (tuple : List ℕ) → Option Refusal
keys_fault [] tuple = None
keys_fault (def ∷ others) tuple = key_fault (key_in def.key tuple) (keys_fault others tuple)

abbrev pub format_fault : Result Unit FieldFault → (otherwise : Option Refusal) → Option Refusal
format_fault (Err why) otherwise = Some (format_refusal why)
format_fault (Ok met) otherwise = otherwise

-- why a space doesn't take a tuple: first its size, then its fields by the format, then its keys, index by index
abbrev pub tuple_fault : Schema → (primary : IndexDef) → (tuple : List ℕ) → Option Refusal
tuple_fault schema primary tuple =
    if nat_lt max_tuple_size (length tuple) then Some (TupleTooLong (length tuple))
    else format_fault (checked schema.def.format (tuple_of tuple).fields) (keys_fault (all_indexes primary schema) tuple)
