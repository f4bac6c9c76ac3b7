-- The types that a format and a key ask of values.
use Rattle.std.specs.Prelude.{pos, Bool, true, false}
use Rattle.mx_msgpack.specs.declared.value_type.ValueType.{ValueType}
use Rattle.mx_msgpack.specs.declared.value_type.ValueType.TheVariants.{Any, Unsigned, Integer, String, Boolean, Varbinary, Scalar, Array, Map}
use Rattle.mx_msgpack.specs.Reading.{Shown, ShownNil, ShownBool, ShownInt, ShownStr, ShownBin, ShownArray, ShownMap}

-- a value is of a type
abbrev pub takes : ValueType → Shown → Bool
takes Any _ = true
takes Unsigned (ShownInt (pos number)) = true
takes Unsigned _ = false
takes Integer (ShownInt number) = true
takes Integer _ = false
takes String (ShownStr text) = true
takes String _ = false
takes Boolean (ShownBool truth) = true
takes Boolean _ = false
takes Varbinary (ShownBin content) = true
takes Varbinary _ = false
takes Scalar (ShownBool truth) = true
takes Scalar (ShownInt number) = true
takes Scalar (ShownStr text) = true
takes Scalar (ShownBin content) = true
takes Scalar _ = false
takes Array (ShownArray count items) = true
takes Array _ = false
takes Map (ShownMap count items) = true
takes Map _ = false

-- a value is Nil
abbrev pub is_nil : Shown → Bool
is_nil ShownNil = true
is_nil _ = false

-- a type takes all values, and what is no value
abbrev pub is_any : ValueType → Bool
is_any Any = true
is_any _ = false
