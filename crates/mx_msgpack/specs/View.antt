-- What a clause sees of a `ValueRef`: its value without where it lies in memory.
use Rattle.std.specs.Prelude.{◌≡◌}
use Rattle.mx_msgpack.specs.declared.value_ref.ValueRef.{ValueRef}
use Rattle.mx_msgpack.specs.declared.value_ref.ValueRef.TheVariants.{Nil, Bool as Boolean, Int, Str, Bin, Array, Map, Opaque}
use Rattle.mx_msgpack.specs.Grammar.{Value, Values, Pairs, value_count, pair_count, Spells, SpellsAll, SpellsPairs}
use Rattle.mx_msgpack.specs.Grammar as grammar
use Rattle.mx_msgpack.specs.Reading.{Shown, ShownNil, ShownBool, ShownInt, ShownStr, ShownBin, ShownArray, ShownMap, ShownOpaque}

abbrev pub view : ValueRef → Shown
view Nil = ShownNil
view (Boolean truth) = ShownBool truth
view (Int number) = ShownInt number
view (Str text) = ShownStr text.now
view (Bin content) = ShownBin content.now
view (Array count items) = ShownArray count items.now
view (Map count items) = ShownMap count items.now
view (Opaque spelling) = ShownOpaque spelling.now

-- what is shown is this value, which stands alone: a container's bytes spell all that it holds
abbrev pub Shows : Shown → Value → Type 0
Shows ShownNil value = value ≡ grammar.Nil
Shows (ShownBool truth) value = value ≡ grammar.Boolean truth
Shows (ShownInt number) value = value ≡ grammar.Int number
Shows (ShownStr text) value = value ≡ grammar.Str text
Shows (ShownBin content) value = value ≡ grammar.Bin content
Shows (ShownArray count items) value =
    (values : Values) × (value ≡ grammar.Array values) × (count ≡ value_count values) × SpellsAll 63 values items
Shows (ShownMap count items) value =
    (pairs : Pairs) × (value ≡ grammar.Map pairs) × (count ≡ pair_count pairs) × SpellsPairs 63 pairs items
Shows (ShownOpaque spelling) value = value ≡ grammar.Opaque spelling
