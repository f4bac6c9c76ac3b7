-- How a write looks up a space, an index of it, and tuples, and what that reads.
use Rattle.std.specs.Prelude.{ℕ, List, [], ◌∷◌, length, Bool, not, ◌||◌, Option, Some, None, Result, Ok, Err, ◌==◌, if◌then◌else◌}
use Rattle.std.specs.FinMap.{get}
use Rattle.std.specs.List.{filter}
use Rattle.std.specs.Option.{option_map}
use Rattle.std.specs.Result.{result_ok}
use Rattle.mx_base.specs.declared.refusal.Refusal.{Refusal}
use Rattle.mx_base.specs.declared.refusal.Refusal.TheVariants.{IndexMissing, IndexNotUnique, KeyPartCount, KeyPartType, SpaceMissing}
use Rattle.mx_base.specs.declared.kinds.TypeName.{TypeName}
use Rattle.mx_base.specs.declared.kinds.TypeName.TheVariants as type
use Rattle.mx_key.specs.declared.part.PartKind.{PartKind}
use Rattle.mx_key.specs.declared.part.PartKind.TheVariants as kind
use Rattle.mx_key.specs.declared.fault.Misfit.{Misfit}
use Rattle.mx_key.specs.declared.fault.Misfit.TheVariants.{TooLong, WrongPart}
use Rattle.mx_key.specs.Keys.{Key}
use Rattle.mx_key.specs.Parts.{whole_key}
use Rattle.mx_schema.specs.declared.index_def.IndexDef.{IndexDef}
use Rattle.mx_schema.specs.declared.schema.Schema.{Schema}
use Rattle.mx_schema.specs.Catalogues.{index_with, schema_of}
use Rattle.mx_schema.specs.Picks.{Indexed, tuples_by_index}
use Rattle.mx_schema.specs.State.{State, key_in, key_or_none, tuples_in}
use Rattle.mx_write.specs.Judged.{Judged, found, found_or, judged_as, reads_of, unless, ◌>>=◌}
use Rattle.mx_write.specs.Reads.{index_read, space_read}

-- the type's name
abbrev pub type_of : PartKind → TypeName
type_of kind.Unsigned = type.Unsigned
type_of kind.Integer = type.Integer
type_of kind.String = type.String
type_of kind.Boolean = type.Boolean
type_of kind.Varbinary = type.Varbinary
type_of kind.Scalar = type.Scalar

-- ---- the look-ups of writes

-- a space as it is described
abbrev pub the_space : State → (space : ℕ) → Judged Schema
the_space before space = do
  _ ← reads_of (space_read space ∷ [])
  found_or (SpaceMissing (record { 0 = space })) (schema_of before space)

-- an index of a space
abbrev pub the_index : (space : ℕ) → Schema → (index : ℕ) → Judged IndexDef
the_index space schema index = do
  _ ← reads_of (index_read space ∷ [])
  found_or (IndexMissing (record { 0 = index }) schema.def.name) (index_with index schema.indexes)

-- the primary index of a space, which was looked up with another one
abbrev pub the_primary : Schema → Judged IndexDef
the_primary schema = found_or (IndexMissing (record { 0 = 0 }) schema.def.name) (index_with 0 schema.indexes)

-- no two tuples have one key in the index; the primary one is always such
abbrev pub is_unique : IndexDef → Bool
is_unique def = (def.id.0 == 0) || def.unique

abbrev pub unless_unique : Schema → IndexDef → Option Refusal
unless_unique schema def = if is_unique def then None else Some (IndexNotUnique def.name schema.def.name)

abbrev pub the_unique_index : (space : ℕ) → Schema → (index : ℕ) → Judged IndexDef
the_unique_index space schema index = do
  def ← the_index space schema index
  _ ← unless (unless_unique schema def)
  found def

-- the indexes but the primary one
abbrev pub other_indexes : List IndexDef → List IndexDef
other_indexes indexes = filter (λ def. not (def.id.0 == 0)) indexes

-- the indexes of a space, the primary one first
abbrev pub all_indexes : (primary : IndexDef) → Schema → List IndexDef
all_indexes primary schema = primary ∷ other_indexes schema.indexes

-- why a key doesn't fit an index of so many parts
abbrev pub misfit_refusal : (parts : ℕ) → Misfit → Refusal
misfit_refusal parts (TooLong given) = KeyPartCount given parts
misfit_refusal parts (WrongPart part expected) = KeyPartType part (type_of expected)

abbrev pub key_or_refusal : (parts : ℕ) → Result Key Misfit → Result Key Refusal
key_or_refusal parts (Ok key) = Ok key
key_or_refusal parts (Err misfit) = Err (misfit_refusal parts misfit)

-- the whole key of an index that an array is
abbrev pub the_key : IndexDef → (array : List ℕ) → Judged Key
the_key def array = judged_as (key_or_refusal (length def.key) (whole_key def.key array))

-- the key of a tuple in an index, which is the empty key where it has none
abbrev pub own_key : IndexDef → (tuple : List ℕ) → Key
own_key def tuple = key_or_none (key_in def.key tuple)

-- the tuple of a space that has this key in a unique index
abbrev pub holder_of : State → (space : ℕ) → IndexDef → Key → Option (List ℕ)
holder_of before space def key = get (tuples_by_index def (tuples_in before space)) key

-- the tuple that stands under a primary key
abbrev pub tuple_under : State → (space : ℕ) → (primary : Key) → Option (List ℕ)
tuple_under before space primary = get (tuples_in before space) primary

abbrev pub primary_key_of : (primary : IndexDef) → (holder : Option (List ℕ)) → Option Key
primary_key_of primary None = None
primary_key_of primary (Some tuple) = result_ok (key_in primary.key tuple)

-- the primary key of the tuple that has this key in an index
abbrev pub primary_key_with : State → (space : ℕ) → (primary def : IndexDef) → Key → Option Key
primary_key_with before space primary def key = if def.id.0 == 0 then Some key else primary_key_of primary (holder_of before space def key)

abbrev pub entry_under : State → (space : ℕ) → Option Key → Option Indexed
entry_under before space None = None
entry_under before space (Some primary) = option_map (λ tuple. (primary, tuple)) (tuple_under before space primary)

-- the tuple that has this key in a unique index, under its primary key
abbrev pub entry_with : State → (space : ℕ) → (primary def : IndexDef) → Key → Option Indexed
entry_with before space primary def key = entry_under before space (primary_key_with before space primary def key)
