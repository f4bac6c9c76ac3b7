-- No write comes to a conflict or to out of memory in its space, nor is it refused there as read-only or for want of an lsn: each of its stages
-- has refusals of its own.
use Rattle.std.proofs.Common.{ℕ, Bool, true, false, List, [], ◌∷◌, length, Option, Some, None, Result, Ok, Err, ◌≡◌, refl}
use Rattle.std.specs.Prelude.{⊤, ◌||◌, nat_lt, ◌==◌, if◌then◌else◌}
use Rattle.mx_base.specs.declared.kinds.Unsupported.TheVariants.{SchemaInPlace, SchemaInTransaction, SystemSpaceWrite}
use Rattle.mx_base.specs.declared.refusal.Refusal.{Refusal}
use Rattle.mx_base.specs.declared.refusal.Refusal.TheVariants.{Conflict, DuplicateKey, IndexMissing, IndexNotUnique, LsnsUsedUp, OutOfMemory, ReadOnly, SpaceExists, SpaceMissing, TupleTooLong, Unsupported}
use Rattle.mx_key.specs.declared.fault.Misfit.{Misfit}
use Rattle.mx_key.specs.declared.fault.Misfit.TheVariants.{TooLong, WrongPart}
use Rattle.mx_key.specs.declared.fault.NoKey.{NoKey}
use Rattle.mx_key.specs.declared.fault.NoKey.TheVariants.{Missing, Wrong}
use Rattle.mx_key.specs.Keys.{Key}
use Rattle.mx_key.specs.Parts.{whole_key}
use Rattle.mx_msgpack.specs.Items.{items_of}
use Rattle.mx_row.specs.Rows.{delete_type, insert_type}
use Rattle.mx_schema.specs.Bootstrap.{cluster, settings}
use Rattle.mx_schema.specs.declared.index_def.IndexDef.{IndexDef}
use Rattle.mx_schema.specs.declared.schema.Schema.{Schema}
use Rattle.mx_schema.specs.Catalogues.{index_with, schema_of}
use Rattle.mx_schema.specs.State.{State, key_in, space_rows}
use Rattle.mx_tuple.specs.declared.checking.FieldFault.{FieldFault}
use Rattle.mx_tuple.specs.declared.checking.FieldFault.TheVariants as field
use Rattle.mx_tuple.specs.Fields.{max_tuple_size, tuple_of}
use Rattle.mx_tuple.specs.Formats.{checked}
use Rattle.mx_write.specs.declared.writable.Writer.TheVariants.{Client}
use Rattle.mx_write.specs.Checks.{format_fault, key_fault, keys_fault, tuple_fault}
use Rattle.mx_write.specs.Judged.{Judged, found, found_or, next_stage, unless, ◌>>=◌}
use Rattle.mx_write.specs.Lookup.{all_indexes, holder_of, is_unique, key_or_refusal, own_key, the_index, the_key, the_primary, the_space, the_unique_index, unless_unique}
use Rattle.mx_write.specs.Unique.{are_free, described_name, duplicate, held_refusal, is_another, is_free, is_free_if_unique}
use Rattle.mx_write.specs.Writable.{begins_with_system_number, describes_schema, is_read_only, leader_refusal, names_leader, own_row_refusal, schema_refusal, write_refusal}

-- the refusals that no statement comes to in its space: a conflict, out of memory, that the node takes no writes, that no lsn is left, and
-- that a transaction can't change spaces and indexes
abbrev pub is_reserved : Refusal → Bool
is_reserved Conflict = true
is_reserved OutOfMemory = true
is_reserved (ReadOnly node) = true
is_reserved LsnsUsedUp = true
is_reserved (Unsupported SchemaInTransaction) = true
is_reserved other = false

-- a refusal, where there is one, is another one
abbrev pub IsOther : Option Refusal → Type 0
IsOther None = ⊤
IsOther (Some why) = is_reserved why ≡ false

-- also that of a result
abbrev pub EndsOther : {X : Type 0} → Result X Refusal → Type 0
EndsOther (Ok x) = ⊤
EndsOther (Err why) = is_reserved why ≡ false

-- a write comes to no such refusal
abbrev pub JudgesOther : {X : Type 0} → Judged X → Type 0
JudgesOther judged = EndsOther judged.outcome

-- ---- stages

module _ {X Y : Type 0} where
  pub staged : (judged : Judged X) (stage : X → Judged Y) → JudgesOther judged → ((x : X) → JudgesOther (stage x)) → JudgesOther (judged >>= stage)
  staged judged stage first second = by_outcome judged.outcome first
    where
      by_outcome : (outcome : Result X Refusal) → EndsOther outcome → EndsOther (next_stage judged.reads outcome stage).outcome
      by_outcome (Ok x) other = second x
      by_outcome (Err why) other = other

pub unless_other : (why : Option Refusal) → IsOther why → JudgesOther (unless why)
unless_other None other = tt
unless_other (Some why) other = other

found_other : {X : Type 0} (why : Refusal) (found : Option X) → is_reserved why ≡ false → JudgesOther (found_or why found)
found_other why None other = other
found_other why (Some x) other = tt

pub either_other : (b : Bool) (one two : Option Refusal) → IsOther one → IsOther two → IsOther (if b then one else two)
either_other true one two first second = first
either_other false one two first second = second

-- ---- what can't be written

own_row_other : (named : Option (List ℕ)) → IsOther (own_row_refusal named)
own_row_other None = tt
own_row_other (Some array) = either_other (begins_with_system_number (items_of array)) (Some (Unsupported SystemSpaceWrite)) None refl tt

pub write_refusal_other : (space type : ℕ) (named : Option (List ℕ)) → IsOther (write_refusal Client space type named)
write_refusal_other space type named =
    either_other (describes_schema space) (schema_refusal type named) _
    (either_other ((type == insert_type) || (type == delete_type)) (own_row_refusal named) (Some (Unsupported SchemaInPlace)) (own_row_other named) refl)
    (either_other (is_read_only space) (Some (Unsupported SystemSpaceWrite)) _ refl
    (either_other (space == cluster) (Some (Unsupported SystemSpaceWrite)) _ refl
    (either_other (space == settings) (leader_refusal Client named) None
    (either_other (names_leader named) (Some (Unsupported SystemSpaceWrite)) None refl tt) tt)))

-- ---- look-ups

pub space_other : (before : State) (space : ℕ) → JudgesOther (the_space before space)
space_other before space = found_other (SpaceMissing (record { 0 = space })) (schema_of before space) refl

pub index_other : (space : ℕ) (schema : Schema) (index : ℕ) → JudgesOther (the_index space schema index)
index_other space schema index = found_other (IndexMissing (record { 0 = index }) schema.def.name) (index_with index schema.indexes) refl

pub primary_other : (schema : Schema) → JudgesOther (the_primary schema)
primary_other schema = found_other (IndexMissing (record { 0 = 0 }) schema.def.name) (index_with 0 schema.indexes) refl

pub unique_other : (space : ℕ) (schema : Schema) (index : ℕ) → JudgesOther (the_unique_index space schema index)
unique_other space schema index =
    staged (the_index space schema index) (λ def. unless (unless_unique schema def) >>= (λ _. found def)) (index_other space schema index)
    (λ def. staged (unless (unless_unique schema def)) (λ _. found def)
    (unless_other (unless_unique schema def) (either_other (is_unique def) None (Some (IndexNotUnique def.name schema.def.name)) tt refl)) (λ _. tt))

pub key_other : (def : IndexDef) (array : List ℕ) → JudgesOther (the_key def array)
key_other def array = by_key (whole_key def.key array)
  where
    by_key : (key : Result Key Misfit) → EndsOther (key_or_refusal (length def.key) key)
    by_key (Ok key) = tt
    by_key (Err (TooLong given)) = refl
    by_key (Err (WrongPart part expected)) = refl

-- ---- what a space asks of a tuple

keys_other : (defs : List IndexDef) (tuple : List ℕ) → IsOther (keys_fault defs tuple)
keys_other [] tuple = tt
keys_other (def ∷ others) tuple = by_key (key_in def.key tuple) (keys_other others tuple)
  where
    by_key : (key : Result Key NoKey) → IsOther (keys_fault others tuple) → IsOther (key_fault key (keys_fault others tuple))
    by_key (Ok key) rest = rest
    by_key (Err (Missing place)) rest = refl
    by_key (Err (Wrong place expected)) rest = refl

pub tuple_other : (schema : Schema) (primary : IndexDef) (tuple : List ℕ) → IsOther (tuple_fault schema primary tuple)
tuple_other schema primary tuple =
    either_other (nat_lt max_tuple_size (length tuple)) (Some (TupleTooLong (length tuple))) _ refl
    (by_format (checked schema.def.format (tuple_of tuple).fields) (keys_other (all_indexes primary schema) tuple))
  where
    by_format : (met : Result Unit FieldFault) → IsOther (keys_fault (all_indexes primary schema) tuple) → IsOther (format_fault met (keys_fault (all_indexes primary schema) tuple))
    by_format (Ok met) rest = rest
    by_format (Err (field.Missing place)) rest = refl
    by_format (Err (field.Wrong place expected)) rest = refl
    by_format (Err (field.Count has expected)) rest = refl

-- ---- keys that are held

module _ (before : State) (space : ℕ) (schema : Schema) (primary : IndexDef) (replaced : Option Key) (tuple : List ℕ) where
  duplicate_other : (def : IndexDef) (holder : Option (List ℕ)) (another : Bool) → IsOther (duplicate space schema def holder another)
  duplicate_other def holder false = tt
  duplicate_other def holder true = by_test (space == space_rows)
    where
      by_test : (b : Bool) → is_reserved (if b then SpaceExists (described_name holder) else DuplicateKey def.name schema.def.name) ≡ false
      by_test true = refl
      by_test false = refl

  free_other : (def : IndexDef) → JudgesOther (is_free_if_unique before space schema primary replaced tuple def)
  free_other def = by_test (is_unique def)
    where
      holder : Option (List ℕ)
      holder = holder_of before space def (own_key def tuple)

      by_test : (b : Bool) → JudgesOther (if b then is_free before space schema primary replaced tuple def else found tt)
      by_test true = unless_other (held_refusal before space schema primary replaced tuple def holder) (duplicate_other def holder (is_another primary replaced holder))
      by_test false = tt

  pub frees_other : (defs : List IndexDef) → JudgesOther (are_free before space schema primary replaced tuple defs)
  frees_other [] = tt
  frees_other (def ∷ others) = staged (is_free_if_unique before space schema primary replaced tuple def) _ (free_other def) (λ _. frees_other others)
