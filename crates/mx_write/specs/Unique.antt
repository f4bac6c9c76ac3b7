-- Whether another tuple has a new tuple's key in a unique index, and what was read to know it.
use Rattle.std.specs.Prelude.{ℕ, Bool, true, false, not, List, [], ◌∷◌, Option, Some, None, ◌==◌, if◌then◌else◌}
use Rattle.std.specs.Ordering.{is_eq}
use Rattle.mx_base.specs.declared.refusal.Refusal.{Refusal}
use Rattle.mx_base.specs.declared.refusal.Refusal.TheVariants.{DuplicateKey, SpaceExists}
use Rattle.mx_key.specs.Keys.{Key, key_cmp}
use Rattle.mx_schema.specs.declared.index_def.IndexDef.{IndexDef}
use Rattle.mx_schema.specs.declared.schema.Schema.{Schema}
use Rattle.mx_schema.specs.declared.space_def.SpaceDef.{SpaceDef}
use Rattle.mx_schema.specs.SpaceRows.{space_in}
use Rattle.mx_schema.specs.State.{State, space_rows}
use Rattle.mx_write.specs.Judged.{Judged, found, reads_of, unless, ◌>>=◌}
use Rattle.mx_write.specs.Lookup.{holder_of, is_unique, own_key}
use Rattle.mx_write.specs.Reads.{key_read}

abbrev pub is_same_key : Key → Key → Bool
is_same_key one other = is_eq (key_cmp one other)

-- there is a tuple, and it isn't the one that has this primary key, where one is replaced
abbrev pub is_another : (primary : IndexDef) → (replaced : Option Key) → (holder : Option (List ℕ)) → Bool
is_another primary replaced None = false
is_another primary None (Some tuple) = true
is_another primary (Some key) (Some tuple) = not (is_same_key (own_key primary tuple) key)

-- the name of the space that a row describes; none where it describes none
abbrev pub name_or_none : Option SpaceDef → List ℕ
name_or_none None = []
name_or_none (Some def) = def.name

abbrev pub described_name : Option (List ℕ) → List ℕ
described_name None = []
described_name (Some row) = name_or_none (space_in row)

-- of two rows of one space the refusal has the name of the one that is there
abbrev pub duplicate_refusal : (space : ℕ) → Schema → IndexDef → (holder : Option (List ℕ)) → Refusal
duplicate_refusal space schema def holder =
    if space == space_rows then SpaceExists (described_name holder) else DuplicateKey def.name schema.def.name

abbrev pub duplicate : (space : ℕ) → Schema → IndexDef → (holder : Option (List ℕ)) → (is_another : Bool) → Option Refusal
duplicate space schema def holder false = None
duplicate space schema def holder true = Some (duplicate_refusal space schema def holder)

module _ (before : State) (space : ℕ) (schema : Schema) (primary : IndexDef) (replaced : Option Key) (tuple : List ℕ) where
  -- the refusal of a tuple whose key in an index this one has, where that is another one
  abbrev pub held_refusal : IndexDef → (holder : Option (List ℕ)) → Option Refusal
  held_refusal def holder = duplicate space schema def holder (is_another primary replaced holder)

  -- no other tuple has the tuple's key in a unique index
  abbrev pub is_free : IndexDef → Judged (Unit {0})
  is_free def = do
    _ ← reads_of (key_read space def.id.0 (own_key def tuple) ∷ [])
    unless (held_refusal def (holder_of before space def (own_key def tuple)))

  abbrev pub is_free_if_unique : IndexDef → Judged (Unit {0})
  is_free_if_unique def = if is_unique def then is_free def else found tt

  -- nor in any of these, index by index
  abbrev pub are_free : List IndexDef → Judged (Unit {0})
  are_free [] = found tt
  are_free (def ∷ others) = do
    _ ← is_free_if_unique def
    are_free others
