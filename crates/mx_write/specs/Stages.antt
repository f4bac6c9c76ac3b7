-- Only private functions and proofs need these: what the stages of a write have in common, and what a check of one tells.
use Rattle.std.specs.Prelude.{◌≡◌, ◌⊎◌, ⊤, ℕ, Bool, List, [], ◌∷◌, Option, Some, None, Result, Ok, Err, IfSome, MatchResult, if◌then◌else◌, ◌≢◌, true, false}
use Rattle.mx_base.specs.declared.refusal.Refusal.{Refusal}
use Rattle.mx_base.specs.declared.refusal.Refusal.TheVariants.{OutOfMemory}
use Rattle.mx_key.specs.Comparable.{comparable_of}
use Rattle.mx_key.specs.Keys.{Key, AreFit}
use Rattle.mx_schema.specs.declared.schema.Schema.{Schema}
use Rattle.mx_schema.specs.Catalogues.{index_with, schema_of}
use Rattle.mx_schema.specs.State.{State, key_in, index_rows, tuples_in}
use Rattle.mx_write.specs.Judged.{Judged, reads_of, unless, ◌>>=◌}
use Rattle.std.specs.FinMap.{empty}
use Rattle.mx_schema.specs.declared.index_def.IndexDef.{IndexDef}
use Rattle.mx_schema.specs.declared.index_def.IndexRow.{IndexRow}
use Rattle.mx_schema.specs.IndexRows.{index_in}
use Rattle.mx_write.specs.declared.writable.Writer.{Writer}
use Rattle.mx_write.specs.Checks.{tuple_fault}
use Rattle.mx_schema.specs.Picks.{Indexed}
use Rattle.mx_write.specs.Lookup.{entry_with, the_index, the_key, the_primary, the_space, the_unique_index}
use Rattle.mx_write.specs.Reads.{key_read}
use Rattle.mx_write.specs.Writable.{primary_name, write_refusal}

-- the tuples of a reply that may show a tuple
abbrev pub shown_if : Bool → (tuple : List ℕ) → List (List ℕ)
shown_if is_shown tuple = if is_shown then tuple ∷ [] else []

-- a tuple that is put has this primary key
abbrev pub HasKey : Schema → Key → Option (List ℕ) → Type 0
HasKey schema key None = ⊤
HasKey schema key (Some tuple) = IfSome (index_with 0 schema.indexes) (λ def. key_in def.key tuple ≡ Ok key)

-- a refusal is this outcome, or memory ran out
abbrev pub IsRefusedBy : {X : Type 0} → Refusal → Judged X → Type 0
IsRefusedBy refusal judged = (judged.outcome ≡ Err refusal) ⊎ (refusal ≡ OutOfMemory)

-- a check passes, or refuses so, or memory ran out
abbrev pub Refuses : Refusal → Option Refusal → Type 0
Refuses why fault = (fault ≡ Some why) ⊎ (why ≡ OutOfMemory)

abbrev pub Checks : Result (Unit {0}) Refusal → (fault : Option Refusal) → Type 0
Checks result fault = MatchResult result (λ _. fault ≡ None) (λ why. Refuses why fault)

-- these are the comparable bytes of a tuple's key in an index
abbrev pub HasOwnKey : IndexDef → (tuple bytes : List ℕ) → Type 0
HasOwnKey def tuple bytes = (key : Key) × (key_in def.key tuple ≡ Ok key) × AreFit key × (bytes ≡ comparable_of key)

abbrev pub ChecksKey : Result (List ℕ) Refusal → (fault : Option Refusal) → IndexDef → (tuple : List ℕ) → Type 0
ChecksKey result fault def tuple = MatchResult result (λ bytes. (fault ≡ None) × HasOwnKey def tuple bytes) (λ why. Refuses why fault)

-- the refusal of an outcome, if it is one
abbrev pub refusal_of : {X : Type 0} → Result X Refusal → Option Refusal
refusal_of (Ok x) = None
refusal_of (Err why) = Some why

-- a result of the code is this outcome, or memory ran out
abbrev pub JudgesAs : {X : Type 0} → Result X Refusal → Result X Refusal → Type 0
JudgesAs result outcome = MatchResult result (λ x. outcome ≡ Ok x) (λ why. (outcome ≡ Err why) ⊎ (why ≡ OutOfMemory))

-- the stages of a write that puts a tuple, before its own ones
abbrev pub in_target : {X : Type 0} → Writer → State → (space type : ℕ) → (tuple : List ℕ) → (rest : Schema → IndexDef → Judged X) → Judged X
in_target writer before space type tuple rest = do
  schema ← the_space before space
  _ ← unless (write_refusal writer space type (Some tuple))
  primary ← the_index space schema 0
  _ ← unless (tuple_fault schema primary tuple)
  rest schema primary

-- the stages of a write by a key of a unique index, before its own ones
abbrev pub in_entry : {X : Type 0} → Writer → State → (space type index : ℕ) → (key : List ℕ) → (rest : Schema → IndexDef → Option Indexed → Judged X) → Judged X
in_entry writer before space type index key rest = do
  schema ← the_space before space
  _ ← unless (write_refusal writer space type (primary_name index key))
  def ← the_unique_index space schema index
  primary ← the_primary schema
  asked ← the_key def key
  _ ← reads_of (key_read space index asked ∷ [])
  rest schema primary (entry_with before space primary def asked)

-- these are the comparable bytes of this key, where there is one
abbrev pub IsKeyOf : (bytes : Option (List ℕ)) → Option Key → Type 0
IsKeyOf None None = ⊤
IsKeyOf None (Some key) = ⊥
IsKeyOf (Some bytes) None = ⊥
IsKeyOf (Some bytes) (Some key) = AreFit key × (bytes ≡ comparable_of key)

abbrev pub IsReplaced : (bytes : Option (List ℕ)) → Option Key → Type 0
IsReplaced = IsKeyOf

-- ---- rows that describe indexes

abbrev pub has_one : List IndexDef → Bool
has_one [] = false
has_one (def ∷ others) = true

-- an index that may be made in its space: the primary one where there are no tuples, and others beside it
pub record CanBeMade (before : State) (row : IndexRow) : Type 0 where
  pub first : row.def.id.0 ≡ 0 → tuples_in before row.space.0 ≡ empty
  pub other : (schema : Schema) → schema_of before row.space.0 ≡ Some schema → row.def.id.0 ≢ 0 → index_with 0 schema.indexes ≢ None

-- so may the index that a tuple describes, where tuples of its space describe any
abbrev pub CanBuild : State → (space : ℕ) → (tuple : List ℕ) → Type 0
CanBuild before space tuple = space ≡ index_rows → (row : IndexRow) → index_in tuple ≡ Some row → CanBeMade before row
