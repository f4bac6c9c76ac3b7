-- Only private functions and proofs need these: how far the plain slow program has judged a write.
use Rattle.std.specs.Prelude.{◌≡◌, ⊤, ℕ, List, [], ◌∷◌, Option, Some, None, Ok}
use Rattle.mx_key.specs.Comparable.{comparable_of}
use Rattle.mx_key.specs.Keys.{AreFit}
use Rattle.mx_schema.specs.declared.index_def.IndexDef.{IndexDef}
use Rattle.mx_schema.specs.declared.keyed.Keyed.{Keyed}
use Rattle.mx_schema.specs.declared.schema.Schema.{Schema}
use Rattle.mx_schema.specs.Catalogues.{index_with, schema_of}
use Rattle.mx_schema.specs.Picks.{Indexed}
use Rattle.mx_schema.specs.State.{State, key_in, tuples_in}
use Rattle.mx_schema.specs.Stored.{StoresSpace, stored_list}
use Rattle.mx_write.specs.declared.writable.Writer.TheVariants.{Client}
use Rattle.mx_write.specs.Checks.{tuple_fault}
use Rattle.mx_write.specs.Judged.{Judged, reads_of, unless, ◌>>=◌}
use Rattle.mx_write.specs.Lookup.{entry_with, the_index, the_key, the_primary, the_space, the_unique_index}
use Rattle.mx_write.specs.Made.{Made}
use Rattle.mx_write.specs.Reads.{key_read}
use Rattle.mx_write.specs.Writable.{primary_name, write_refusal}
use Rattle.mx_slow_state.specs.declared.slow_state.site.Site.{Site}

-- a space that is there and has a primary index
pub record IsSite (before : State) (site : Site) : Type 0 where
  pub stored : StoresSpace (schema_of before site.space.0) site.schema.now (stored_list site.tuples.now) (tuples_in before site.space.0)
  pub primary : index_with 0 site.schema.now.indexes ≡ Some site.primary.now

-- a tuple of the list is this entry, and stands under its own key
abbrev pub IsEntry : (primary : IndexDef) → Option Keyed → Option Indexed → Type 0
IsEntry primary None None = ⊤
IsEntry primary None (Some entry) = ⊥
IsEntry primary (Some one) None = ⊥
IsEntry primary (Some one) (Some (own, tuple)) = AreFit own × (one.key ≡ comparable_of own) × (one.tuple ≡ tuple) × (key_in primary.key tuple ≡ Ok own)

-- the stages of a client's write up to a space that can be written so
abbrev pub in_writable : State → (space type : ℕ) → (named : Option (List ℕ)) → (Schema → Judged Made) → Judged Made
in_writable before space type named rest = do
  schema ← the_space before space
  _ ← unless (write_refusal Client space type named)
  rest schema

-- and those of a write of a tuple up to a space that takes it
abbrev pub of_tuple : State → (space type : ℕ) → (tuple : List ℕ) → (Schema → IndexDef → Judged Made) → Judged Made
of_tuple before space type tuple rest = in_writable before space type (Some tuple) (λ schema. do
  primary ← the_index space schema 0
  _ ← unless (tuple_fault schema primary tuple)
  rest schema primary)

-- those of a write by a key of a unique index up to the tuple that has it
abbrev pub of_key : State → (space type index : ℕ) → (key : List ℕ) → (Schema → IndexDef → Option Indexed → Judged Made) → Judged Made
of_key before space type index key rest = in_writable before space type (primary_name index key) (λ schema. do
  def ← the_unique_index space schema index
  primary ← the_primary schema
  asked ← the_key def key
  _ ← reads_of (key_read space index asked ∷ [])
  rest schema primary (entry_with before space primary def asked))
