-- REPLACE.
use Rattle.std.specs.Prelude.{ℕ, List, [], ◌∷◌, Some}
use Rattle.mx_row.specs.Rows.{replace_type}
use Rattle.mx_schema.specs.declared.index_def.IndexDef.{IndexDef}
use Rattle.mx_schema.specs.declared.schema.Schema.{Schema}
use Rattle.mx_schema.specs.State.{State}
use Rattle.mx_write.specs.Checks.{tuple_fault}
use Rattle.mx_write.specs.Judged.{Judged, unless, ◌>>=◌}
use Rattle.mx_write.specs.Lookup.{other_indexes, own_key, the_index, the_space}
use Rattle.mx_write.specs.Made.{Made, made}
use Rattle.mx_write.specs.Writes.{Replace}
use Rattle.mx_write.specs.Unique.{are_free}
use Rattle.mx_write.specs.declared.writable.Writer.{Writer}
use Rattle.mx_write.specs.Writable.{write_refusal}

-- a tuple that its space takes is put in the place of the one that has its primary key, where no other one has its key in another unique index
abbrev pub replaces_taken : State → (space : ℕ) → Schema → (primary : IndexDef) → (tuple : List ℕ) → Judged Made
replaces_taken before space schema primary tuple = do
  _ ← are_free before space schema primary (Some (own_key primary tuple)) tuple (other_indexes schema.indexes)
  made space (Replace tuple) (own_key primary tuple) (Some tuple) (tuple ∷ [])

-- the tuple is put in its space
unfoldable pub replaces : Writer → State → (space : ℕ) → (tuple : List ℕ) → Judged Made
replaces writer before space tuple = do
  schema ← the_space before space
  _ ← unless (write_refusal writer space replace_type (Some tuple))
  primary ← the_index space schema 0
  _ ← unless (tuple_fault schema primary tuple)
  replaces_taken before space schema primary tuple
