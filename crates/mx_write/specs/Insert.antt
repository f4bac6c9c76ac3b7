-- INSERT.
use Rattle.std.specs.Prelude.{ℕ, List, [], ◌∷◌, Some, None}
use Rattle.mx_row.specs.Rows.{insert_type}
use Rattle.mx_schema.specs.declared.index_def.IndexDef.{IndexDef}
use Rattle.mx_schema.specs.declared.schema.Schema.{Schema}
use Rattle.mx_schema.specs.State.{State}
use Rattle.mx_write.specs.Checks.{tuple_fault}
use Rattle.mx_write.specs.Descriptions.{description_fault, new_index_fault}
use Rattle.mx_write.specs.Judged.{Judged, unless, ◌>>=◌}
use Rattle.mx_write.specs.Lookup.{all_indexes, own_key, the_index, the_space}
use Rattle.mx_write.specs.Made.{Made, made}
use Rattle.mx_write.specs.Writes.{Insert}
use Rattle.mx_write.specs.Unique.{are_free}
use Rattle.mx_write.specs.declared.writable.Writer.{Writer}
use Rattle.mx_write.specs.Writable.{write_refusal}

-- a tuple that its space takes is added, where no other one has its key in a unique index
abbrev pub inserts_taken : State → (space : ℕ) → Schema → (primary : IndexDef) → (tuple : List ℕ) → Judged Made
inserts_taken before space schema primary tuple = do
  _ ← unless (description_fault before space tuple)
  _ ← are_free before space schema primary None tuple (all_indexes primary schema)
  _ ← unless (new_index_fault before space tuple)
  made space (Insert tuple) (own_key primary tuple) (Some tuple) (tuple ∷ [])

-- the tuple is added to the space
unfoldable pub inserts : Writer → State → (space : ℕ) → (tuple : List ℕ) → Judged Made
inserts writer before space tuple = do
  schema ← the_space before space
  _ ← unless (write_refusal writer space insert_type (Some tuple))
  primary ← the_index space schema 0
  _ ← unless (tuple_fault schema primary tuple)
  inserts_taken before space schema primary tuple
