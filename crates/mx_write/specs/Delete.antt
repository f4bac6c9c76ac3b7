-- DELETE.
use Rattle.std.specs.Prelude.{ℕ, List, [], ◌∷◌, Option, Some, None}
use Rattle.mx_row.specs.Rows.{delete_type}
use Rattle.mx_schema.specs.Picks.{Indexed}
use Rattle.mx_schema.specs.State.{State}
use Rattle.mx_write.specs.Descriptions.{drop_fault}
use Rattle.mx_write.specs.Judged.{Judged, found, reads_of, unless, ◌>>=◌}
use Rattle.mx_write.specs.Lookup.{entry_with, the_key, the_primary, the_space, the_unique_index}
use Rattle.mx_write.specs.Reads.{key_read}
use Rattle.mx_write.specs.Made.{Made, made, nothing}
use Rattle.mx_write.specs.Writes.{Delete}
use Rattle.mx_write.specs.declared.writable.Writer.{Writer}
use Rattle.mx_write.specs.Writable.{primary_name, write_refusal}

module _ (writer : Writer) (before : State) (space index : ℕ) (key : List ℕ) where
  -- the tuple that was found is removed
  abbrev pub delete_found : Option Indexed → Judged Made
  delete_found None = found nothing
  delete_found (Some (own, old)) = do
    _ ← unless (write_refusal writer space delete_type (Some old))
    _ ← unless (drop_fault before space old)
    made space (Delete index key) own None (old ∷ [])

  -- the tuple that has this key in a unique index is removed
  unfoldable pub deletes : Judged Made
  deletes = do
    schema ← the_space before space
    _ ← unless (write_refusal writer space delete_type (primary_name index key))
    def ← the_unique_index space schema index
    primary ← the_primary schema
    asked ← the_key def key
    _ ← reads_of (key_read space index asked ∷ [])
    delete_found (entry_with before space primary def asked)
