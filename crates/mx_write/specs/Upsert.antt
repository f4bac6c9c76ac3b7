-- UPSERT.
use Rattle.std.specs.Prelude.{ℕ, List, [], ◌∷◌, Option, Some, None}
use Rattle.mx_row.specs.Rows.{upsert_type}
use Rattle.mx_schema.specs.declared.index_def.IndexDef.{IndexDef}
use Rattle.mx_schema.specs.declared.schema.Schema.{Schema}
use Rattle.mx_schema.specs.State.{State}
use Rattle.mx_update.specs.Updates.{upserted}
use Rattle.mx_write.specs.Checks.{tuple_fault}
use Rattle.mx_write.specs.Judged.{Judged, judged_as, reads_of, unless, ◌>>=◌}
use Rattle.mx_write.specs.Lookup.{other_indexes, own_key, the_index, the_space, tuple_under}
use Rattle.mx_write.specs.Reads.{key_read}
use Rattle.mx_write.specs.Made.{Made, made}
use Rattle.mx_write.specs.Writes.{Upsert}
use Rattle.mx_write.specs.Unique.{are_free}
use Rattle.mx_write.specs.Update.{put_in_place, the_operations, tuple_or_refusal}
use Rattle.mx_write.specs.declared.writable.Writer.{Writer}
use Rattle.mx_write.specs.Writable.{tuple_in_space, write_refusal}

module _ (writer : Writer) (before : State) (space base : ℕ) (tuple operations : List ℕ) where
  -- the tuple that has the primary key, after the operations; or the tuple itself, where there is none
  abbrev pub upsert_found : Schema → (primary : IndexDef) → Option (List ℕ) → Judged Made
  upsert_found schema primary None = do
    _ ← are_free before space schema primary (Some (own_key primary tuple)) tuple (other_indexes schema.indexes)
    made space (Upsert base tuple operations) (own_key primary tuple) (Some tuple) []
  upsert_found schema primary (Some old) = do
    applied ← the_operations operations
    new ← judged_as (tuple_in_space writer space (tuple_or_refusal (upserted base old applied)))
    put_in_place before space schema primary (Upsert base tuple operations) (own_key primary tuple) new []

  -- the tuple is inserts, or the one that has its primary key is changed by the operations that can be applied to it
  unfoldable pub upserts : Judged Made
  upserts = do
    schema ← the_space before space
    _ ← unless (write_refusal writer space upsert_type (Some tuple))
    primary ← the_index space schema 0
    _ ← unless (tuple_fault schema primary tuple)
    _ ← reads_of (key_read space 0 (own_key primary tuple) ∷ [])
    upsert_found schema primary (tuple_under before space (own_key primary tuple))
