-- What each write comes to, and what a row of a journal comes to, judged as the write that it is.
use Rattle.std.specs.Prelude.{ℕ, Option, Some, None, Result, Ok, Err}
use Rattle.mx_base.specs.declared.refusal.Refusal.{Refusal}
use Rattle.mx_row.specs.declared.row.Row.{Row}
use Rattle.mx_schema.specs.State.{State}
use Rattle.mx_write.specs.declared.writable.Writer.{Writer}
use Rattle.mx_write.specs.declared.writable.Writer.TheVariants.{Journal}
use Rattle.mx_write.specs.Change.{Change}
use Rattle.mx_write.specs.Judged.{Judged}
use Rattle.mx_write.specs.Made.{Made, write_of}
use Rattle.mx_write.specs.Writes.{Write, Insert, Replace, Update, Delete, Upsert}
use Rattle.mx_write.specs.Insert.{inserts}
use Rattle.mx_write.specs.Replace.{replaces}
use Rattle.mx_write.specs.Update.{updates}
use Rattle.mx_write.specs.Delete.{deletes}
use Rattle.mx_write.specs.Upsert.{upserts}

-- what a write comes to in a space
abbrev pub judged_write : Writer → State → (space : ℕ) → Write → Judged Made
judged_write writer before space (Insert tuple) = inserts writer before space tuple
judged_write writer before space (Replace tuple) = replaces writer before space tuple
judged_write writer before space (Update index base key operations) = updates writer before space index base key operations
judged_write writer before space (Delete index key) = deletes writer before space index key
judged_write writer before space (Upsert base tuple operations) = upserts writer before space base tuple operations

-- what a row comes to
abbrev pub judged_row : State → Row → Judged Made
judged_row before row = judged_write Journal before row.space.0 (write_of row)

abbrev pub refusal_in : Result Made Refusal → Option Refusal
refusal_in (Ok made) = None
refusal_in (Err refusal) = Some refusal

-- why a state refuses a row
abbrev pub row_refusal : State → Row → Option Refusal
row_refusal before row = refusal_in (judged_row before row).outcome

abbrev pub change_in : Result Made Refusal → Option Change
change_in (Ok made) = made.change
change_in (Err refusal) = None

-- what a row changes of a state, which is nothing where the state refuses it
abbrev pub row_change : State → Row → Option Change
row_change before row = change_in (judged_row before row).outcome
