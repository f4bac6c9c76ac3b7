-- What a database was when it was opened, and the node that may be written.
use Rattle.std.specs.Prelude.{ℕ, Bool, true, false, List, Option, Some, None, nat_lt, ◌==◌, if◌then◌else◌}
use Rattle.mx_vclock.specs.Vclocks.{max_lsn}
use Rattle.mx_base.specs.declared.refusal.Refusal.TheVariants.{OutOfMemory, LsnsUsedUp}
use Rattle.mx_base.specs.Refusals.{code_of}
use Rattle.mx_request.specs.Spelling.{IsAskable}
use Rattle.mx_request.specs.declared.request.Request.{Request}
use Rattle.mx_request.specs.declared.request.Request.TheVariants as request
use Rattle.mx_row.specs.declared.row.Row.{Row}
use Rattle.mx_row.specs.declared.tx.Tx.{Tx}
use Rattle.mx_schema.specs.State.{State}
use Rattle.mx_write.specs.Writes.{TupleIsBytes, write_in}
use Rattle.mx_model.specs.declared.ids.Ids.{Ids}
use Rattle.mx_model.specs.declared.reply.Reply.{Reply}
use Rattle.mx_model.specs.declared.reply.Reply.TheVariants.{Refused}
use Rattle.mx_model.specs.statements.Answer.{Answer, refusal_after}

-- what a database was when it was opened: its state, its vclock, its identifiers, and the transactions that its files had
pub record Base : Type 0 where
  pub state : State
  pub clock : List ℕ
  pub ids : Ids
  pub earlier : List Tx

-- the request can be asked, and has bytes alone
abbrev pub CanBeAsked : Request → Type 0
CanBeAsked asked = IsAskable asked × TupleIsBytes (write_in asked)

-- the reply is out of memory; such a step counts as not asked
abbrev pub is_out_of_memory : Reply → Bool
is_out_of_memory (Refused refusal) = code_of refusal == code_of OutOfMemory
is_out_of_memory _ = false

-- the replica id of the node that may be written
abbrev pub writable_node : ℕ
writable_node = 1

-- a request that writes
abbrev pub is_write : Request → Bool
is_write (request.Insert space tuple) = true
is_write (request.Replace space tuple) = true
is_write (request.Update space index base key ops) = true
is_write (request.Delete space index key) = true
is_write (request.Upsert space base tuple ops) = true
is_write _ = false

-- an answer that writes a row needs an lsn for it
abbrev pub with_lsn : (lsn : ℕ) → Answer → Option Row → Answer
with_lsn lsn answer None = answer
with_lsn lsn answer (Some row) = if nat_lt max_lsn lsn then refusal_after answer.reads LsnsUsedUp else answer
