-- What a statement answers: a reply, what it writes to the journal and changes, and what it read.
use Rattle.std.specs.Prelude.{ℕ, List, [], Option, None}
use Rattle.mx_base.specs.declared.refusal.Refusal.{Refusal}
use Rattle.mx_base.specs.declared.refusal.Refusal.TheVariants.{UnknownRequestType}
use Rattle.mx_request.specs.declared.request.Request.{Request}
use Rattle.mx_request.specs.Spelling.{type_number}
use Rattle.mx_row.specs.declared.row.Row.{Row}
use Rattle.mx_write.specs.Reads.{Read}
use Rattle.mx_model.specs.declared.reply.Reply.{Reply}
use Rattle.mx_model.specs.declared.reply.Reply.TheVariants.{Tuples, Refused}
use Rattle.mx_write.specs.Change.{Change}

-- a reply, what the statement writes to the journal, what that changes, and what it read, in order
pub record Answer : Type 0 where
  pub reply : Reply
  pub row : Option Row
  pub change : Option Change
  pub reads : List Read

-- a reply that writes nothing and read nothing
abbrev pub reply_alone : Reply → Answer
reply_alone reply = record { reply = reply; row = None; change = None; reads = [] }

-- a refusal, after these reads
abbrev pub refusal_after : List Read → Refusal → Answer
refusal_after reads refusal = record { reply = Refused refusal; row = None; change = None; reads = reads }

-- tuples that were found, after these reads
abbrev pub tuples_after : List Read → List (List ℕ) → Answer
tuples_after reads tuples = record { reply = Tuples tuples; row = None; change = None; reads = reads }

abbrev pub refusal_alone : Refusal → Answer
refusal_alone refusal = refusal_after [] refusal

-- what isn't built yet is refused as if its type were unknown
abbrev pub not_built : Request → Answer
not_built request = refusal_alone (UnknownRequestType (type_number request))
