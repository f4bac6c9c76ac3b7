-- The writes: INSERT, REPLACE, UPDATE, DELETE and UPSERT, by what each is judged to come to.
use Rattle.std.specs.Prelude.{ℕ, List, Result, Ok, Err}
use Rattle.mx_base.specs.declared.refusal.Refusal.{Refusal}
use Rattle.mx_schema.specs.State.{State}
use Rattle.mx_write.specs.declared.writable.Writer.TheVariants.{Client}
use Rattle.mx_write.specs.Judge.{judged_write}
use Rattle.mx_write.specs.Judged.{Judged}
use Rattle.mx_write.specs.Made.{Made}
use Rattle.mx_write.specs.Reads.{Read}
use Rattle.mx_write.specs.Writes.{Write}
use Rattle.mx_model.specs.declared.reply.Reply.TheVariants.{Tuples}
use Rattle.mx_model.specs.statements.Answer.{Answer, refusal_after}

-- the answer by what a write came to, after these reads
abbrev pub answer_of_outcome : List Read → Result Made Refusal → Answer
answer_of_outcome reads (Ok made) = record { reply = Tuples made.shown; row = made.row; change = made.change; reads = reads }
answer_of_outcome reads (Err refusal) = refusal_after reads refusal

abbrev pub answer_of : Judged Made → Answer
answer_of judged = answer_of_outcome judged.reads judged.outcome

-- a client's write in this state
abbrev pub write_answer_in : State → (space : ℕ) → Write → Answer
write_answer_in before space write = answer_of (judged_write Client before space write)
