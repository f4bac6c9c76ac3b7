-- What a clause sees of an answer.
use Rattle.std.specs.Prelude.{ℕ, List, Result, Ok, Err}
use Rattle.mx_base.specs.declared.refusal.Refusal.{Refusal}
use Rattle.mx_model.specs.declared.reply.Reply.{Reply}
use Rattle.mx_model.specs.declared.reply.Reply.TheVariants as reply
use Rattle.mx_engine.specs.declared.answer.Answer.{Answer}
use Rattle.mx_engine.specs.declared.answer.Answer.TheVariants.{Tuples, Empty, Id}
use Rattle.mx_engine.specs.declared.answer.Answered.{Answered}
use Rattle.mx_engine.specs.declared.answer.Answered.TheVariants as answered

-- the reply that an answer or a refusal is
abbrev pub reply_view : Result Answer Refusal → Reply
reply_view (Ok (Tuples tuples)) = reply.Tuples tuples
reply_view (Ok Empty) = reply.Empty
reply_view (Ok Id) = reply.Id
reply_view (Err refusal) = reply.Refused refusal

-- the reply that this answer is with these tuples, or that a refusal is
abbrev pub reply_of : Result Answered Refusal → List (List ℕ) → Reply
reply_of (Ok answered.Tuples) tuples = reply.Tuples tuples
reply_of (Ok answered.Empty) tuples = reply.Empty
reply_of (Ok answered.Id) tuples = reply.Id
reply_of (Err refusal) tuples = reply.Refused refusal
