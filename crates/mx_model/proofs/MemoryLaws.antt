-- Where a statement may lack memory: the node takes it, and no conflict is told.
use Rattle.std.proofs.Common.{◌≡◌, ℕ, ◌+◌, Bool, true, false, not, ◌&&◌, Option, Some, None, refl, ap}
use Rattle.std.specs.Prelude.{nat_lt, slice_index, ◌==◌, if◌then◌else◌}
use Rattle.mx_base.specs.declared.kinds.Unsupported.TheVariants.{SchemaInTransaction}
use Rattle.mx_base.specs.declared.refusal.Refusal.{Refusal}
use Rattle.mx_base.specs.declared.refusal.Refusal.TheVariants.{Conflict, LsnsUsedUp, ReadOnly, Unsupported}
use Rattle.mx_row.specs.declared.row.Row.{Row}
use Rattle.mx_row.specs.Clocks.{clock_after}
use Rattle.mx_vclock.specs.Vclocks.{max_lsn}
use Rattle.mx_model.specs.declared.reply.Reply.{Reply}
use Rattle.mx_model.specs.declared.reply.Reply.TheVariants.{Refused}
use Rattle.mx_model.specs.Bases.{with_lsn, writable_node}
use Rattle.mx_model.specs.RunAlone.{Run, answer_in_run, statement_answer, writes}
use Rattle.mx_model.specs.Streams.{Streams, needs_no_memory, statement_may_lack, states_alone, states_alone_by}
use Rattle.mx_model.specs.Transactions.{state_after}
use Rattle.mx_model.specs.statements.Answer.{Answer, refusal_after}
use Rattle.mx_model.specs.statements.Statement.{Statement}
use Rattle.mx_model.proofs.ConflictAnswers.{TellsOwn, further_own, statement_own}
use Rattle.mx_model.proofs.ConflictStages.{is_reserved}

own_needs : (reply : Reply) → TellsOwn reply → needs_no_memory reply ≡ false
own_needs (Refused why) own = by_refusal why own
  where
    by_refusal : (why : Refusal) → is_reserved why ≡ false → needs_no_memory (Refused why) ≡ false
    by_refusal Conflict own = absurd cc
    by_refusal (ReadOnly node) own = absurd cc
    by_refusal (Unsupported SchemaInTransaction) own = absurd cc
    by_refusal why own = refl
own_needs reply own = refl

-- a statement's own reply
pub own_may_lack : (reply : Reply) → TellsOwn reply → not (needs_no_memory reply) ≡ true
own_may_lack reply own = ap not (own_needs reply own)

-- a statement by itself
pub alone_may_lack : (streams : Streams) (statement : Statement) → (writes statement.operation && not (streams.base.ids.me == writable_node)) ≡ false
    → statement_may_lack (states_alone streams statement) ≡ true
alone_may_lack streams statement taken = by_row answer.row
  where
    answer : Answer
    answer = statement_answer streams.base.ids (state_after streams.base.state streams.journal) statement

    last : ℕ
    last = slice_index (clock_after streams.base.clock streams.journal) streams.base.ids.me + 1

    own : not (needs_no_memory answer.reply) ≡ true
    own = own_may_lack answer.reply (statement_own streams.base.ids (state_after streams.base.state streams.journal) statement taken)

    by_test : (above : Bool) → statement_may_lack (states_alone_by streams (if above then refusal_after answer.reads LsnsUsedUp else answer)) ≡ true
    by_test true = refl
    by_test false = own

    by_row : (row : Option Row) → statement_may_lack (states_alone_by streams (with_lsn last answer row)) ≡ true
    by_row None = own
    by_row (Some row) = by_test (nat_lt max_lsn last)

-- a further statement of a transaction
pub further_may_lack : (streams : Streams) (run : Run) (statement : Statement) → (writes statement.operation && not (streams.base.ids.me == writable_node)) ≡ false
    → not (needs_no_memory (answer_in_run streams.base.ids run statement).reply) ≡ true
further_may_lack streams run statement taken =
    own_may_lack (answer_in_run streams.base.ids run statement).reply (further_own streams.base.ids run statement taken)
