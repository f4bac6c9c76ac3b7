-- What requests were told, and where they may have run out of memory.
use Rattle.std.proofs.Common.{◌≡◌, inl, inr, Bool, true, false, not, ◌&&◌, List, [], ◌∷◌, Option, Some, None, refl, ap, ◌∙◌}
use Rattle.std.specs.Prelude.{◌≢◌, is_some, nat_lt, ◌==◌, if◌then◌else◌}
use Rattle.std.proofs.lemmas.Bool.{and_parts}
use Rattle.mx_base.specs.Keys.{stream_key}
use Rattle.mx_base.specs.declared.ids.TxnName.{TxnName}
use Rattle.mx_base.specs.declared.refusal.Refusal.TheVariants.{IllegalValue, LsnsUsedUp, OutOfMemory, ReadOnly}
use Rattle.mx_request.specs.declared.request.Request.{Request}
use Rattle.mx_request.specs.declared.request.Request.TheVariants as request
use Rattle.mx_row.specs.declared.row.Row.{Row}
use Rattle.mx_vclock.specs.Vclocks.{max_lsn}
use Rattle.mx_write.specs.Writable.{describes_schema}
use Rattle.mx_model.specs.declared.reply.Reply.{Reply}
use Rattle.mx_model.specs.declared.reply.Reply.TheVariants.{Empty, Refused}
use Rattle.mx_model.specs.Bases.{is_out_of_memory, writable_node}
use Rattle.mx_model.specs.Overlaps.{Active, Doomed, Standing, Transaction, View, is_some_row, standing, statements_in}
use Rattle.mx_model.specs.RunAlone.{answer_alone, writes}
use Rattle.mx_model.specs.StreamHistories.{Requested, streams_with}
use Rattle.mx_model.specs.Streams.{Ends, Goes, IsTold, Outcome, Streams, becomes_told, commits, commits_rows, commits_standing, ends_told, may_lack_memory, needs_no_memory, outcome_of, state_read, statement_may_lack, step_of, streams_after, told_alone, told_as, transaction_named}
use Rattle.mx_model.specs.statements.Statement.{Statement, statement_of}
use Rattle.mx_model.proofs.ConflictAnswers.{statement_kept}
use Rattle.mx_model.proofs.DemandedReplies.{demanded_memory}
use Rattle.mx_model.proofs.RecordedReplies.{told_well}

-- a request that was told what is demanded comes to its outcome
pub comes_to_outcome : (streams : Streams) (name : TxnName) (asked : Request) (reply : Reply) → IsTold streams name asked reply → is_out_of_memory reply ≡ false
    → streams_with streams (Requested name asked reply) ≡ streams_after streams name (outcome_of streams name asked)
comes_to_outcome streams name asked reply told has =
    ap (λ (lacks : Bool). if lacks then streams else streams_after streams name (told_as reply (outcome_of streams name asked))) has
    ∙ ap (streams_after streams name) (told_well streams name asked reply told has)

-- a statement is kept with whatever it was told
pub kept_as_told : (streams : Streams) (name : TxnName) (transaction : Transaction) → transaction_named name streams.transactions ≡ Some transaction
    → (asked : Request) (statement : Statement) → statement_of asked ≡ Some statement → (writes statement.operation && describes_schema statement.space) ≡ false
    → (reply : Reply) → (told_as reply (outcome_of streams name asked)).becomes
    ≡ Goes (step_of streams statement (answer_alone streams.base.ids (state_read streams transaction) statement (statements_in transaction.steps)) reply)
kept_as_told streams name transaction named asked statement is plain reply = ap (becomes_told reply) (statement_kept streams name transaction named asked statement is plain)

module _ (streams : Streams) (name : TxnName) where
  -- ---- a COMMIT of rows is acknowledged

  abbrev IsAcknowledged : Outcome → Type 0
  IsAcknowledged outcome = is_some_row outcome.rows ≡ true → outcome.reply ≡ Empty

  rows_acknowledged : (rows : List Row) → IsAcknowledged (commits_rows streams rows)
  rows_acknowledged [] = λ some. refl
  rows_acknowledged (row ∷ rows) = by_tests (not (streams.base.ids.me == writable_node)) (nat_lt max_lsn _)
    where
      by_tests : (refuses above : Bool)
          → IsAcknowledged (if refuses then ends_told (Refused (ReadOnly (record { 0 = writable_node }))) else if above then ends_told (Refused LsnsUsedUp)
          else record { reply = Empty; rows = row ∷ rows; becomes = Ends })
      by_tests true above = λ some. absurd cc
      by_tests false true = λ some. absurd cc
      by_tests false false = λ some. refl

  commits_acknowledged : (present : Option Transaction) → IsAcknowledged (commits streams present)
  commits_acknowledged None = λ some. refl
  commits_acknowledged (Some transaction) = by_standing (standing streams.base.ids streams.base.state streams.journal false transaction)
    where
      by_standing : (how : Standing) → IsAcknowledged (commits_standing streams transaction how)
      by_standing Active = rows_acknowledged _
      by_standing (View place) = rows_acknowledged _
      by_standing Doomed = λ some. absurd cc

  commit_acknowledged : IsAcknowledged (outcome_of streams name request.Commit)
  commit_acknowledged = by_test (name.stream.0 == 0)
    where
      by_test : (b : Bool) → IsAcknowledged (if b then told_alone (Refused (IllegalValue stream_key)) else commits streams (transaction_named name streams.transactions))
      by_test true = λ some. absurd cc
      by_test false = commits_acknowledged (transaction_named name streams.transactions)

  -- ---- out of memory

  abbrev LacksMemory : Request → Type 0
  LacksMemory asked = IsTold streams name asked (Refused OutOfMemory)

  may_have_lacked : (asked : Request) → LacksMemory asked → may_lack_memory asked (outcome_of streams name asked) ≡ true
  may_have_lacked asked (inl told) = let wrong : true ≡ false = ap is_out_of_memory told ∙ demanded_memory streams name asked in absurd cc
  may_have_lacked asked (inr (may, told)) = may

  -- a COMMIT has rows, and would have been acknowledged
  pub commit_lacked : LacksMemory request.Commit → (is_some_row (outcome_of streams name request.Commit).rows ≡ true) × ((outcome_of streams name request.Commit).reply ≡ Empty)
  commit_lacked lacked = let some = may_have_lacked request.Commit lacked in (some, commit_acknowledged some)

  statement_parts : (asked : Request) → asked ≢ request.Commit → LacksMemory asked
      → (is_some (statement_of asked) ≡ true) × (not (needs_no_memory (outcome_of streams name asked).reply) ≡ true)
  statement_parts request.Commit no_commit lacked = absurd (no_commit refl)
  statement_parts other no_commit lacked = and_parts (is_some (statement_of other)) (statement_may_lack (outcome_of streams name other)) (may_have_lacked other lacked)

  -- any other request is a statement
  pub statement_lacked : (asked : Request) → asked ≢ request.Commit → LacksMemory asked → is_some (statement_of asked) ≡ true
  statement_lacked asked no_commit lacked = (statement_parts asked no_commit lacked).0

  needs_some : (b : Bool) → not b ≡ true → b ≡ false
  needs_some true is = absurd cc
  needs_some false is = refl

  -- and the reply in whose place it was told so isn't one that needs none
  pub reply_lacked : (asked : Request) → LacksMemory asked → needs_no_memory (outcome_of streams name asked).reply ≡ false
  reply_lacked request.Commit lacked = ap needs_no_memory (commit_lacked lacked).1
  reply_lacked other lacked = needs_some (needs_no_memory (outcome_of streams name other).reply) (statement_parts other (λ is. absurd cc) lacked).1
