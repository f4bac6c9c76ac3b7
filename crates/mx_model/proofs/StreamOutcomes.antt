-- What requests in streams are told, case by case.
use Rattle.std.proofs.Common.{arith, ◌≡◌, ℕ, pred, ◌||◌, ◌+◌, ◌<◌, ◌≤◌, Bool, true, false, not, ◌&&◌, List, [], ◌∷◌, length, Option, Some, None, refl, sym, ap, ◌∙◌}
use Rattle.std.specs.Prelude.{nat_le, nat_lt, slice_index, ◌==◌, if◌then◌else◌}
use Rattle.std.proofs.lemmas.Bool.{eqb-true, le-leb}
use Rattle.std.proofs.lemmas.Bool.Decides.{nat_tests}
use Rattle.std.specs.Option.{option_to_list}
use Rattle.mx_base.specs.Keys.{stream_key}
use Rattle.mx_base.specs.declared.ids.TxnName.{TxnName}
use Rattle.mx_base.specs.declared.kinds.Unsupported.TheVariants.{SchemaInTransaction}
use Rattle.mx_base.specs.declared.refusal.Refusal.TheVariants.{AllOfConnectionOpen, AllTransactionsOpen, Conflict, IllegalValue, LsnsUsedUp, ReadOnly, TransactionOpen, Unsupported}
use Rattle.mx_row.specs.declared.row.Row.{Row}
use Rattle.mx_row.specs.Clocks.{clock_after}
use Rattle.mx_schema.specs.State.{State}
use Rattle.mx_vclock.specs.Vclocks.{max_lsn}
use Rattle.mx_write.specs.Writable.{describes_schema}
use Rattle.mx_model.specs.declared.reply.Reply.TheVariants.{Empty, Refused}
use Rattle.mx_model.specs.Answers.{answer_in_space}
use Rattle.mx_model.specs.Bases.{with_lsn, writable_node}
use Rattle.mx_model.specs.Overlaps.{Active, Doomed, Standing, Transaction, View, doomed_or_view, has_row, has_schema_commit_since, has_written_since, is_some_row, overlap_of, place_by, standing, standing_by, state_after_first, statements_in}
use Rattle.mx_model.specs.RunAlone.{answer_alone, run_alone, statement_answer, writes}
use Rattle.mx_model.specs.Streams.{Ends, Opens, Outcome, Stays, Streams, begins_beside, commits_rows, commits_standing, ends_told, in_stream, max_transactions, max_transactions_of_connection, of_connection, standing_now, state_read, states_alone, states_alone_by, states_in, states_standing, told_alone, transaction_named}
use Rattle.mx_model.specs.Transactions.{state_after}
use Rattle.mx_model.specs.statements.Answer.{Answer, refusal_after, refusal_alone}
use Rattle.mx_model.specs.statements.Statement.{Operation, Selects, Statement, Writes}
use Rattle.mx_model.specs.statements.Select.{iterator_of}
use Rattle.mx_model.proofs.AlonePlaces.{never_overlapped, whole_state}
use Rattle.mx_model.proofs.AnswerLaws.{select_no_row}

-- ---- BEGIN and the others without a stream

module _ (streams : Streams) (name : TxnName) where
  abbrev no_stream : Outcome
  no_stream = told_alone (Refused (IllegalValue stream_key))

  pub without_stream : (outcome : Outcome) → (name.stream.0 == 0) ≡ true → in_stream name outcome ≡ no_stream
  without_stream outcome none = ap (λ b. if b then no_stream else outcome) none

  pub with_stream : (outcome : Outcome) → (name.stream.0 == 0) ≡ false → in_stream name outcome ≡ outcome
  with_stream outcome some = ap (λ b. if b then no_stream else outcome) some

  abbrev begun : Option Transaction → Outcome
  begun present = begins_beside streams.transactions name.conn.0 present

  pub begins_open : (one : Transaction) → transaction_named name streams.transactions ≡ Some one → begun (transaction_named name streams.transactions) ≡ told_alone (Refused TransactionOpen)
  begins_open one is = ap begun is

  abbrev by_counts : (of_this of_all : Bool) → Outcome
  by_counts of_this of_all =
      if of_this then told_alone (Refused AllOfConnectionOpen) else if of_all then told_alone (Refused AllTransactionsOpen) else record { reply = Empty; rows = []; becomes = Opens }

  abbrev are_full : Bool
  are_full = nat_le max_transactions (length streams.transactions)

  pub begins_full : nat_le max_transactions_of_connection (length (of_connection name.conn.0 streams.transactions)) ≡ true → begun None ≡ told_alone (Refused AllOfConnectionOpen)
  begins_full this = ap (λ t. by_counts t are_full) this

  pub begins_all_full : nat_le max_transactions_of_connection (length (of_connection name.conn.0 streams.transactions)) ≡ false → are_full ≡ true
      → begun None ≡ told_alone (Refused AllTransactionsOpen)
  begins_all_full this all = ap (λ t. by_counts t are_full) this ∙ ap (by_counts false) all

  pub begins_new : nat_le max_transactions_of_connection (length (of_connection name.conn.0 streams.transactions)) ≡ false → are_full ≡ false
      → begun None ≡ record { reply = Empty; rows = []; becomes = Opens }
  begins_new this all = ap (λ t. by_counts t are_full) this ∙ ap (by_counts false) all

-- ---- what a COMMIT is told

no_rows : (rows : List Row) → is_some_row rows ≡ false → rows ≡ []
no_rows [] none = refl
no_rows (row ∷ rows) none = absurd cc

rowless : (has_row has_written has_schema : Bool) (at place : ℕ) → doomed_or_view (has_row || has_written || false || has_schema) at ≡ View place → has_row ≡ false
rowless true has_written has_schema at place is = absurd cc
rowless false has_written has_schema at place is = refl

module _ (streams : Streams) (one : Transaction) where
  abbrev base_state : State
  base_state = streams.base.state

  abbrev stands_now : Standing
  stands_now = standing streams.base.ids base_state streams.journal false one

  abbrev rows_read : List Row
  rows_read = (run_alone streams.base.ids (state_read streams one) (statements_in one.steps)).rows

  view_rows : (place : ℕ) → stands_now ≡ View place → rows_read ≡ []
  view_rows place = by_overlap (overlap_of base_state streams.journal one)
    where
      by_overlap : (overlap : Option ℕ) → standing_by streams.base.ids base_state streams.journal false one.steps overlap ≡ View place
          → (run_alone streams.base.ids (state_after_first base_state streams.journal (place_by (length streams.journal) overlap)) (statements_in one.steps)).rows ≡ []
      by_overlap None is = absurd cc
      by_overlap (Some number) is =
          no_rows _
          (rowless (has_row streams.base.ids base_state streams.journal (pred number) one.steps) (has_written_since number one.steps) (has_schema_commit_since number streams.journal) (pred number)
          place is)

  -- one that is overlapped has nothing to commit
  pub commits_view : (place : ℕ) → View place ≡ stands_now → commits_standing streams one stands_now ≡ ends_told Empty
  commits_view place is =
      ap (commits_standing streams one) (sym is) ∙ ap (λ (rows : List Row). commits_rows streams rows) (view_rows place (sym is))

  pub commits_doomed : Doomed ≡ stands_now → commits_standing streams one stands_now ≡ ends_told (Refused Conflict)
  commits_doomed is = ap (commits_standing streams one) (sym is)

  -- one that isn't commits what it does on the newest state
  pub commits_active : Active ≡ stands_now
      → commits_standing streams one stands_now ≡ commits_rows streams (run_alone streams.base.ids (state_after base_state streams.journal) (statements_in one.steps)).rows
  commits_active is =
      ap (commits_standing streams one) (sym is)
      ∙ ap (λ (s : State). commits_rows streams (run_alone streams.base.ids s (statements_in one.steps)).rows)
      (ap (λ overlap. state_after_first base_state streams.journal (place_by (length streams.journal) overlap)) (never_overlapped streams.base.ids base_state streams.journal one (sym is))
      ∙ whole_state base_state streams.journal)

-- the rows of a COMMIT
module _ (streams : Streams) (row : Row) (rows : List Row) where
  abbrev commits_by : (refuses above : Bool) → Outcome
  commits_by refuses above =
      if refuses then ends_told (Refused (ReadOnly (record { 0 = writable_node }))) else if above then ends_told (Refused LsnsUsedUp)
      else record { reply = Empty; rows = row ∷ rows; becomes = Ends }

  abbrev last_lsn_of : ℕ
  last_lsn_of = slice_index (clock_after streams.base.clock streams.journal) streams.base.ids.me + length (row ∷ rows)

  pub commits_read_only : not (streams.base.ids.me == writable_node) ≡ true → commits_rows streams (row ∷ rows) ≡ ends_told (Refused (ReadOnly (record { 0 = writable_node })))
  commits_read_only refuses = ap (λ b. commits_by b (nat_lt max_lsn last_lsn_of)) refuses

  pub commits_used_up : not (streams.base.ids.me == writable_node) ≡ false → nat_lt max_lsn last_lsn_of ≡ true → commits_rows streams (row ∷ rows) ≡ ends_told (Refused LsnsUsedUp)
  commits_used_up refuses above = ap (λ b. commits_by b (nat_lt max_lsn last_lsn_of)) refuses ∙ ap (commits_by false) above

  pub commits_all : not (streams.base.ids.me == writable_node) ≡ false → nat_lt max_lsn last_lsn_of ≡ false
      → commits_rows streams (row ∷ rows) ≡ record { reply = Empty; rows = row ∷ rows; becomes = Ends }
  commits_all refuses above = ap (λ b. commits_by b (nat_lt max_lsn last_lsn_of)) refuses ∙ ap (commits_by false) above

-- ---- what a statement by itself is told

is_node : (me node : ℕ) → not (me == node) ≡ false → me ≡ node
is_node me node same = by_test (me == node) refl same
  where
    by_test : (b : Bool) → (me == node) ≡ b → not b ≡ false → me ≡ node
    by_test true is none = eqb-true me node is
    by_test false is none = absurd cc

module _ (streams : Streams) (statement : Statement) where
  abbrev newest : State
  newest = state_after streams.base.state streams.journal

  abbrev newest_answer : Answer
  newest_answer = statement_answer streams.base.ids newest statement

  abbrev next_of : ℕ
  next_of = slice_index (clock_after streams.base.clock streams.journal) streams.base.ids.me + 1

  abbrev by_row : Option Row → Outcome
  by_row row = states_alone_by streams (with_lsn next_of newest_answer row)

  pub alone_unwritten : newest_answer.row ≡ None → states_alone streams statement ≡ told_alone newest_answer.reply
  alone_unwritten none = ap by_row none ∙ ap (λ row. record { reply = newest_answer.reply; rows = option_to_list row; becomes = Stays }) none

  pub alone_used_up : (row : Row) → newest_answer.row ≡ Some row → nat_lt max_lsn next_of ≡ true → states_alone streams statement ≡ told_alone (Refused LsnsUsedUp)
  alone_used_up row some above =
      ap by_row some ∙ ap (λ b. states_alone_by streams (if b then refusal_after newest_answer.reads LsnsUsedUp else newest_answer)) above

  pub alone_written : (row : Row) → newest_answer.row ≡ Some row → nat_lt max_lsn next_of ≡ false
      → states_alone streams statement ≡ record { reply = newest_answer.reply; rows = row ∷ []; becomes = Stays }
  alone_written row some above =
      ap by_row some ∙ ap (λ b. states_alone_by streams (if b then refusal_after newest_answer.reads LsnsUsedUp else newest_answer)) above
      ∙ ap (λ r. record { reply = newest_answer.reply; rows = option_to_list r; becomes = Stays }) some

  -- only the writable node has a row
  pub row_writable : (row : Row) → newest_answer.row ≡ Some row → streams.base.ids.me ≡ writable_node
  row_writable row some = by_operation statement.operation (not (streams.base.ids.me == writable_node)) refl some
    where
      by_operation : (operation : Operation) (refuses : Bool) → not (streams.base.ids.me == writable_node) ≡ refuses
          → (if writes operation && refuses then refusal_alone (ReadOnly (record { 0 = writable_node })) else answer_in_space newest statement.space operation).row ≡ Some row
          → streams.base.ids.me ≡ writable_node
      by_operation (Selects index limit offset iterator key) refuses node is =
          let none : None ≡ Some row = sym (select_no_row newest statement.space index limit offset (iterator_of iterator) key) ∙ is in absurd cc
      by_operation (Writes write) true node is = absurd cc
      by_operation (Writes write) false node is = is_node streams.base.ids.me writable_node node

module _ (streams : Streams) (one : Transaction) (statement : Statement) where
  abbrev unless_refused : Bool → Outcome
  unless_refused refused =
      if refused then told_alone (Refused (Unsupported SchemaInTransaction))
      else states_standing streams statement (answer_alone streams.base.ids (state_read streams one) statement (statements_in one.steps)) (standing_now streams (writes statement.operation) one)

  pub schema_refused : (writes statement.operation && describes_schema statement.space) ≡ true → states_in streams one statement ≡ told_alone (Refused (Unsupported SchemaInTransaction))
  schema_refused refused = ap unless_refused refused

  pub schema_passed : (writes statement.operation && describes_schema statement.space) ≡ false
      → states_in streams one statement
      ≡ states_standing streams statement (answer_alone streams.base.ids (state_read streams one) statement (statements_in one.steps)) (standing_now streams (writes statement.operation) one)
  schema_passed passed = ap unless_refused passed

pub no_row_where : (rows : List Row) → length rows ≡ 0 → rows ≡ []
no_row_where [] none = refl
no_row_where (row ∷ rows) none = absurd (omega (arith, none))

pub some_row_where : (rows : List Row) → (length rows ≡ 0 → ⊥) → (row : Row) × (rest : List Row) × (rows ≡ row ∷ rest)
some_row_where [] some = absurd (some refl)
some_row_where (row ∷ rows) some = (row, rows, refl)

pub no_stream_test : (n : ℕ) → n ≡ 0 → (n == 0) ≡ true
no_stream_test n none = ap (λ m. m == 0) none

-- at least, and fewer
pub at_least : (most count : ℕ) → most ≤ count → nat_le most count ≡ true
at_least most count enough = le-leb most count enough

pub fewer : (most count : ℕ) → count < most → nat_le most count ≡ false
fewer most count few = grind (arith, nat_tests, few)
