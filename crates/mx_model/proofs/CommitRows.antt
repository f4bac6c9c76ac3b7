-- The rows of a COMMIT are those of the transaction's statements, run alone on the newest state.
use Rattle.std.proofs.Common.{Bool, List, None, Option, Some, [], ap, false, length, map, not, pred, refl, sym, true, ℕ, ◌≡◌, ◌∷◌, ◌∙◌}
use Rattle.std.specs.Prelude.{nat_lt, if◌then◌else◌, ◌||◌, ◌==◌}
use Rattle.mx_base.specs.Keys.{stream_key}
use Rattle.mx_base.specs.declared.ids.TxnName.{TxnName}
use Rattle.mx_base.specs.declared.refusal.Refusal.TheVariants.{IllegalValue, LsnsUsedUp, ReadOnly}
use Rattle.mx_model.specs.Alone.{StandsAlone}
use Rattle.mx_model.specs.Bases.{writable_node}
use Rattle.mx_model.specs.Overlaps.{Active, Doomed, Standing, TransactionStep, Transaction, View, doomed_or_view, has_row, has_schema_commit_since, has_written_since, is_some_row, overlap_of, place_by, place_read, standing, standing_by, state_after_first, statements_in}
use Rattle.mx_model.specs.RunAlone.{run_alone}
use Rattle.mx_model.specs.Streams.{Ends, Streams, commits, commits_rows, commits_standing, ends_told, outcome_of, state_read, told_alone, transaction_named, Outcome}
use Rattle.mx_model.specs.Transactions.{state_after}
use Rattle.mx_model.specs.declared.ids.Ids.{Ids}
use Rattle.mx_model.specs.declared.reply.Reply.TheVariants.{Empty, Refused}
use Rattle.mx_model.specs.statements.Answer.{Answer}
use Rattle.mx_row.specs.declared.row.Row.{Row}
use Rattle.mx_row.specs.declared.tx.Tx.{Tx}
use Rattle.mx_schema.specs.State.{State}
use Rattle.mx_vclock.specs.Vclocks.{max_lsn}
use Rattle.mx_model.proofs.AlonePlaces.{active_alone, whole_state}
use Rattle.mx_request.specs.declared.request.Request.TheVariants as request

-- a transaction that committed these rows isn't overlapped: it was answered alone on the newest state, and these are its rows
pub record CommitsAlone (ids : Ids) (base : State) (journal : List Tx) (transaction : Transaction) (rows : List Row) : Type 0 where
  pub active : standing ids base journal false transaction ≡ Active
  pub newest : place_read base journal transaction ≡ length journal
  pub replies : map (λ (step : TransactionStep). step.reply) transaction.steps
      ≡ map (λ (answer : Answer). answer.reply) (run_alone ids (state_after base journal) (statements_in transaction.steps)).answers
  pub same_rows : rows ≡ (run_alone ids (state_after base journal) (statements_in transaction.steps)).rows

no_rows : (rows : List Row) → is_some_row rows ≡ false → rows ≡ []
no_rows [] none = refl
no_rows (row ∷ rows) none = absurd cc

module _ (streams : Streams) (name : TxnName) (transaction : Transaction) (alone : StandsAlone streams.base.ids streams.base.state streams.journal transaction) where
  abbrev ids : Ids
  ids = streams.base.ids

  abbrev base : State
  base = streams.base.state

  abbrev journal : List Tx
  journal = streams.journal

  -- where rows are committed, they are all that there are
  all_rows : (rows : List Row) (row : Row) (others : List Row) → (commits_rows streams rows).rows ≡ row ∷ others → row ∷ others ≡ rows
  all_rows [] row others is = absurd cc
  all_rows (first ∷ rest) row others is = by_tests (not (ids.me == writable_node)) (nat_lt max_lsn _) is
    where
      by_tests : (refuses above : Bool)
          → (if refuses then ends_told (Refused (ReadOnly (record { 0 = writable_node }))) else if above then ends_told (Refused LsnsUsedUp)
          else record { reply = Empty; rows = first ∷ rest; becomes = Ends }).rows ≡ row ∷ others → row ∷ others ≡ first ∷ rest
      by_tests true above is = absurd cc
      by_tests false true is = absurd cc
      by_tests false false is = sym is

  -- and so they are where COMMIT is acknowledged
  rows_told : (rows : List Row) → (commits_rows streams rows).reply ≡ Empty → (commits_rows streams rows).rows ≡ rows
  rows_told [] told = refl
  rows_told (first ∷ rest) told = by_tests (not (ids.me == writable_node)) (nat_lt max_lsn _) told
    where
      by_outcome : (refuses above : Bool) → Outcome
      by_outcome refuses above =
          if refuses then ends_told (Refused (ReadOnly (record { 0 = writable_node }))) else if above then ends_told (Refused LsnsUsedUp)
          else record { reply = Empty; rows = first ∷ rest; becomes = Ends }

      by_tests : (refuses above : Bool) → (by_outcome refuses above).reply ≡ Empty → (by_outcome refuses above).rows ≡ first ∷ rest
      by_tests true above told = absurd cc
      by_tests false true told = absurd cc
      by_tests false false told = refl

  pub acknowledged_by : (how : Standing) → (commits_standing streams transaction how).reply ≡ Empty
      → (commits_standing streams transaction how).rows ≡ (run_alone ids (state_read streams transaction) (statements_in transaction.steps)).rows
  acknowledged_by Active told = rows_told _ told
  acknowledged_by (View place) told = rows_told _ told
  acknowledged_by Doomed told = absurd cc

  -- a view has no row
  by_doom : (has_row has_written has_schema : Bool) (at place : ℕ) → doomed_or_view (has_row || has_written || false || has_schema) at ≡ View place → has_row ≡ false
  by_doom true has_written has_schema at place is = absurd cc
  by_doom false has_written has_schema at place is = refl

  doomed_no_view : (doomed : Bool) (at : ℕ) → doomed_or_view doomed at ≡ Active → ⊥
  doomed_no_view true at is = absurd cc
  doomed_no_view false at is = absurd cc

  view_no_rows : (place : ℕ) → standing ids base journal false transaction ≡ View place → (run_alone ids (state_read streams transaction) (statements_in transaction.steps)).rows ≡ []
  view_no_rows place = by_overlap (overlap_of base journal transaction)
    where
      by_overlap : (overlap : Option ℕ) → standing_by ids base journal false transaction.steps overlap ≡ View place
          → (run_alone ids (state_after_first base journal (place_by (length journal) overlap)) (statements_in transaction.steps)).rows ≡ []
      by_overlap None is = absurd cc
      by_overlap (Some number) is =
          no_rows _
          (by_doom (has_row ids base journal (pred number) transaction.steps) (has_written_since number transaction.steps) (has_schema_commit_since number journal) (pred number) place is)

  active_newest : standing ids base journal false transaction ≡ Active → place_read base journal transaction ≡ length journal
  active_newest = by_overlap (overlap_of base journal transaction)
    where
      by_overlap : (overlap : Option ℕ) → standing_by ids base journal false transaction.steps overlap ≡ Active → place_by (length journal) overlap ≡ length journal
      by_overlap None is = refl
      by_overlap (Some number) is = absurd (doomed_no_view _ _ is)

  pub rows_by : (row : Row) (others : List Row) (how : Standing) → standing ids base journal false transaction ≡ how → (commits_standing streams transaction how).rows ≡ row ∷ others
      → CommitsAlone ids base journal transaction (row ∷ others)
  rows_by row others Active how is =
      let place = active_newest how in record {
        active = how;
        newest = place;
        replies = active_alone ids base journal transaction alone how;
        same_rows = all_rows _ row others is
            ∙ ap (λ state. (run_alone ids state (statements_in transaction.steps)).rows) (ap (state_after_first base journal) place ∙ whole_state base journal);
      }
  rows_by row others (View place) how is =
      let none : (commits_rows streams []).rows ≡ row ∷ others = ap (λ (rows : List Row). (commits_rows streams rows).rows) (sym (view_no_rows place how)) ∙ is in absurd cc
  rows_by row others Doomed how is = absurd cc

  pub rows_alone : transaction_named name streams.transactions ≡ Some transaction → (row : Row) (others : List Row)
      → (outcome_of streams name request.Commit).rows ≡ row ∷ others → CommitsAlone ids base journal transaction (row ∷ others)
  rows_alone named row others = by_stream (name.stream.0 == 0)
    where
      by_stream : (b : Bool) → (if b then told_alone (Refused (IllegalValue stream_key)) else commits streams (transaction_named name streams.transactions)).rows ≡ row ∷ others
          → CommitsAlone ids base journal transaction (row ∷ others)
      by_stream true is = absurd cc
      by_stream false is =
          rows_by row others (standing ids base journal false transaction) refl
          (ap (λ present. (commits streams present).rows) (sym named) ∙ is)
