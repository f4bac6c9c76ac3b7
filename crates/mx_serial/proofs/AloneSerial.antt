-- Transactions are strictly serializable: one whose COMMIT is accepted was answered as if it ran alone since its BEGIN, and commits what it did alone.
use Rattle.std.proofs.Common.{◌≡◌, ◌≢◌, ℕ, pred, ◌≤◌, Bool, true, false, not, ◌||◌, List, [], ◌∷◌, ◌++◌, length, map, Option, Some, None, refl, sym, ap, ◌∙◌, arith}
use Rattle.std.specs.Prelude.{nat_lt, ◌==◌, if◌then◌else◌}
use Rattle.mx_vclock.specs.Vclocks.{max_lsn}
use Rattle.mx_base.specs.declared.ids.TxnName.{TxnName}
use Rattle.mx_base.specs.declared.refusal.Refusal.TheVariants.{IllegalValue, LsnsUsedUp, ReadOnly}
use Rattle.mx_base.specs.Keys.{stream_key}
use Rattle.mx_request.specs.declared.request.Request.TheVariants as request
use Rattle.mx_row.specs.declared.row.Row.{Row}
use Rattle.mx_row.specs.declared.tx.Tx.{Tx}
use Rattle.mx_schema.specs.State.{State}
use Rattle.mx_model.specs.declared.ids.Ids.{Ids}
use Rattle.mx_model.specs.declared.reply.Reply.TheVariants.{Empty, Refused}
use Rattle.mx_model.specs.Alone.{AllStandAlone, answers_alone}
use Rattle.mx_model.specs.Bases.{writable_node}
use Rattle.mx_model.specs.Overlaps.{Active, Doomed, Standing, TransactionStep, Transaction, View, doomed_or_view, has_row, has_schema_commit_since, has_written_since, is_some_row, overlap_of, place_by, place_read, standing, standing_by, state_after_first, statements_in}
use Rattle.mx_model.specs.RunAlone.{run_alone}
use Rattle.mx_model.specs.Streams.{Ends, Outcome, Streams, commit_with, commits, commits_rows, commits_standing, ends_told, in_stream, outcome_of, streams_after, told_alone, transaction_named}
use Rattle.mx_model.specs.Transactions.{state_after}
use Rattle.mx_model.specs.statements.Answer.{Answer}
use Rattle.mx_model.proofs.AloneCommits.{commit_makes}
use Rattle.mx_model.proofs.AloneStreams.{named_has, Stands}
use Rattle.mx_model.proofs.AlonePlaces.{never_overlapped, whole_state}
use Rattle.mx_model.proofs.OverlapFound.{overlap_found}

module _ (streams : Streams) (name : TxnName) (transaction : Transaction) (all : AllStandAlone streams) (named : transaction_named name streams.transactions ≡ Some transaction) where
  abbrev ids : Ids
  ids = streams.base.ids

  abbrev base : State
  base = streams.base.state

  abbrev journal : List Tx
  journal = streams.journal

  abbrev stands_now : Standing
  stands_now = standing ids base journal false transaction

  -- the rows that its statements leave at its place
  abbrev rows_now : List Row
  rows_now = (run_alone ids (state_after_first base journal (place_read base journal transaction)) (statements_in transaction.steps)).rows

  alone : Stands streams transaction
  alone = named_has (Stands streams) name streams.transactions transaction all.each named

  -- what COMMIT comes to, in the transaction's stream or outside of all
  abbrev in_stream_by : Bool → Outcome → Outcome
  in_stream_by outside outcome = if outside then told_alone (Refused (IllegalValue stream_key)) else outcome

  outcome_is : outcome_of streams name request.Commit ≡ in_stream_by (name.stream.0 == 0) (commits_standing streams transaction stands_now)
  outcome_is = ap (λ (present : Option Transaction). in_stream name (commits streams present)) named

  -- an accepted COMMIT is of a transaction that isn't doomed
  accepted : (outcome_of streams name request.Commit).reply ≡ Empty → stands_now ≢ Doomed
  accepted empty doomed =
      by_test (name.stream.0 == 0)
      (ap (λ how. (in_stream_by (name.stream.0 == 0) (commits_standing streams transaction how)).reply) (sym doomed) ∙ ap (λ (outcome : Outcome). outcome.reply) (sym outcome_is) ∙ empty)
    where
      by_test : (outside : Bool) → (in_stream_by outside (commits_standing streams transaction Doomed)).reply ≡ Empty → ⊥
      by_test true e = absurd cc
      by_test false e = absurd cc

  pub serial_replies : (outcome_of streams name request.Commit).reply ≡ Empty
      → map (λ (step : TransactionStep). step.reply) transaction.steps ≡ map (λ (answer : Answer). answer.reply) (answers_alone ids base journal transaction)
  serial_replies empty = alone.exact (accepted empty)

  -- its place is since its BEGIN
  pub serial_place : (transaction.begun ≤ place_read base journal transaction) × (place_read base journal transaction ≤ length journal)
  serial_place = by_overlap (overlap_of base journal transaction) refl
    where
      by_overlap : (overlap : Option ℕ) → overlap_of base journal transaction ≡ overlap
          → (transaction.begun ≤ place_by (length journal) overlap) × (place_by (length journal) overlap ≤ length journal)
      by_overlap None is = (alone.within.begun, omega arith)
      by_overlap (Some number) is =
          let found = overlap_found base journal transaction number is in
          let least : transaction.begun ≤ pred number = omega (arith, found.after) in
          let most : pred number ≤ length journal = omega (arith, found.within) in (least, most)

  -- ---- rows

  abbrev commits_by : (refuses above : Bool) → List Row → Outcome
  commits_by refuses above rows =
      if refuses then ends_told (Refused (ReadOnly (record { 0 = writable_node }))) else if above then ends_told (Refused LsnsUsedUp)
      else record { reply = Empty; rows = rows; becomes = Ends }

  -- what commits rows commits these
  committed_rows : (rows : List Row) → is_some_row (commits_rows streams rows).rows ≡ true → (commits_rows streams rows).rows ≡ rows
  committed_rows [] some = absurd cc
  committed_rows (row ∷ rows) some = by_tests (not (ids.me == writable_node)) (nat_lt max_lsn _) some
    where
      by_tests : (refuses above : Bool) → is_some_row (commits_by refuses above (row ∷ rows)).rows ≡ true → (commits_by refuses above (row ∷ rows)).rows ≡ row ∷ rows
      by_tests true above some = absurd cc
      by_tests false true some = absurd cc
      by_tests false false some = refl

  some_committed : (rows : List Row) → is_some_row (commits_rows streams rows).rows ≡ true → is_some_row rows ≡ true
  some_committed [] some = some
  some_committed (row ∷ rows) some = refl

  -- a view that isn't doomed has no row
  rowless_view : (has_row has_written has_schema : Bool) (place at : ℕ) → doomed_or_view (has_row || has_written || false || has_schema) place ≡ View at → has_row ≡ false
  rowless_view true has_written has_schema place at view = absurd cc
  rowless_view false has_written has_schema place at view = refl

  no_row_in_view : (place : ℕ) → stands_now ≡ View place → is_some_row rows_now ≡ false
  no_row_in_view place = by_overlap (overlap_of base journal transaction)
    where
      by_overlap : (overlap : Option ℕ) → standing_by ids base journal false transaction.steps overlap ≡ View place
          → is_some_row (run_alone ids (state_after_first base journal (place_by (length journal) overlap)) (statements_in transaction.steps)).rows ≡ false
      by_overlap None view = absurd cc
      by_overlap (Some number) view =
          rowless_view (has_row ids base journal (pred number) transaction.steps) (has_written_since number transaction.steps) (has_schema_commit_since number journal) (pred number) place view

  -- so what commits rows isn't overlapped
  active_rows : (how : Standing) → stands_now ≡ how → is_some_row (commits_standing streams transaction how).rows ≡ true
      → (stands_now ≡ Active) × ((commits_standing streams transaction how).rows ≡ rows_now)
  active_rows Active is some = (is, committed_rows rows_now some)
  active_rows (View place) is some = let wrong : true ≡ false = sym (some_committed rows_now some) ∙ no_row_in_view place is in absurd cc
  active_rows Doomed is some = absurd cc

  serial_rows : is_some_row (outcome_of streams name request.Commit).rows ≡ true → (stands_now ≡ Active) × ((outcome_of streams name request.Commit).rows ≡ rows_now)
  serial_rows some =
      let found = by_test (name.stream.0 == 0) (ap (λ (outcome : Outcome). is_some_row outcome.rows) (sym outcome_is) ∙ some) in
      (found.0, ap (λ (outcome : Outcome). outcome.rows) outcome_is ∙ found.1)
    where
      by_test : (outside : Bool) → is_some_row (in_stream_by outside (commits_standing streams transaction stands_now)).rows ≡ true
          → (stands_now ≡ Active) × ((in_stream_by outside (commits_standing streams transaction stands_now)).rows ≡ rows_now)
      by_test true some = absurd cc
      by_test false some = active_rows stands_now refl some

  -- its place is the whole journal
  active_place : stands_now ≡ Active → place_read base journal transaction ≡ length journal
  active_place active = ap (place_by (length journal)) (never_overlapped ids base journal transaction active)

  pub serial_commit : is_some_row (outcome_of streams name request.Commit).rows ≡ true
      → (place_read base journal transaction ≡ length journal)
      × (state_after base (streams_after streams name (outcome_of streams name request.Commit)).journal
      ≡ (run_alone ids (state_after base journal) (statements_in transaction.steps)).state)
  serial_commit some =
      let found = serial_rows some in
      let place = active_place found.0 in
      let newest : state_after_first base journal (place_read base journal transaction) ≡ state_after base journal = ap (state_after_first base journal) place ∙ whole_state base journal in (
        place,
        ap (λ rows. state_after base (journal ++ commit_with streams rows)) (found.1 ∙ ap (λ state. (run_alone ids state (statements_in transaction.steps)).rows) newest)
            ∙ commit_makes streams transaction all alone,
      )
