-- What a legal history commits can be written and read again.
use Rattle.std.proofs.Common.{◌≡◌, ℕ, suc, ◌+◌, ◌-◌, ◌≤◌, Bool, true, false, not, List, [], ◌∷◌, ◌++◌, length, refl, sym, ap, ◌∙◌, subst, arith}
use Rattle.std.specs.Prelude.{⊤, ◌==◌, ◌&&◌, ◌||◌, Option, Some, None, is_none, nat_le, nat_lt, slice_index, if◌then◌else◌}
use Rattle.std.specs.List.{AllByRecursion, list_any}
use Rattle.std.specs.Option.{option_to_list}
use Rattle.std.proofs.lemmas.Bool.{and_from, eq-eqb, le-leb, ltb-false}
use Rattle.std.proofs.lemmas.Bool.Decides.{nat_tests}
use Rattle.mx_vclock.specs.Vclocks.{max_lsn}
use Rattle.mx_base.specs.Keys.{stream_key}
use Rattle.mx_base.specs.declared.ids.TxnName.{TxnName}
use Rattle.mx_base.specs.declared.kinds.Unsupported.TheVariants.{SchemaInTransaction}
use Rattle.mx_base.specs.declared.refusal.Refusal.TheVariants.{AllOfConnectionOpen, AllTransactionsOpen, IllegalValue, LsnsUsedUp, ReadOnly, Unsupported}
use Rattle.mx_request.specs.declared.request.Request.{Request}
use Rattle.mx_request.specs.declared.request.Request.TheVariants as request
use Rattle.mx_row.specs.declared.row.Row.{Row}
use Rattle.mx_row.specs.declared.tx.Tx.{Tx}
use Rattle.mx_row.specs.Clocks.{clock_after, clock_after_one}
use Rattle.mx_row.specs.Limits.{max_rows, max_transaction_size, rows_size}
use Rattle.mx_row.specs.Rows.{IsRow}
use Rattle.mx_schema.specs.Sound.{IsSound}
use Rattle.mx_schema.specs.State.{State}
use Rattle.mx_write.specs.Writable.{describes_schema}
use Rattle.mx_model.specs.declared.ids.Ids.{Ids}
use Rattle.mx_model.specs.declared.reply.Reply.TheVariants.{Empty, Refused}
use Rattle.mx_model.specs.Alone.{AllStandAlone}
use Rattle.mx_model.specs.Answers.{state_after_row, state_after_rows}
use Rattle.mx_model.specs.Bases.{Base, CanBeAsked, is_out_of_memory, writable_node, with_lsn}
use Rattle.mx_directory.specs.Directories.{AllFollow, takes_row, takes_rows}
use Rattle.mx_model.specs.Histories.{History, IsLegal, journal_of, state_of}
use Rattle.mx_model.specs.HistoryStreams.{streams_in}
use Rattle.mx_model.specs.Overlaps.{Active, Doomed, Standing, Transaction, View, standing, statements_in}
use Rattle.mx_model.specs.RunAlone.{answer_alone, statement_answer, writes}
use Rattle.mx_model.specs.StreamHistories.{Disconnected, IsLegalStreams, Requested, StreamHistory, streams_of}
use Rattle.mx_model.specs.Streams.{Ends, Opens, Outcome, Streams, begins_beside, commit_with, commits, commits_rows, commits_standing, ends_told, in_stream, max_transactions, max_transactions_of_connection, of_connection, outcome_of, state_read, states, states_alone, states_standing, streams_after, tells_statement, told_alone, told_as, transaction_named}
use Rattle.mx_model.specs.Transactions.{is_schema_row, state_after}
use Rattle.mx_model.specs.statements.Answer.{Answer, refusal_after}
use Rattle.mx_model.specs.statements.Statement.{Statement, statement_of}
use Rattle.mx_model.proofs.AloneStreams.{named_has, Stands}
use Rattle.mx_model.proofs.BecomesLaws.{AllAsked, AreAsked, IsAskedStatement, all_asked, statement_asked}
use Rattle.mx_model.proofs.CommitRows.{rows_by}
use Rattle.mx_model.proofs.HistoryLaws.{state_of_journal, streams_legal, streams_of_history}
use Rattle.mx_model.proofs.JournalLaws.{state_after-append}
use Rattle.mx_serial.proofs.RunRows.{LeaveRows, run_leaves, statement_leaves}
use Rattle.mx_model.proofs.StreamSteps.{base_stays, history_ran}

-- transactions that follow, and then others that follow those
pub all_follow-append : (now : State) (clock : List ℕ) (xs ys : List Tx) → AllFollow now clock xs
    → AllFollow (state_after now xs) (clock_after clock xs) ys → AllFollow now clock (xs ++ ys)
all_follow-append now clock [] ys first others = others
all_follow-append now clock (x ∷ xs) ys first others =
    (first.0, first.1, first.2, first.3, first.4, all_follow-append (state_after_rows now x.rows) (clock_after_one clock x) xs ys first.5 others)

-- transactions that follow, and leave a sound state
abbrev Goes : State → List ℕ → List Tx → Type 0
Goes now clock transactions = AllFollow now clock transactions × IsSound (state_after now transactions)

-- ---- a commit

rows_go : (before : State) (rows : List Row) → IsSound before → LeaveRows before rows
    → AllByRecursion IsRow rows × (takes_rows before rows ≡ true) × IsSound (state_after_rows before rows)
rows_go before [] sound leave = (tt, refl, sound)
rows_go before (row ∷ rows) sound (first, others) =
    let rest = rows_go (state_after_row before row) rows first.sound others in
    ((first.can, rest.0), and_from (takes_row before row) (takes_rows (state_after_row before row) rows) (ap is_none first.takes) rest.1, rest.2)

-- rows that the node may commit on the newest state
record CanCommit (streams : Streams) (rows : List Row) : Type 0 where
  leave : LeaveRows (state_after streams.base.state streams.journal) rows
  node : streams.base.ids.me ≡ writable_node
  lsns : slice_index (clock_after streams.base.clock streams.journal) streams.base.ids.me + length rows ≤ max_lsn
  few : length rows ≤ max_rows
  short : rows_size rows ≤ max_transaction_size
  alone : ((length rows == 1) || not (list_any is_schema_row rows)) ≡ true

-- that is so where there are any
abbrev CanCommitRows : Streams → List Row → Type 0
CanCommitRows streams [] = ⊤
CanCommitRows streams (row ∷ rows) = CanCommit streams (row ∷ rows)

commit_goes : (streams : Streams) → IsSound (state_after streams.base.state streams.journal) → (rows : List Row) → CanCommitRows streams rows
    → Goes (state_after streams.base.state streams.journal) (clock_after streams.base.clock streams.journal) (commit_with streams rows)
commit_goes streams sound [] can = (tt, sound)
commit_goes streams sound (row ∷ rows) can =
    let clock = clock_after streams.base.clock streams.journal in
    let me = streams.base.ids.me in
    let go = rows_go (state_after streams.base.state streams.journal) (row ∷ rows) sound can.leave in
    let next : slice_index clock me + 1 ≡ suc (slice_index clock me) = omega arith in
    let most : ((slice_index clock me + 1) + length (row ∷ rows)) - 1 ≤ max_lsn = omega (arith, can.lsns) in (
      (
        record {
          replica = omega (arith, can.node);
          lsns = (omega arith, most);
          some = omega arith;
          rows = go.0;
          few = can.few;
          short = can.short;
        },
        ap (λ me. not (me == 0)) can.node,
        and_from ((slice_index clock me + 1) == suc (slice_index clock me)) (nat_le (((slice_index clock me + 1) + length (row ∷ rows)) - 1) max_lsn)
            (eq-eqb _ _ next) (le-leb _ _ most),
        can.alone,
        go.1,
        tt,
      ),
      go.2,
    )

-- ---- what a request commits

or_true : (b : Bool) → (b || true) ≡ true
or_true true = refl
or_true false = refl

module _ (streams : Streams) (name : TxnName) (sound : IsSound (state_after streams.base.state streams.journal)) where
  abbrev ids : Ids
  ids = streams.base.ids

  abbrev newest : State
  newest = state_after streams.base.state streams.journal

  abbrev last : ℕ
  last = slice_index (clock_after streams.base.clock streams.journal) ids.me

  abbrev Can : Outcome → Type 0
  Can outcome = CanCommitRows streams outcome.rows

  in_stream_can : (outcome : Outcome) → Can outcome → Can (in_stream name outcome)
  in_stream_can outcome can = by_test (name.stream.0 == 0)
    where
      by_test : (b : Bool) → Can (if b then told_alone (Refused (IllegalValue stream_key)) else outcome)
      by_test true = tt
      by_test false = can

  begins_can : (present : Option Transaction) → Can (begins_beside streams.transactions name.conn.0 present)
  begins_can (Some transaction) = tt
  begins_can None =
      by_tests (nat_le max_transactions_of_connection (length (of_connection name.conn.0 streams.transactions))) (nat_le max_transactions (length streams.transactions))
    where
      by_tests : (of_this of_all : Bool)
          → Can (if of_this then told_alone (Refused AllOfConnectionOpen) else if of_all then told_alone (Refused AllTransactionsOpen)
          else record { reply = Empty; rows = []; becomes = Opens })
      by_tests true of_all = tt
      by_tests false true = tt
      by_tests false false = tt

  -- rows of a COMMIT that is accepted: the node may be written, and has lsns for them
  rows_accepted : (rows : List Row) (row : Row) (others : List Row) → (commits_rows streams rows).rows ≡ row ∷ others
      → (ids.me ≡ writable_node) × (last + length (row ∷ others) ≤ max_lsn)
  rows_accepted [] row others is = absurd cc
  rows_accepted (first ∷ rest) row others is = by_tests (not (ids.me == writable_node)) (nat_lt max_lsn (last + length (first ∷ rest))) refl refl is
    where
      by_tests : (refuses above : Bool) → not (ids.me == writable_node) ≡ refuses → nat_lt max_lsn (last + length (first ∷ rest)) ≡ above
          → (if refuses then ends_told (Refused (ReadOnly (record { 0 = writable_node }))) else if above then ends_told (Refused LsnsUsedUp)
          else record { reply = Empty; rows = first ∷ rest; becomes = Ends }).rows ≡ row ∷ others
          → (ids.me ≡ writable_node) × (last + length (row ∷ others) ≤ max_lsn)
      by_tests true above node lsns is = absurd cc
      by_tests false true node lsns is = absurd cc
      by_tests false false node lsns is =
          let most : last + length (first ∷ rest) ≤ max_lsn = ltb-false _ _ lsns in
          let me : ids.me ≡ writable_node = grind (arith, nat_tests) in
          (me, subst (λ rows. last + length rows ≤ max_lsn) is most)

  -- the rows of a COMMIT are those of the transaction's statements, run alone on the newest state
  commits_can : (present : Option Transaction) → transaction_named name streams.transactions ≡ present → AllStandAlone streams → AllAsked streams → Can (commits streams present)
  commits_can None is all asked = tt
  commits_can (Some transaction) is all asked = by_rows (commits_standing streams transaction how).rows refl
    where
      how : Standing
      how = standing ids streams.base.state streams.journal false transaction

      alone : Stands streams transaction
      alone = named_has (Stands streams) name streams.transactions transaction all.each is

      accepted : (now : Standing) (row : Row) (others : List Row) → (commits_standing streams transaction now).rows ≡ row ∷ others
          → (ids.me ≡ writable_node) × (last + length (row ∷ others) ≤ max_lsn)
      accepted Active row others are = rows_accepted _ row others are
      accepted (View place) row others are = rows_accepted _ row others are
      accepted Doomed row others are = absurd cc

      by_rows : (rows : List Row) → (commits_standing streams transaction how).rows ≡ rows → CanCommitRows streams rows
      by_rows [] are = tt
      by_rows (row ∷ others) are =
          let same = (rows_by streams name transaction alone row others how refl are).same_rows in
          let (node, lsns) = accepted how row others are in
          let leaves = run_leaves ids newest (statements_in transaction.steps) sound alone.plain (named_has AreAsked name streams.transactions transaction asked is) in
          record {
            leave = subst (LeaveRows newest) (sym same) leaves.leave;
            node = node;
            lsns = lsns;
            few = subst (λ (rows : List Row). length rows ≤ max_rows) (sym same) leaves.few;
            short = subst (λ (rows : List Row). rows_size rows ≤ max_transaction_size) (sym same) leaves.short;
            alone = ap (λ b. (length (row ∷ others) == 1) || not b) (ap (list_any is_schema_row) same ∙ leaves.plain) ∙ or_true (length (row ∷ others) == 1);
          }

  -- a statement by itself commits the row that it leaves
  alone_can : (statement : Statement) → IsAskedStatement statement → Can (states_alone streams statement)
  alone_can statement asked = by_row answer.row refl
    where
      answer : Answer
      answer = statement_answer ids newest statement

      by_lsn : (row : Row) → answer.row ≡ Some row → (above : Bool) → nat_lt max_lsn (last + 1) ≡ above
          → CanCommitRows streams (option_to_list (if above then refusal_after answer.reads LsnsUsedUp else answer).row)
      by_lsn row is true test = tt
      by_lsn row is false test =
          let states = statement_leaves ids newest statement row sound asked is in
          let most : last + 1 ≤ max_lsn = ltb-false _ _ test in
          let short = states.leaves.can.short in
          let can : CanCommit streams (row ∷ []) = record {
            leave = (states.leaves, tt);
            node = states.node;
            lsns = most;
            few = omega arith;
            short = omega arith;
            alone = refl;
          } in
          subst (λ (o : Option Row). CanCommitRows streams (option_to_list o)) (sym is) can

      by_row : (o : Option Row) → answer.row ≡ o → CanCommitRows streams (option_to_list (with_lsn (last + 1) answer o).row)
      by_row None none = subst (λ (o : Option Row). CanCommitRows streams (option_to_list o)) (sym none) tt
      by_row (Some row) is = by_lsn row is (nat_lt max_lsn (last + 1)) refl

  states_can : (statement : Statement) → IsAskedStatement statement → (present : Option Transaction) → Can (states streams present statement)
  states_can statement asked None = alone_can statement asked
  states_can statement asked (Some transaction) = by_test (writes statement.operation && describes_schema statement.space)
    where
      answer : Answer
      answer = answer_alone ids (state_read streams transaction) statement (statements_in transaction.steps)

      by_standing : (how : Standing) → Can (states_standing streams statement answer how)
      by_standing Active = tt
      by_standing (View place) = tt
      by_standing Doomed = tt

      by_test : (b : Bool) → Can (if b then told_alone (Refused (Unsupported SchemaInTransaction))
          else states_standing streams statement answer (standing ids streams.base.state streams.journal (writes statement.operation) transaction))
      by_test true = tt
      by_test false = by_standing (standing ids streams.base.state streams.journal (writes statement.operation) transaction)

  tells_can : (asked : Request) (statement : Option Statement) → statement_of asked ≡ statement → ((one : Statement) → statement_of asked ≡ Some one → IsAskedStatement one)
      → Can (tells_statement streams name asked statement)
  tells_can asked None is each = tt
  tells_can asked (Some statement) is each = states_can statement (each statement is) (transaction_named name streams.transactions)

  outcome_can : (asked : Request) → CanBeAsked asked → AllStandAlone streams → AllAsked streams → Can (outcome_of streams name asked)
  outcome_can request.Begin can all each = in_stream_can _ (begins_can (transaction_named name streams.transactions))
  outcome_can request.Commit can all each = in_stream_can _ (commits_can (transaction_named name streams.transactions) refl all each)
  outcome_can request.Rollback can all each = in_stream_can _ tt
  outcome_can other can all each = tells_can other (statement_of other) refl (statement_asked other can)

-- ---- whole histories

-- a request more
request_goes : (base : Base) (streams : Streams) (name : TxnName) (asked : Request) → streams.base ≡ base → AllStandAlone streams → AllAsked streams → CanBeAsked asked
    → Goes base.state base.clock streams.journal → Goes base.state base.clock (streams_after streams name (outcome_of streams name asked)).journal
request_goes base streams name asked same all each can (follow, sound) =
    let journal = streams.journal in
    let commits = commit_with streams (outcome_of streams name asked).rows in
    let before = subst (λ (b : Base). IsSound (state_after b.state journal)) (sym same) sound in
    let (more, after) = subst (λ (b : Base). Goes (state_after b.state journal) (clock_after b.clock journal) commits) same
    (commit_goes streams before (outcome_of streams name asked).rows (outcome_can streams name before asked can all each)) in (
      all_follow-append base.state base.clock journal commits follow more,
      subst IsSound (sym (state_after-append base.state journal commits)) after,
    )

-- what a legal history commits follows the base, and leaves a sound state
streams_go : (base : Base) (history : StreamHistory) → IsLegalStreams base history → Goes base.state base.clock (streams_of base history).journal
streams_go base [] legal = (tt, legal)
streams_go base (Requested name asked reply ∷ earlier) legal = by_test (is_out_of_memory reply) (streams_go base earlier legal.0)
  where
    streams : Streams
    streams = streams_of base earlier

    by_test : (b : Bool) → Goes base.state base.clock streams.journal
        → Goes base.state base.clock (if b then streams else streams_after streams name (told_as reply (outcome_of streams name asked))).journal
    by_test true before = before
    by_test false before =
        request_goes base streams name asked (base_stays base earlier) (history_ran base earlier legal.0).0 (all_asked base earlier legal.0) legal.1.0 before
streams_go base (Disconnected connection ∷ earlier) legal = streams_go base earlier legal.0

history_goes : (base : Base) (history : History) → IsLegal base history → Goes base.state base.clock (journal_of base history)
history_goes base history legal =
    subst (λ (streams : Streams). Goes base.state base.clock streams.journal) (sym (streams_of_history base history))
    (streams_go base (streams_in history) (streams_legal base history legal))

pub commits_follow : (base : Base) (history : History) → IsLegal base history → AllFollow base.state base.clock (journal_of base history)
commits_follow base history legal = (history_goes base history legal).0

pub stays_sound_after : (base : Base) (history : History) → IsLegal base history → IsSound (state_of base history)
stays_sound_after base history legal = subst IsSound (sym (state_of_journal base history)) (history_goes base history legal).1
