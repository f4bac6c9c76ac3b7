-- What the plain slow program keeps after each kind of request.
use Rattle.std.proofs.Common.{arith, ◌≡◌, ℕ, ◌+◌, ◌-◌, ◌≤◌, Bool, true, false, List, [], ◌∷◌, ◌++◌, length, Option, Some, None, refl, sym, ap, ◌∙◌, subst, append-nil}
use Rattle.std.specs.Prelude.{slice_index, slice_set, if◌then◌else◌, MatchOption}
use Rattle.std.specs.List.{AllZip, list_any}
use Rattle.mx_base.specs.declared.ids.TxnName.{TxnName}
use Rattle.mx_base.specs.declared.refusal.Refusal.TheVariants.{TransactionTooLong}
use Rattle.mx_request.specs.declared.request.Request.{Request}
use Rattle.mx_request.specs.declared.request.Request.TheVariants as request
use Rattle.mx_row.specs.declared.row.Row.{Row}
use Rattle.mx_row.specs.declared.tx.Tx.{Tx}
use Rattle.mx_row.specs.Limits.{has_room}
use Rattle.mx_row.specs.Clocks.{clock_after, clock_after_one}
use Rattle.mx_row.proofs.ClockLaws.{clock_after-append}
use Rattle.mx_schema.specs.State.{State}
use Rattle.mx_write.specs.Writes.{Write, write_in}
use Rattle.mx_model.specs.declared.ids.Ids.{Ids}
use Rattle.mx_model.specs.declared.reply.Reply.{Reply}
use Rattle.mx_model.specs.declared.reply.Reply.TheVariants.{Empty}
use Rattle.mx_slow.specs.declared.slow.Slow.{Slow}
use Rattle.mx_slow.specs.declared.slow.SlowCommit.{SlowCommit}
use Rattle.mx_slow.specs.declared.slow.run.SlowRun.{SlowRun}
use Rattle.mx_slow_state.specs.declared.slow_state.answers.SlowAnswer.{SlowAnswer}
use Rattle.mx_slow.specs.declared.read_ranges.ReadRange.{ReadRange}
use Rattle.mx_model.specs.Answers.{state_after_rows}
use Rattle.mx_model.specs.Bases.{writable_node}
use Rattle.mx_model.specs.Overlaps.{Active, Doomed, Standing, Transaction, TransactionStep, View, state_after_first}
use Rattle.mx_model.specs.RunAlone.{Run, answer_in_run, run_alone, statement_answer, within_limits, writes}
use Rattle.mx_slow.specs.Slow.{IsSlow, KeepCommits, KeepsCommit, KeepsTransaction, RunStands, Tells, reads_of_statement, statement_reads, told_standing}
use Rattle.mx_slow.specs.SlowReads.{HasRead, reads_view}
use Rattle.mx_slow_state.specs.SlowState.{IsSlowState}
use Rattle.mx_slow.specs.SlowTouches.{AreFitReads, meet}
use Rattle.mx_model.specs.Streams.{Ends, Opens, Outcome, Stays, Streams, commit_with, ends_told, goes_on_with, open_after, states, states_standing, streams_after, told_alone, with_step, without_named}
use Rattle.mx_model.specs.Touches.{rows_meet}
use Rattle.mx_model.specs.Transactions.{is_schema_row, state_after}
use Rattle.mx_model.specs.statements.Answer.{Answer, refusal_after}
use Rattle.mx_model.specs.statements.Statement.{Statement, statement_of}
use Rattle.mx_model.proofs.AlonePlaces.{whole_state}
use Rattle.mx_slow.proofs.SlowRunLaws.{written}
use Rattle.mx_slow.proofs.SlowStandingLaws.{same_length}

-- ---- outcomes that commit nothing

abbrev beside : Streams → List Transaction → Streams
beside streams transactions = record { base = streams.base; journal = streams.journal; transactions = transactions }

nothing_committed : (streams : Streams) (name : TxnName) (outcome : Outcome) → outcome.rows ≡ []
    → streams_after streams name outcome ≡ beside streams (open_after streams.journal name outcome.becomes streams.transactions)
nothing_committed streams name outcome none =
    ap (λ rows. record { base = streams.base; journal = streams.journal ++ commit_with streams rows; transactions = open_after streams.journal name outcome.becomes streams.transactions }) none
    ∙ ap (λ journal. record { base = streams.base; journal = journal; transactions = open_after streams.journal name outcome.becomes streams.transactions }) (append-nil streams.journal)

-- nothing becomes of the transaction
pub stays_told : (slow : Slow) (streams : Streams) (name : TxnName) (outcome : Outcome) (reply answer : Reply) → IsSlow slow streams → outcome ≡ told_alone answer → reply ≡ answer
    → Tells slow streams name outcome reply
stays_told slow streams name outcome reply answer is same told = record {
  told = told ∙ ap (λ (o : Outcome). o.reply) (sym same);
  after = subst (λ (o : Outcome). IsSlow slow (streams_after streams name o)) (sym same)
      (subst (IsSlow slow) (sym (nothing_committed streams name (told_alone answer) refl)) is);
}

-- it ends
pub ends_with : (slow : Slow) (streams : Streams) (name : TxnName) (outcome : Outcome) (reply answer : Reply) → IsSlow slow (beside streams (without_named name streams.transactions))
    → outcome ≡ ends_told answer → reply ≡ answer → Tells slow streams name outcome reply
ends_with slow streams name outcome reply answer is same told = record {
  told = told ∙ ap (λ (o : Outcome). o.reply) (sym same);
  after = subst (λ (o : Outcome). IsSlow slow (streams_after streams name o)) (sym same)
      (subst (IsSlow slow) (sym (nothing_committed streams name (ends_told answer) refl)) is);
}

-- ---- its transactions

-- others are open now
pub is_beside : (old new : Slow) (streams : Streams) (transactions : List Transaction) → IsSlow old streams → new.ids ≡ old.ids → new.clock ≡ old.clock → new.first ≡ old.first
    → new.commits ≡ old.commits → AllZip KeepsTransaction new.transactions.items transactions → IsSlow new (beside streams transactions)
is_beside old new streams transactions is ids clock first commits keep = record {
  ids = ids ∙ is.ids;
  clock = clock ∙ is.clock;
  first = subst (λ f. IsSlowState f streams.base.state) (sym first) is.first;
  commits = subst (λ c. KeepCommits streams.base.state c.items streams.journal) (sym commits) is.commits;
  transactions = keep;
}

-- only the transactions are kept anew
pub same_transactions : (old new : Slow) (streams : Streams) → IsSlow old streams → new.ids ≡ old.ids → new.clock ≡ old.clock → new.first ≡ old.first
    → new.commits.items ≡ old.commits.items → AllZip KeepsTransaction new.transactions.items streams.transactions → IsSlow new streams
same_transactions old new streams is ids clock first commits keep = record {
  ids = ids ∙ is.ids;
  clock = clock ∙ is.clock;
  first = subst (λ f. IsSlowState f streams.base.state) (sym first) is.first;
  commits = subst (λ c. KeepCommits streams.base.state c streams.journal) (sym commits) is.commits;
  transactions = keep;
}

-- nothing changed but that memory was taken
pub same_kept : (old new : Slow) (streams : Streams) → IsSlow old streams → new.ids ≡ old.ids → new.clock ≡ old.clock → new.first ≡ old.first
    → new.commits.items ≡ old.commits.items → new.transactions.items ≡ old.transactions.items → IsSlow new streams
same_kept old new streams is ids clock first commits transactions = record {
  ids = ids ∙ is.ids;
  clock = clock ∙ is.clock;
  first = subst (λ f. IsSlowState f streams.base.state) (sym first) is.first;
  commits = subst (λ c. KeepCommits streams.base.state c streams.journal) (sym commits) is.commits;
  transactions = subst (λ t. AllZip KeepsTransaction t streams.transactions) (sym transactions) is.transactions;
}

-- ---- a commit more

kept_commits : (before : State) (coded : List SlowCommit) (journal : List Tx) (one : SlowCommit) (commit : Tx) → KeepCommits before coded journal
    → KeepsCommit (state_after before journal) one commit → KeepCommits before (coded ++ one ∷ []) (journal ++ commit ∷ [])
kept_commits before [] [] one commit keep keeps = (keeps, tt)
kept_commits before [] (first ∷ journal) one commit keep keeps = absurd keep
kept_commits before (code ∷ coded) [] one commit keep keeps = absurd keep
kept_commits before (code ∷ coded) (first ∷ journal) one commit (is, keep) keeps = (is, kept_commits (state_after_rows before first.rows) coded journal one commit keep keeps)

-- the vclock after it
clock_more : (clock : List ℕ) (journal : List Tx) (streams : Streams) (row : Row) (rows : List Row) → clock ≡ clock_after streams.base.clock journal
    → (last : ℕ) → last ≡ slice_index clock writable_node + length (row ∷ rows) → streams.base.ids.me ≡ writable_node
    → (commit : Tx) → commit.replica.0 ≡ writable_node → commit.first.0 ≡ slice_index clock writable_node + 1 → commit.rows ≡ row ∷ rows
    → slice_set clock writable_node last ≡ clock_after streams.base.clock (journal ++ commit ∷ [])
clock_more clock journal streams row rows is last last_is me commit replica first commit_rows =
    ap (slice_set clock writable_node) (last_is ∙ last_of_all ∙ ap (λ n. (n + length (row ∷ rows)) - 1) (sym first) ∙ ap (λ (l : List Row). (commit.first.0 + length l) - 1) (sym commit_rows))
    ∙ ap (λ n. slice_set clock n ((commit.first.0 + length commit.rows) - 1)) (sym replica)
    ∙ ap (λ (c : List ℕ). clock_after_one c commit) is
    ∙ sym (clock_after-append streams.base.clock journal (commit ∷ []))
  where
    last_of_all : slice_index clock writable_node + length (row ∷ rows) ≡ ((slice_index clock writable_node + 1) + length (row ∷ rows)) - 1
    last_of_all = omega arith

-- the program after a commit of what ran alone on the newest state
pub installed : (old new : Slow) (streams : Streams) (coded : SlowCommit) (plain : Run) (run : SlowRun) (row : Row) (rows : List Row) (last : ℕ) → IsSlow old streams
    → RunStands run (state_after streams.base.state streams.journal) plain → plain.rows ≡ row ∷ rows → streams.base.ids.me ≡ writable_node
    → last ≡ slice_index old.clock writable_node + length plain.rows
    → coded.state ≡ run.state → coded.touched ≡ run.touched → coded.is_schema ≡ list_any is_schema_row run.rows
    → new.ids ≡ old.ids → new.clock ≡ slice_set old.clock writable_node last → new.first ≡ old.first → new.commits.items ≡ old.commits.items ++ coded ∷ []
    → new.transactions.items ≡ old.transactions.items
    → IsSlow new (record { base = streams.base; journal = streams.journal ++ commit_with streams plain.rows; transactions = streams.transactions })
installed old new streams coded plain run row rows last is stands plain_rows me last_is state touched schema ids clock first commits transactions =
    subst (λ l. IsSlow new (record { base = streams.base; journal = streams.journal ++ commit_with streams l; transactions = streams.transactions })) (sym plain_rows) (record {
      ids = ids ∙ is.ids;
      clock = clock ∙ clock_more old.clock streams.journal streams row rows is.clock last (last_is ∙ ap (λ (l : List Row). slice_index old.clock writable_node + length l) plain_rows) me
          commit me next_is refl;
      first = subst (λ f. IsSlowState f streams.base.state) (sym first) is.first;
      commits = subst (λ c. KeepCommits streams.base.state c (streams.journal ++ commit ∷ [])) (sym commits)
          (kept_commits streams.base.state old.commits.items streams.journal coded commit is.commits keeps);
      transactions = subst (λ t. AllZip KeepsTransaction t streams.transactions) (sym transactions) is.transactions;
    })
  where
    newest : State
    newest = state_after streams.base.state streams.journal

    clock_now : List ℕ
    clock_now = clock_after streams.base.clock streams.journal

    commit : Tx
    commit = record { replica = record { 0 = streams.base.ids.me }; first = record { 0 = slice_index clock_now streams.base.ids.me + 1 }; rows = row ∷ rows }

    next_is : slice_index clock_now streams.base.ids.me + 1 ≡ slice_index old.clock writable_node + 1
    next_is = ap (λ n. slice_index clock_now n + 1) me ∙ ap (λ (c : List ℕ). slice_index c writable_node + 1) (sym is.clock)

    keeps : KeepsCommit newest coded commit
    keeps = record {
      state = subst (λ s. IsSlowState s (state_after_rows newest (row ∷ rows))) (sym state)
          (subst (IsSlowState run.state) (sym stands.same ∙ ap (state_after_rows newest) plain_rows) stands.state);
      schema = schema ∙ ap (list_any is_schema_row) (stands.rows ∙ plain_rows);
      touched = λ reads fit.
          ap (λ keys. meet keys (reads_view reads)) touched ∙ stands.touched reads fit ∙ ap (λ l. rows_meet newest l reads) plain_rows;
    }

-- the last lsn, by the program's clock
pub lsn_is : (slow : Slow) (streams : Streams) (count : ℕ) → IsSlow slow streams → streams.base.ids.me ≡ writable_node
    → slice_index (clock_after streams.base.clock streams.journal) streams.base.ids.me + count ≡ slice_index slow.clock writable_node + count
lsn_is slow streams count is me =
    ap (λ n. slice_index (clock_after streams.base.clock streams.journal) n + count) me ∙ ap (λ (c : List ℕ). slice_index c writable_node + count) (sym is.clock)

-- it ends with a commit
pub ends_committed : (slow : Slow) (streams : Streams) (name : TxnName) (outcome : Outcome) (rows : List Row) (reply : Reply)
    → IsSlow slow (record { base = streams.base; journal = streams.journal ++ commit_with streams rows; transactions = without_named name streams.transactions })
    → outcome ≡ record { reply = Empty; rows = rows; becomes = Ends } → reply ≡ Empty → Tells slow streams name outcome reply
ends_committed slow streams name outcome rows reply is same told = record {
  told = told ∙ ap (λ (o : Outcome). o.reply) (sym same);
  after = subst (λ (o : Outcome). IsSlow slow (streams_after streams name o)) (sym same) is;
}

-- it begins
pub begins_with : (slow : Slow) (streams : Streams) (name : TxnName) (outcome : Outcome) (reply : Reply)
    → IsSlow slow (beside streams (record { name = name; begun = length streams.journal; steps = [] } ∷ streams.transactions))
    → outcome ≡ record { reply = Empty; rows = []; becomes = Opens } → reply ≡ Empty → Tells slow streams name outcome reply
begins_with slow streams name outcome reply is same told = record {
  told = told ∙ ap (λ (o : Outcome). o.reply) (sym same);
  after = subst (λ (o : Outcome). IsSlow slow (streams_after streams name o)) (sym same)
      (subst (IsSlow slow) (sym (nothing_committed streams name (record { reply = Empty; rows = []; becomes = Opens }) refl)) is);
}

-- it goes on
pub goes_on_as : (slow : Slow) (streams : Streams) (name : TxnName) (outcome : Outcome) (step : TransactionStep) (reply : Reply)
    → IsSlow slow (beside streams (with_step name step streams.transactions)) → outcome ≡ goes_on_with streams step → reply ≡ step.reply → Tells slow streams name outcome reply
goes_on_as slow streams name outcome step reply is same told = record {
  told = told ∙ ap (λ (o : Outcome). o.reply) (sym same);
  after = subst (λ (o : Outcome). IsSlow slow (streams_after streams name o)) (sym same)
      (subst (IsSlow slow) (sym (nothing_committed streams name (goes_on_with streams step) refl)) is);
}

-- a statement by itself commits its row
pub states_committed : (slow : Slow) (streams : Streams) (name : TxnName) (outcome : Outcome) (answer : Answer) (row : Row) (reply : Reply)
    → IsSlow slow (record { base = streams.base; journal = streams.journal ++ commit_with streams (row ∷ []); transactions = streams.transactions })
    → outcome ≡ record { reply = answer.reply; rows = row ∷ []; becomes = Stays } → reply ≡ answer.reply → Tells slow streams name outcome reply
states_committed slow streams name outcome answer row reply is same told = record {
  told = told ∙ ap (λ (o : Outcome). o.reply) (sym same);
  after = subst (λ (o : Outcome). IsSlow slow (streams_after streams name o)) (sym same) is;
}

-- ---- what a statement of a transaction is told

pub states_told : (streams : Streams) (statement : Statement) (answer : Answer) (how : Standing)
    → states_standing streams statement answer how
    ≡ goes_on_with streams (record { statement = statement; after = length streams.journal; reply = told_standing how answer.reply; reads = answer.reads })
states_told streams statement answer Active = refl
states_told streams statement answer (View place) = refl
states_told streams statement answer Doomed = refl

abbrev space_in : Option Statement → ℕ
space_in None = 0
space_in (Some statement) = statement.space

-- a write names its space
pub names_space : (asked : Request) (statement : Statement) (found : Option (ℕ × Write)) → statement_of asked ≡ Some statement → found ≡ write_in asked
    → MatchOption found (writes statement.operation ≡ false) (λ x. (x.0 ≡ statement.space) × (writes statement.operation ≡ true))
names_space asked statement found states is = subst (λ o. MatchOption o (writes statement.operation ≡ false) (λ x. (x.0 ≡ statement.space) × (writes statement.operation ≡ true))) (sym is) (by_request asked states)
  where
    read : (s : Statement) → Some s ≡ Some statement → writes s.operation ≡ false → writes statement.operation ≡ false
    read s same r = ap (λ (o : Option Statement). written o) (sym same) ∙ r

    write : (s : Statement) → Some s ≡ Some statement → writes s.operation ≡ true → (s.space ≡ statement.space) × (writes statement.operation ≡ true)
    write s same w = (ap (λ (o : Option Statement). space_in o) same, ap (λ (o : Option Statement). written o) (sym same) ∙ w)

    by_request : (a : Request) → statement_of a ≡ Some statement → MatchOption (write_in a) (writes statement.operation ≡ false) (λ x. (x.0 ≡ statement.space) × (writes statement.operation ≡ true))
    by_request (request.Select space index limit offset iterator key) states = read _ states refl
    by_request (request.Insert space tuple) states = write _ states refl
    by_request (request.Replace space tuple) states = write _ states refl
    by_request (request.Update space index base key operations) states = write _ states refl
    by_request (request.Delete space index key) states = write _ states refl
    by_request (request.Upsert space base tuple operations) states = write _ states refl
    by_request request.Nop states = absurd cc
    by_request request.Ping states = absurd cc
    by_request request.Begin states = absurd cc
    by_request request.Commit states = absurd cc
    by_request request.Rollback states = absurd cc
    by_request request.Id states = absurd cc
    by_request (request.Join instance) states = absurd cc
    by_request (request.Subscribe instance set clock) states = absurd cc
    by_request (request.Ack clock) states = absurd cc

-- the limits leave the reads
pub limited_reads : (rows : List Row) (answer : Answer) → (within_limits rows answer answer.row).reads ≡ answer.reads
limited_reads rows answer = by_row answer.row
  where
    by_room : (b : Bool) → (if b then answer else refusal_after answer.reads TransactionTooLong).reads ≡ answer.reads
    by_room true = refl
    by_room false = refl

    by_row : (o : Option Row) → (within_limits rows answer o).reads ≡ answer.reads
    by_row None = refl
    by_row (Some row) = by_room (has_room rows row)

-- nothing ran
pub nothing_ran : (coded : SlowRun) (ids : Ids) (before : State) → RunStands coded before (run_alone ids before []) → RunStands coded before (record { answers = []; rows = []; state = before })
unfolding run_alone
nothing_ran coded ids before stands = stands

-- the newest state
pub newest_there : (slow : Slow) (streams : Streams) (count : ℕ) → IsSlow slow streams → count ≡ length slow.commits.items
    → state_after_first streams.base.state streams.journal count ≡ state_after streams.base.state streams.journal
newest_there slow streams count is counts =
    ap (state_after_first streams.base.state streams.journal) (counts ∙ same_length streams.base.state slow.commits.items streams.journal is.commits) ∙ whole_state streams.base.state streams.journal

pub all_within : (slow : Slow) (streams : Streams) (count : ℕ) → IsSlow slow streams → count ≡ length slow.commits.items → count ≤ length streams.journal
all_within slow streams count is counts = let many = same_length streams.base.state slow.commits.items streams.journal is.commits in omega (arith, counts, many)

-- rows by their number
-- the answer is the one to the statement that the request is
pub answer_is : (asked : Request) (statement : Statement) → statement_of asked ≡ Some statement → (found : SlowAnswer) (P : Statement → Type 0)
    → (s : Statement) × (statement_of asked ≡ Some s) × P s → P statement
answer_is asked statement states found P (s, is, holds) = subst P (same_some s statement (sym is ∙ states)) holds
  where
    same_some : (a b : Statement) → Some a ≡ Some b → a ≡ b
    same_some a b e = cc

-- so are its reads
pub reads_are : (ids : Ids) (run : Run) (statement : Statement) (asked : Request) → statement_of asked ≡ Some statement → (found : List ReadRange)
    → HasRead found (statement_reads ids run.state asked)
    → (found ≡ reads_view (answer_in_run ids run statement).reads) × AreFitReads (answer_in_run ids run statement).reads
reads_are ids run statement asked states found has = subst (HasRead found) (ap (reads_of_statement ids run.state) states ∙ sym (limited_reads run.rows (statement_answer ids run.state statement))) has
