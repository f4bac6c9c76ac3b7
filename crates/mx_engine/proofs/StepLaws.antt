-- What a further statement makes of an open transaction, and of the engine that keeps it.
use Rattle.std.proofs.Common.{◌≡◌, ◌≢◌, inl, inr, ℕ, ◌≤◌, Bool, true, false, ◌&&◌, List, [], ◌∷◌, ◌++◌, length, Option, Some, None, Result, Err, refl, sym, ap, ◌∙◌, subst}
use Rattle.std.specs.Prelude.{IsSome, slice_get, if◌then◌else◌}
use Rattle.std.proofs.lemmas.List.{append-nil}
use Rattle.std.specs.FinMap.{get}
use Rattle.std.specs.List.{AllByRecursion, AllZip}
use Rattle.std.specs.Option.{option_to_list}
use Rattle.mx_base.specs.declared.ids.TxnName.{TxnName}
use Rattle.mx_base.specs.declared.kinds.Unsupported.TheVariants.{SchemaInTransaction}
use Rattle.mx_base.specs.declared.refusal.Refusal.{Refusal}
use Rattle.mx_base.specs.declared.refusal.Refusal.TheVariants.{Conflict, OutOfMemory, Unsupported}
use Rattle.mx_row.specs.declared.row.Row.{Row}
use Rattle.mx_row.specs.Limits.{rows_size, saturated}
use Rattle.mx_schema.specs.Catalogues.{schema_of}
use Rattle.mx_schema.specs.State.{State}
use Rattle.mx_space.specs.declared.kept_states.KeptStates.{KeptStates}
use Rattle.mx_space.specs.KeptStates.{kept_at}
use Rattle.mx_space.specs.OwnChanges.{HoldsOwn}
use Rattle.mx_space.specs.Stored.{Holds}
use Rattle.mx_tracker.specs.declared.read.Read as noted
use Rattle.mx_txn.specs.declared.state.TxnState.TheVariants as txn
use Rattle.mx_write.specs.Change.{Change}
use Rattle.mx_write.specs.Notes.{AddsReads, SpellsRead}
use Rattle.mx_write.specs.Reads.{Read}
use Rattle.mx_write.specs.Touches.{SpellsTouched}
use Rattle.mx_write.specs.Writable.{describes_schema}
use Rattle.mx_model.specs.declared.reply.Reply.{Reply}
use Rattle.mx_model.specs.declared.reply.Reply.TheVariants.{Refused}
use Rattle.mx_model.specs.Frame.{IsDataStatement, IsNoSchemaWrite, OperationHasBytes}
use Rattle.mx_model.specs.Overlaps.{Active, Doomed, Standing, Transaction, TransactionStep, View, place_by, standing_after_step, state_after_first, statements_in}
use Rattle.mx_model.specs.RunAlone.{Run, answer_alone, run_alone, run_with, writes}
use Rattle.mx_model.specs.RunTouches.{changes_of, puts_of}
use Rattle.mx_model.specs.Streams.{Outcome, Streams, commit_with, goes_on_with, is_name, open_after, standing_now, state_read, states_in, states_standing, step_of, streams_after, told_alone, transaction_named, transaction_with, with_step}
use Rattle.mx_model.specs.statements.Answer.{Answer}
use Rattle.mx_model.specs.statements.Statement.{Operation, Selects, Statement, Writes}
use Rattle.mx_model.proofs.AlonePlaces.{never_overlapped, whole_state}
use Rattle.mx_model.proofs.OverlapSteps.{standing_after, standing_at}
use Rattle.mx_engine.specs.declared.answer.Answered.{Answered}
use Rattle.mx_engine.specs.declared.engine.Engine.{Engine}
use Rattle.mx_transactions.specs.declared.names.Named.{Named}
use Rattle.mx_transactions.specs.declared.work.Work.{Work}
use Rattle.mx_transactions.specs.Open.{HaveOwnSlots, AreStates, HasRun, HasSlot, HasStanding, HasTransaction, HoldsOpen, IsOpen, IsOther, Open, SlotHas, SpellsKey, in_order, newest_state, reads_made, slot_named}
use Rattle.mx_transactions.specs.OpenSteps.{ChangesSlot, ChangesTo, StaysAt, beside}
use Rattle.mx_engine.specs.Standing.{HasStreams}
use Rattle.mx_engine.specs.Steps.{AnswersAlone, IsActiveIn, IsOpenIn, Keeps, SameButOpen, TellsOutcome, newest_answer, newest_run, version_after}
use Rattle.mx_engine.specs.Views.{reply_of}
use Rattle.mx_transactions.proofs.OpenLaws.{found_other, stays_open}

-- ---- what a statement is told

no_description : (space : ℕ) (operation : Operation) → IsNoSchemaWrite space operation → (writes operation && describes_schema space) ≡ false
no_description space (Selects index limit offset iterator key) plain = refl
no_description space (Writes write) plain = plain

-- a statement of bytes that is no such write
pub data_statement : (space : ℕ) (operation : Operation) → (writes operation && describes_schema space) ≡ false → OperationHasBytes operation
    → IsDataStatement (record { space = space; operation = operation })
data_statement space (Selects index limit offset iterator key) test bytes = (tt, bytes)
data_statement space (Writes write) test bytes = (test, bytes)

module _ (streams : Streams) (one : Transaction) (statement : Statement) where
  abbrev is_write : Bool
  is_write = writes statement.operation

  -- what it is answered alone, at the transaction's place
  abbrev pub answer_read : Answer
  answer_read = answer_alone streams.base.ids (state_read streams one) statement (statements_in one.steps)

  outcome_by : (is_write && describes_schema statement.space) ≡ false → (stands : Standing) → standing_now streams false one ≡ stands
      → states_in streams one statement ≡ states_standing streams statement answer_read (standing_after_step is_write stands)
  outcome_by test stands is =
      ap (λ b. if b then told_alone (Refused (Unsupported SchemaInTransaction)) else states_standing streams statement answer_read (standing_now streams is_write one)) test
      ∙ ap (states_standing streams statement answer_read)
      (standing_at streams.base.ids streams.base.state streams.journal is_write one ∙ ap (standing_after_step is_write) is)

  pub doomed_outcome : (is_write && describes_schema statement.space) ≡ false → standing_now streams false one ≡ Doomed
      → states_in streams one statement ≡ goes_on_with streams (step_of streams statement answer_read (Refused Conflict))
  doomed_outcome test doomed = outcome_by test Doomed doomed

  -- a write where a commit has overlapped the transaction
  pub dooming_outcome : IsDataStatement statement → (place : ℕ) → standing_now streams false one ≡ View place → is_write ≡ true
      → states_in streams one statement ≡ goes_on_with streams (step_of streams statement answer_read (Refused Conflict))
  dooming_outcome plain place view write =
      outcome_by (no_description statement.space statement.operation plain.0) (View place) view
      ∙ ap (λ b. states_standing streams statement answer_read (standing_after_step b (View place))) write

  -- a SELECT there
  pub view_outcome : IsDataStatement statement → (place : ℕ) → standing_now streams false one ≡ View place → is_write ≡ false
      → states_in streams one statement ≡ goes_on_with streams (step_of streams statement answer_read answer_read.reply)
  view_outcome plain place view read =
      outcome_by (no_description statement.space statement.operation plain.0) (View place) view
      ∙ ap (λ b. states_standing streams statement answer_read (standing_after_step b (View place))) read

  -- an active transaction reads the newest state
  newest_read : standing_now streams false one ≡ Active → state_read streams one ≡ newest_state streams
  newest_read active =
      ap (λ overlap. state_after_first streams.base.state streams.journal (place_by (length streams.journal) overlap))
      (never_overlapped streams.base.ids streams.base.state streams.journal one active)
      ∙ whole_state streams.base.state streams.journal

  pub active_outcome : IsDataStatement statement → standing_now streams false one ≡ Active
      → states_in streams one statement ≡ goes_on_with streams (step_of streams statement (newest_answer streams one statement) (newest_answer streams one statement).reply)
  active_outcome plain active =
      outcome_by (no_description statement.space statement.operation plain.0) Active active
      ∙ ap (λ state. goes_on_with streams (step_of streams statement (answer_alone streams.base.ids state statement (statements_in one.steps))
      (answer_alone streams.base.ids state statement (statements_in one.steps)).reply)) (newest_read active)

-- ---- one transaction that changes

module _ (streams : Streams) (old new : Open) (slot : ℕ) (others : (other : ℕ) → other ≢ slot → StaysAt old new other) (name : TxnName) (one : Transaction) (now : SlotHas)
    (is : HasSlot new slot now) where
  rest_stay : (named : Named) (names : List Named) → named.slot ≡ slot → AllByRecursion (IsOther named) names → (ones : List Transaction)
      → AllZip (IsOpen streams old) names ones → AllZip (IsOpen streams new) names ones
  rest_stay named [] at apart [] keep = tt
  rest_stay named [] at apart (t ∷ ones) keep = absurd keep
  rest_stay named (other ∷ names) at apart [] keep = absurd keep
  rest_stay named (other ∷ names) at apart (t ∷ ones) (first, keep) =
      (stays_open streams old new other t (others other.slot (λ same. apart.0.slot (same ∙ sym at))) first, rest_stay named names at apart.1 ones keep)

  test_as : (named : Named) (t : Transaction) → IsOpen streams old named t → is_name t.name name ≡ is_name named.name name
  test_as named t first = ap (λ (n : TxnName). is_name n name) (sym first.name)

  the_one : (b : Bool) (t : Transaction) (ones : List Transaction) → b ≡ true → (if b then Some t else transaction_named name ones) ≡ Some one → t ≡ one
  the_one true t ones test found = cc
  the_one false t ones test found = absurd cc

  not_it : (b : Bool) (t : Transaction) (ones : List Transaction) → b ≡ false → (if b then Some t else transaction_named name ones) ≡ Some one → transaction_named name ones ≡ Some one
  not_it true t ones test found = absurd cc
  not_it false t ones test found = found

  -- with a step more
  pub one_steps : (step : TransactionStep) → HasTransaction streams new.kept (transaction_with step one) now → (names : List Named) (ones : List Transaction) → HaveOwnSlots names
      → slot_named name names ≡ Some slot → transaction_named name ones ≡ Some one → AllZip (IsOpen streams old) names ones → AllZip (IsOpen streams new) names (with_step name step ones)
  one_steps step keeps [] ones apart at found keep = absurd cc
  one_steps step keeps (named ∷ names) [] apart at found keep = absurd keep
  one_steps step keeps (named ∷ names) (t ∷ ones) apart at found (first, keep) =
      by_test (is_name named.name name) refl at (λ there one_there. one_steps step keeps names ones apart.1 there one_there keep)
    where
      by_test : (b : Bool) → is_name named.name name ≡ b → (if b then Some named.slot else slot_named name names) ≡ Some slot
          → (slot_named name names ≡ Some slot → transaction_named name ones ≡ Some one → AllZip (IsOpen streams new) names (with_step name step ones))
          → AllZip (IsOpen streams new) (named ∷ names) (with_step name step (t ∷ ones))
      by_test true test at rest =
          let here : named.slot ≡ slot = cc in
          let same : t ≡ one = the_one (is_name t.name name) t ones (test_as named t first ∙ test) found in
          subst (λ b. AllZip (IsOpen streams new) (named ∷ names) (if b then transaction_with step t ∷ ones else t ∷ with_step name step ones))
          (sym (test_as named t first ∙ test)) (
            record {
              name = first.name;
              has = now;
              is = subst (λ s. HasSlot new s now) (sym here) is;
              keeps = subst (λ x. HasTransaction streams new.kept (transaction_with step x) now) (sym same) keeps;
            },
            rest_stay named names here apart.0 ones keep,
          )
      by_test false test at rest =
          subst (λ b. AllZip (IsOpen streams new) (named ∷ names) (if b then transaction_with step t ∷ ones else t ∷ with_step name step ones))
          (sym (test_as named t first ∙ test)) (
            stays_open streams old new named t (others named.slot (λ same. found_other named name names apart.0 slot at (sym same))) first,
            rest at (not_it (is_name t.name name) t ones (test_as named t first ∙ test) found),
          )

  -- as it was
  pub one_stays : HasTransaction streams new.kept one now → (names : List Named) (ones : List Transaction) → HaveOwnSlots names
      → slot_named name names ≡ Some slot → transaction_named name ones ≡ Some one → AllZip (IsOpen streams old) names ones → AllZip (IsOpen streams new) names ones
  one_stays keeps [] ones apart at found keep = absurd cc
  one_stays keeps (named ∷ names) [] apart at found keep = absurd keep
  one_stays keeps (named ∷ names) (t ∷ ones) apart at found (first, keep) =
      by_test (is_name named.name name) refl at (λ there one_there. one_stays keeps names ones apart.1 there one_there keep)
    where
      by_test : (b : Bool) → is_name named.name name ≡ b → (if b then Some named.slot else slot_named name names) ≡ Some slot
          → (slot_named name names ≡ Some slot → transaction_named name ones ≡ Some one → AllZip (IsOpen streams new) names ones)
          → AllZip (IsOpen streams new) (named ∷ names) (t ∷ ones)
      by_test true test at rest =
          let here : named.slot ≡ slot = cc in
          let same : t ≡ one = the_one (is_name t.name name) t ones (test_as named t first ∙ test) found in (
            record {
              name = first.name;
              has = now;
              is = subst (λ s. HasSlot new s now) (sym here) is;
              keeps = subst (λ x. HasTransaction streams new.kept x now) (sym same) keeps;
            },
            rest_stay named names here apart.0 ones keep,
          )
      by_test false test at rest = (
        stays_open streams old new named t (others named.slot (λ same. found_other named name names apart.0 slot at (sym same))) first,
        rest at (not_it (is_name t.name name) t ones (test_as named t first ∙ test) found),
      )

-- nothing changes
pub unchanged : (all : Open) (slot : ℕ) → ChangesSlot all all slot
unchanged all slot = record {
  names = refl;
  others = λ other differs. record { state = refl; work = refl; reads = refl; kept = λ place view there. there };
  kept = λ commits state is. is;
}

-- ---- other open transactions

are_beside : (streams : Streams) (all : Open) (more : List Transaction) (names : List Named) (ones : List Transaction) → AllZip (IsOpen streams all) names ones
    → AllZip (IsOpen (beside streams more) all) names ones
are_beside streams all more [] [] keep = tt
are_beside streams all more [] (one ∷ ones) keep = absurd keep
are_beside streams all more (named ∷ names) [] keep = absurd keep
are_beside streams all more (named ∷ names) (one ∷ ones) (first, keep) =
    (record { name = first.name; has = first.has; is = first.is; keeps = first.keeps }, are_beside streams all more names ones keep)

pub nothing_committed : (streams : Streams) (name : TxnName) (outcome : Outcome) → outcome.rows ≡ []
    → streams_after streams name outcome ≡ beside streams (open_after streams.journal name outcome.becomes streams.transactions)
nothing_committed streams name outcome none =
    ap (λ rows. record { base = streams.base; journal = streams.journal ++ commit_with streams rows; transactions = open_after streams.journal name outcome.becomes streams.transactions }) none
    ∙ ap (λ journal. record { base = streams.base; journal = journal; transactions = open_after streams.journal name outcome.becomes streams.transactions }) (append-nil streams.journal)

-- ---- an engine

-- only what is kept of open transactions is another
pub with_open : (engine : Engine) (all : Open) → SameButOpen engine (record engine { «open» = all })
with_open engine all = record { state = refl; clock = refl; ids = refl; commits = refl; pending = refl; schema = refl; count = refl; durable = refl }

module _ (old new : Engine) (streams : Streams) (name : TxnName) where
  -- what an outcome without rows tells
  pub tells_none : (outcome : Outcome) (becomes : Outcome) (reply : Reply) → outcome ≡ becomes → becomes.rows ≡ [] → reply ≡ becomes.reply → SameButOpen old new
      → HasStreams new (beside streams (open_after streams.journal name becomes.becomes streams.transactions)) → TellsOutcome old new streams name outcome reply
  tells_none outcome becomes reply is none told same has = record {
    told = told ∙ ap (λ (o : Outcome). o.reply) (sym is);
    after = subst (λ (o : Outcome). HasStreams new (streams_after streams name o)) (sym is)
        (subst (HasStreams new) (sym (nothing_committed streams name becomes none)) has);
    pending = same.pending ∙ sym (append-nil old.pending) ∙ ap (λ (rows : List Row). old.pending ++ commit_with streams rows) (sym no_rows);
    schema = same.schema ∙ ap (λ (rows : List Row). version_after old.schema (commit_with streams rows)) (sym no_rows);
  }
    where
      no_rows : outcome.rows ≡ []
      no_rows = ap (λ (o : Outcome). o.rows) is ∙ none

  -- all but the open transactions is as it was
  pub same_streams : (more : List Transaction) → SameButOpen old new → HasStreams old streams → HoldsOpen (beside streams more) new.open → HasStreams new (beside streams more)
  same_streams more same has open_now = record {
    holds = subst (λ s. Holds s (newest_state streams)) (sym same.state) has.holds;
    clock = same.clock ∙ has.clock;
    ids = same.ids ∙ has.ids;
    commits = same.commits ∙ has.commits;
    few = subst (λ (commits : ℕ). commits ≤ new.count) (sym same.commits) (subst (λ (count : ℕ). old.commits ≤ count) (sym same.count) has.few);
    transactions = open_now;
  }

  module _ (slot : ℕ) (one : Transaction) (is : IsOpenIn old streams name slot one) (same : SameButOpen old new) (changes : ChangesSlot old.open new.open slot) (now : SlotHas)
      (has : HasSlot new.open slot now) where
    kept_states : AreStates streams new.open.kept
    kept_states commits state kept = is.has.transactions.kept commits state (changes.kept commits state kept)

    -- a statement more of the transaction
    pub tells_step : (step : TransactionStep) → HasTransaction streams new.open.kept (transaction_with step one) now → (outcome : Outcome) (reply : Reply)
        → outcome ≡ goes_on_with streams step → reply ≡ step.reply → TellsOutcome old new streams name outcome reply
    tells_step step keeps outcome reply goes told =
        tells_none outcome (goes_on_with streams step) reply goes refl told same (same_streams (with_step name step streams.transactions) same is.has (record {
          each = are_beside streams new.open (with_step name step streams.transactions) new.open.names (with_step name step streams.transactions)
              (subst (λ names. AllZip (IsOpen streams new.open) names (with_step name step streams.transactions)) (sym changes.names)
              (one_steps streams old.open new.open slot changes.others name one now has step keeps old.open.names streams.transactions is.apart is.slot is.named
              is.has.transactions.each));
          kept = kept_states;
        }))

    -- the transaction is as it was
    pub keeps_streams : HasTransaction streams new.open.kept one now → Keeps old new streams
    keeps_streams keeps = record {
      has = same_streams streams.transactions same is.has (record {
        each = are_beside streams new.open streams.transactions new.open.names streams.transactions
            (subst (λ names. AllZip (IsOpen streams new.open) names streams.transactions) (sym changes.names)
            (one_stays streams old.open new.open slot changes.others name one now has keeps old.open.names streams.transactions is.apart is.slot is.named
            is.has.transactions.each));
        kept = kept_states;
      });
      pending = same.pending;
      schema = same.schema;
    }

-- ---- how it stands after a statement

module _ (streams : Streams) (kept : KeptStates) (one : Transaction) (step : TransactionStep) (made : step.after ≡ length streams.journal) (has : SlotHas) where
  abbrev step_writes : Bool
  step_writes = writes step.statement.operation

  stands_after : (stands : Standing) → standing_now streams false one ≡ stands → HasStanding streams kept (transaction_with step one) (standing_after_step step_writes stands) has
      → HasTransaction streams kept (transaction_with step one) has
  stands_after stands is keeps =
      subst (λ how. HasStanding streams kept (transaction_with step one) how has)
      (sym (standing_after streams.base.ids streams.base.state streams.journal step one made ∙ ap (standing_after_step step_writes) is)) keeps

  pub stays_doomed : standing_now streams false one ≡ Doomed → (by : ℕ) → has.state ≡ Some (txn.Aborted by) → HasTransaction streams kept (transaction_with step one) has
  stays_doomed doomed by state = stands_after Doomed doomed (by, state)

  pub becomes_doomed : (place : ℕ) → standing_now streams false one ≡ View place → step_writes ≡ true → (by : ℕ) → has.state ≡ Some (txn.Aborted by)
      → HasTransaction streams kept (transaction_with step one) has
  becomes_doomed place view write by state =
      stands_after (View place) view
      (subst (λ b. HasStanding streams kept (transaction_with step one) (standing_after_step b (View place)) has) (sym write) (by, state))

  pub keeps_view : (place : ℕ) → standing_now streams false one ≡ View place → step_writes ≡ false → has.state ≡ Some (txn.View place) → IsSome (kept_at place kept)
      → HasTransaction streams kept (transaction_with step one) has
  keeps_view place view read state there =
      stands_after (View place) view
      (subst (λ b. HasStanding streams kept (transaction_with step one) (standing_after_step b (View place)) has) (sym read) (state, there))

  pub stays_active : standing_now streams false one ≡ Active → has.state ≡ Some (txn.Active one.begun)
      → HasRun (newest_state streams) (run_with (newest_run streams one) (newest_answer streams one step.statement)) has.work has.reads
      → HasTransaction streams kept (transaction_with step one) has
  unfolding run_alone
  stays_active active state run = stands_after Active active (state, run)

-- ---- how it stands by what its slot has

module _ (streams : Streams) (kept : KeptStates) (one : Transaction) (has : SlotHas) where
  active_by : (stands : Standing) (since : ℕ) → has.state ≡ Some (txn.Active since) → HasStanding streams kept one stands has → stands ≡ Active
  active_by Active since is keeps = refl
  active_by (View place) since is (was, there) = let both : Some (txn.View place) ≡ Some (txn.Active since) = sym was ∙ is in absurd cc
  active_by Doomed since is (by, was) = let both : Some (txn.Aborted by) ≡ Some (txn.Active since) = sym was ∙ is in absurd cc

  view_by : (stands : Standing) (at : ℕ) → has.state ≡ Some (txn.View at) → HasStanding streams kept one stands has → stands ≡ View at
  view_by Active at is (was, run) = let both : Some (txn.Active one.begun) ≡ Some (txn.View at) = sym was ∙ is in absurd cc
  view_by (View place) at is (was, there) = let both : Some (txn.View place) ≡ Some (txn.View at) = sym was ∙ is in cc
  view_by Doomed at is (by, was) = let both : Some (txn.Aborted by) ≡ Some (txn.View at) = sym was ∙ is in absurd cc

  doomed_by : (stands : Standing) (by : ℕ) → has.state ≡ Some (txn.Aborted by) → HasStanding streams kept one stands has → stands ≡ Doomed
  doomed_by Active by is (was, run) = let both : Some (txn.Active one.begun) ≡ Some (txn.Aborted by) = sym was ∙ is in absurd cc
  doomed_by (View place) by is (was, there) = let both : Some (txn.View place) ≡ Some (txn.Aborted by) = sym was ∙ is in absurd cc
  doomed_by Doomed by is keeps = refl

module _ (engine : Engine) (streams : Streams) (name : TxnName) (slot : ℕ) (one : Transaction) (is : IsOpenIn engine streams name slot one) where
  -- an open transaction whose slot is active
  pub is_active : (since : ℕ) → get engine.open.slots slot ≡ Some (txn.Active since) → IsActiveIn engine streams name slot one
  is_active since state =
      let stands : standing_now streams false one ≡ Active = active_by streams engine.open.kept one is.kept (standing_now streams false one) since (is.is.state ∙ state) is.keeps in
      let keeps = subst (λ how. HasStanding streams engine.open.kept one how is.kept) stands is.keeps in
      record { is_open = is; active = stands; run = keeps.1; state = (since, is.is.state ∙ state) }

  pub is_view : (at : ℕ) → get engine.open.slots slot ≡ Some (txn.View at) → standing_now streams false one ≡ View at
  is_view at state = view_by streams engine.open.kept one is.kept (standing_now streams false one) at (is.is.state ∙ state) is.keeps

  pub is_doomed : (by : ℕ) → get engine.open.slots slot ≡ Some (txn.Aborted by) → standing_now streams false one ≡ Doomed
  is_doomed by state = doomed_by streams engine.open.kept one is.kept (standing_now streams false one) by (is.is.state ∙ state) is.keeps

  -- a statement of one that is doomed
  pub tells_doomed : (by : ℕ) → get engine.open.slots slot ≡ Some (txn.Aborted by) → (statement : Statement)
      → (writes statement.operation && describes_schema statement.space) ≡ false → TellsOutcome engine engine streams name (states_in streams one statement) (Refused Conflict)
  tells_doomed by state statement test =
      let doomed = is_doomed by state in
      let step = step_of streams statement (answer_read streams one statement) (Refused Conflict) in
      tells_step engine engine streams name slot one is (with_open engine engine.open) (unchanged engine.open slot) is.kept is.is step
      (stays_doomed streams engine.open.kept one step refl is.kept doomed by (is.is.state ∙ state)) (states_in streams one statement) (Refused Conflict)
      (doomed_outcome streams one statement test doomed) refl

-- ---- what an active transaction has after a statement

-- an answer that changes nothing
pub noted_run : (before : State) (run : Run) (work : Work) (reads more : List noted.Read) (answer : Answer) → HasRun before run work reads → answer.row ≡ None → answer.change ≡ None
    → AllZip SpellsRead more answer.reads → HasRun before (run_with run answer) work (reads ++ more)
noted_run before run work reads more answer has no_row no_change spells = record {
  written = record {
    overlay = subst (λ (c : Option Change). HoldsOwn (schema_of before) work.overlay (option_to_list c ++ changes_of run.answers)) (sym no_change) has.written.overlay;
    rows = has.written.rows ∙ sym rows;
    size = has.written.size ∙ ap (λ l. saturated (rows_size l)) (sym rows);
    puts = subst (λ (c : Option Change). SpellsTouched before (puts_of (option_to_list c ++ changes_of run.answers)) work.puts) (sym no_change) has.written.puts;
    changed = subst (λ (c : Option Change). AllZip SpellsKey work.changed.items (in_order (option_to_list c ++ changes_of run.answers))) (sym no_change) has.written.changed;
  };
  reads = zip_append reads more (reads_made run.answers) answer.reads has.reads spells;
}
  where
    rows : run.rows ++ option_to_list answer.row ≡ run.rows
    rows = ap (λ o. run.rows ++ option_to_list o) no_row ∙ append-nil run.rows

    zip_append : (one other : List noted.Read) (first second : List Read) → AllZip SpellsRead one first → AllZip SpellsRead other second → AllZip SpellsRead (one ++ other) (first ++ second)
    zip_append [] other [] second none rest = rest
    zip_append [] other (read ∷ first) second none rest = absurd none
    zip_append (coded ∷ one) other [] second none rest = absurd none
    zip_append (coded ∷ one) other (read ∷ first) second (spells, all) rest = (spells, zip_append one other first second all rest)

-- reads that were added to none
pub noted_all : (reads : List noted.Read) (more : List Read) → AddsReads (Some []) (Some reads) more → AllZip SpellsRead reads more
noted_all reads more (coded, is, spells) = let same : reads ≡ coded = cc in subst (λ r. AllZip SpellsRead r more) (sym same) spells

module _ (old new : Engine) (streams : Streams) (name : TxnName) (slot : ℕ) (one : Transaction) (active : IsActiveIn old streams name slot one) (same : SameButOpen old new) where
  -- its state is the one that it needs
  begun_then : active.is_open.kept.state ≡ Some (txn.Active one.begun)
  begun_then =
      (subst (λ how. HasStanding streams old.open.kept one how active.is_open.kept) active.active active.is_open.keeps).0

  -- a statement of it, after which its slot has what it needs
  pub tells_active : (statement : Statement) → IsDataStatement statement → (now : SlotHas) → now.state ≡ active.is_open.kept.state
      → HasRun (newest_state streams) (run_with (newest_run streams one) (newest_answer streams one statement)) now.work now.reads → ChangesTo old.open new.open slot now
      → (reply : Reply) → reply ≡ (newest_answer streams one statement).reply → TellsOutcome old new streams name (states_in streams one statement) reply
  tells_active statement plain now state run changes reply told =
      let answer = newest_answer streams one statement in
      let step = step_of streams statement answer answer.reply in
      tells_step old new streams name slot one active.is_open same changes.changes now changes.has step
      (stays_active streams new.open.kept one step refl now active.active (state ∙ begun_then) run) (states_in streams one statement) reply
      (active_outcome streams one statement plain active.active) told

  -- one that changes nothing, of which the reads were noted
  pub tells_noted : (statement : Statement) (found : List (List ℕ)) (result : Result Answered Refusal) (reads : List noted.Read) → IsDataStatement statement
      → AnswersAlone streams one statement found result (Some reads) → result ≢ Err OutOfMemory
      → ChangesTo old.open new.open slot (record active.is_open.kept { reads = active.is_open.kept.reads ++ reads })
      → TellsOutcome old new streams name (states_in streams one statement) (reply_of result found)
  tells_noted statement found result reads plain (inl lacks) has changes = absurd (has lacks)
  tells_noted statement found result reads plain (inr (told, no_row, no_change, adds)) has changes =
      let answer = newest_answer streams one statement in
      tells_active statement plain (record active.is_open.kept { reads = active.is_open.kept.reads ++ reads }) refl
      (noted_run (newest_state streams) (newest_run streams one) active.is_open.kept.work active.is_open.kept.reads reads answer active.run no_row no_change (noted_all reads answer.reads adds))
      changes (reply_of result found) told

  -- it has what it had
  pub keeps_active : (now : SlotHas) → now.state ≡ active.is_open.kept.state → HasRun (newest_state streams) (newest_run streams one) now.work now.reads → ChangesTo old.open new.open slot now
      → Keeps old new streams
  keeps_active now state run changes =
      keeps_streams old new streams name slot one active.is_open same changes.changes now changes.has
      (subst (λ how. HasStanding streams new.open.kept one how now) (sym active.active) (state ∙ begun_then, run))

-- the work of its slot
pub same_work : (engine : Engine) (streams : Streams) (name : TxnName) (slot : ℕ) (one : Transaction) (active : IsActiveIn engine streams name slot one) (work : Work)
    → slice_get engine.open.works slot ≡ Some work → active.is_open.kept.work ≡ work
same_work engine streams name slot one active work has = let both : Some active.is_open.kept.work ≡ Some work = sym active.is_open.is.work ∙ has in cc
