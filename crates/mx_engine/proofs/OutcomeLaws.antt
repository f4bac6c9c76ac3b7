-- What a request is told, and what an engine has then.
use Rattle.std.proofs.Common.{◌≡◌, ℕ, ◌+◌, Bool, true, false, not, List, [], ◌∷◌, ◌++◌, length, Option, Some, None, Result, refl, sym, ap, ◌∙◌, subst, append-nil, arith}
use Rattle.std.specs.Prelude.{nat_le, nat_lt, slice_get, slice_index, ◌==◌, if◌then◌else◌}
use Rattle.mx_base.specs.declared.ids.TxnName.{TxnName}
use Rattle.mx_base.specs.declared.refusal.Refusal.{Refusal}
use Rattle.mx_base.specs.declared.refusal.Refusal.TheVariants.{AllOfConnectionOpen, AllTransactionsOpen, Conflict}
use Rattle.mx_request.specs.declared.request.Request.{Request}
use Rattle.mx_request.specs.declared.request.Request.TheVariants as request
use Rattle.mx_request.specs.Spelling.{type_number}
use Rattle.mx_row.specs.declared.row.Row.{Row}
use Rattle.mx_row.specs.Clocks.{clock_after}
use Rattle.mx_space.specs.declared.kept_states.KeptStates.{KeptStates}
use Rattle.mx_space.specs.Stored.{Holds}
use Rattle.mx_txn.specs.declared.state.TxnState.{TxnState}
use Rattle.mx_txn.specs.declared.state.TxnState.TheVariants as txn
use Rattle.mx_vclock.specs.Vclocks.{max_lsn}
use Rattle.mx_model.specs.declared.reply.Reply.{Reply}
use Rattle.mx_model.specs.declared.reply.Reply.TheVariants.{Empty, Refused}
use Rattle.mx_model.specs.Alone.{AllStandAlone, StandsAlone}
use Rattle.mx_model.specs.Bases.{writable_node}
use Rattle.mx_model.specs.Overlaps.{Active, Doomed, Standing, Transaction, View}
use Rattle.mx_model.specs.Streams.{Ends, Opens, Outcome, Streams, begins_beside, commit_with, commits, commits_rows, commits_standing, ends_told, is_name, max_transactions, max_transactions_of_connection, of_connection, open_after, outcome_of, standing_now, streams_after, told_alone, transaction_named, without_named}
use Rattle.mx_model.proofs.AloneStreams.{named_has}
use Rattle.mx_model.proofs.StreamOutcomes.{commits_active, commits_all, commits_doomed, commits_view, some_row_where, with_stream}
use Rattle.mx_engine.specs.declared.engine.Engine.{Engine}
use Rattle.mx_transactions.specs.declared.work.Work.{Work}
use Rattle.mx_transactions.specs.Open.{HaveOwnSlots, HasStanding, HoldsOpen, Open, SlotHas, newest_state, slot_named}
use Rattle.mx_transactions.specs.OpenSteps.{FindsIn, TellsOpen, beside, empty_reply}
use Rattle.mx_engine.specs.Standing.{HasStreams}
use Rattle.mx_engine.specs.Steps.{IsActiveIn, IsOpenIn, Keeps, SameButOpen, TellsOutcome, newest_run, version_after}

-- ---- outcomes that commit nothing

nothing_committed : (streams : Streams) (name : TxnName) (outcome : Outcome) → outcome.rows ≡ []
    → streams_after streams name outcome ≡ beside streams (open_after streams.journal name outcome.becomes streams.transactions)
nothing_committed streams name outcome none =
    ap (λ rows. record { base = streams.base; journal = streams.journal ++ commit_with streams rows; transactions = open_after streams.journal name outcome.becomes streams.transactions }) none
    ∙ ap (λ journal. record { base = streams.base; journal = journal; transactions = open_after streams.journal name outcome.becomes streams.transactions }) (append-nil streams.journal)

-- only the open transactions are others
pub only_opened : (old : Engine) (all : Open) → SameButOpen old (record old { «open» = all })
only_opened old all = record { state = refl; clock = refl; ids = refl; commits = refl; pending = refl; schema = refl; count = refl; durable = refl }

pub has_beside : (old new : Engine) (streams : Streams) (transactions : List Transaction) → HasStreams old streams → SameButOpen old new → HoldsOpen (beside streams transactions) new.open
    → HasStreams new (beside streams transactions)
has_beside old new streams transactions has same holds = record {
  holds = subst (λ state. Holds state (newest_state streams)) (sym same.state) has.holds;
  clock = same.clock ∙ has.clock;
  ids = same.ids ∙ has.ids;
  commits = same.commits ∙ has.commits;
  few = omega (arith, same.commits, same.count, has.few);
  transactions = holds;
}

pub keeps_same : (old new : Engine) (streams : Streams) → HasStreams old streams → SameButOpen old new → HoldsOpen streams new.open → Keeps old new streams
keeps_same old new streams has same holds = record {
  has = has_beside old new streams streams.transactions has same holds;
  pending = same.pending;
  schema = same.schema;
}

module _ (old new : Engine) (streams : Streams) (name : TxnName) where
  pub tells_bare : (outcome : Outcome) (reply : Reply) → outcome.rows ≡ [] → reply ≡ outcome.reply
      → HasStreams new (beside streams (open_after streams.journal name outcome.becomes streams.transactions)) → new.pending ≡ old.pending → new.schema ≡ old.schema
      → TellsOutcome old new streams name outcome reply
  tells_bare outcome reply none told has pending schema = record {
    told = told;
    after = subst (HasStreams new) (sym (nothing_committed streams name outcome none)) has;
    pending = pending ∙ sym (append-nil old.pending) ∙ ap (λ (rows : List Row). old.pending ++ commit_with streams rows) (sym none);
    schema = schema ∙ ap (λ (rows : List Row). version_after old.schema (commit_with streams rows)) (sym none);
  }

  -- nothing becomes of the transaction
  pub stays_told : (outcome : Outcome) (reply answer : Reply) → HasStreams new streams → new.pending ≡ old.pending → new.schema ≡ old.schema
      → outcome ≡ told_alone answer → reply ≡ answer → TellsOutcome old new streams name outcome reply
  stays_told outcome reply answer has pending schema same told =
      subst (λ (o : Outcome). TellsOutcome old new streams name o reply) (sym same) (tells_bare (told_alone answer) reply refl told has pending schema)

  -- it ends
  pub ends_with : (outcome : Outcome) (reply answer : Reply) → HasStreams old streams → SameButOpen old new → HoldsOpen (beside streams (without_named name streams.transactions)) new.open
      → outcome ≡ ends_told answer → reply ≡ answer → TellsOutcome old new streams name outcome reply
  ends_with outcome reply answer has only holds same told =
      subst (λ (o : Outcome). TellsOutcome old new streams name o reply) (sym same)
      (tells_bare (ends_told answer) reply refl told (has_beside old new streams (without_named name streams.transactions) has only holds) only.pending only.schema)

-- ---- BEGIN

begins_bare : (all : List Transaction) (connection : ℕ) (present : Option Transaction) → (begins_beside all connection present).rows ≡ []
begins_bare all connection (Some one) = refl
begins_bare all connection None =
    by_tests (nat_le max_transactions_of_connection (length (of_connection connection all))) (nat_le max_transactions (length all))
  where
    by_tests : (of_this of_all : Bool)
        → (if of_this then told_alone (Refused AllOfConnectionOpen) else if of_all then told_alone (Refused AllTransactionsOpen) else record { reply = Empty; rows = []; becomes = Opens }).rows ≡ []
    by_tests true of_all = refl
    by_tests false true = refl
    by_tests false false = refl

pub begins_told : (old new : Engine) (streams : Streams) (name : TxnName) (reply : Reply) (result : Result (Unit {0}) Refusal) → HasStreams old streams → SameButOpen old new
    → (name.stream.0 == 0) ≡ false → TellsOpen streams new.open name (begins_beside streams.transactions name.conn.0 (transaction_named name streams.transactions)) result
    → reply ≡ empty_reply result → TellsOutcome old new streams name (outcome_of streams name request.Begin) reply
begins_told old new streams name reply result has only stream tells told =
    let begun = begins_beside streams.transactions name.conn.0 (transaction_named name streams.transactions) in
    let none = begins_bare streams.transactions name.conn.0 (transaction_named name streams.transactions) in
    let holds = subst (λ (s : Streams). HoldsOpen s new.open) (nothing_committed streams name begun none) tells.after in
    subst (λ (o : Outcome). TellsOutcome old new streams name o reply) (sym (with_stream streams name begun stream))
    (tells_bare old new streams name begun reply none (told ∙ tells.told)
    (has_beside old new streams (open_after streams.journal name begun.becomes streams.transactions) has only holds) only.pending only.schema)

-- ---- ROLLBACK

-- where no transaction has the name, all stay
pub none_without : (name : TxnName) (all : List Transaction) → transaction_named name all ≡ None → without_named name all ≡ all
none_without name [] none = refl
none_without name (one ∷ others) none = by_test (is_name one.name name) refl none (none_without name others)
  where
    by_test : (b : Bool) → is_name one.name name ≡ b → (if b then Some one else transaction_named name others) ≡ None
        → (transaction_named name others ≡ None → without_named name others ≡ others) → without_named name (one ∷ others) ≡ one ∷ others
    by_test true is none rest = absurd cc
    by_test false is none rest =
        ap (λ (b : Bool). if not b then one ∷ without_named name others else without_named name others) is ∙ ap (λ (l : List Transaction). one ∷ l) (rest none)

pub rolls_back : (old new : Engine) (streams : Streams) (name : TxnName) → HasStreams old streams → SameButOpen old new → (name.stream.0 == 0) ≡ false
    → HoldsOpen (beside streams (without_named name streams.transactions)) new.open → TellsOutcome old new streams name (outcome_of streams name request.Rollback) Empty
rolls_back old new streams name has only stream holds =
    ends_with old new streams name (outcome_of streams name request.Rollback) Empty Empty has only holds (with_stream streams name (ends_told Empty) stream) refl

pub rolls_nothing_back : (engine : Engine) (streams : Streams) (name : TxnName) → HasStreams engine streams → (name.stream.0 == 0) ≡ false → transaction_named name streams.transactions ≡ None
    → TellsOutcome engine engine streams name (outcome_of streams name request.Rollback) Empty
rolls_nothing_back engine streams name has stream none =
    rolls_back engine engine streams name has (only_opened engine engine.open) stream
    (subst (λ l. HoldsOpen (beside streams l) engine.open) (sym (none_without name streams.transactions none)) has.transactions)

-- ---- how a transaction stands by the state of its slot

module _ (streams : Streams) (kept : KeptStates) (one : Transaction) (has : SlotHas) where
  active_by : (how : Standing) (since : ℕ) → HasStanding streams kept one how has → has.state ≡ Some (txn.Active since) → how ≡ Active
  active_by Active since keeps state = refl
  active_by (View place) since keeps state = let e : Some (txn.View place) ≡ Some (txn.Active since) = sym keeps.0 ∙ state in absurd cc
  active_by Doomed since keeps state = let e : Some (txn.Aborted keeps.0) ≡ Some (txn.Active since) = sym keeps.1 ∙ state in absurd cc

  view_by : (how : Standing) (at : ℕ) → HasStanding streams kept one how has → has.state ≡ Some (txn.View at) → how ≡ View at
  view_by Active at keeps state = let e : Some (txn.Active one.begun) ≡ Some (txn.View at) = sym keeps.0 ∙ state in absurd cc
  view_by (View place) at keeps state = let e : Some (txn.View place) ≡ Some (txn.View at) = sym keeps.0 ∙ state in ap View (same_place e)
    where
      same_place : Some (txn.View place) ≡ Some (txn.View at) → place ≡ at
      same_place e = cc
  view_by Doomed at keeps state = let e : Some (txn.Aborted keeps.0) ≡ Some (txn.View at) = sym keeps.1 ∙ state in absurd cc

  doomed_by : (how : Standing) (by : ℕ) → HasStanding streams kept one how has → has.state ≡ Some (txn.Aborted by) → how ≡ Doomed
  doomed_by Active by keeps state = let e : Some (txn.Active one.begun) ≡ Some (txn.Aborted by) = sym keeps.0 ∙ state in absurd cc
  doomed_by (View place) by keeps state = let e : Some (txn.View place) ≡ Some (txn.Aborted by) = sym keeps.0 ∙ state in absurd cc
  doomed_by Doomed by keeps state = refl

-- a slot that was found has an open transaction
pub is_open_in : (engine : Engine) (streams : Streams) (name : TxnName) (slot : ℕ) (state : TxnState) → HasStreams engine streams → AllStandAlone streams
    → slot_named name engine.open.names ≡ Some slot → HaveOwnSlots engine.open.names → (finds : FindsIn streams engine.open name slot state) → IsOpenIn engine streams name slot finds.transaction
is_open_in engine streams name slot state has all named apart finds = record {
  has = has;
  named = finds.named;
  slot = named;
  kept = finds.has;
  is = finds.is;
  keeps = finds.keeps;
  apart = apart;
  alone = named_has (StandsAlone streams.base.ids streams.base.state streams.journal) name streams.transactions finds.transaction all.each finds.named;
}

-- an active one
pub is_active_in : (engine : Engine) (streams : Streams) (name : TxnName) (slot since : ℕ) → HasStreams engine streams → AllStandAlone streams
    → slot_named name engine.open.names ≡ Some slot → HaveOwnSlots engine.open.names → (finds : FindsIn streams engine.open name slot (txn.Active since)) → IsActiveIn engine streams name slot finds.transaction
unfolding is_open_in
is_active_in engine streams name slot since has all named apart finds =
    let one = finds.transaction in
    let active = active_by streams engine.open.kept one finds.has (standing_now streams false one) since finds.keeps finds.state in
    record {
      is_open = is_open_in engine streams name slot (txn.Active since) has all named apart finds;
      active = active;
      run = (subst (λ (how : Standing). HasStanding streams engine.open.kept one how finds.has) active finds.keeps).1;
      state = (since, finds.state);
    }

-- ---- COMMIT

module _ (streams : Streams) (all : Open) (name : TxnName) (slot : ℕ) (stream : (name.stream.0 == 0) ≡ false) where
  commits_found : (state : TxnState) → (finds : FindsIn streams all name slot state)
      → outcome_of streams name request.Commit ≡ commits_standing streams finds.transaction (standing_now streams false finds.transaction)
  commits_found state finds = with_stream streams name (commits streams (transaction_named name streams.transactions)) stream ∙ ap (commits streams) finds.named

  pub active_commits : (since : ℕ) (finds : FindsIn streams all name slot (txn.Active since))
      → outcome_of streams name request.Commit ≡ commits_rows streams (newest_run streams finds.transaction).rows
  active_commits since finds =
      commits_found (txn.Active since) finds
      ∙ commits_active streams finds.transaction (sym (active_by streams all.kept finds.transaction finds.has (standing_now streams false finds.transaction) since finds.keeps finds.state))

  pub view_commits : (at : ℕ) → FindsIn streams all name slot (txn.View at) → outcome_of streams name request.Commit ≡ ends_told Empty
  view_commits at finds =
      commits_found (txn.View at) finds
      ∙ commits_view streams finds.transaction at (sym (view_by streams all.kept finds.transaction finds.has (standing_now streams false finds.transaction) at finds.keeps finds.state))

  pub doomed_commits : (by : ℕ) → FindsIn streams all name slot (txn.Aborted by) → outcome_of streams name request.Commit ≡ ends_told (Refused Conflict)
  doomed_commits by finds =
      commits_found (txn.Aborted by) finds
      ∙ commits_doomed streams finds.transaction (sym (doomed_by streams all.kept finds.transaction finds.has (standing_now streams false finds.transaction) by finds.keeps finds.state))

-- what was found of a slot is what it has
pub same_work : (works : List Work) (slot : ℕ) (one other : Work) → slice_get works slot ≡ Some one → slice_get works slot ≡ Some other → one ≡ other
same_work works slot one other is is_too = let e : Some one ≡ Some other = sym is ∙ is_too in same_some e
  where
    same_some : Some one ≡ Some other → one ≡ other
    same_some e = cc

-- an active transaction has so many rows
pub rows_counted : (engine : Engine) (streams : Streams) (name : TxnName) (slot : ℕ) (one : Transaction) (work : Work) → IsActiveIn engine streams name slot one
    → slice_get engine.open.works slot ≡ Some work → work.rows ≡ (newest_run streams one).rows
rows_counted engine streams name slot one work is there =
    ap (λ (w : Work). w.rows) (same_work engine.open.works slot work is.is_open.kept.work there is.is_open.is.work) ∙ is.run.written.rows

-- the lsn of the last of so many further rows, by the engine's clock
pub lsn_is : (engine : Engine) (streams : Streams) (count : ℕ) → HasStreams engine streams → streams.base.ids.me ≡ writable_node
    → slice_index (clock_after streams.base.clock streams.journal) streams.base.ids.me + count ≡ slice_index engine.clock writable_node + count
lsn_is engine streams count has me =
    ap (λ n. slice_index (clock_after streams.base.clock streams.journal) n + count) me ∙ ap (λ (c : List ℕ). slice_index c writable_node + count) (sym has.clock)

-- ---- a request by its type

pub is_begin : (asked : Request) → type_number asked ≡ 14 → asked ≡ request.Begin
is_begin (request.Select space index limit offset iterator key) e = absurd (omega (arith, e))
is_begin (request.Insert space tuple) e = absurd (omega (arith, e))
is_begin (request.Replace space tuple) e = absurd (omega (arith, e))
is_begin (request.Update space index base key operations) e = absurd (omega (arith, e))
is_begin (request.Delete space index key) e = absurd (omega (arith, e))
is_begin (request.Upsert space base tuple operations) e = absurd (omega (arith, e))
is_begin request.Nop e = absurd (omega (arith, e))
is_begin request.Begin e = refl
is_begin request.Commit e = absurd (omega (arith, e))
is_begin request.Rollback e = absurd (omega (arith, e))
is_begin request.Ping e = absurd (omega (arith, e))
is_begin (request.Join instance) e = absurd (omega (arith, e))
is_begin (request.Subscribe instance set clock) e = absurd (omega (arith, e))
is_begin request.Id e = absurd (omega (arith, e))
is_begin (request.Ack clock) e = absurd (omega (arith, e))

pub is_commit : (asked : Request) → type_number asked ≡ 15 → asked ≡ request.Commit
is_commit (request.Select space index limit offset iterator key) e = absurd (omega (arith, e))
is_commit (request.Insert space tuple) e = absurd (omega (arith, e))
is_commit (request.Replace space tuple) e = absurd (omega (arith, e))
is_commit (request.Update space index base key operations) e = absurd (omega (arith, e))
is_commit (request.Delete space index key) e = absurd (omega (arith, e))
is_commit (request.Upsert space base tuple operations) e = absurd (omega (arith, e))
is_commit request.Nop e = absurd (omega (arith, e))
is_commit request.Begin e = absurd (omega (arith, e))
is_commit request.Commit e = refl
is_commit request.Rollback e = absurd (omega (arith, e))
is_commit request.Ping e = absurd (omega (arith, e))
is_commit (request.Join instance) e = absurd (omega (arith, e))
is_commit (request.Subscribe instance set clock) e = absurd (omega (arith, e))
is_commit request.Id e = absurd (omega (arith, e))
is_commit (request.Ack clock) e = absurd (omega (arith, e))

pub is_rollback : (asked : Request) → type_number asked ≡ 16 → asked ≡ request.Rollback
is_rollback (request.Select space index limit offset iterator key) e = absurd (omega (arith, e))
is_rollback (request.Insert space tuple) e = absurd (omega (arith, e))
is_rollback (request.Replace space tuple) e = absurd (omega (arith, e))
is_rollback (request.Update space index base key operations) e = absurd (omega (arith, e))
is_rollback (request.Delete space index key) e = absurd (omega (arith, e))
is_rollback (request.Upsert space base tuple operations) e = absurd (omega (arith, e))
is_rollback request.Nop e = absurd (omega (arith, e))
is_rollback request.Begin e = absurd (omega (arith, e))
is_rollback request.Commit e = absurd (omega (arith, e))
is_rollback request.Rollback e = refl
is_rollback request.Ping e = absurd (omega (arith, e))
is_rollback (request.Join instance) e = absurd (omega (arith, e))
is_rollback (request.Subscribe instance set clock) e = absurd (omega (arith, e))
is_rollback request.Id e = absurd (omega (arith, e))
is_rollback (request.Ack clock) e = absurd (omega (arith, e))

-- ---- what a COMMIT of an active transaction is told

pub some_rows : (engine : Engine) (streams : Streams) (name : TxnName) (slot : ℕ) (one : Transaction) (work : Work) (count : ℕ) → IsActiveIn engine streams name slot one
    → slice_get engine.open.works slot ≡ Some work → count ≡ length work.rows → (count ≡ 0 → ⊥)
    → (row : Row) × (rest : List Row) × ((newest_run streams one).rows ≡ row ∷ rest) × (count ≡ length (row ∷ rest))
some_rows engine streams name slot one work count is there counts some =
    let rows = rows_counted engine streams name slot one work is there in
    let number : count ≡ length (newest_run streams one).rows = counts ∙ ap (λ (l : List Row). length l) rows in
    let (row, rest, are) = some_row_where (newest_run streams one).rows (λ none. some (number ∙ none)) in
    (row, rest, are, number ∙ ap (λ (l : List Row). length l) are)

-- all is committed
pub commits_whole : (engine : Engine) (streams : Streams) (row : Row) (rest : List Row) (count last : ℕ) (rows : List Row) → HasStreams engine streams → streams.base.ids.me ≡ writable_node
    → rows ≡ row ∷ rest → count ≡ length (row ∷ rest) → last ≡ slice_index engine.clock writable_node + count → nat_lt max_lsn last ≡ false
    → commits_rows streams rows ≡ record { reply = Empty; rows = row ∷ rest; becomes = Ends }
commits_whole engine streams row rest count last rows has me are counts last_is low =
    let below = ap (nat_lt max_lsn) (lsn_is engine streams (length (row ∷ rest)) has me ∙ ap (λ n. slice_index engine.clock writable_node + n) (sym counts) ∙ sym last_is) ∙ low in
    ap (commits_rows streams) are ∙ commits_all streams row rest (ap (λ n. not (n == writable_node)) me) below
