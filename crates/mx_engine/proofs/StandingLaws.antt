-- An engine that stands for a history stands for a longer one after each of its calls.
use Rattle.std.proofs.Common.{◌≡◌, inl, inr, ℕ, ◌+◌, ◌-◌, ◌%◌, ◌^◌, ◌<◌, Bool, true, false, List, [], ◌∷◌, ◌++◌, length, Option, Some, None, refl, sym, ap, ◌∙◌, subst, append-nil, append_assoc, length-append, arith}
use Rattle.std.specs.Prelude.{◌&&◌, drop, is_some, if◌then◌else◌}
use Rattle.std.specs.List.{filter}
use Rattle.std.specs.Option.{option_map}
use Rattle.std.proofs.lemmas.List.Elements.{filter-append}
use Rattle.mx_base.specs.declared.ids.TxnName.{TxnName}
use Rattle.mx_base.specs.declared.refusal.Refusal.{Refusal}
use Rattle.mx_base.specs.declared.refusal.Refusal.TheVariants.{OutOfMemory}
use Rattle.mx_request.specs.declared.request.Ask.TheVariants as ask
use Rattle.mx_request.specs.declared.request.Request.{Request}
use Rattle.mx_request.specs.declared.request.Request.TheVariants as request
use Rattle.mx_row.specs.declared.tx.Tx.{Tx}
use Rattle.mx_write.specs.Writes.{TupleIsBytes, Write, write_in}
use Rattle.mx_model.specs.declared.reply.Reply.{Reply}
use Rattle.mx_model.specs.declared.reply.Reply.TheVariants.{Refused}
use Rattle.mx_model.specs.Bases.{Base, CanBeAsked, is_out_of_memory}
use Rattle.mx_model.specs.Alone.{AllStandAlone}
use Rattle.mx_model.specs.Histories.{Asked, History, IsLegal, Left, Looked, Ledger, ledger_of}
use Rattle.mx_model.specs.HistoryStreams.{streams_in}
use Rattle.mx_model.specs.Frame.{OperationHasBytes}
use Rattle.mx_model.specs.Streams.{AllHaveStreams, Outcome, Streams, commit_with, may_lack_memory, outcome_of, statement_may_lack, states, streams_after, streams_left, told_as, transaction_named}
use Rattle.mx_model.specs.statements.Statement.{Selects, Statement, statement_of, write_statement}
use Rattle.mx_model.specs.Transactions.{is_schema_commit, schema_version}
use Rattle.mx_model.proofs.DemandedReplies.{demanded_memory}
use Rattle.mx_model.proofs.HistoryLaws.{base_of_ledger, commits_of, steps_of_ledger, streams_legal, streams_of_history, untaken-asked, journal_of-asked}
use Rattle.mx_model.proofs.BecomesLaws.{all_in_streams, told_statement}
use Rattle.mx_model.proofs.RecordedReplies.{told_outcome}
use Rattle.mx_model.proofs.StreamSteps.{history_ran}
use Rattle.mx_engine.specs.declared.engine.Engine.{Engine}
use Rattle.mx_transactions.specs.Open.{HoldsOpen, Open}
use Rattle.mx_engine.specs.Standing.{EngineStandsFor, HasStreams, Matches}
use Rattle.mx_engine.specs.Steps.{AnswersOutcome, AnswersRequest, AnswersStatement, CountsStep, Keeps, SameNode, TellsOutcome, version_after}

-- the schema's version counts the commits that come after others
versions : (journal more : List Tx) → schema_version (journal ++ more) ≡ version_after (schema_version journal) more
versions journal [] = ap schema_version (append-nil journal)
versions journal (transaction ∷ others) =
    sym (ap schema_version (append_assoc journal (transaction ∷ []) others))
    ∙ versions (journal ++ transaction ∷ []) others
    ∙ ap (λ version. version_after version others) (one (is_schema_commit transaction) refl)
  where
    kept : filter is_schema_commit (journal ++ transaction ∷ []) ≡ filter is_schema_commit journal ++ filter is_schema_commit (transaction ∷ [])
    kept = filter-append is_schema_commit journal (transaction ∷ [])

    one : (changes : Bool) → is_schema_commit transaction ≡ changes
        → schema_version (journal ++ transaction ∷ []) ≡ (if changes then (schema_version journal + 1) % 2 ^ 32 else schema_version journal)
    one true is =
        let count : length (filter is_schema_commit (journal ++ transaction ∷ [])) ≡ length (filter is_schema_commit journal) + 1 =
        ap (λ (l : List Tx). length l) (kept ∙ ap (λ b. filter is_schema_commit journal ++ (if b then transaction ∷ [] else [])) is)
        ∙ length-append (filter is_schema_commit journal) (transaction ∷ []) in
        ap (λ n. n % 2 ^ 32) count ∙ omega arith
    one false is =
        ap (λ (l : List Tx). length l % 2 ^ 32)
        (kept ∙ ap (λ b. filter is_schema_commit journal ++ (if b then transaction ∷ [] else [])) is ∙ append-nil (filter is_schema_commit journal))

-- the engine as it counts one step more
abbrev pub counted : Engine → Engine
counted engine = record engine { count = engine.count + 1 }

pub counted_has : (engine : Engine) (streams : Streams) → HasStreams engine streams → HasStreams (counted engine) streams
counted_has engine streams has = record {
  holds = has.holds;
  clock = has.clock;
  ids = has.ids;
  commits = has.commits;
  few = omega (arith, has.few);
  transactions = has.transactions;
}

-- so many steps are counted that a further commit has a number
pub counts_step : (engine : Engine) (streams : Streams) → HasStreams engine streams → engine.count < 2 ^ 63 - 1 → CountsStep (counted engine)
counts_step engine streams has room = record { few = omega (arith, has.few); bound = omega (arith, room) }

-- all open transactions of a legal history stand alone
pub all_stand : (base : Base) (history : History) → IsLegal base history → AllStandAlone (ledger_of base history).streams
all_stand base history legal =
    subst AllStandAlone (sym (streams_of_history base history)) (history_ran base (streams_in history) (streams_legal base history legal)).0

-- each has a stream
pub all_have_streams : (base : Base) (history : History) → AllHaveStreams (ledger_of base history).streams.transactions
all_have_streams base history =
    subst (λ (streams : Streams). AllHaveStreams streams.transactions) (sym (streams_of_history base history)) (all_in_streams base (streams_in history))

-- ---- requests

module _ (old new : Engine) (base : Base) (history : History) (name : TxnName) (asked : Request) (reply : Reply) (stands : EngineStandsFor old base history)
    (can : CanBeAsked asked) (keeps : SameNode (counted old) new) where
  abbrev ledger : Ledger
  ledger = ledger_of base history

  abbrev streams : Streams
  streams = ledger.streams

  abbrev longer : History
  longer = Asked name (ask.Request asked) reply ∷ history

  -- what the entry makes of the streams, where memory was lacking or not
  with_entry : (lacks : Bool) → is_out_of_memory reply ≡ lacks
      → (ledger_of base longer).streams ≡ (if lacks then streams else streams_after streams name (told_as reply (outcome_of streams name asked)))
  with_entry lacks is = ap (λ b. if b then streams else streams_after streams name (told_as reply (outcome_of streams name asked))) is

  with_commits : (lacks : Bool) → is_out_of_memory reply ≡ lacks
      → commits_of ledger name (ask.Request asked) reply ≡ (if lacks then [] else commit_with streams (outcome_of streams name asked).rows)
  with_commits lacks is = ap (λ b. if b then [] else commit_with streams (outcome_of streams name asked).rows) is

  -- the engine matches the longer history's ledger, where it committed what the entry does
  matches_longer : (commits : List Tx) → commits_of ledger name (ask.Request asked) reply ≡ commits → HasStreams new (ledger_of base longer).streams
      → new.pending ≡ old.pending ++ commits → new.schema ≡ version_after old.schema commits → Matches new (ledger_of base longer)
  matches_longer commits is has pending schema = record {
    has = has;
    count = omega (arith, keeps.count, stands.matches.count);
    durable = keeps.durable ∙ stands.matches.durable;
    pending = pending ∙ ap (λ front. front ++ commits) stands.matches.pending ∙ ap (λ more. drop ledger.taken streams.journal ++ more) (sym is)
        ∙ sym (untaken-asked base name (ask.Request asked) reply history);
    schema = schema ∙ ap (λ version. version_after version commits) stands.matches.schema ∙ ap (version_after (schema_version streams.journal)) (sym is)
        ∙ sym (versions streams.journal (commits_of ledger name (ask.Request asked) reply))
        ∙ ap schema_version (sym (journal_of-asked base name (ask.Request asked) reply history));
  }

  told : TellsOutcome (counted old) new streams name (outcome_of streams name asked) reply → EngineStandsFor new base longer
  told tells = record {
    legal = (stands.legal, (can, inl tells.told));
    matches = matches_longer (commit_with streams (outcome_of streams name asked).rows) (with_commits false enough)
        (subst (HasStreams new) (sym (with_entry false enough ∙ ap (streams_after streams name) (told_outcome streams name asked reply tells.told))) tells.after)
        tells.pending tells.schema;
  }
    where
      enough : is_out_of_memory reply ≡ false
      enough = ap is_out_of_memory tells.told ∙ demanded_memory streams name asked

  lacked : may_lack_memory asked (outcome_of streams name asked) ≡ true → reply ≡ Refused OutOfMemory → Keeps (counted old) new streams → EngineStandsFor new base longer
  lacked may told kept = record {
    legal = (stands.legal, (can, inr (may, told)));
    matches = matches_longer [] (with_commits true lacks) (subst (HasStreams new) (sym (with_entry true lacks)) kept.has)
        (kept.pending ∙ sym (append-nil old.pending)) kept.schema;
  }
    where
      lacks : is_out_of_memory reply ≡ true
      lacks = ap is_out_of_memory told

  pub stands_asked : AnswersRequest (counted old) new streams name asked reply → EngineStandsFor new base longer
  stands_asked (inl tells) = told tells
  stands_asked (inr (may, reply_is, kept)) = lacked may reply_is kept

-- ---- statements

-- a statement may lack memory where its outcome does
statement_may : (asked : Request) (statement : Statement) (outcome : Outcome) → statement_of asked ≡ Some statement → statement_may_lack outcome ≡ true
    → may_lack_memory asked outcome ≡ true
statement_may request.Commit statement outcome is may = absurd cc
statement_may other statement outcome is may = ap (λ (found : Option Statement). is_some found && statement_may_lack outcome) is ∙ may

-- its reply is the request's
pub answers_statement : (old new : Engine) (streams : Streams) (name : TxnName) (asked : Request) (statement : Statement) (reply : Reply) → statement_of asked ≡ Some statement
    → AnswersStatement old new streams name (states streams (transaction_named name streams.transactions) statement) reply → AnswersRequest old new streams name asked reply
answers_statement old new streams name asked statement reply is answers =
    subst (λ (o : Outcome). AnswersOutcome (may_lack_memory asked o) old new streams name o reply) (sym (told_statement streams name asked statement is)) (by_answer answers)
  where
    outcome : Outcome
    outcome = states streams (transaction_named name streams.transactions) statement

    by_answer : AnswersStatement old new streams name outcome reply → AnswersOutcome (may_lack_memory asked outcome) old new streams name outcome reply
    by_answer (inl tells) = inl tells
    by_answer (inr (may, lacks, keeps)) = inr (statement_may asked statement outcome is may, lacks, keeps)

write_bytes : (found : Option (ℕ × Write)) → TupleIsBytes found → (statement : Statement) → option_map write_statement found ≡ Some statement → OperationHasBytes statement.operation
write_bytes None bytes statement is = absurd cc
write_bytes (Some (space, write)) bytes statement is =
    let same : write_statement (space, write) ≡ statement = cc in subst (λ (one : Statement). OperationHasBytes one.operation) same bytes

-- its tuple is bytes
pub asked_bytes : (asked : Request) → TupleIsBytes (write_in asked) → (statement : Statement) → statement_of asked ≡ Some statement → OperationHasBytes statement.operation
asked_bytes (request.Select space index limit offset iterator key) bytes statement is =
    let same : ◌≡◌ {A = Statement} (record { space = space.0; operation = Selects index.0 limit offset iterator key }) statement = cc in
    subst (λ (one : Statement). OperationHasBytes one.operation) same tt
asked_bytes other bytes statement is = write_bytes (write_in other) bytes statement is

-- ---- other steps

-- a request that was refused before
pub stands_refused : (engine : Engine) (base : Base) (history : History) (name : TxnName) (refusal : Refusal) → EngineStandsFor engine base history
    → EngineStandsFor (counted engine) base (Asked name (ask.Refused refusal) (Refused refusal) ∷ history)
stands_refused engine base history name refusal stands =
    let was = stands.matches in record {
      legal = (stands.legal, refl);
      matches = record {
        has = counted_has engine (ledger_of base history).streams was.has;
        count = omega (arith, was.count);
        durable = was.durable;
        pending = was.pending;
        schema = was.schema;
      };
    }

-- a look
pub stands_looked : (engine : Engine) (base : Base) (history : History) → EngineStandsFor engine base history
    → EngineStandsFor (counted engine) base (Looked ∷ history)
stands_looked engine base history stands =
    let was = stands.matches in record {
      legal = (stands.legal, tt);
      matches = record {
        has = counted_has engine (ledger_of base history).streams was.has;
        count = omega (arith, was.count);
        durable = was.durable;
        pending = was.pending;
        schema = was.schema;
      };
    }

-- a connection that disconnects
pub stands_left : (engine : Engine) (open_then : Open) (base : Base) (history : History) (connection : ℕ) → EngineStandsFor engine base history
    → HoldsOpen (streams_left (ledger_of base history).streams connection) open_then
    → EngineStandsFor (record (counted engine) { «open» = open_then }) base (Left connection ∷ history)
stands_left engine open_then base history connection stands holds =
    let was = stands.matches in record {
      legal = (stands.legal, tt);
      matches = record {
        has = record { holds = was.has.holds; clock = was.has.clock; ids = was.has.ids; commits = was.has.commits; few = omega (arith, was.has.few); transactions = holds };
        count = omega (arith, was.count);
        durable = was.durable;
        pending = was.pending;
        schema = was.schema;
      };
    }

-- ---- what an engine tells of itself

-- what an engine counts is how many steps its history has
pub count_is_length : (engine : Engine) (base : Base) (history : History) → EngineStandsFor engine base history → engine.count ≡ length history
count_is_length engine base history stands = stands.matches.count ∙ steps_of_ledger base history

-- its node is the base's
pub ids_are_those : (engine : Engine) (base : Base) (history : History) → EngineStandsFor engine base history → engine.ids ≡ base.ids
ids_are_those engine base history stands = stands.matches.has.ids ∙ ap (λ (b : Base). b.ids) (base_of_ledger base history)
