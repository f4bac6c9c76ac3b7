-- What a request makes of its stream's transaction: BEGIN opens one, in a stream; a statement makes it go on with that statement.
use Rattle.std.proofs.Common.{◌≡◌, ℕ, Bool, true, false, not, ◌&&◌, List, [], ◌∷◌, length, Some, None, Option, refl, ◌<◌, ◌^◌, ap, subst, ◌∙◌}
use Rattle.std.specs.Prelude.{⊤, nat_le, nat_lt, ◌==◌, if◌then◌else◌}
use Rattle.std.specs.List.{AllByRecursion}
use Rattle.std.proofs.lemmas.Bool.{eqb-true}
use Rattle.mx_base.specs.Keys.{stream_key}
use Rattle.mx_base.specs.declared.ids.TxnName.{TxnName}
use Rattle.mx_base.specs.declared.kinds.Unsupported.TheVariants.{SchemaInTransaction}
use Rattle.mx_base.specs.declared.refusal.Refusal.TheVariants.{AllOfConnectionOpen, AllTransactionsOpen, IllegalValue, LsnsUsedUp, ReadOnly, Unsupported}
use Rattle.mx_request.specs.declared.request.Request.{Request}
use Rattle.mx_row.specs.declared.row.Row.{Row}
use Rattle.mx_vclock.specs.Vclocks.{max_lsn}
use Rattle.mx_write.specs.Writable.{describes_schema}
use Rattle.mx_model.specs.declared.reply.Reply.{Reply}
use Rattle.mx_model.specs.declared.reply.Reply.TheVariants.{Empty, Refused}
use Rattle.mx_model.specs.Bases.{writable_node, Base, CanBeAsked, is_out_of_memory}
use Rattle.mx_model.specs.Overlaps.{Active, Doomed, Standing, Transaction, TransactionStep, View, standing, statements_in}
use Rattle.mx_model.specs.RunAlone.{answer_alone, writes}
use Rattle.mx_model.specs.StreamHistories.{Disconnected, Requested, streams_with, FollowsStreams, IsLegalStreams, StreamEntry, StreamHistory, streams_of}
use Rattle.mx_model.specs.Streams.{Becomes, Ends, Goes, Opens, Outcome, Stays, Streams, becomes_told, begins_beside, commits, commits_rows, commits_standing, ends_told, in_stream, is_name, max_transactions, max_transactions_of_connection, of_connection, open_after, outcome_of, state_read, states, states_standing, streams_after, tells_statement, told_alone, told_as, transaction_named, transaction_with, AllHaveStreams, HasStream}
use Rattle.mx_model.specs.statements.Answer.{Answer}
use Rattle.mx_model.specs.statements.Statement.{Statement, statement_of, Operation, Selects, Writes, write_statement}
use Rattle.mx_model.proofs.AloneStreams.{each_with_step, named_has}
use Rattle.mx_model.proofs.EachLaws.{each_kept}
use Rattle.mx_write.specs.Writes.{Delete, HasBytes, Insert, IsWellFormed, Replace, Update, Upsert, Write}
use Rattle.mx_request.specs.declared.request.Request.TheVariants as request

-- ---- what a request makes of its stream's transaction: BEGIN opens one, in a stream; a statement makes it go on with that statement

-- a request may make this of its stream's transaction
abbrev pub IsDueTo : TxnName → Request → Becomes → Type 0
IsDueTo name asked Opens = (name.stream.0 == 0) ≡ false
IsDueTo name asked (Goes step) = statement_of asked ≡ Some step.statement
IsDueTo name asked other = ⊤

module _ (streams : Streams) (name : TxnName) (asked : Request) where
  abbrev Due : Outcome → Type 0
  Due outcome = IsDueTo name asked outcome.becomes

  in_stream_due : (outcome : Outcome) → ((name.stream.0 == 0) ≡ false → Due outcome) → Due (in_stream name outcome)
  in_stream_due outcome due = by_test (name.stream.0 == 0) due
    where
      by_test : (b : Bool) → (b ≡ false → Due outcome) → Due (if b then told_alone (Refused (IllegalValue stream_key)) else outcome)
      by_test true due = tt
      by_test false due = due refl

  begins_due : (present : Option Transaction) → (name.stream.0 == 0) ≡ false → Due (begins_beside streams.transactions name.conn.0 present)
  begins_due (Some transaction) has = tt
  begins_due None has =
      by_tests (nat_le max_transactions_of_connection (length (of_connection name.conn.0 streams.transactions))) (nat_le max_transactions (length streams.transactions))
    where
      by_tests : (of_this of_all : Bool)
          → Due (if of_this then told_alone (Refused AllOfConnectionOpen) else if of_all then told_alone (Refused AllTransactionsOpen)
          else record { reply = Empty; rows = []; becomes = Opens })
      by_tests true of_all = tt
      by_tests false true = tt
      by_tests false false = has

  rows_due : (rows : List Row) → Due (commits_rows streams rows)
  rows_due [] = tt
  rows_due (row ∷ rows) = by_tests (not (streams.base.ids.me == writable_node)) (nat_lt max_lsn _)
    where
      by_tests : (refuses above : Bool)
          → Due (if refuses then ends_told (Refused (ReadOnly (record { 0 = writable_node }))) else if above then ends_told (Refused LsnsUsedUp)
          else record { reply = Empty; rows = row ∷ rows; becomes = Ends })
      by_tests true above = tt
      by_tests false true = tt
      by_tests false false = tt

  commits_due : (present : Option Transaction) → Due (commits streams present)
  commits_due None = tt
  commits_due (Some transaction) = by_standing (standing streams.base.ids streams.base.state streams.journal false transaction)
    where
      by_standing : (how : Standing) → Due (commits_standing streams transaction how)
      by_standing Active = rows_due _
      by_standing (View place) = rows_due _
      by_standing Doomed = tt

  states_due : (statement : Statement) → statement_of asked ≡ Some statement → (present : Option Transaction) → Due (states streams present statement)
  states_due statement is None = tt
  states_due statement is (Some transaction) = by_test (writes statement.operation && describes_schema statement.space)
    where
      answer : Answer
      answer = answer_alone streams.base.ids (state_read streams transaction) statement (statements_in transaction.steps)

      by_standing : (how : Standing) → Due (states_standing streams statement answer how)
      by_standing Active = is
      by_standing (View place) = is
      by_standing Doomed = is

      by_test : (b : Bool) → Due (if b then told_alone (Refused (Unsupported SchemaInTransaction))
          else states_standing streams statement answer (standing streams.base.ids streams.base.state streams.journal (writes statement.operation) transaction))
      by_test true = tt
      by_test false = by_standing (standing streams.base.ids streams.base.state streams.journal (writes statement.operation) transaction)

  tells_due : (statement : Option Statement) → statement_of asked ≡ statement → Due (tells_statement streams name asked statement)
  tells_due None is = tt
  tells_due (Some statement) is = states_due statement is (transaction_named name streams.transactions)

outcome_due : (streams : Streams) (name : TxnName) (asked : Request) → IsDueTo name asked (outcome_of streams name asked).becomes
outcome_due streams name request.Begin = in_stream_due streams name request.Begin _ (begins_due streams name request.Begin (transaction_named name streams.transactions))
outcome_due streams name request.Commit = in_stream_due streams name request.Commit _ (λ has. commits_due streams name request.Commit (transaction_named name streams.transactions))
outcome_due streams name request.Rollback = in_stream_due streams name request.Rollback _ (λ has. tt)
outcome_due streams name other = tells_due streams name other (statement_of other) refl

-- ---- what all open transactions have

-- what a transaction has that is opened in a stream, and keeps with each statement that is asked, all open ones have after a request
module _ (P : Transaction → Type 0) (streams : Streams) (name : TxnName) (asked : Request)
    (opens : (name.stream.0 == 0) ≡ false → P (record { name = name; begun = length streams.journal; steps = [] }))
    (goes : (step : TransactionStep) → statement_of asked ≡ Some step.statement → (transaction : Transaction) → P transaction → P (transaction_with step transaction)) where
  each_after : (becomes : Becomes) → IsDueTo name asked becomes → AllByRecursion P streams.transactions → AllByRecursion P (open_after streams.journal name becomes streams.transactions)
  each_after Stays due all = all
  each_after Opens due all = (opens due, all)
  each_after (Goes step) due all =
      each_with_step P name step streams.transactions all (λ transaction named. goes step due transaction (named_has P name streams.transactions transaction all named))
  each_after Ends due all = each_kept P (λ one. not (is_name one.name name)) streams.transactions all

  told_due : (reply : Reply) (becomes : Becomes) → IsDueTo name asked becomes → IsDueTo name asked (becomes_told reply becomes)
  told_due reply Stays due = due
  told_due reply Opens due = due
  told_due reply (Goes step) due = due
  told_due reply Ends due = due

  pub each_requested : (reply : Reply) → AllByRecursion P streams.transactions → AllByRecursion P (streams_with streams (Requested name asked reply)).transactions
  each_requested reply all = by_test (is_out_of_memory reply)
    where
      by_test : (b : Bool) → AllByRecursion P (if b then streams else streams_after streams name (told_as reply (outcome_of streams name asked))).transactions
      by_test true = all
      by_test false =
          each_after (becomes_told reply (outcome_of streams name asked).becomes)
          (told_due reply (outcome_of streams name asked).becomes (outcome_due streams name asked)) all

-- and after a disconnect
pub each_disconnected : (P : Transaction → Type 0) (streams : Streams) (connection : ℕ) → AllByRecursion P streams.transactions
    → AllByRecursion P (streams_with streams (Disconnected connection)).transactions
each_disconnected P streams connection all = each_kept P (λ one. not (one.name.conn.0 == connection)) streams.transactions all

-- ---- statements as requests ask them, and that those of open transactions are

-- a SELECT, or a well-formed write of bytes, in a space whose number has 32 bits
abbrev pub IsAskedOperation : (space : ℕ) → Operation → Type 0
IsAskedOperation space (Selects index limit offset iterator key) = ⊤
IsAskedOperation space (Writes write) = (space < 2 ^ 32) × IsWellFormed write × HasBytes write

abbrev pub IsAskedStatement : Statement → Type 0
IsAskedStatement statement = IsAskedOperation statement.space statement.operation

-- ---- the statement of a request

write_asked : (space : ℕ) (write : Write) → IsAskedOperation space (Writes write) → (statement : Statement) → Some (write_statement (space, write)) ≡ Some statement
    → IsAskedStatement statement
write_asked space write asked statement is = let same : write_statement (space, write) ≡ statement = cc in subst IsAskedStatement same asked

pub statement_asked : (asked : Request) → CanBeAsked asked → (statement : Statement) → statement_of asked ≡ Some statement → IsAskedStatement statement
statement_asked (request.Select space index limit offset iterator key) can statement is =
    let same : ◌≡◌ {A = Statement} (record { space = space.0; operation = Selects index.0 limit offset iterator key }) statement = cc in
    subst IsAskedStatement same tt
statement_asked (request.Insert space tuple) can statement is = write_asked space.0 (Insert tuple) (can.0.0, can.0.1, can.1) statement is
statement_asked (request.Replace space tuple) can statement is = write_asked space.0 (Replace tuple) (can.0.0, can.0.1, can.1) statement is
statement_asked (request.Update space index first key operations) can statement is =
    write_asked space.0 (Update index.0 first key operations) (can.0.0, (can.0.2, can.0.3, can.0.4), can.1) statement is
statement_asked (request.Delete space index key) can statement is = write_asked space.0 (Delete index.0 key) (can.0.0, can.0.2, can.1) statement is
statement_asked (request.Upsert space first tuple operations) can statement is =
    write_asked space.0 (Upsert first tuple operations) (can.0.0, (can.0.1, can.0.2, can.0.3), can.1) statement is
statement_asked request.Nop can statement is = absurd cc
statement_asked request.Ping can statement is = absurd cc
statement_asked request.Begin can statement is = absurd cc
statement_asked request.Commit can statement is = absurd cc
statement_asked request.Rollback can statement is = absurd cc
statement_asked request.Id can statement is = absurd cc
statement_asked (request.Join instance) can statement is = absurd cc
statement_asked (request.Subscribe instance set clock) can statement is = absurd cc
statement_asked (request.Ack clock) can statement is = absurd cc

-- a statement is told what it states
pub told_statement : (streams : Streams) (name : TxnName) (asked : Request) (statement : Statement) → statement_of asked ≡ Some statement
    → outcome_of streams name asked ≡ states streams (transaction_named name streams.transactions) statement
told_statement streams name (request.Select space index limit offset iterator key) statement is = ap (tells_statement streams name (request.Select space index limit offset iterator key)) is
told_statement streams name (request.Insert space tuple) statement is = ap (tells_statement streams name (request.Insert space tuple)) is
told_statement streams name (request.Replace space tuple) statement is = ap (tells_statement streams name (request.Replace space tuple)) is
told_statement streams name (request.Update space index base key operations) statement is = ap (tells_statement streams name (request.Update space index base key operations)) is
told_statement streams name (request.Delete space index key) statement is = ap (tells_statement streams name (request.Delete space index key)) is
told_statement streams name (request.Upsert space base tuple operations) statement is = ap (tells_statement streams name (request.Upsert space base tuple operations)) is
told_statement streams name request.Nop statement is = absurd cc
told_statement streams name request.Ping statement is = absurd cc
told_statement streams name request.Begin statement is = absurd cc
told_statement streams name request.Commit statement is = absurd cc
told_statement streams name request.Rollback statement is = absurd cc
told_statement streams name request.Id statement is = absurd cc
told_statement streams name (request.Join instance) statement is = absurd cc
told_statement streams name (request.Subscribe instance set clock) statement is = absurd cc
told_statement streams name (request.Ack clock) statement is = absurd cc

-- ---- those of open transactions

abbrev pub AreAsked : Transaction → Type 0
AreAsked transaction = AllByRecursion IsAskedStatement (statements_in transaction.steps)

abbrev pub AllAsked : Streams → Type 0
AllAsked streams = AllByRecursion AreAsked streams.transactions

entry_asked : (streams : Streams) (entry : StreamEntry) → FollowsStreams streams entry → AllAsked streams → AllAsked (streams_with streams entry)
entry_asked streams (Requested name asked reply) follows all =
    each_requested AreAsked streams name asked (λ has. tt) (λ step is transaction before. (statement_asked asked follows.0 step.statement is, before)) reply all
entry_asked streams (Disconnected connection) follows all = each_disconnected AreAsked streams connection all

-- in a legal history
pub all_asked : (base : Base) (history : StreamHistory) → IsLegalStreams base history → AllAsked (streams_of base history)
all_asked base [] legal = tt
all_asked base (entry ∷ earlier) legal = entry_asked (streams_of base earlier) entry legal.1 (all_asked base earlier legal.0)

-- ---- each open transaction has a stream, since BEGIN needs one; so none is open under a name without a stream

entry_in_streams : (streams : Streams) (entry : StreamEntry) → AllHaveStreams streams.transactions → AllHaveStreams (streams_with streams entry).transactions
entry_in_streams streams (Requested name asked reply) all = each_requested HasStream streams name asked (λ has. has) (λ step is transaction has. has) reply all
entry_in_streams streams (Disconnected connection) all = each_disconnected HasStream streams connection all

pub all_in_streams : (base : Base) (history : StreamHistory) → AllHaveStreams (streams_of base history).transactions
all_in_streams base [] = tt
all_in_streams base (entry ∷ earlier) = entry_in_streams (streams_of base earlier) entry (all_in_streams base earlier)

-- ---- without a stream

and_false : (b : Bool) → (b && false) ≡ false
and_false true = refl
and_false false = refl

pub none_outside : (name : TxnName) (all : List Transaction) → (name.stream.0 == 0) ≡ true → AllHaveStreams all → transaction_named name all ≡ None
none_outside name [] outside all = refl
none_outside name (one ∷ others) outside all =
    by_test (is_name one.name name)
    (ap (λ (n : ℕ). (one.name.conn.0 == name.conn.0) && (one.name.stream.0 == n)) (eqb-true name.stream.0 0 outside)
    ∙ ap (λ (b : Bool). (one.name.conn.0 == name.conn.0) && b) all.0 ∙ and_false (one.name.conn.0 == name.conn.0))
    (none_outside name others outside all.1)
  where
    by_test : (b : Bool) → b ≡ false → transaction_named name others ≡ None → (if b then Some one else transaction_named name others) ≡ None
    by_test true wrong rest = absurd cc
    by_test false isnt rest = rest
