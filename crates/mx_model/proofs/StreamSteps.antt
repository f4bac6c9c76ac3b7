-- What a request or a disconnect ends ran alone.
use Rattle.std.proofs.Common.{Bool, List, None, Option, Some, [], false, length, map, refl, subst, sym, true, ℕ, ◌≡◌, ◌++◌, ◌∙◌, ◌∷◌}
use Rattle.std.specs.List.{AllByRecursion}
use Rattle.std.specs.Prelude.{nat_le, ⊤, if◌then◌else◌, ◌==◌, ◌&&◌}
use Rattle.mx_base.specs.Keys.{stream_key}
use Rattle.mx_base.specs.declared.ids.TxnName.{TxnName}
use Rattle.mx_base.specs.declared.kinds.Unsupported.TheVariants.{SchemaInTransaction}
use Rattle.mx_base.specs.declared.refusal.Refusal.TheVariants.{AllOfConnectionOpen, AllTransactionsOpen, IllegalValue, Unsupported}
use Rattle.mx_model.specs.Alone.{AllStandAlone}
use Rattle.mx_model.specs.Overlaps.{Active, Doomed, Standing, Transaction, View, standing}
use Rattle.mx_model.specs.RunAlone.{writes}
use Rattle.mx_model.specs.StreamHistories.{EndedTransaction, RanAlone, ended_as, ended_where, ends_now, is_commit, Disconnected, FollowsStreams, IsLegalStreams, Requested, StreamEntry, StreamHistory, ended_by, ended_in, streams_of, streams_with}
use Rattle.mx_model.specs.Streams.{Becomes, Ends, Goes, Opens, Outcome, Stays, Streams, begins_beside, commit_with, commits, commits_standing, ends_told, in_stream, max_transactions, max_transactions_of_connection, of_connection, outcome_of, states, states_standing, streams_after, tells_statement, told_alone, told_as, transaction_named}
use Rattle.mx_model.specs.declared.reply.Reply.TheVariants.{Empty, Refused}
use Rattle.mx_model.specs.statements.Answer.{Answer}
use Rattle.mx_model.specs.statements.Statement.{Statement, statement_of}
use Rattle.mx_request.specs.declared.request.Request.{Request}
use Rattle.mx_row.specs.declared.row.Row.{Row}
use Rattle.mx_row.specs.declared.tx.Tx.{Tx}
use Rattle.mx_write.specs.Writable.{describes_schema}
use Rattle.mx_model.proofs.AloneStreams.{named_has, answer_now, Stands, kept_after, kept_left}
use Rattle.mx_model.proofs.CommitRows.{acknowledged_by, rows_by}
use Rattle.mx_model.proofs.ConflictAnswers.{commit_by}
use Rattle.mx_model.proofs.EachLaws.{each_kept, each_like, each_of_map, each_of_both}
use Rattle.mx_model.proofs.StreamEnds.{IsEnding, ended_alone, ending_alone, ran_stays}
use Rattle.mx_model.specs.Bases.{Base, is_out_of_memory}
use Rattle.mx_model.specs.declared.reply.Reply.{Reply}
use Rattle.mx_model.proofs.AloneRequests.{outcome_kept}
use Rattle.mx_model.proofs.RecordedReplies.{told_well}
use Rattle.mx_request.specs.declared.request.Request.TheVariants as request

-- ---- what an outcome ends

module _ (streams : Streams) (name : TxnName) (all : AllStandAlone streams) where
  abbrev journal : List Tx
  journal = streams.journal

  -- where an outcome ends the transaction of its name, it does so with a conflict where that is doomed, and with the rows of running alone
  abbrev pub EndsWell : (by_commit : Bool) → Outcome → Becomes → Type 0
  EndsWell by_commit outcome Ends = (transaction : Transaction) → transaction_named name streams.transactions ≡ Some transaction → IsEnding streams transaction by_commit outcome
  EndsWell by_commit outcome other = ⊤

  abbrev pub IsWell : (by_commit : Bool) → Outcome → Type 0
  IsWell by_commit outcome = EndsWell by_commit outcome outcome.becomes

  if_it_ends : (by_commit : Bool) (outcome : Outcome) (becomes : Becomes)
      → ((transaction : Transaction) → transaction_named name streams.transactions ≡ Some transaction → IsEnding streams transaction by_commit outcome)
      → EndsWell by_commit outcome becomes
  if_it_ends by_commit outcome Stays ending = tt
  if_it_ends by_commit outcome Opens ending = tt
  if_it_ends by_commit outcome (Goes step) ending = tt
  if_it_ends by_commit outcome Ends ending = ending

  in_stream_well : (by_commit : Bool) (outcome : Outcome) → IsWell by_commit outcome → IsWell by_commit (in_stream name outcome)
  in_stream_well by_commit outcome well = by_test (name.stream.0 == 0)
    where
      by_test : (b : Bool) → IsWell by_commit (if b then told_alone (Refused (IllegalValue stream_key)) else outcome)
      by_test true = tt
      by_test false = well

  begins_well : (present : Option Transaction) → IsWell false (begins_beside streams.transactions name.conn.0 present)
  begins_well (Some transaction) = tt
  begins_well None =
      by_tests (nat_le max_transactions_of_connection (length (of_connection name.conn.0 streams.transactions))) (nat_le max_transactions (length streams.transactions))
    where
      by_tests : (of_this of_all : Bool)
          → IsWell false (if of_this then told_alone (Refused AllOfConnectionOpen) else if of_all then told_alone (Refused AllTransactionsOpen)
          else record { reply = Empty; rows = []; becomes = Opens })
      by_tests true of_all = tt
      by_tests false true = tt
      by_tests false false = tt

  commits_well : (present : Option Transaction) → transaction_named name streams.transactions ≡ present → IsWell true (commits streams present)
  commits_well None is = tt
  commits_well (Some transaction) is =
      if_it_ends true outcome outcome.becomes
      (λ other named. let both : Some transaction ≡ Some other = sym is ∙ named in let same : transaction ≡ other = cc in
      subst (λ one. IsEnding streams one true outcome) same ending)
    where
      how : Standing
      how = standing streams.base.ids streams.base.state journal false transaction

      outcome : Outcome
      outcome = commits_standing streams transaction how

      alone : Stands streams transaction
      alone = named_has (Stands streams) name streams.transactions transaction all.each is

      ending : IsEnding streams transaction true outcome
      ending = record {
        doomed = (commit_by streams name transaction is how).0;
        still = λ commit other doomed. other ((commit_by streams name transaction is how).1 doomed);
        acknowledged = λ commit told. acknowledged_by streams name transaction alone how told;
        commits = λ row others some. rows_by streams name transaction alone row others how refl some;
      }

  rollback_well : IsWell false (ends_told Empty)
  rollback_well = λ transaction named. record {
    doomed = λ told. absurd cc;
    still = λ commit other. absurd cc;
    acknowledged = λ commit told. absurd cc;
    commits = λ row others some. absurd cc;
  }

  states_well : (by_commit : Bool) (statement : Statement) (present : Option Transaction) → IsWell by_commit (states streams present statement)
  states_well by_commit statement None = tt
  states_well by_commit statement (Some transaction) = by_test (writes statement.operation && describes_schema statement.space)
    where
      answer : Answer
      answer = answer_now streams.base.ids streams.base.state journal transaction statement

      by_standing : (how : Standing) → IsWell by_commit (states_standing streams statement answer how)
      by_standing Active = tt
      by_standing (View place) = tt
      by_standing Doomed = tt

      by_test : (b : Bool) → IsWell by_commit (if b then told_alone (Refused (Unsupported SchemaInTransaction))
          else states_standing streams statement answer (standing streams.base.ids streams.base.state journal (writes statement.operation) transaction))
      by_test true = tt
      by_test false = by_standing (standing streams.base.ids streams.base.state journal (writes statement.operation) transaction)

  tells_well : (by_commit : Bool) (asked : Request) (statement : Option Statement) → IsWell by_commit (tells_statement streams name asked statement)
  tells_well by_commit asked None = tt
  tells_well by_commit asked (Some statement) = states_well by_commit statement (transaction_named name streams.transactions)

  pub outcome_well : (asked : Request) → IsWell (is_commit asked) (outcome_of streams name asked)
  outcome_well request.Begin = in_stream_well false _ (begins_well (transaction_named name streams.transactions))
  outcome_well request.Commit = in_stream_well true _ (commits_well (transaction_named name streams.transactions) refl)
  outcome_well request.Rollback = in_stream_well false (ends_told Empty) rollback_well
  outcome_well other = tells_well (is_commit other) other (statement_of other)

  -- what it ends ran alone
  abbrev Ran : List Row → EndedTransaction → Type 0
  Ran rows ended = RanAlone streams.base (journal ++ commit_with streams rows) ended

  ended_ran : (by_commit : Bool) (outcome : Outcome) → IsWell by_commit outcome → AllByRecursion (Ran outcome.rows) (ended_as streams name by_commit outcome)
  ended_ran by_commit outcome = by_becomes outcome.becomes
    where
      by_present : (present : Option Transaction) → transaction_named name streams.transactions ≡ present
          → ((transaction : Transaction) → transaction_named name streams.transactions ≡ Some transaction → IsEnding streams transaction by_commit outcome)
          → AllByRecursion (Ran outcome.rows) (ended_where streams by_commit outcome Ends present)
      by_present None is ending = tt
      by_present (Some transaction) is ending =
          let alone : Stands streams transaction = named_has (Stands streams) name streams.transactions transaction all.each is in
          (ending_alone streams transaction alone by_commit outcome (ending transaction is), tt)

      by_becomes : (becomes : Becomes) → EndsWell by_commit outcome becomes
          → AllByRecursion (Ran outcome.rows) (ended_where streams by_commit outcome becomes (transaction_named name streams.transactions))
      by_becomes Stays well = tt
      by_becomes Opens well = tt
      by_becomes (Goes step) well = tt
      by_becomes Ends well = by_present (transaction_named name streams.transactions) refl well

  pub request_ran : (asked : Request)
      → AllByRecursion (RanAlone streams.base (streams_after streams name (outcome_of streams name asked)).journal) (ended_as streams name (is_commit asked) (outcome_of streams name asked))
  request_ran asked = ended_ran (is_commit asked) (outcome_of streams name asked) (outcome_well asked)

-- ---- what a connection ends that disconnects

left_ends : (streams : Streams) (transaction : Transaction) → IsEnding streams transaction false (told_alone Empty)
left_ends streams transaction = record {
  doomed = λ told. absurd cc;
  still = λ commit other. absurd cc;
  acknowledged = λ commit told. absurd cc;
  commits = λ row others some. absurd cc;
}

pub left_ran : (streams : Streams) (connection : ℕ) → AllStandAlone streams
    → AllByRecursion (RanAlone streams.base streams.journal) (map (ends_now streams false Empty []) (of_connection connection streams.transactions))
left_ran streams connection all =
    each_of_map (ends_now streams false Empty []) (RanAlone streams.base streams.journal) (of_connection connection streams.transactions)
    (each_like (Stands streams) _ (λ transaction alone. ended_alone streams transaction alone false (told_alone Empty) refl (left_ends streams transaction))
    (of_connection connection streams.transactions) (each_kept (Stands streams) (λ one. one.name.conn.0 == connection) streams.transactions all.each))

-- so did all that are open, as far as they have come
pub open_ran : (streams : Streams) → AllStandAlone streams → AllByRecursion (RanAlone streams.base streams.journal) (map (ends_now streams false Empty []) streams.transactions)
open_ran streams all =
    each_of_map (ends_now streams false Empty []) (RanAlone streams.base streams.journal) streams.transactions
    (each_like (Stands streams) _ (λ transaction alone. ended_alone streams transaction alone false (told_alone Empty) refl (left_ends streams transaction)) streams.transactions all.each)

-- ---- in a legal history all transactions ran alone, those that ended and those that are open

-- all that steps came to ran alone: the open transactions, and those that ended
abbrev pub AllRan : Base → Streams → List EndedTransaction → Type 0
AllRan base streams ended = AllStandAlone streams × AllByRecursion (RanAlone base streams.journal) ended

module _ (base : Base) (streams : Streams) (base_is : streams.base ≡ base) (all : AllStandAlone streams) (ended : List EndedTransaction) (ran : AllByRecursion (RanAlone base streams.journal) ended) where
  -- those that ended before, in a longer journal
  ran_before : (more : List Tx) → AllByRecursion (RanAlone base (streams.journal ++ more)) ended
  ran_before more = each_like (RanAlone base streams.journal) _ (λ one so. ran_stays base streams.journal more one so) ended ran

  requested : (name : TxnName) (asked : Request) (reply : Reply) → FollowsStreams streams (Requested name asked reply)
      → AllRan base (streams_with streams (Requested name asked reply)) (ended_by streams (Requested name asked reply) ++ ended)
  requested name asked reply follows = by_test (is_out_of_memory reply) refl
    where
      -- what an outcome that was told comes to
      RanAfter : Outcome → Type 0
      RanAfter outcome = AllRan base (streams_after streams name outcome) (ended_as streams name (is_commit asked) outcome ++ ended)

      outcome : Outcome
      outcome = outcome_of streams name asked

      demanded : RanAfter outcome
      demanded = (
        kept_after streams name all outcome (outcome_kept streams name all asked follows.0),
        each_of_both (RanAlone base (streams.journal ++ commit_with streams outcome.rows)) (ended_as streams name (is_commit asked) outcome) ended
            (subst (λ one. AllByRecursion (RanAlone one (streams.journal ++ commit_with streams outcome.rows)) (ended_as streams name (is_commit asked) outcome)) base_is
            (request_ran streams name all asked))
            (ran_before (commit_with streams outcome.rows)),
      )

      by_test : (b : Bool) → is_out_of_memory reply ≡ b
          → AllRan base (if b then streams else streams_after streams name (told_as reply outcome)) ((if b then [] else ended_as streams name (is_commit asked) (told_as reply outcome)) ++ ended)
      by_test true lacks = (all, ran)
      by_test false has = subst RanAfter (sym (told_well streams name asked reply follows.1 has)) demanded

  pub entry_ran : (entry : StreamEntry) → FollowsStreams streams entry → AllRan base (streams_with streams entry) (ended_by streams entry ++ ended)
  entry_ran (Requested name asked reply) follows = requested name asked reply follows
  entry_ran (Disconnected connection) follows = (
    kept_left streams connection all,
    each_of_both (RanAlone base streams.journal) (map (ends_now streams false Empty []) (of_connection connection streams.transactions)) ended
        (subst (λ one. AllByRecursion (RanAlone one streams.journal) (map (ends_now streams false Empty []) (of_connection connection streams.transactions))) base_is
        (left_ran streams connection all))
        ran,
  )

-- what a history came to began with its base
pub base_stays : (base : Base) (history : StreamHistory) → (streams_of base history).base ≡ base
base_stays base [] = refl
base_stays base (Requested name asked reply ∷ earlier) = by_test (is_out_of_memory reply) ∙ base_stays base earlier
  where
    streams : Streams
    streams = streams_of base earlier

    by_test : (b : Bool) → (if b then streams else streams_after streams name (told_as reply (outcome_of streams name asked))).base ≡ streams.base
    by_test true = refl
    by_test false = refl
base_stays base (Disconnected connection ∷ earlier) = base_stays base earlier

-- whole histories
pub history_ran : (base : Base) (history : StreamHistory) → IsLegalStreams base history → AllRan base (streams_of base history) (ended_in base history)
history_ran base [] sound = (record { sound = sound; bytes = tt; each = tt }, tt)
history_ran base (entry ∷ earlier) legal =
    let before = history_ran base earlier legal.0 in
    entry_ran base (streams_of base earlier) (base_stays base earlier) before.0 (ended_in base earlier) before.1 entry legal.1
