-- The journal grows by nothing but the rows of transactions that end and of statements by themselves.
use Rattle.std.proofs.Common.{◌≡◌, ℕ, ◌+◌, Bool, true, false, List, [], ◌∷◌, ◌++◌, length, Some, None, Option, inl, inr, refl, sym, append-nil, ◌∙◌, subst, ap}
use Rattle.std.specs.Prelude.{nat_lt, slice_index, ◌⊎◌, if◌then◌else◌}
use Rattle.std.specs.Option.{option_to_list}
use Rattle.std.specs.List.{AllByRecursion}
use Rattle.mx_base.specs.declared.ids.TxnName.{TxnName}
use Rattle.mx_base.specs.declared.refusal.Refusal.TheVariants.{LsnsUsedUp}
use Rattle.mx_request.specs.declared.request.Request.{Request}
use Rattle.mx_row.specs.declared.row.Row.{Row}
use Rattle.mx_row.specs.Clocks.{clock_after}
use Rattle.mx_vclock.specs.Vclocks.{max_lsn}
use Rattle.mx_model.specs.Bases.{Base, is_out_of_memory, with_lsn}
use Rattle.mx_serial.specs.Serializability.{AllCommitTheirOwn, EntryCommitsItsOwn, answer_by_itself, AllRanByThemselves, EntryRanByItself, IsSerialOrder, IsSerializable, RanByItself, transactions_of_history}
use Rattle.mx_model.specs.StreamHistories.{Disconnected, EndedTransaction, Requested, StreamEntry, StreamHistory, ended_as, ended_where, ends_now, is_commit, streams_of, FollowsStreams, HaveOwnNames, IsLegalStreams, RanAlone, begun_in, ended_in}
use Rattle.mx_model.specs.Streams.{Outcome, Streams, becomes_told, commit_with, outcome_of, states, states_alone, states_alone_by, streams_after, told_as, transaction_named}
use Rattle.mx_model.specs.statements.Answer.{Answer, refusal_after}
use Rattle.mx_model.specs.statements.Statement.{Statement, statement_of}
use Rattle.mx_model.specs.declared.reply.Reply.{Reply}
use Rattle.mx_model.specs.Alone.{AllStandAlone}
use Rattle.mx_model.specs.Histories.{History, IsLegal, ledger_of}
use Rattle.mx_model.specs.HistoryStreams.{streams_in}
use Rattle.mx_model.proofs.HistoryLaws.{streams_legal, streams_of_history}
use Rattle.mx_model.proofs.BecomesLaws.{told_statement}
use Rattle.mx_model.proofs.RecordedReplies.{told_demanded}
use Rattle.mx_serial.proofs.RowOwnerLaws.{RowsDue, outcome_due}
use Rattle.mx_serial.proofs.SerialOrderLaws.{serial_order}
use Rattle.mx_serial.proofs.StreamCounts.{history_counted}
use Rattle.mx_model.proofs.StreamSteps.{history_ran}

-- ---- the journal grows by nothing but the rows of transactions that end and of statements by themselves

module _ (streams : Streams) (name : TxnName) (asked : Request) (reply : Reply) where
  abbrev told : Outcome
  told = told_as reply (outcome_of streams name asked)

  -- what a request makes of the journal, which counts as not asked where it lacked memory
  abbrev Made : (lacked : Bool) → List Row → Type 0
  Made lacked rows =
      ((if lacked then streams else streams_after streams name told).journal ≡ streams.journal ++ commit_with streams rows)
      × ((rows ≡ [])
      ⊎ ((ended : EndedTransaction) × ((if lacked then [] else ended_as streams name (is_commit asked) told) ≡ ended ∷ []) × (ended.rows ≡ rows))
      ⊎ ((statement : Statement) × ((statement_of asked ≡ Some statement) × (transaction_named name streams.transactions ≡ None))
      × (option_to_list (answer_by_itself streams statement).row ≡ rows)))

  made_due : RowsDue streams name asked (outcome_of streams name asked) → Made false told.rows
  made_due (inl none) = (refl, inl none)
  made_due (inr (inl (ends, one, present))) =
      (refl, inr (inl (ends_now streams (is_commit asked) reply told.rows one, (λ i. ended_where streams (is_commit asked) told (becomes_told reply (ends i)) (present i)), refl)))
  made_due (inr (inr own)) = (refl, inr (inr own))

  made_where : (lacked : Bool) → (rows : List Row) × Made lacked rows
  made_where true = ([], (sym (append-nil streams.journal), inl refl))
  made_where false = (told.rows, made_due (outcome_due streams name asked))

entry_commits : (streams : Streams) (entry : StreamEntry) → EntryCommitsItsOwn streams entry
entry_commits streams (Disconnected connection) = ([], sym (append-nil streams.journal), inl refl)
entry_commits streams (Requested name asked reply) = let (rows, grows) = made_where streams name asked reply (is_out_of_memory reply) in (rows, grows.0, grows.1)

pub all_commit : (base : Base) (history : StreamHistory) → AllCommitTheirOwn base history
all_commit base [] = tt
all_commit base (entry ∷ earlier) = (all_commit base earlier, entry_commits (streams_of base earlier) entry)

-- ---- what a statement by itself is told

module _ (streams : Streams) where
  -- what a statement by itself is told, and what it commits
  alone_ran : (statement : Statement) → RanByItself streams statement (states_alone streams statement).reply (commit_with streams (states_alone streams statement).rows)
  alone_ran statement = by_row answer.row refl
    where
      answer : Answer
      answer = answer_by_itself streams statement

      last : ℕ
      last = slice_index (clock_after streams.base.clock streams.journal) streams.base.ids.me + 1

      by_test : (row : Row) → answer.row ≡ Some row → (b : Bool) → nat_lt max_lsn last ≡ b
          → RanByItself streams statement (states_alone_by streams (if b then refusal_after answer.reads LsnsUsedUp else answer)).reply
          (commit_with streams (states_alone_by streams (if b then refusal_after answer.reads LsnsUsedUp else answer)).rows)
      by_test row is true used = inr (refl, refl, used)
      by_test row is false left = inl (refl, refl)

      by_row : (found : Option Row) → answer.row ≡ found
          → RanByItself streams statement (states_alone_by streams (with_lsn last answer found)).reply (commit_with streams (states_alone_by streams (with_lsn last answer found)).rows)
      by_row None is = inl (refl, refl)
      by_row (Some row) is = by_test row is (nat_lt max_lsn last) refl

  pub entry_ran : (entry : StreamEntry) → FollowsStreams streams entry → EntryRanByItself streams entry
  entry_ran (Disconnected connection) follows = tt
  entry_ran (Requested name asked reply) follows = λ statement is none has.
      let outcome_is : outcome_of streams name asked ≡ states_alone streams statement =
      told_statement streams name asked statement is ∙ ap (λ present. states streams present statement) none in (
        commit_with streams (states_alone streams statement).rows,
        by_test statement outcome_is (is_out_of_memory reply) has,
        subst (λ (told : Reply). RanByItself streams statement told (commit_with streams (states_alone streams statement).rows))
            (ap (λ (outcome : Outcome). outcome.reply) (sym outcome_is) ∙ sym (told_demanded streams name asked reply follows.1 has))
            (alone_ran statement),
      )
    where
      by_test : (statement : Statement) → outcome_of streams name asked ≡ states_alone streams statement → (b : Bool) → b ≡ false
          → (if b then streams else streams_after streams name (told_as reply (outcome_of streams name asked))).journal ≡ streams.journal ++ commit_with streams (states_alone streams statement).rows
      by_test statement outcome_is true wrong = absurd cc
      by_test statement outcome_is false isnt = ap (λ (outcome : Outcome). streams.journal ++ commit_with streams outcome.rows) outcome_is

all_ran : (base : Base) (history : StreamHistory) → IsLegalStreams base history → AllRanByThemselves base history
all_ran base [] legal = tt
all_ran base (entry ∷ earlier) legal = (all_ran base earlier legal.0, entry_ran (streams_of base earlier) entry legal.1)

-- legal histories are serializable
pub is_serializable : (base : Base) (history : History) → IsLegal base history → IsSerializable base history
is_serializable base history legal = record {
  ended = subst (λ (streams : Streams). AllByRecursion (RanAlone base streams.journal) (ended_in base (streams_in history))) same (history_ran base (streams_in history) streamed).1;
  still_open = subst AllStandAlone same (history_ran base (streams_in history) streamed).0;
  by_themselves = all_ran base (streams_in history) streamed;
  commits = all_commit base (streams_in history);
  counted = subst (λ (streams : Streams). begun_in (streams_in history) ≡ length (ended_in base (streams_in history)) + length streams.transactions) same (history_counted base (streams_in history) streamed).1;
  names = subst (λ (streams : Streams). HaveOwnNames streams.transactions) same (history_counted base (streams_in history) streamed).0;
  order = subst (λ (streams : Streams). IsSerialOrder base streams.journal (transactions_of_history base (streams_in history))) same (serial_order base (streams_in history) streamed);
}
  where
    streamed : IsLegalStreams base (streams_in history)
    streamed = streams_legal base history legal

    same : streams_of base (streams_in history) ≡ (ledger_of base history).streams
    same = sym (streams_of_history base history)
