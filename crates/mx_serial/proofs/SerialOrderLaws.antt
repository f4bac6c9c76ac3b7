-- The transactions of a legal history and its journal are one serial order.
use Rattle.std.proofs.Common.{◌≡◌, inl, inr, ℕ, zero, suc, ◌+◌, ◌≤◌, Bool, true, false, ◌&&◌, List, [], ◌∷◌, ◌++◌, length, map, Option, Some, None, refl, sym, ap, ◌∙◌, subst, append-nil, length-append, arith}
use Rattle.std.specs.Prelude.{◌⊎◌, nat_lt, slice_get, slice_index, if◌then◌else◌}
use Rattle.std.specs.List.{AllByRecursion, AllZip, Contains}
use Rattle.std.specs.Option.{option_to_list}
use Rattle.std.proofs.lemmas.Bool.{le-leb}
use Rattle.std.proofs.lemmas.List.{take-append-le, take_at}
use Rattle.std.proofs.lemmas.List.Elements.{All-contains, All-from_recursion, Contains-append_left, Contains-append_right}
use Rattle.mx_base.specs.declared.ids.TxnName.{TxnName}
use Rattle.mx_base.specs.declared.refusal.Refusal.TheVariants.{Conflict, LsnsUsedUp, TransactionTooLong}
use Rattle.mx_request.specs.declared.request.Request.{Request}
use Rattle.mx_row.specs.declared.row.Row.{Row}
use Rattle.mx_row.specs.declared.tx.Tx.{Tx}
use Rattle.mx_row.specs.Clocks.{clock_after}
use Rattle.mx_row.specs.Limits.{has_room, max_rows, max_transaction_size, row_size, rows_size}
use Rattle.mx_row.specs.Rows.{max_body_size, row_body_text}
use Rattle.mx_schema.specs.Sound.{IsSound}
use Rattle.mx_schema.specs.State.{State}
use Rattle.mx_vclock.specs.Vclocks.{max_lsn}
use Rattle.mx_model.specs.declared.reply.Reply.{Reply}
use Rattle.mx_model.specs.declared.reply.Reply.TheVariants.{Refused}
use Rattle.mx_model.specs.Alone.{AllStandAlone, IsToldAlone}
use Rattle.mx_model.specs.Bases.{Base, is_out_of_memory, with_lsn}
use Rattle.mx_model.specs.Overlaps.{Transaction, TransactionStep, state_after_first}
use Rattle.mx_model.specs.RunAlone.{run_alone, within_limits}
use Rattle.mx_model.specs.StreamHistories.{CommittedAlone, Disconnected, EndedTransaction, FollowsStreams, IsLegalStreams, RanAlone, Requested, StreamEntry, StreamHistory, WasToldConflict, ended_as, ended_by, ended_in, ended_where, ends_now, is_commit, streams_of, streams_with}
use Rattle.mx_model.specs.Streams.{Outcome, Streams, becomes_told, commit_with, outcome_of, states, states_alone, states_alone_by, streams_after, told_as, transaction_named}
use Rattle.mx_model.specs.Transactions.{state_after}
use Rattle.mx_model.specs.statements.Answer.{Answer, refusal_after}
use Rattle.mx_model.specs.statements.Statement.{Statement, statement_of}
use Rattle.mx_model.proofs.AloneSound.{journal_sound}
use Rattle.mx_model.proofs.BecomesLaws.{IsAskedStatement, statement_asked, told_statement}
use Rattle.mx_model.proofs.ConflictAnswers.{TellsOther, statement_other, tells_no_conflict}
use Rattle.mx_model.proofs.EachLaws.{each_like, each_of_both}
use Rattle.mx_model.proofs.OverlapFound.{get_behind}
use Rattle.mx_model.proofs.RecordedReplies.{told_demanded}
use Rattle.mx_model.proofs.StreamEnds.{ran_stays}
use Rattle.mx_model.proofs.StreamSteps.{EndsWell, base_stays, history_ran, open_ran, outcome_well}
use Rattle.mx_serial.specs.Serializability.{IsSerialOrder, LackedLsn, answer_by_itself, open_so_far, past_transactions, single_step, single_steps, transactions_of_entry, transactions_of_history}
use Rattle.mx_serial.proofs.RowOwnerLaws.{RowsDue, outcome_due}
use Rattle.mx_serial.proofs.RunRows.{statement_leaves}

-- ---- a statement by itself, as a transaction of one step

-- a row that may be written finds room in a transaction that has none
room_alone : (row : Row) → length (row_body_text row) ≤ max_body_size → has_room [] row ≡ true
room_alone row short =
    let size : rows_size [] + row_size row ≤ max_transaction_size = omega (arith, short) in
    ap (λ (b : Bool). nat_lt 0 max_rows && b) (le-leb (rows_size [] + row_size row) max_transaction_size size)

module _ (streams : Streams) (name : TxnName) (statement : Statement) (asked : IsAskedStatement statement) (sound : IsSound (state_after streams.base.state streams.journal)) where
  abbrev before : State
  before = state_after streams.base.state streams.journal

  abbrev answer : Answer
  answer = answer_by_itself streams statement

  -- it is answered the same in a transaction
  answer_fits : within_limits [] answer answer.row ≡ answer
  answer_fits = by_row answer.row refl
    where
      by_row : (found : Option Row) → answer.row ≡ found → within_limits [] answer found ≡ answer
      by_row None is = refl
      by_row (Some row) is =
          ap (λ (room : Bool). if room then answer else refusal_after answer.reads TransactionTooLong)
          (room_alone row (statement_leaves streams.base.ids before statement row sound asked is).leaves.can.short)

  run_answers : (run_alone streams.base.ids before (statement ∷ [])).answers ≡ answer ∷ []
  unfolding run_alone
  run_answers = ap (λ (one : Answer). one ∷ []) answer_fits

  run_rows : (run_alone streams.base.ids before (statement ∷ [])).rows ≡ option_to_list answer.row
  unfolding run_alone
  run_rows = ap (λ (one : Answer). option_to_list one.row) answer_fits

  module _ (reply : Reply) (told : reply ≡ answer.reply) (rows : List Row) (are : rows ≡ option_to_list answer.row) where
    abbrev longer : List Tx
    longer = streams.journal ++ commit_with streams rows

    abbrev one : EndedTransaction
    one = single_step streams name statement reply rows

    -- the state that it reads is that before it
    state_there : state_after_first streams.base.state longer (length streams.journal) ≡ before
    state_there = ap (state_after streams.base.state) (take_at streams.journal (commit_with streams rows) (length streams.journal) refl)

    there_answers : (run_alone streams.base.ids (state_after_first streams.base.state longer (length streams.journal)) (statement ∷ [])).answers ≡ answer ∷ []
    there_answers = ap (λ (state : State). (run_alone streams.base.ids state (statement ∷ [])).answers) state_there ∙ run_answers

    there_rows : rows ≡ (run_alone streams.base.ids (state_after_first streams.base.state longer (length streams.journal)) (statement ∷ [])).rows
    there_rows = are ∙ sym run_rows ∙ ap (λ (state : State). (run_alone streams.base.ids state (statement ∷ [])).rows) (sym state_there)

    exactly : map (λ (step : TransactionStep). step.reply) one.transaction.steps
        ≡ map (λ (answer : Answer). answer.reply) (run_alone streams.base.ids (state_after_first streams.base.state longer (length streams.journal)) (statement ∷ [])).answers
    exactly = ap (λ (r : Reply). r ∷ []) told ∙ ap (map (λ (answer : Answer). answer.reply)) (sym there_answers)

    no_conflict : WasToldConflict one → ⊥
    no_conflict was = by_told was
      where
        other : TellsOther reply
        other = subst TellsOther (sym told) (statement_other streams.base.ids before statement)

        by_told : (reply ≡ Refused Conflict) ⊎ Contains (reply ∷ []) (Refused Conflict) → ⊥
        by_told (inl is) = tells_no_conflict reply other is
        by_told (inr has) =
            tells_no_conflict (Refused Conflict) (All-contains TellsOther (reply ∷ []) (Refused Conflict) (All-from_recursion TellsOther (reply ∷ []) (other, tt)) has) refl

    pub step_ran : RanAlone streams.base longer one
    step_ran = record {
      answered = record {
        since = omega arith;
        within = let long = length-append streams.journal (commit_with streams rows) in omega (arith, long);
        told = subst (AllZip IsToldAlone one.transaction.steps) (sym there_answers) (inl told, tt);
        exact = λ commit still. exactly;
        conflict = λ was. absurd (no_conflict was);
      };
      acknowledged = λ commit done. there_rows;
      committed = by_rows rows refl;
    }
      where
        by_rows : (some : List Row) → rows ≡ some → CommittedAlone streams.base longer one some
        by_rows [] is = tt
        by_rows (row ∷ others) is = record {
          commit = commit;
          there = ap (λ (l : List Row). slice_get (streams.journal ++ commit_with streams l) (length streams.journal)) is ∙ get_behind streams.journal commit [];
          by_node = refl;
          same_rows = sym is;
          rows_alone = there_rows;
          exact = exactly;
        }
          where
            commit : Tx
            commit = record {
              replica = record { 0 = streams.base.ids.me };
              first = record { 0 = slice_index (clock_after streams.base.clock streams.journal) streams.base.ids.me + 1 };
              rows = row ∷ others;
            }

  -- it has its place with what it was told and commits
  abbrev HasPlace : Reply → List Row → Type 0
  HasPlace reply rows = let one = single_step streams name statement reply rows in let journal = streams.journal ++ commit_with streams rows in
      RanAlone streams.base journal one ⊎ LackedLsn streams.base journal one

  pub step_placed : (reply : Reply) (rows : List Row) → reply ≡ (states_alone streams statement).reply → rows ≡ (states_alone streams statement).rows → HasPlace reply rows
  step_placed reply rows = by_row answer.row refl
    where
      last : (journal : List Tx) → ℕ
      last journal = slice_index (clock_after streams.base.clock journal) streams.base.ids.me + 1

      by_test : (b : Bool) → nat_lt max_lsn (last streams.journal) ≡ b
          → reply ≡ (states_alone_by streams (if b then refusal_after answer.reads LsnsUsedUp else answer)).reply
          → rows ≡ (states_alone_by streams (if b then refusal_after answer.reads LsnsUsedUp else answer)).rows → HasPlace reply rows
      by_test true used told are =
          let long = length-append streams.journal (commit_with streams rows) in
          inr (record {
            within = omega (arith, long);
            told = told;
            none = are;
            used_up = ap (λ (journal : List Tx). nat_lt max_lsn (last journal)) (take_at streams.journal (commit_with streams rows) (length streams.journal) refl) ∙ used;
          })
      by_test false used told are = inl (step_ran reply told rows are)

      by_row : (found : Option Row) → answer.row ≡ found → reply ≡ (states_alone_by streams (with_lsn (last streams.journal) answer found)).reply
          → rows ≡ (states_alone_by streams (with_lsn (last streams.journal) answer found)).rows → HasPlace reply rows
      by_row None is told are = inl (step_ran reply told rows are)
      by_row (Some row) is told are = by_test (nat_lt max_lsn (last streams.journal)) refl told are

-- ---- each transaction of a history has its place

abbrev pub IsPlaced : Base → List Tx → EndedTransaction → Type 0
IsPlaced base journal one = RanAlone base journal one ⊎ LackedLsn base journal one

-- also where the journal has grown
placed_stays : (base : Base) (journal more : List Tx) (one : EndedTransaction) → IsPlaced base journal one → IsPlaced base (journal ++ more) one
placed_stays base journal more one (inl ran) = inl (ran_stays base journal more one ran)
placed_stays base journal more one (inr lacked) =
    let long = length-append journal more in
    inr (record {
      within = omega (arith, lacked.within, long);
      told = lacked.told;
      none = lacked.none;
      used_up = ap (λ (first : List Tx). nat_lt max_lsn (slice_index (clock_after base.clock first) base.ids.me + 1)) (take-append-le one.place journal more lacked.within) ∙ lacked.used_up;
    })

-- those of the front
each_first : {X : Type 0} (P : X → Type 0) (xs ys : List X) → AllByRecursion P (xs ++ ys) → AllByRecursion P xs
each_first P [] ys all = tt
each_first P (x ∷ xs) ys all = (all.0, each_first P xs ys all.1)

module _ (streams : Streams) (all : AllStandAlone streams) (name : TxnName) (asked : Request) (reply : Reply) (follows : FollowsStreams streams (Requested name asked reply)) where
  abbrev rows : List Row
  rows = (outcome_of streams name asked).rows

  singles_placed : is_out_of_memory reply ≡ false → (asks : Option Statement) → statement_of asked ≡ asks → (present : Option Transaction) → transaction_named name streams.transactions ≡ present
      → AllByRecursion (IsPlaced streams.base (streams.journal ++ commit_with streams rows)) (single_steps streams name asked reply asks present)
  singles_placed has None is present there = tt
  singles_placed has (Some statement) is (Some transaction) there = tt
  singles_placed has (Some statement) is None there =
      let outcome_is : outcome_of streams name asked ≡ states_alone streams statement =
      told_statement streams name asked statement is ∙ ap (λ present. states streams present statement) there in
      let demanded = told_demanded streams name asked reply follows.1 has in (
        step_placed streams name statement (statement_asked asked follows.0 statement is) (journal_sound streams.base.state streams.journal all.sound all.bytes) reply rows
            (demanded ∙ ap (λ (outcome : Outcome). outcome.reply) outcome_is) (ap (λ (outcome : Outcome). outcome.rows) outcome_is),
        tt,
      )

  -- those of a request, where those that it ended have theirs
  requested_placed : (b : Bool) → is_out_of_memory reply ≡ b
      → AllByRecursion (IsPlaced streams.base (if b then streams else streams_after streams name (told_as reply (outcome_of streams name asked))).journal)
      (if b then [] else single_steps streams name asked reply (statement_of asked) (transaction_named name streams.transactions))
  requested_placed true lacks = tt
  requested_placed false has = singles_placed has (statement_of asked) refl (transaction_named name streams.transactions) refl

entry_placed : (streams : Streams) → AllStandAlone streams → (entry : StreamEntry) → FollowsStreams streams entry
    → AllByRecursion (RanAlone streams.base (streams_with streams entry).journal) (ended_by streams entry)
    → AllByRecursion (IsPlaced streams.base (streams_with streams entry).journal) (transactions_of_entry streams entry)
entry_placed streams all (Disconnected connection) follows ended =
    each_like (RanAlone streams.base streams.journal) _ (λ one ran. inl ran) (ended_by streams (Disconnected connection)) ended
entry_placed streams all (Requested name asked reply) follows ended =
    let entry = Requested name asked reply in
    let journal = (streams_with streams entry).journal in
    each_of_both (IsPlaced streams.base journal) (ended_by streams entry)
    (if is_out_of_memory reply then [] else single_steps streams name asked reply (statement_of asked) (transaction_named name streams.transactions))
    (each_like (RanAlone streams.base journal) (IsPlaced streams.base journal) (λ one ran. inl ran) (ended_by streams entry) ended)
    (requested_placed streams all name asked reply follows (is_out_of_memory reply) refl)

-- what an entry commits stands behind what was there
abbrev rows_of : Streams → StreamEntry → List Row
rows_of streams (Requested name asked reply) = if is_out_of_memory reply then [] else (outcome_of streams name asked).rows
rows_of streams (Disconnected connection) = []

journal_grows : (streams : Streams) (entry : StreamEntry) → (streams_with streams entry).journal ≡ streams.journal ++ commit_with streams (rows_of streams entry)
journal_grows streams (Disconnected connection) = sym (append-nil streams.journal)
journal_grows streams (Requested name asked reply) = by_test (is_out_of_memory reply)
  where
    by_test : (b : Bool) → (if b then streams else streams_after streams name (told_as reply (outcome_of streams name asked))).journal
        ≡ streams.journal ++ commit_with streams (if b then [] else (outcome_of streams name asked).rows)
    by_test true = sym (append-nil streams.journal)
    by_test false = refl

all_placed : (base : Base) (history : StreamHistory) → IsLegalStreams base history
    → AllByRecursion (IsPlaced base (streams_of base history).journal) (past_transactions base history)
all_placed base [] legal = tt
all_placed base (entry ∷ earlier) legal =
    let streams = streams_of base earlier in
    let journal = (streams_with streams entry).journal in
    let same = base_stays base earlier in
    let now = history_ran base (entry ∷ earlier) legal in
    let ended = each_first (RanAlone base journal) (ended_by streams entry) (ended_in base earlier) now.1 in
    each_of_both (IsPlaced base journal) (transactions_of_entry streams entry) (past_transactions base earlier)
    (subst (λ (one : Base). AllByRecursion (IsPlaced one journal) (transactions_of_entry streams entry)) same
    (entry_placed streams (history_ran base earlier legal.0).0 entry legal.1 (subst (λ (one : Base). AllByRecursion (RanAlone one journal) (ended_by streams entry)) (sym same) ended)))
    (subst (λ (l : List Tx). AllByRecursion (IsPlaced base l) (past_transactions base earlier)) (sym (journal_grows streams entry))
    (each_like (IsPlaced base streams.journal) (IsPlaced base (streams.journal ++ commit_with streams (rows_of streams entry)))
    (λ one placed. placed_stays base streams.journal (commit_with streams (rows_of streams entry)) one placed) (past_transactions base earlier) (all_placed base earlier legal.0)))

-- ---- each commit is that of a transaction

-- what stands in a list that has one more at its end
get_last : {X : Type 0} (xs : List X) (last : X) (place : ℕ) (x : X) → slice_get (xs ++ last ∷ []) place ≡ Some x → (slice_get xs place ≡ Some x) ⊎ ((place ≡ length xs) × (last ≡ x))
get_last [] last zero x is = inr (refl, cc)
get_last [] last (suc place) x is = absurd cc
get_last (y ∷ xs) last zero x is = inl is
get_last (y ∷ xs) last (suc place) x is = by_rest (get_last xs last place x is)
  where
    by_rest : (slice_get xs place ≡ Some x) ⊎ ((place ≡ length xs) × (last ≡ x)) → (slice_get xs place ≡ Some x) ⊎ ((suc place ≡ suc (length xs)) × (last ≡ x))
    by_rest (inl there) = inl there
    by_rest (inr (at, same)) = inr (ap suc at, same)

-- an entry has a transaction whose commit this is
abbrev HasOne : Streams → List EndedTransaction → List Row → Type 0
HasOne streams some rows = (one : EndedTransaction) × Contains some one × (one.place ≡ length streams.journal) × (one.rows ≡ rows)

first_is_there : {X : Type 0} (x : X) (xs : List X) → Contains (x ∷ xs) x
first_is_there x xs = (0, omega arith, refl)

module _ (streams : Streams) (all : AllStandAlone streams) (name : TxnName) (asked : Request) (reply : Reply) where
  abbrev outcome : Outcome
  outcome = outcome_of streams name asked

  abbrev its_singles : List EndedTransaction
  its_singles = single_steps streams name asked reply (statement_of asked) (transaction_named name streams.transactions)

  row_is_ones : (row : Row) (others : List Row) → outcome.rows ≡ row ∷ others → RowsDue streams name asked outcome
      → HasOne streams (ended_as streams name (is_commit asked) (told_as reply outcome) ++ its_singles) (row ∷ others)
  row_is_ones row others are (inl none) = let wrong : [] ≡ row ∷ others = sym none ∙ are in absurd cc
  row_is_ones row others are (inr (inl (ends, transaction, present))) =
      let one = ends_now streams (is_commit asked) reply outcome.rows transaction in
      let well = subst (EndsWell streams name all (is_commit asked) outcome) ends (outcome_well streams name all asked) in
      let listed : ended_as streams name (is_commit asked) (told_as reply outcome) ≡ one ∷ [] =
      (λ i. ended_where streams (is_commit asked) (told_as reply outcome) (becomes_told reply (ends i)) (present i)) in (
        one,
        Contains-append_left (ended_as streams name (is_commit asked) (told_as reply outcome)) its_singles one
            (subst (λ (l : List EndedTransaction). Contains l one) (sym listed) (first_is_there one [])),
        ((well transaction present).commits row others are).newest,
        are,
      )
  row_is_ones row others are (inr (inr (statement, (is, none), due))) =
      let one = single_step streams name statement reply outcome.rows in
      let listed : its_singles ≡ one ∷ [] = (λ i. single_steps streams name asked reply (is i) (none i)) in (
        one,
        Contains-append_right (ended_as streams name (is_commit asked) (told_as reply outcome)) its_singles one
            (subst (λ (l : List EndedTransaction). Contains l one) (sym listed) (first_is_there one [])),
        refl,
        are,
      )

  requested_one : (row : Row) (others : List Row) (b : Bool) → (if b then [] else outcome.rows) ≡ row ∷ others
      → HasOne streams ((if b then [] else ended_as streams name (is_commit asked) (told_as reply outcome)) ++ (if b then [] else its_singles)) (row ∷ others)
  requested_one row others true are = absurd cc
  requested_one row others false are = row_is_ones row others are (outcome_due streams name asked)

entry_one : (streams : Streams) → AllStandAlone streams → (entry : StreamEntry) (row : Row) (others : List Row) → rows_of streams entry ≡ row ∷ others
    → HasOne streams (transactions_of_entry streams entry) (row ∷ others)
entry_one streams all (Disconnected connection) row others are = absurd cc
entry_one streams all (Requested name asked reply) row others are = requested_one streams all name asked reply row others (is_out_of_memory reply) are

-- the transaction of a commit
abbrev IsOnes : Base → StreamHistory → (number : ℕ) → Tx → Type 0
IsOnes base history number commit =
    (one : EndedTransaction) × Contains (past_transactions base history) one × (one.place ≡ number) × (one.rows ≡ commit.rows)

-- those of the earlier ones, and that of an entry
entry_ones : (base : Base) (entry : StreamEntry) (earlier : StreamHistory) → IsLegalStreams base (entry ∷ earlier) → (number : ℕ) (commit : Tx)
    → (slice_get (streams_of base earlier).journal number ≡ Some commit → IsOnes base earlier number commit)
    → slice_get (streams_of base (entry ∷ earlier)).journal number ≡ Some commit → IsOnes base (entry ∷ earlier) number commit
entry_ones base entry earlier legal number commit ones is = by_rows (rows_of streams entry) refl (sym (ap (λ (l : List Tx). slice_get l number) (journal_grows streams entry)) ∙ is)
  where
    streams : Streams
    streams = streams_of base earlier

    before : slice_get streams.journal number ≡ Some commit → IsOnes base (entry ∷ earlier) number commit
    before there =
        let (one, has, at, rows) = ones there in
        (one, Contains-append_right (transactions_of_entry streams entry) (past_transactions base earlier) one has, at, rows)

    by_rows : (rows : List Row) → rows_of streams entry ≡ rows → slice_get (streams.journal ++ commit_with streams rows) number ≡ Some commit → IsOnes base (entry ∷ earlier) number commit
    by_rows [] are there = before (sym (ap (λ (l : List Tx). slice_get l number) (append-nil streams.journal)) ∙ there)
    by_rows (row ∷ others) are there = by_place (get_last streams.journal newest number commit there)
      where
        newest : Tx
        newest = record {
          replica = record { 0 = streams.base.ids.me };
          first = record { 0 = slice_index (clock_after streams.base.clock streams.journal) streams.base.ids.me + 1 };
          rows = row ∷ others;
        }

        by_place : (slice_get streams.journal number ≡ Some commit) ⊎ ((number ≡ length streams.journal) × (newest ≡ commit)) → IsOnes base (entry ∷ earlier) number commit
        by_place (inl earlier_one) = before earlier_one
        by_place (inr (at, same)) =
            let (one, has, place, its) = entry_one streams (history_ran base earlier legal.0).0 entry row others are in
            (one, Contains-append_left (transactions_of_entry streams entry) (past_transactions base earlier) one has, place ∙ sym at, its ∙ ap (λ (t : Tx). t.rows) same)

all_ones : (base : Base) (history : StreamHistory) → IsLegalStreams base history → (number : ℕ) (commit : Tx) → slice_get (streams_of base history).journal number ≡ Some commit
    → IsOnes base history number commit
all_ones base [] legal number commit is = absurd cc
all_ones base (entry ∷ earlier) legal number commit is = entry_ones base entry earlier legal number commit (all_ones base earlier legal.0 number commit) is

-- both together, with those that are open
pub serial_order : (base : Base) (history : StreamHistory) → IsLegalStreams base history → IsSerialOrder base (streams_of base history).journal (transactions_of_history base history)
serial_order base history legal = record {
  placed = each_of_both (IsPlaced base streams.journal) (open_so_far streams) (past_transactions base history) so_far (all_placed base history legal);
  commits = λ number commit is.
      let (one, has, at, rows) = all_ones base history legal number commit is in (one, Contains-append_right (open_so_far streams) (past_transactions base history) one has, at, rows);
}
  where
    streams : Streams
    streams = streams_of base history

    so_far : AllByRecursion (IsPlaced base streams.journal) (open_so_far streams)
    so_far =
        each_like (RanAlone base streams.journal) (IsPlaced base streams.journal) (λ one ran. inl ran) (open_so_far streams)
        (subst (λ (one : Base). AllByRecursion (RanAlone one streams.journal) (open_so_far streams)) (base_stays base history) (open_ran streams (history_ran base history legal).0))
