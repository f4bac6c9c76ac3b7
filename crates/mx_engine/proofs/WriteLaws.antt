-- What a write by itself makes.
use Rattle.std.proofs.Common.{◌≡◌, inl, inr, ℕ, suc, ◌+◌, ◌%◌, ◌^◌, ◌<◌, Bool, true, false, not, ◌||◌, List, [], ◌∷◌, ◌++◌, length, Option, Some, None, Ok, refl, sym, ap, ◌∙◌, subst, length-append, arith}
use Rattle.std.proofs.Math.Bool.{or-false}
use Rattle.std.proofs.lemmas.Bool.{eqb-true, le-ltb, lt-ltb}
use Rattle.std.specs.Prelude.{MatchOption, nat_lt, slice_index, slice_set, ◌==◌, if◌then◌else◌}
use Rattle.std.specs.List.{AllZip, list_any}
use Rattle.std.specs.Option.{option_to_list}
use Rattle.mx_base.specs.declared.ids.SpaceId.{SpaceId}
use Rattle.mx_base.specs.declared.ids.TxnName.{TxnName}
use Rattle.mx_base.specs.declared.refusal.Refusal.{Refusal}
use Rattle.mx_base.specs.declared.refusal.Refusal.TheVariants.{LsnsUsedUp, ReadOnly}
use Rattle.mx_row.specs.declared.row.Row.{Row}
use Rattle.mx_row.specs.declared.tx.Tx.{Tx}
use Rattle.mx_space.specs.declared.kept_states.KeptStates.{KeptStates}
use Rattle.mx_space.specs.declared.state.State as coded_state
use Rattle.mx_space.specs.Stored.{Holds}
use Rattle.mx_tracker.specs.declared.touched.Touched as coded
use Rattle.mx_tracker.specs.Overlaps.{lies_in_read}
use Rattle.mx_txn.specs.Slots.{max_open}
use Rattle.mx_vclock.specs.Vclocks.{IsNext, max_lsn}
use Rattle.mx_judge.specs.declared.made.Made as code
use Rattle.mx_write.specs.declared.write.Write as place
use Rattle.mx_write.specs.declared.writable.Writer.TheVariants.{Client}
use Rattle.mx_write.specs.Change.{Change, state_after_changed}
use Rattle.mx_write.specs.Judge.{judged_write, row_change}
use Rattle.mx_write.specs.Judged.{Judged}
use Rattle.mx_write.specs.Made.{Made, nothing}
use Rattle.mx_write.specs.Stages.{IsRefusedBy}
use Rattle.mx_judge.specs.Makes.{tuples_shown}
use Rattle.mx_write.specs.Touches.{AddsTouched, is_met, touched_by_change}
use Rattle.mx_write.specs.Views.{write_view}
use Rattle.mx_write.specs.Writable.{describes_schema}
use Rattle.mx_write.specs.Writes.{Write}
use Rattle.mx_model.specs.declared.reply.Reply.{Reply}
use Rattle.mx_model.specs.declared.reply.Reply.TheVariants.{Refused, Tuples}
use Rattle.mx_model.specs.Alone.{HaveBytes}
use Rattle.mx_model.specs.Answers.{state_after_row, state_after_rows}
use Rattle.mx_model.specs.Bases.{writable_node}
use Rattle.mx_model.specs.Overlaps.{Transaction}
use Rattle.mx_model.specs.RunAlone.{statement_answer}
use Rattle.mx_model.specs.Streams.{Outcome, Stays, Streams, statement_may_lack, states_alone, told_alone}
use Rattle.mx_model.specs.Transactions.{is_schema_commit, is_schema_row}
use Rattle.mx_model.specs.statements.Answer.{Answer, refusal_after, refusal_alone}
use Rattle.mx_model.specs.statements.Select.{iterator_of, select_answer_in}
use Rattle.mx_model.specs.statements.Statement.{Selects, Statement, Writes}
use Rattle.mx_model.specs.statements.Write.{answer_of, answer_of_outcome}
use Rattle.mx_model.proofs.AloneSound.{statement_bytes}
use Rattle.mx_model.proofs.JournalLaws.{state_after-append}
use Rattle.mx_model.proofs.MemoryLaws.{alone_may_lack}
use Rattle.mx_model.proofs.OverlapCommits.{prefix_kept}
use Rattle.mx_model.proofs.AnswerLaws.{select_no_row, changes_again}
use Rattle.mx_model.proofs.StreamOutcomes.{alone_unwritten, alone_used_up, alone_written}
use Rattle.mx_engine.specs.declared.engine.Engine.{Engine}
use Rattle.mx_transactions.specs.Open.{AreStates, HoldsOpen, IsOpen, Open, newest_state}
use Rattle.mx_transactions.specs.OpenSteps.{AreMarks, ViewsAreKept, Moves, SpellsRows}
use Rattle.mx_engine.specs.Standing.{HasStreams}
use Rattle.mx_engine.specs.Steps.{AnswersStatement, CountsCommit, IsReplyOf, IsWriteOf, Keeps, Prepares, Readies, Stores, TellsOutcome, TellsOrLacks, row_made, transaction_of, version_after}
use Rattle.mx_transactions.proofs.CommitLaws.{all_moved, committed}
use Rattle.mx_engine.proofs.CommitWorkLaws.{as_made, clock_more, commit_of, row_space}
use Rattle.mx_engine.proofs.OutcomeLaws.{keeps_same, lsn_is, only_opened, stays_told}

-- as it is
pub keeps_all : (engine : Engine) (streams : Streams) → HasStreams engine streams → Keeps engine engine streams
keeps_all engine streams has = keeps_same engine engine streams has (only_opened engine engine.open) has.transactions

-- ---- what a write is answered

module _ (engine : Engine) (streams : Streams) (name : TxnName) (space : SpaceId) (write : Write) (has : HasStreams engine streams) where
  abbrev statement : Statement
  statement = record { space = space.0; operation = Writes write }

  abbrev judged : Judged Made
  judged = judged_write Client (newest_state streams) space.0 write

  abbrev answer : Answer
  answer = statement_answer streams.base.ids (newest_state streams) statement

  -- what changes nothing
  unwritten : (found : Answer) → answer ≡ found → found.row ≡ None → states_alone streams statement ≡ told_alone found.reply
  unwritten found is none = alone_unwritten streams statement (ap (λ (a : Answer). a.row) is ∙ none) ∙ ap (λ (a : Answer). told_alone a.reply) is

  by_node : Bool → Answer
  by_node mine = if not mine then refusal_alone (ReadOnly (record { 0 = writable_node })) else answer_of judged

  module _ (me : streams.base.ids.me ≡ writable_node) where
    answered : answer ≡ answer_of judged
    unfolding by_node
    answered = ap by_node (ap (λ n. n == writable_node) me)

    -- it may lack memory
    pub write_may_lack : statement_may_lack (states_alone streams statement) ≡ true
    write_may_lack = alone_may_lack streams statement (ap (λ n. not (n == writable_node)) me)

    -- it is refused, or out of memory
    pub write_refused : (refusal : Refusal) → IsRefusedBy refusal judged → AnswersStatement engine engine streams name (states_alone streams statement) (Refused refusal)
    write_refused refusal (inl refused) =
        inl (stays_told engine engine streams name (states_alone streams statement) (Refused refusal) (Refused refusal) has refl refl
        (unwritten (refusal_after judged.reads refusal) (answered ∙ ap (answer_of_outcome judged.reads) refused) refl) refl)
    write_refused refusal (inr none) = inr (write_may_lack, ap (λ r. Refused r) none, keeps_all engine streams has)

    -- it finds no tuple
    pub write_finds_none : judged.outcome ≡ Ok nothing → (tuples : List (List ℕ)) → tuples ≡ [] → TellsOrLacks engine engine streams name (states_alone streams statement) (Tuples tuples)
    write_finds_none none tuples empty =
        inl (stays_told engine engine streams name (states_alone streams statement) (Tuples tuples) (Tuples []) has refl refl
        (unwritten (answer_of_outcome judged.reads (Ok nothing)) (answered ∙ ap (answer_of_outcome judged.reads) none) refl) (ap (λ t. Tuples t) empty))

    module _ (to : Made) (outcome : judged.outcome ≡ Ok to) (row : Row) (leaves : to.row ≡ Some row) where
      made_so : answer ≡ answer_of_outcome judged.reads (Ok to)
      made_so = answered ∙ ap (answer_of_outcome judged.reads) outcome

      has_row : answer.row ≡ Some row
      has_row = ap (λ (a : Answer). a.row) made_so ∙ leaves

      -- no further lsn is left
      pub write_used_up : max_lsn < suc (slice_index engine.clock writable_node) → TellsOrLacks engine engine streams name (states_alone streams statement) (Refused LsnsUsedUp)
      write_used_up above =
          let past : nat_lt max_lsn (slice_index engine.clock writable_node + 1) ≡ true = lt-ltb max_lsn _ (omega (arith, above)) in
          inl (stays_told engine engine streams name (states_alone streams statement) (Refused LsnsUsedUp) (Refused LsnsUsedUp) has refl refl
          (alone_used_up streams statement row has_row (ap (nat_lt max_lsn) (lsn_is engine streams 1 has me) ∙ past)) refl)

      -- its row is committed
      pub write_stated : (lsn : ℕ) → IsNext engine.clock writable_node lsn → states_alone streams statement ≡ record { reply = Tuples to.shown; rows = row ∷ []; becomes = Stays }
      write_stated lsn next =
          let below : nat_lt max_lsn (slice_index engine.clock writable_node + 1) ≡ false = le-ltb max_lsn _ (omega (arith, next.follows, next.allowed)) in
          alone_written streams statement row has_row (ap (nat_lt max_lsn) (lsn_is engine streams 1 has me) ∙ below)
          ∙ ap (λ (a : Answer). record { reply = a.reply; rows = row ∷ []; becomes = Stays }) made_so

-- ---- the commit of a write

one_more : (n m : ℕ) → n ≡ suc m → n ≡ m + 1
one_more n m is = omega (arith, is)

-- the engine after it
pub write_told : (old put : Engine) (streams : Streams) (name : TxnName) (clock : List ℕ) (lsn : ℕ) (space : SpaceId) (write : place.Write) (one : code.Made) (tuples : List (List ℕ))
    → (is : IsWriteOf old streams space write one) → IsNext old.clock writable_node lsn → tuples ≡ tuples_shown one.effect
    → Stores old put streams (transaction_of lsn (row_made space write one)) → clock ≡ slice_set old.clock writable_node lsn → put.count ≡ old.count
    → TellsOrLacks old (record put { clock = clock }) streams name (states_alone streams (record { space = space.0; operation = Writes (write_view write) })) (Tuples tuples)
write_told old put streams name clock lsn space write one tuples is next shown stores reached count =
    inl (subst (λ (o : Outcome). TellsOutcome old (record put { clock = clock }) streams name o (Tuples tuples)) (sym stated) (record {
      told = ap (λ t. Tuples t) (shown ∙ sym is.makes.shown);
      after = record {
        holds = subst (Holds put.state) (sym (state_after-append streams.base.state streams.journal (commit ∷ []))) stores.holds;
        clock = reached ∙ clock_more old.clock streams row [] lsn commit is.has.clock lsn_one is.me (lsn_is old streams 1 is.has is.me) refl;
        ids = stores.ids ∙ is.has.ids;
        commits = stores.commits ∙ ap suc is.has.commits ∙ sym longer;
        few = omega (arith, stores.commits, count, is.counts.few);
        transactions = subst (λ (t : Tx). HoldsOpen (committed streams t) put.open) same stores.transactions;
      };
      pending = stores.pending ∙ ap (λ (t : Tx). old.pending ++ t ∷ []) same;
      schema = stores.schema ∙ ap (λ (t : Tx). version_after old.schema (t ∷ [])) same;
    }))
  where
    row : Row
    row = row_made space write one

    commit : Tx
    commit = commit_of streams (row ∷ [])

    lsn_one : lsn ≡ slice_index old.clock writable_node + 1
    lsn_one = one_more lsn (slice_index old.clock writable_node) next.follows

    same : transaction_of lsn row ≡ commit
    same = as_made old streams (row ∷ []) (row ∷ []) lsn is.has is.me lsn_one refl

    stated : states_alone streams (record { space = space.0; operation = Writes (write_view write) }) ≡ record { reply = Tuples is.to.shown; rows = row ∷ []; becomes = Stays }
    stated = write_stated old streams name space (write_view write) is.has is.me is.to is.judged row is.makes.row lsn next

    longer : length (streams.journal ++ commit ∷ []) ≡ suc (length streams.journal)
    longer = length-append streams.journal (commit ∷ []) ∙ plus_one (length streams.journal)
      where
        plus_one : (n : ℕ) → n + 1 ≡ suc n
        plus_one n = omega arith

-- what it makes of the state
pub row_held : (streams : Streams) (space : SpaceId) (write : place.Write) (one : code.Made) (engine : Engine) → (is : IsWriteOf engine streams space write one)
    → (memory : coded_state.State) → Holds memory (state_after_changed (newest_state streams) is.to.change) → Holds memory (state_after_rows (newest_state streams) (row_made space write one ∷ []))
unfolding state_after_row
row_held streams space write one engine is memory holds =
    let again = changes_again (newest_state streams) space.0 (write_view write) is.to (row_made space write one) is.has.holds.sound is.judged is.makes.row in
    subst (λ (change : Option Change). Holds memory (state_after_changed (newest_state streams) change)) (sym again) holds

-- the keys that it touches stand for its row
pub row_spelled : (streams : Streams) (space : SpaceId) (write : place.Write) (one : code.Made) (engine : Engine) → (is : IsWriteOf engine streams space write one)
    → (old new : List coded.Touched) → old ≡ [] → AddsTouched (newest_state streams) (touched_by_change (newest_state streams) is.to.change) old new → SpellsRows (newest_state streams) (row_made space write one ∷ []) new
row_spelled streams space write one engine is old new none (more, new_is, means) = λ read reading spells.
    let before = newest_state streams in
    let row = row_made space write one in
    let again = changes_again before space.0 (write_view write) is.to row is.has.holds.sound is.judged is.makes.row in
    let keys : new ≡ more = new_is ∙ ap (λ l. l ++ more) none in
    ap (list_any (lies_in_read reading)) keys
    ∙ means read reading spells
    ∙ ap (λ (change : Option Change). list_any (is_met before read) (touched_by_change before change)) (sym again)
    ∙ sym (or-false (list_any (is_met before read) (touched_by_change before (row_change before row))))
    ∙ sym (or-false (list_any (is_met before read) (touched_by_change before (row_change before row)) || false))

-- it describes a space or an index where its space's rows do
or_nothing : (b : Bool) → (b || false) ≡ b
or_nothing true = refl
or_nothing false = refl

pub row_schema : (space : SpaceId) (write : place.Write) (one : code.Made) (lsn : ℕ) → is_schema_commit (transaction_of lsn (row_made space write one)) ≡ describes_schema space.0
row_schema space write one lsn = or_nothing (is_schema_row (row_made space write one)) ∙ ap describes_schema (row_space space.0 (write_view write) one.row_key)

pub version_of_row : (version lsn : ℕ) (space : SpaceId) (write : place.Write) (one : code.Made)
    → (if describes_schema space.0 then (version + 1) % 2 ^ 32 else version) ≡ version_after version (transaction_of lsn (row_made space write one) ∷ [])
version_of_row version lsn space write one = ap (λ b. if b then (version + 1) % 2 ^ 32 else version) (sym (row_schema space write one lsn))

-- its tuple is bytes
pub row_bytes : (streams : Streams) (space : SpaceId) (write : place.Write) (one : code.Made) (engine : Engine) → (is : IsWriteOf engine streams space write one) → HaveBytes (row_made space write one ∷ [])
row_bytes streams space write one engine is =
    let statement : Statement = record { space = space.0; operation = Writes (write_view write) } in
    subst (λ (row : Option Row). HaveBytes (option_to_list row))
    (has_row engine streams (record { conn = record { 0 = 0 }; stream = record { 0 = 0 } }) space (write_view write) is.has is.me is.to is.judged (row_made space write one) is.makes.row)
    (statement_bytes streams.base.ids (newest_state streams) statement is.bytes)

-- ---- open transactions after it

-- the states that are kept are those of a longer journal
longer_states : (streams : Streams) (commit : Tx) (kept : KeptStates) → AreStates streams kept → AreStates (committed streams commit) kept
longer_states streams commit kept states = λ number memory there.
    let was = states number memory there in (
      omega (arith, was.0, longer),
      subst (Holds memory) (sym (prefix_kept streams.base.state streams.journal (commit ∷ []) number was.0)) was.1,
    )
  where
    longer : length (streams.journal ++ commit ∷ []) ≡ length streams.journal + 1
    longer = length-append streams.journal (commit ∷ [])

-- none is open
pub none_moved : (streams : Streams) (commit : Tx) (all : Open) → all.names ≡ [] → HoldsOpen streams all → HoldsOpen (committed streams commit) all
none_moved streams commit all none holds = record {
  each = subst (λ names. AllZip (IsOpen (committed streams commit) all) names streams.transactions) (sym none)
      (by_ones streams.transactions (subst (λ names. AllZip (IsOpen streams all) names streams.transactions) none holds.each));
  kept = longer_states streams commit all.kept holds.kept;
}
  where
    by_ones : (ones : List Transaction) → AllZip (IsOpen streams all) [] ones → AllZip (IsOpen (committed streams commit) all) [] ones
    by_ones [] each = tt
    by_ones (one ∷ ones) each = absurd each

-- the open transactions after a commit with these marks
module _ (streams : Streams) (space : SpaceId) (write : place.Write) (one : code.Made) (engine : Engine) (is : IsWriteOf engine streams space write one) (lsn : ℕ) where
  abbrev alone : Tx
  alone = transaction_of lsn (row_made space write one)

  open_after : (old new : Open) (commits : ℕ) → commits ≡ length streams.journal → HoldsOpen streams old → (found : Option (List Bool))
      → MatchOption found (old.names ≡ []) (λ made. (keys : List coded.Touched) × SpellsRows (newest_state streams) (row_made space write one ∷ []) keys × AreMarks old made keys × ViewsAreKept old made commits None × (length old.works ≡ max_open))
      → MatchOption found (new ≡ old) (λ made. Moves old new made (describes_schema space.0) commits)
      → HoldsOpen (committed streams alone) new
  open_after old new commits count holds None none same = subst (HoldsOpen (committed streams alone)) (sym same) (none_moved streams alone old none holds)
  open_after old new commits count holds (Some marks) (keys, spells, are, ready, whole) moves =
      all_moved streams alone is.all (row_bytes streams space write one engine is) old new marks keys (describes_schema space.0) (sym (row_schema space write one lsn)) spells are
      (subst (Moves old new marks (describes_schema space.0)) count moves) whole (subst (λ n. ViewsAreKept old marks n None) count ready) holds

  -- what is made ready, installed and counted is stored
  pub stored : (new after : Engine) (memory : coded_state.State) (found : Option (List Bool)) → Readies engine new streams (row_made space write one) alone found
      → Holds memory (state_after_changed (newest_state streams) is.to.change) → CountsCommit (record new { state = memory }) after space.0 found → Stores engine after streams alone
  stored new after memory found readies holds counts =
      let between = readies.between in
      let prepares = readies.prepares in
      let opens : new.open ≡ between.open = ap (λ (e : Engine). e.open) readies.is in
      let commits : new.commits ≡ engine.commits = ap (λ (e : Engine). e.commits) readies.is ∙ prepares.same.commits in
      let few = is.counts.few in
      let bound = is.counts.bound in
      let low : new.commits < 2 ^ 63 = omega (arith, commits, few, bound) in
      record {
        holds = subst (λ m. Holds m (state_after_rows (newest_state streams) alone.rows)) (sym counts.state) (row_held streams space write one engine is memory holds);
        ids = counts.ids ∙ ap (λ (e : Engine). e.ids) readies.is ∙ prepares.same.ids;
        pending = counts.pending ∙ ap (λ (e : Engine). e.pending) readies.is ∙ ap (λ p. p ++ alone ∷ []) prepares.same.pending;
        schema = counts.schema ∙ ap (λ (e : Engine). if describes_schema space.0 then (e.schema + 1) % 2 ^ 32 else e.schema) readies.is
            ∙ ap (λ n. if describes_schema space.0 then (n + 1) % 2 ^ 32 else n) prepares.same.schema ∙ version_of_row engine.schema lsn space write one;
        commits = counts.commits low ∙ ap suc commits;
        transactions = open_after new.open after.open new.commits (commits ∙ is.has.commits) (subst (HoldsOpen streams) (sym opens) prepares.transactions) found
            (subst (λ (o : Open). MatchOption found (o.names ≡ []) (λ made. (keys : List coded.Touched) × SpellsRows (newest_state streams) (row_made space write one ∷ []) keys × AreMarks o made keys × ViewsAreKept o made new.commits None × (length o.works ≡ max_open))) (sym opens)
            (subst (λ (n : ℕ). MatchOption found (between.open.names ≡ []) (λ made. (keys : List coded.Touched) × SpellsRows (newest_state streams) (row_made space write one ∷ []) keys × AreMarks between.open made keys × ViewsAreKept between.open made n None × (length between.open.works ≡ max_open))) (sym commits) prepares.marks))
            counts.moves;
      }

  -- what isn't installed is given back
  pub given_back : (new : Engine) (memory : coded_state.State) (pending : List Tx) (found : Option (List Bool)) → Readies engine new streams (row_made space write one) alone found
      → Holds memory (newest_state streams) → ((prefix : List Tx) (last : Tx) → new.pending ≡ prefix ++ last ∷ [] → pending ≡ prefix)
      → Keeps engine (record new { state = memory; pending = pending }) streams
  given_back new memory pending found readies holds popped =
      let between = readies.between in
      let same = readies.prepares.same in
      let back : pending ≡ engine.pending = popped between.pending alone (ap (λ (e : Engine). e.pending) readies.is) ∙ same.pending in
      let commits : new.commits ≡ engine.commits = ap (λ (e : Engine). e.commits) readies.is ∙ same.commits in
      let count : new.count ≡ engine.count = ap (λ (e : Engine). e.count) readies.is ∙ same.count in
      record {
        has = record {
          holds = holds;
          clock = ap (λ (e : Engine). e.clock) readies.is ∙ same.clock ∙ is.has.clock;
          ids = ap (λ (e : Engine). e.ids) readies.is ∙ same.ids ∙ is.has.ids;
          commits = commits ∙ is.has.commits;
          few = omega (arith, commits, count, is.has.few);
          transactions = subst (HoldsOpen streams) (sym (ap (λ (e : Engine). e.open) readies.is)) readies.prepares.transactions;
        };
        pending = back;
        schema = ap (λ (e : Engine). e.schema) readies.is ∙ same.schema;
      }

-- a push that failed left what there was
pub keeps_pushed : (old between : Engine) (streams : Streams) (pending : List Tx) → Keeps old between streams → pending ≡ between.pending → Keeps old (record between { pending = pending }) streams
keeps_pushed old between streams pending keeps same = record {
  has = record { holds = keeps.has.holds; clock = keeps.has.clock; ids = keeps.has.ids; commits = keeps.has.commits; few = keeps.has.few; transactions = keeps.has.transactions };
  pending = same ∙ keeps.pending;
  schema = keeps.schema;
}

-- what was prepared is what there was
pub keeps_prepared : (old new : Engine) (streams : Streams) (row : Row) (found : Option (List Bool)) → HasStreams old streams → Prepares old new streams row found → Keeps old new streams
keeps_prepared old new streams row found has prepares = keeps_same old new streams has prepares.same prepares.transactions

-- what it holds is what it held
pub readied_holds : (old new : Engine) (streams : Streams) (row : Row) (commit : Tx) (found : Option (List Bool)) → HasStreams old streams → Readies old new streams row commit found
    → Holds new.state (newest_state streams)
readied_holds old new streams row commit found has readies =
    subst (λ state. Holds state (newest_state streams)) (sym (ap (λ (e : Engine). e.state) readies.is ∙ readies.prepares.same.state)) has.holds

-- the node is the one that may be written
pub is_writable_node : (engine : Engine) (streams : Streams) (mine : Bool) → HasStreams engine streams → mine ≡ (engine.ids.me == writable_node) → mine ≡ true → streams.base.ids.me ≡ writable_node
is_writable_node engine streams mine has is taken = ap (λ ids. ids.me) (sym has.ids) ∙ eqb-true engine.ids.me writable_node (sym is ∙ taken)

-- a SELECT by itself
pub select_told : (engine : Engine) (streams : Streams) (name : TxnName) (space index limit offset iterator : ℕ) (key : List ℕ) (reply : Reply) → HasStreams engine streams
    → IsReplyOf reply (select_answer_in (newest_state streams) space index limit offset (iterator_of iterator) key)
    → AnswersStatement engine engine streams name (states_alone streams (record { space = space; operation = Selects index limit offset iterator key })) reply
select_told engine streams name space index limit offset iterator key reply has (inl told) =
    let statement : Statement = record { space = space; operation = Selects index limit offset iterator key } in
    inl (stays_told engine engine streams name (states_alone streams statement) reply (select_answer_in (newest_state streams) space index limit offset (iterator_of iterator) key).reply has refl refl
    (alone_unwritten streams statement (select_no_row (newest_state streams) space index limit offset (iterator_of iterator) key)) told)
select_told engine streams name space index limit offset iterator key reply has (inr none) =
    inr (alone_may_lack streams (record { space = space; operation = Selects index limit offset iterator key }) refl, none, keeps_all engine streams has)
