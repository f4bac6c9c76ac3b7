-- What statements come to that the plain slow program runs alone.
use Rattle.std.proofs.Common.{arith, ◌≡◌, ℕ, ◌+◌, Bool, true, false, ◌&&◌, ◌||◌, List, [], ◌∷◌, ◌++◌, Option, Some, None, refl, sym, ap, ◌∙◌, subst, append-nil, append_assoc}
use Rattle.std.specs.Prelude.{not, ◌==◌, if◌then◌else◌, IfOk, MatchOption, Result, Ok, Err}
use Rattle.std.specs.List.{AllZip}
use Rattle.std.specs.Option.{option_to_list}
use Rattle.mx_base.specs.declared.refusal.Refusal.TheVariants.{ReadOnly, TransactionTooLong}
use Rattle.mx_request.specs.declared.request.Request.{Request}
use Rattle.mx_request.specs.declared.request.Request.TheVariants as request
use Rattle.mx_row.specs.declared.row.Row.{Row}
use Rattle.mx_row.specs.Limits.{has_room, row_size, rows_size, saturated}
use Rattle.mx_schema.specs.State.{State}
use Rattle.mx_judge.specs.declared.made.Made as code
use Rattle.mx_write.specs.Change.{Change, state_after_changed}
use Rattle.mx_write.specs.Judge.{row_change}
use Rattle.mx_write.specs.Reads.{Read}
use Rattle.mx_write.specs.Touches.{are_met, touched_by_change}
use Rattle.mx_model.specs.declared.ids.Ids.{Ids}
use Rattle.mx_model.specs.declared.reply.Reply.TheVariants.{Refused}
use Rattle.mx_slow.specs.declared.slow.run.SlowRun.{SlowRun}
use Rattle.mx_slow.specs.declared.slow.transactions.SlowStep.{SlowStep}
use Rattle.mx_slow_state.specs.declared.slow_state.answers.SlowAnswer.{SlowAnswer}
use Rattle.mx_slow_state.specs.declared.slow_state.answers.SlowWrite.{SlowWrite}
use Rattle.mx_slow_state.specs.declared.slow_state.SlowState.{SlowState}
use Rattle.mx_model.specs.Answers.{answer_by_statement, answer_to, answer_without_space, state_after_row, state_after_rows}
use Rattle.mx_model.specs.Frame.{answer_to_statement}
use Rattle.mx_model.specs.Bases.{is_write, writable_node}
use Rattle.mx_model.specs.Overlaps.{TransactionStep, statements_in}
use Rattle.mx_model.specs.RunAlone.{Run, answer_in_run, run_alone, run_with, statement_answer, within_limits, writes}
use Rattle.mx_slow.specs.Slow.{KeepsStep, RunStands, reads_of_statement, statement_reads}
use Rattle.mx_slow.specs.SlowReads.{reads_view}
use Rattle.mx_slow_state.specs.SlowState.{HasAnswer, IsSlowMade, IsSlowState}
use Rattle.mx_slow.specs.SlowTouches.{AreFitReads, meet}
use Rattle.mx_model.specs.Touches.{rows_meet}
use Rattle.mx_model.specs.statements.Answer.{Answer, refusal_after, refusal_alone}
use Rattle.mx_model.specs.statements.Statement.{Statement, statement_of}
use Rattle.mx_model.proofs.FrameRuns.{row_after}
use Rattle.mx_model.proofs.SizeLaws.{size_more}
use Rattle.mx_slow.proofs.SlowTouchLaws.{none_meet}
use Rattle.mx_model.proofs.AnswerLaws.{changes_again}

-- ---- statements

abbrev pub written : Option Statement → Bool
written None = false
written (Some statement) = writes statement.operation

-- a statement writes where its request does
pub statement_writes : (asked : Request) (statement : Statement) → statement_of asked ≡ Some statement → writes statement.operation ≡ is_write asked
statement_writes (request.Select space index limit offset iterator key) statement is = ap written (sym is)
statement_writes (request.Insert space tuple) statement is = ap written (sym is)
statement_writes (request.Replace space tuple) statement is = ap written (sym is)
statement_writes (request.Update space index base key operations) statement is = ap written (sym is)
statement_writes (request.Delete space index key) statement is = ap written (sym is)
statement_writes (request.Upsert space base tuple operations) statement is = ap written (sym is)
statement_writes request.Nop statement is = absurd cc
statement_writes request.Ping statement is = absurd cc
statement_writes request.Begin statement is = absurd cc
statement_writes request.Commit statement is = absurd cc
statement_writes request.Rollback statement is = absurd cc
statement_writes request.Id statement is = absurd cc
statement_writes (request.Join instance) statement is = absurd cc
statement_writes (request.Subscribe instance set clock) statement is = absurd cc
statement_writes (request.Ack clock) statement is = absurd cc

-- a request that writes is a statement
pub write_states : (asked : Request) → is_write asked ≡ true → (statement : Statement) × (statement_of asked ≡ Some statement)
write_states (request.Select space index limit offset iterator key) writes = absurd cc
write_states (request.Insert space tuple) writes = (_, refl)
write_states (request.Replace space tuple) writes = (_, refl)
write_states (request.Update space index base key operations) writes = (_, refl)
write_states (request.Delete space index key) writes = (_, refl)
write_states (request.Upsert space base tuple operations) writes = (_, refl)
write_states request.Nop writes = absurd cc
write_states request.Ping writes = absurd cc
write_states request.Begin writes = absurd cc
write_states request.Commit writes = absurd cc
write_states request.Rollback writes = absurd cc
write_states request.Id writes = absurd cc
write_states (request.Join instance) writes = absurd cc
write_states (request.Subscribe instance set clock) writes = absurd cc
write_states (request.Ack clock) writes = absurd cc

abbrev read_only : Answer
read_only = refusal_alone (ReadOnly (record { 0 = writable_node }))

module _ (ids : Ids) (before : State) (asked : Request) where
  abbrev refuses : Bool
  refuses = is_write asked && not (ids.me == writable_node)

  answered_by : (statement : Statement) → statement_of asked ≡ Some statement
      → statement_answer ids before statement ≡ (if refuses then read_only else answer_to_statement before statement)
  answered_by statement is =
      ap (λ w. if w && not (ids.me == writable_node) then read_only else answer_to_statement before statement) (statement_writes asked statement is)

  -- the node may not be written
  pub statement_refused : refuses ≡ true → (statement : Statement) × (statement_of asked ≡ Some statement) × (statement_answer ids before statement ≡ read_only)
  statement_refused test =
      let (statement, is) = write_states asked (first (is_write asked) (not (ids.me == writable_node)) test) in
      (statement, is, answered_by statement is ∙ ap (λ t. if t then read_only else answer_to_statement before statement) test)
    where
      first : (a b : Bool) → (a && b) ≡ true → a ≡ true
      first true b both = refl
      first false b both = absurd cc

  -- it takes the request
  pub statement_taken : refuses ≡ false → (statement : Statement) → statement_of asked ≡ Some statement → statement_answer ids before statement ≡ answer_to_statement before statement
  statement_taken test statement is = answered_by statement is ∙ ap (λ t. if t then read_only else answer_to_statement before statement) test

-- ---- rows

pub rows_after-append : (before : State) (rows more : List Row) → state_after_rows before (rows ++ more) ≡ state_after_rows (state_after_rows before rows) more
rows_after-append before [] more = refl
rows_after-append before (row ∷ rows) more = rows_after-append (state_after_row before row) rows more

or_false : (a : Bool) → (a || false) ≡ a
or_false true = refl
or_false false = refl

or_assoc : (a b c : Bool) → ((a || b) || c) ≡ (a || (b || c))
or_assoc true b c = refl
or_assoc false b c = refl

-- a row more
rows_meet_more : (before : State) (rows : List Row) (row : Row) (reads : List Read)
    → rows_meet before (rows ++ row ∷ []) reads
    ≡ (rows_meet before rows reads || are_met (state_after_rows before rows) (touched_by_change (state_after_rows before rows) (row_change (state_after_rows before rows) row)) reads)
rows_meet_more before [] row reads = or_false (are_met before (touched_by_change before (row_change before row)) reads)
rows_meet_more before (first ∷ rows) row reads =
    ap (λ t. are_met before (touched_by_change before (row_change before first)) reads || t) (rows_meet_more (state_after_row before first) rows row reads)
    ∙ sym (or_assoc (are_met before (touched_by_change before (row_change before first)) reads) (rows_meet (state_after_row before first) rows reads) _)

-- no statement
pub none_run : (ids : Ids) (before : State) (state : SlowState) (run : SlowRun) → run.state ≡ state → run.rows ≡ [] → run.size ≡ 0 → run.touched ≡ [] → IsSlowState state before
    → RunStands run before (run_alone ids before [])
unfolding run_alone
none_run ids before state run state_is rows size touched is = record {
  state = subst (λ (s : SlowState). IsSlowState s before) (sym state_is) is;
  rows = rows;
  size = size;
  same = refl;
  touched = λ reads fit. ap (λ keys. meet keys (reads_view reads)) touched ∙ none_meet reads;
}

-- a write more
pub one_taken : (old new : SlowRun) (before : State) (run after : Run) (space : ℕ) (row : Row) (found : code.Made) (change : Option Change) (size : ℕ) → RunStands old before run
    → IsSlowMade run.state space row found change → after.rows ≡ run.rows ++ row ∷ [] → after.state ≡ state_after_changed run.state change
    → IsSlowState new.state (state_after_changed run.state change) → new.rows ≡ old.rows ++ row ∷ [] → size ≡ saturated (row_size row) → new.size ≡ saturated (old.size + size)
    → ((reads : List Read) → AreFitReads reads → meet new.touched (reads_view reads) ≡ (meet old.touched (reads_view reads) || are_met run.state (touched_by_change run.state change) reads))
    → RunStands new before after
one_taken old new before run after space row found change size stands made rows_are state_is keeps pushed size_is added met = record {
  state = subst (IsSlowState new.state) (sym state_is) keeps;
  rows = pushed ∙ ap (λ l. l ++ row ∷ []) stands.rows ∙ sym rows_are;
  size = added ∙ ap (λ n. saturated (n + size)) stands.size ∙ ap (λ n. saturated (saturated (rows_size run.rows) + n)) size_is ∙ both_saturated (rows_size run.rows) (row_size row)
      ∙ ap saturated (sym (size_more run.rows row)) ∙ ap (λ l. saturated (rows_size l)) (sym rows_are);
  same = ap (state_after_rows before) rows_are ∙ rows_after-append before run.rows (row ∷ []) ∙ ap (λ s. state_after_row s row) stands.same ∙ goes ∙ sym state_is;
  touched = λ reads fit.
      met reads fit ∙ ap (λ t. t || are_met run.state (touched_by_change run.state change) reads) (stands.touched reads fit)
      ∙ ap (λ c. rows_meet before run.rows reads || are_met run.state (touched_by_change run.state c) reads) changes
      ∙ ap (λ s. rows_meet before run.rows reads || are_met s (touched_by_change s (row_change s row)) reads) (sym stands.same)
      ∙ sym (rows_meet_more before run.rows row reads) ∙ ap (λ l. rows_meet before l reads) (sym rows_are);
}
  where
    changes : change ≡ row_change run.state row
    changes = made.is ∙ sym (changes_again run.state space made.write made.made row stands.state.sound made.outcome made.row_is)

    goes : state_after_row run.state row ≡ state_after_changed run.state change
    goes = row_after run.state row change changes

    both_saturated : (a b : ℕ) → saturated (saturated a + saturated b) ≡ saturated (a + b)
    both_saturated a b = omega arith

-- its change
pub change_is : (before : State) (space : ℕ) (row : Row) (found : code.Made) (change : Option Change) → IsSlowMade before space row found change → (one : Change) × (change ≡ Some one)
change_is before space row found change made = (_, made.is ∙ made.makes.change)

-- a statement that writes nothing
pub none_taken : (coded : SlowRun) (before : State) (run : Run) (answer : Answer) → RunStands coded before run → answer.row ≡ None → answer.change ≡ None
    → RunStands coded before (run_with run answer)
none_taken coded before run answer stands no_row no_change =
    let rows : run.rows ++ option_to_list answer.row ≡ run.rows = ap (λ o. run.rows ++ option_to_list o) no_row ∙ append-nil run.rows in
    let state : state_after_changed run.state answer.change ≡ run.state = ap (state_after_changed run.state) no_change in
    record {
      state = subst (IsSlowState coded.state) (sym state) stands.state;
      rows = stands.rows ∙ sym rows;
      size = stands.size ∙ ap (λ l. saturated (rows_size l)) (sym rows);
      same = ap (state_after_rows before) rows ∙ stands.same ∙ sym state;
      touched = λ reads fit. stands.touched reads fit ∙ ap (λ l. rows_meet before l reads) (sym rows);
    }

-- ---- limits

module _ (found : SlowAnswer) (state : State) (space : ℕ) (rows : List Row) (answer : Answer) (has : HasAnswer found state space answer) where
  by_write : (o : Option SlowWrite) → found.write ≡ o → MatchOption o
      ((answer.row ≡ None) × (answer.change ≡ None))
      (λ write. (write.space.0 ≡ space) × (answer.row ≡ Some write.row) × IsSlowMade state space write.row write.made answer.change)
  by_write o is = subst (λ w. MatchOption w ((answer.row ≡ None) × (answer.change ≡ None))
      (λ write. (write.space.0 ≡ space) × (answer.row ≡ Some write.row) × IsSlowMade state space write.row write.made answer.change)) is has.write

  -- an answer that writes nothing stays
  pub limits_none : found.write ≡ None → HasAnswer found state space (within_limits rows answer answer.row)
  limits_none none = subst (λ row. HasAnswer found state space (within_limits rows answer row)) (sym (by_write None none).0) has

  module _ (write : SlowWrite) (is : found.write ≡ Some write) where
    row_is : answer.row ≡ Some write.row
    row_is = (by_write (Some write) is).1

    -- so does one whose row has room
    pub limits_kept : has_room rows write.row ≡ true → HasAnswer found state space (within_limits rows answer answer.row)
    limits_kept room =
        subst (λ row. HasAnswer found state space (within_limits rows answer row)) (sym row_is)
        (subst (λ b. HasAnswer found state space (if b then answer else refusal_after answer.reads TransactionTooLong)) (sym room) has)

    -- and else it is refused
    pub limits_refused : has_room rows write.row ≡ false
        → HasAnswer (record { reply = Refused TransactionTooLong; write = None }) state space (within_limits rows answer answer.row)
    limits_refused full =
        subst (λ row. HasAnswer (record { reply = Refused TransactionTooLong; write = None }) state space (within_limits rows answer row)) (sym row_is)
        (subst (λ b. HasAnswer (record { reply = Refused TransactionTooLong; write = None }) state space (if b then answer else refusal_after answer.reads TransactionTooLong)) (sym full)
        (record { reply = refl; write = (refl, refl) }))

  -- what its write makes
  pub write_made : (write : SlowWrite) → found.write ≡ Some write → (write.space.0 ≡ space) × (answer.row ≡ Some write.row) × IsSlowMade state space write.row write.made answer.change
  write_made write is = by_write (Some write) is

  pub nothing_made : found.write ≡ None → (answer.row ≡ None) × (answer.change ≡ None)
  nothing_made none = by_write None none

-- ---- the answer to a statement on a node

module _ (ids : Ids) (before : State) (asked : Request) where
  abbrev IsAnswered : (State → Statement → Answer) → SlowAnswer → Type 0
  IsAnswered answers found = (statement : Statement) × (statement_of asked ≡ Some statement) × HasAnswer found before statement.space (answers before statement)

  pub answer_refused : (is_write asked && not (ids.me == writable_node)) ≡ true → IsAnswered (statement_answer ids) (record { reply = Refused (ReadOnly (record { 0 = writable_node })); write = None })
  answer_refused test =
      let (statement, is, refused) = statement_refused ids before asked test in (
        statement,
        is,
        subst (HasAnswer (record { reply = Refused (ReadOnly (record { 0 = writable_node })); write = None }) before statement.space) (sym refused)
            (record { reply = refl; write = (refl, refl) }),
      )

  pub answer_taken : {E : Type 0} (result : Result (Option SlowAnswer) E) → (is_write asked && not (ids.me == writable_node)) ≡ false
      → IfOk result (λ found. MatchOption found (statement_of asked ≡ None) (IsAnswered answer_to_statement))
      → IfOk result (λ found. MatchOption found (statement_of asked ≡ None) (IsAnswered (statement_answer ids)))
  answer_taken (Ok (Some found)) test (statement, is, has) =
      (statement, is, subst (HasAnswer found before statement.space) (sym (statement_taken ids before asked test statement is)) has)
  answer_taken (Ok None) test none = none
  answer_taken (Err e) test told = tt

  -- what it reads
  pub reads_refused : (is_write asked && not (ids.me == writable_node)) ≡ true → statement_reads ids before asked ≡ []
  reads_refused test =
      let (statement, is, refused) = statement_refused ids before asked test in
      ap (reads_of_statement ids before) is ∙ ap (λ (a : Answer). a.reads) refused

  none_read : (asked : Request) → (answer_without_space asked).reads ≡ []
  none_read request.Nop = refl
  none_read request.Ping = refl
  none_read request.Id = refl
  none_read other = refl

  pub reads_taken : (is_write asked && not (ids.me == writable_node)) ≡ false → (answer_to before asked).reads ≡ statement_reads ids before asked
  unfolding answer_to
  reads_taken test = by_statement (statement_of asked) refl
    where
      by_statement : (o : Option Statement) → statement_of asked ≡ o → (answer_by_statement before asked o).reads ≡ reads_of_statement ids before o
      by_statement None none = none_read asked
      by_statement (Some statement) is = sym (ap (λ (a : Answer). a.reads) (statement_taken ids before asked test statement is))

-- ---- statements one after the other

-- the statements that ran, behind those to come
pub record PartRun (coded : SlowRun) (ids : Ids) (before : State) (left : List SlowStep) (all : List TransactionStep) : Type 0 where
  pub ahead : List TransactionStep
  pub done : List TransactionStep
  pub whole : ahead ++ done ≡ all
  pub keep : AllZip KeepsStep left ahead
  pub stands : RunStands coded before (run_alone ids before (statements_in done))

-- the last of those to come
record HasLast (later : List SlowStep) (step : SlowStep) (ahead : List TransactionStep) : Type 0 where
  before : List TransactionStep
  last : TransactionStep
  is : ahead ≡ before ++ last ∷ []
  keep : AllZip KeepsStep later before
  keeps : KeepsStep step last

has_last : (later : List SlowStep) (step : SlowStep) (ahead : List TransactionStep) → AllZip KeepsStep (later ++ step ∷ []) ahead → HasLast later step ahead
has_last [] step [] all = absurd all
has_last [] step (one ∷ []) (first, all) = record { before = []; last = one; is = refl; keep = tt; keeps = first }
has_last [] step (one ∷ other ∷ ahead) (first, all) = absurd all
has_last (x ∷ later) step [] all = absurd all
has_last (x ∷ later) step (one ∷ ahead) (first, all) =
    let rest = has_last later step ahead all in
    record { before = one ∷ rest.before; last = rest.last; is = ap (λ l. one ∷ l) rest.is; keep = (first, rest.keep); keeps = rest.keeps }

pub begins_run : (coded : SlowRun) (ids : Ids) (before : State) (left : List SlowStep) (all : List TransactionStep) → AllZip KeepsStep left all
    → RunStands coded before (run_alone ids before []) → PartRun coded ids before left all
begins_run coded ids before left all keep stands = record { ahead = all; done = []; whole = append-nil all; keep = keep; stands = stands }

pub goes_on : (old new : SlowRun) (ids : Ids) (before : State) (left later : List SlowStep) (step : SlowStep) (all : List TransactionStep) → left ≡ later ++ step ∷ []
    → ((run : Run) (statement : Statement) → RunStands old before run → statement_of step.request ≡ Some statement → RunStands new before (run_with run (answer_in_run ids run statement)))
    → PartRun old ids before left all → PartRun new ids before later all
unfolding run_alone
goes_on old new ids before left later step all next runs part =
    let has = has_last later step part.ahead (subst (λ l. AllZip KeepsStep l part.ahead) next part.keep) in
    record {
      ahead = has.before;
      done = has.last ∷ part.done;
      whole = sym (append_assoc has.before (has.last ∷ []) part.done) ∙ ap (λ l. l ++ part.done) (sym has.is) ∙ part.whole;
      keep = has.keep;
      stands = runs (run_alone ids before (statements_in part.done)) has.last.statement part.stands has.keeps.statement;
    }

pub ends_run : (coded : SlowRun) (ids : Ids) (before : State) (left : List SlowStep) (all : List TransactionStep) → left ≡ [] → PartRun coded ids before left all
    → RunStands coded before (run_alone ids before (statements_in all))
ends_run coded ids before left all over part =
    subst (λ l. RunStands coded before (run_alone ids before (statements_in l))) (all_done part.ahead (subst (λ l. AllZip KeepsStep l part.ahead) over part.keep) part.whole) part.stands
  where
    all_done : (ahead : List TransactionStep) → AllZip KeepsStep [] ahead → ahead ++ part.done ≡ all → part.done ≡ all
    all_done [] keep whole = whole
    all_done (one ∷ ahead) keep whole = absurd keep
