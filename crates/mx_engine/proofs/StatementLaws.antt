-- What a further statement of an open transaction is answered alone, by what the code found.
use Rattle.std.proofs.Common.{◌≡◌, ◌⊎◌, inl, inr, ℕ, suc, zero, Bool, true, false, not, ◌||◌, List, [], ◌∷◌, length, take, Option, Some, None, Result, Ok, Err, refl, sym, ap, ◌∙◌, subst}
use Rattle.std.specs.Prelude.{◌==◌, MatchOption, if◌then◌else◌}
use Rattle.std.specs.List.{AllByRecursion}
use Rattle.mx_base.specs.declared.refusal.Refusal.{Refusal}
use Rattle.mx_base.specs.declared.refusal.Refusal.TheVariants.{OutOfMemory, ReadOnly, TransactionTooLong}
use Rattle.mx_row.specs.declared.row.Row.{Row}
use Rattle.mx_row.specs.declared.tx.Tx.{Tx}
use Rattle.mx_row.specs.Limits.{has_room}
use Rattle.mx_schema.specs.State.{State}
use Rattle.mx_judge.specs.declared.made.Made as code
use Rattle.mx_write.specs.declared.writable.Writer.TheVariants.{Client}
use Rattle.mx_write.specs.Judge.{judged_write}
use Rattle.mx_write.specs.Judged.{Judged}
use Rattle.mx_write.specs.Made.{Made, nothing}
use Rattle.mx_write.specs.Stages.{IsRefusedBy}
use Rattle.mx_judge.specs.Makes.{MakesOf}
use Rattle.mx_write.specs.Notes.{AddsReads, Noted}
use Rattle.mx_write.specs.Reads.{Read}
use Rattle.mx_write.specs.Writes.{Write}
use Rattle.mx_model.specs.declared.ids.Ids.{Ids}
use Rattle.mx_model.specs.declared.reply.Reply.TheVariants.{Refused}
use Rattle.mx_model.specs.Alone.{AllStandAlone, HaveBytes, StandsAlone}
use Rattle.mx_model.specs.Answers.{answer_in_space, state_after_rows}
use Rattle.mx_model.specs.Bases.{writable_node}
use Rattle.mx_model.specs.Overlaps.{Transaction, TransactionStep, View, doomed_or_view, has_row, has_schema_commit_since, has_written_since, is_some_row, overlap_of, place_by, standing_by, state_after_first, statements_in}
use Rattle.mx_model.specs.RunAlone.{Run, answer_in_run, run_alone, within_limits, writes}
use Rattle.mx_model.specs.Streams.{Streams, standing_now}
use Rattle.mx_model.specs.statements.Answer.{Answer, refusal_after, refusal_alone}
use Rattle.mx_model.specs.statements.Select.{iterator_of, select_answer_in}
use Rattle.mx_model.specs.statements.Statement.{Operation, Selects, Statement, Writes}
use Rattle.mx_model.specs.statements.Write.{answer_of, answer_of_outcome}
use Rattle.mx_model.proofs.AloneCommits.{run_makes}
use Rattle.mx_model.proofs.AloneSound.{journal_sound}
use Rattle.mx_model.proofs.AnswerLaws.{Agrees, select_agrees, select_no_row}
use Rattle.mx_engine.specs.declared.answer.Answered.{Answered}
use Rattle.mx_engine.specs.declared.answer.Answered.TheVariants as answered
use Rattle.mx_engine.specs.Steps.{AnswersAlone, IsReplyOf, newest_answer, newest_run}
use Rattle.mx_engine.specs.Views.{reply_of}
use Rattle.mx_engine.proofs.StepLaws.{answer_read}

-- ---- a SELECT

selected_by : (answer : Answer) (before : State) → Agrees before answer → answer.row ≡ None → answer.change ≡ None
selected_by answer before (inl (row, change)) none = change
selected_by answer before (inr (row, is, changes)) none = let both : Some row ≡ None = sym is ∙ none in absurd cc

-- it is answered as by itself, on the state of the run
pub read_in_run : (ids : Ids) (run : Run) (space : ℕ) (operation : Operation) → writes operation ≡ false
    → answer_in_run ids run (record { space = space; operation = operation }) ≡ answer_in_space run.state space operation
read_in_run ids run space (Selects index limit offset iterator key) read =
    ap (within_limits run.rows (select_answer_in run.state space index limit offset (iterator_of iterator) key)) (select_no_row run.state space index limit offset (iterator_of iterator) key)
read_in_run ids run space (Writes write) read = absurd cc

refused : (result : Result Answered Refusal) (found : List (List ℕ)) → reply_of result found ≡ Refused OutOfMemory → result ≡ Err OutOfMemory
refused (Ok answered.Tuples) found is = absurd cc
refused (Ok answered.Empty) found is = absurd cc
refused (Ok answered.Id) found is = absurd cc
refused (Err refusal) found is = let same : refusal ≡ OutOfMemory = cc in ap (λ r. Err r) same

module _ (streams : Streams) (one : Transaction) (found : List (List ℕ)) (result : Result Answered Refusal) (notes : Noted) where
  abbrev run : Run
  run = newest_run streams one

  -- an answer that is known, and changes nothing
  pub alone_by : (statement : Statement) (answer : Answer) → newest_answer streams one statement ≡ answer → reply_of result found ≡ answer.reply → answer.row ≡ None → answer.change ≡ None
      → AddsReads (Some []) notes answer.reads → AnswersAlone streams one statement found result notes
  alone_by statement answer is told row change adds =
      inr (
        told ∙ sym (ap (λ (a : Answer). a.reply) is),
        ap (λ (a : Answer). a.row) is ∙ row,
        ap (λ (a : Answer). a.change) is ∙ change,
        subst (λ (a : Answer). AddsReads (Some []) notes a.reads) (sym is) adds,
      )

  pub selects_alone : (space index limit offset iterator : ℕ) (key : List ℕ)
      → IsReplyOf (reply_of result found) (select_answer_in run.state space index limit offset (iterator_of iterator) key)
      → (result ≡ Err OutOfMemory) ⊎ AddsReads (Some []) notes (select_answer_in run.state space index limit offset (iterator_of iterator) key).reads
      → AnswersAlone streams one (record { space = space; operation = Selects index limit offset iterator key }) found result notes
  selects_alone space index limit offset iterator key told (inl lacks) = inl lacks
  selects_alone space index limit offset iterator key (inr lacks) noted = inl (refused result found lacks)
  selects_alone space index limit offset iterator key (inl told) (inr adds) =
      let answer = select_answer_in run.state space index limit offset (iterator_of iterator) key in
      let none = select_no_row run.state space index limit offset (iterator_of iterator) key in
      alone_by (record { space = space; operation = Selects index limit offset iterator key }) answer
      (read_in_run streams.base.ids run space (Selects index limit offset iterator key) refl) told none
      (selected_by answer run.state (select_agrees run.state space index limit offset (iterator_of iterator) key) none) adds

-- ---- a write

-- what was judged without an error
pub judged_as : (before : State) (space : ℕ) (write : Write) (judged : Judged Made) (found now : Option code.Made) → found ≡ now
    → MatchOption found (judged.outcome ≡ Ok nothing) (λ one. MakesOf before space write one judged) → MatchOption now (judged.outcome ≡ Ok nothing) (λ one. MakesOf before space write one judged)
judged_as before space write judged found now is says = subst (λ o. MatchOption o (judged.outcome ≡ Ok nothing) (λ one. MakesOf before space write one judged)) is says

-- and it was noted
pub noted_ok : {A : Type 0} (value : A) (old new : Noted) (reads : List Read) → (◌≡◌ {A = Result A Refusal} (Ok value) (Err OutOfMemory)) ⊎ AddsReads old new reads → AddsReads old new reads
noted_ok value old new reads (inl lacks) = absurd cc
noted_ok value old new reads (inr adds) = adds

module _ (streams : Streams) (one : Transaction) (space : ℕ) (write : Write) where
  abbrev pub its_write : Statement
  its_write = record { space = space; operation = Writes write }

  abbrev pub its_judged : Judged Made
  its_judged = judged_write Client (newest_run streams one).state space write

  abbrev rows : List Row
  rows = (newest_run streams one).rows

  -- where the node takes no writes
  pub answer_read_only : (streams.base.ids.me == writable_node) ≡ false → newest_answer streams one its_write ≡ refusal_alone (ReadOnly (record { 0 = writable_node }))
  answer_read_only refuses =
      ap (λ b. let answer = if not b then refusal_alone (ReadOnly (record { 0 = writable_node })) else answer_of its_judged in within_limits rows answer answer.row) refuses

  module _ (takes : (streams.base.ids.me == writable_node) ≡ true) where
    pub answer_judged : (outcome : Result Made Refusal) → its_judged.outcome ≡ outcome
        → newest_answer streams one its_write ≡ within_limits rows (answer_of_outcome its_judged.reads outcome) (answer_of_outcome its_judged.reads outcome).row
    answer_judged outcome is =
        ap (λ b. let answer = if not b then refusal_alone (ReadOnly (record { 0 = writable_node })) else answer_of its_judged in within_limits rows answer answer.row) takes
        ∙ ap (λ (o : Result Made Refusal). within_limits rows (answer_of_outcome its_judged.reads o) (answer_of_outcome its_judged.reads o).row) is

    -- it finds nothing that it could change
    pub answer_nothing : its_judged.outcome ≡ Ok nothing → newest_answer streams one its_write ≡ answer_of_outcome its_judged.reads (Ok nothing)
    answer_nothing is = answer_judged (Ok nothing) is

    pub answer_refused : (refusal : Refusal) → its_judged.outcome ≡ Err refusal → newest_answer streams one its_write ≡ refusal_after its_judged.reads refusal
    answer_refused refusal is = answer_judged (Err refusal) is

    -- it is refused, or memory ran out
    pub refused_alone : (refusal : Refusal) (found : List (List ℕ)) (notes : Noted) → IsRefusedBy refusal its_judged
        → (◌≡◌ {A = Result (Option code.Made) Refusal} (Err refusal) (Err OutOfMemory)) ⊎ AddsReads (Some []) notes its_judged.reads
        → AnswersAlone streams one its_write found (Err refusal) notes
    refused_alone refusal found notes (inr lacks) noted = inl (ap (λ r. Err r) lacks)
    refused_alone refusal found notes (inl outcome) (inl lacks) = let same : refusal ≡ OutOfMemory = cc in inl (ap (λ r. Err r) same)
    refused_alone refusal found notes (inl outcome) (inr adds) =
        alone_by streams one found (Err refusal) notes its_write (refusal_after its_judged.reads refusal) (answer_refused refusal outcome) refl refl refl adds

    module _ (to : Made) (is : its_judged.outcome ≡ Ok to) (row : Row) (its : to.row ≡ Some row) where
      by_room : (b : Bool) → has_room rows row ≡ b
          → newest_answer streams one its_write ≡ (if b then answer_of_outcome its_judged.reads (Ok to) else refusal_after its_judged.reads TransactionTooLong)
      by_room b room =
          answer_judged (Ok to) is ∙ ap (within_limits rows (answer_of_outcome its_judged.reads (Ok to))) its
          ∙ ap (λ b. if b then answer_of_outcome its_judged.reads (Ok to) else refusal_after its_judged.reads TransactionTooLong) room

      pub answer_full : has_room rows row ≡ false → newest_answer streams one its_write ≡ refusal_after its_judged.reads TransactionTooLong
      answer_full full = by_room false full

      pub answer_made : has_room rows row ≡ true → newest_answer streams one its_write ≡ answer_of_outcome its_judged.reads (Ok to)
      answer_made room = by_room true room

-- ---- where a commit has overlapped the transaction

-- the place of its view, where it has written nothing
record IsFoundView (ids : Ids) (base : State) (journal : List Tx) (steps : List TransactionStep) (overlap : Option ℕ) (place : ℕ) : Type 0 where
  at : place_by (length journal) overlap ≡ place
  unwritten : has_row ids base journal place steps ≡ false

found_view : (ids : Ids) (base : State) (journal : List Tx) (steps : List TransactionStep) (place : ℕ) (overlap : Option ℕ) → standing_by ids base journal false steps overlap ≡ View place
    → IsFoundView ids base journal steps overlap place
found_view ids base journal steps place None is = absurd cc
found_view ids base journal steps place (Some number) is =
    let both = by_doom (has_row ids base journal (place_by (length journal) (Some number)) steps) (has_written_since number steps) (has_schema_commit_since number journal)
    (place_by (length journal) (Some number)) is in
    record { at = both.0; unwritten = subst (λ p. has_row ids base journal p steps ≡ false) both.0 both.1 }
  where
    by_doom : (row written schema : Bool) (p : ℕ) → doomed_or_view (row || written || false || schema) p ≡ View place → (p ≡ place) × (row ≡ false)
    by_doom true written schema p e = absurd cc
    by_doom false true schema p e = absurd cc
    by_doom false false true p e = absurd cc
    by_doom false false false p e = (cc, refl)

no_rows : (rows : List Row) → is_some_row rows ≡ false → rows ≡ []
no_rows [] none = refl
no_rows (row ∷ rows) none = absurd cc

each_taken : {X : Type 0} (P : X → Type 0) (count : ℕ) (all : List X) → AllByRecursion P all → AllByRecursion P (take count all)
each_taken P zero all have = tt
each_taken P (suc count) [] have = tt
each_taken P (suc count) (x ∷ all) (first, have) = (first, each_taken P count all have)

module _ (streams : Streams) (one : Transaction) (all : AllStandAlone streams) (alone : StandsAlone streams.base.ids streams.base.state streams.journal one) (place : ℕ)
    (view : standing_now streams false one ≡ View place) where
  abbrev place_state : State
  place_state = state_after_first streams.base.state streams.journal place

  abbrev found_at : IsFoundView streams.base.ids streams.base.state streams.journal one.steps (overlap_of streams.base.state streams.journal one) place
  found_at = found_view streams.base.ids streams.base.state streams.journal one.steps place (overlap_of streams.base.state streams.journal one) view

  view_state : (run_alone streams.base.ids place_state (statements_in one.steps)).state ≡ place_state
  view_state =
      sym (run_makes streams.base.ids place_state (statements_in one.steps)
      (journal_sound streams.base.state (take place streams.journal) all.sound (each_taken (λ (commit : Tx). HaveBytes commit.rows) place streams.journal all.bytes)) alone.plain)
      ∙ ap (state_after_rows place_state) (no_rows (run_alone streams.base.ids place_state (statements_in one.steps)).rows found_at.unwritten)

  -- a SELECT is answered as by itself, on the state that the view reads
  pub view_answer : (statement : Statement) → writes statement.operation ≡ false → answer_read streams one statement ≡ answer_in_space place_state statement.space statement.operation
  view_answer statement read =
      ap (λ p. answer_in_run streams.base.ids (run_alone streams.base.ids (state_after_first streams.base.state streams.journal p) (statements_in one.steps)) statement) found_at.at
      ∙ read_in_run streams.base.ids (run_alone streams.base.ids place_state (statements_in one.steps)) statement.space statement.operation read
      ∙ ap (λ state. answer_in_space state statement.space statement.operation) view_state
