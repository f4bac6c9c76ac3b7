-- A transaction that ends ran alone, and its commit, where it has one, stands right behind the prefix that it read.
use Rattle.std.proofs.Common.{List, Some, [], ap, arith, length, map, pred, subst, suc, sym, zero, ℕ, ◌≡◌, ◌+◌, ◌∷◌, ◌++◌, ◌∙◌, ◌≤◌, Bool, None, Option, false, inl, inr, refl, true, ◌⊎◌}
use Rattle.std.proofs.lemmas.List.{length-append, take_at}
use Rattle.std.specs.List.{AllZip, AllByRecursion, Contains}
use Rattle.std.specs.Prelude.{slice_get, slice_index, ◌≢◌}
use Rattle.std.proofs.lemmas.List.Elements.{All-contains, All-from_recursion}
use Rattle.mx_model.specs.Alone.{IsToldAlone, StandsAlone, answers_alone}
use Rattle.mx_model.specs.Bases.{Base}
use Rattle.mx_model.specs.Overlaps.{Transaction, reads_before, statements_in, Active, Doomed, Standing, TransactionStep, View, overlap_of, place_by, place_read, standing, state_after_first}
use Rattle.mx_model.specs.RunAlone.{Run, run_alone}
use Rattle.mx_model.specs.StreamHistories.{CommittedAlone, EndedTransaction, HasOverlap, RanAlone, WasAnsweredAlone, WasToldAlone, run_of, HasCommitted, ends_now}
use Rattle.mx_model.specs.Touches.{rows_meet}
use Rattle.mx_model.specs.statements.Answer.{Answer}
use Rattle.mx_row.specs.declared.row.Row.{Row}
use Rattle.mx_row.specs.declared.tx.Tx.{Tx}
use Rattle.mx_model.proofs.OverlapCommits.{prefix_kept}
use Rattle.mx_base.specs.declared.refusal.Refusal.TheVariants.{Conflict}
use Rattle.mx_model.specs.Streams.{Outcome, Streams, commit_with, state_read}
use Rattle.mx_model.specs.Transactions.{state_after}
use Rattle.mx_model.specs.declared.reply.Reply.TheVariants.{Empty, Refused}
use Rattle.mx_row.specs.Clocks.{clock_after}
use Rattle.mx_schema.specs.State.{State}
use Rattle.mx_model.proofs.CommitRows.{CommitsAlone}
use Rattle.mx_model.proofs.ConflictAnswers.{TellsOther, run_other, tells_no_conflict}
use Rattle.mx_model.proofs.EachLaws.{each_of_map}
use Rattle.mx_model.proofs.OverlapFound.{doomed_overlap, get_behind, overlap_found}

-- ---- a transaction that ran alone on a prefix of the journal did so also where the journal has grown

-- what stands in a list does so also where the list has grown
pub get_kept : {X : Type 0} (xs more : List X) (place : ℕ) (x : X) → slice_get xs place ≡ Some x → slice_get (xs ++ more) place ≡ Some x
get_kept [] more place x is = absurd cc
get_kept (y ∷ xs) more zero x is = is
get_kept (y ∷ xs) more (suc place) x is = get_kept xs more place x is

module _ (base : Base) (journal more : List Tx) where
  abbrev longer : List Tx
  longer = journal ++ more

  more_length : length longer ≡ length journal + length more
  more_length = length-append journal more

  module _ (ended : EndedTransaction) (within : ended.place ≤ length journal) where
    -- it is answered the same alone, and leaves the same
    run_stays : run_of base longer ended ≡ run_of base journal ended
    run_stays = ap (λ state. run_alone base.ids state (statements_in ended.transaction.steps)) (prefix_kept base.state journal more ended.place within)

    told_stays : WasToldAlone base journal ended → WasToldAlone base longer ended
    told_stays told = told ∙ ap (λ (run : Run). map (λ (answer : Answer). answer.reply) run.answers) (sym run_stays)

    committed_stays : (rows : List Row) → CommittedAlone base journal ended rows → CommittedAlone base longer ended rows
    committed_stays [] committed = tt
    committed_stays (row ∷ rows) committed = record {
      commit = committed.commit;
      there = get_kept journal more ended.place committed.commit committed.there;
      by_node = committed.by_node;
      same_rows = committed.same_rows;
      rows_alone = committed.rows_alone ∙ ap (λ (run : Run). run.rows) (sym run_stays);
      exact = told_stays committed.exact;
    }

  overlap_stays_found : (transaction : Transaction) → HasOverlap base journal transaction → HasOverlap base longer transaction
  overlap_stays_found transaction (number, commit, after, within, there, met) =
      let long = more_length in (
        number,
        commit,
        after,
        omega (arith, within, long),
        get_kept journal more (pred number) commit there,
        ap (λ state. rows_meet state commit.rows (reads_before number transaction.steps)) (prefix_kept base.state journal more (pred number) (omega (arith, within))) ∙ met,
      )

  pub answered_stays : (ended : EndedTransaction) → WasAnsweredAlone base journal ended → WasAnsweredAlone base longer ended
  answered_stays ended answered = record {
    since = answered.since;
    within = let long = more_length in omega (arith, answered.within, long);
    told = subst (λ (run : Run). AllZip IsToldAlone ended.transaction.steps run.answers) (sym (run_stays ended answered.within)) answered.told;
    exact = λ by_commit still. told_stays ended answered.within (answered.exact by_commit still);
    conflict = λ told. overlap_stays_found ended.transaction (answered.conflict told);
  }

  pub rows_stay : (ended : EndedTransaction) → ended.place ≤ length journal → ended.rows ≡ (run_of base journal ended).rows → ended.rows ≡ (run_of base longer ended).rows
  rows_stay ended within rows = rows ∙ ap (λ (run : Run). run.rows) (sym (run_stays ended within))

  -- what ran alone did so also where the journal has grown
  pub ran_stays : (ended : EndedTransaction) → RanAlone base journal ended → RanAlone base longer ended
  ran_stays ended ran = record {
    answered = answered_stays ended ran.answered;
    acknowledged = λ by_commit told. rows_stay ended ran.answered.within (ran.acknowledged by_commit told);
    committed = committed_stays ended ran.answered.within ended.rows ran.committed;
  }

-- ---- a transaction that ends ran alone, and its commit, where it has one, stands right behind the prefix that it read

-- a transaction that an outcome ends: a conflict is told where it is doomed, and rows are committed as those of running alone
pub record IsEnding (streams : Streams) (transaction : Transaction) (by_commit : Bool) (outcome : Outcome) : Type 0 where
  pub doomed : outcome.reply ≡ Refused Conflict → standing streams.base.ids streams.base.state streams.journal false transaction ≡ Doomed
  pub still : by_commit ≡ true → outcome.reply ≢ Refused Conflict → standing streams.base.ids streams.base.state streams.journal false transaction ≢ Doomed
  pub acknowledged : by_commit ≡ true → outcome.reply ≡ Empty → outcome.rows ≡ (run_alone streams.base.ids (state_read streams transaction) (statements_in transaction.steps)).rows
  pub commits : (row : Row) (others : List Row) → outcome.rows ≡ row ∷ others
      → CommitsAlone streams.base.ids streams.base.state streams.journal transaction (row ∷ others)

module _ (streams : Streams) (transaction : Transaction) (alone : StandsAlone streams.base.ids streams.base.state streams.journal transaction) where
  abbrev base : State
  base = streams.base.state

  abbrev journal : List Tx
  journal = streams.journal

  abbrev how : Standing
  how = standing streams.base.ids base journal false transaction

  abbrev place : ℕ
  place = place_read base journal transaction

  -- its place lies between its BEGIN and the end of the journal
  place_between : (transaction.begun ≤ place) × (place ≤ length journal)
  place_between = by_overlap (overlap_of base journal transaction) refl
    where
      by_overlap : (overlap : Option ℕ) → overlap_of base journal transaction ≡ overlap
          → (transaction.begun ≤ place_by (length journal) overlap) × (place_by (length journal) overlap ≤ length journal)
      by_overlap None is = (alone.within.begun, omega arith)
      by_overlap (Some number) is =
          let found = overlap_found base journal transaction number is in
          let low : transaction.begun ≤ pred number = omega (arith, found.after) in
          let high : pred number ≤ length journal = omega (arith, found.within) in (low, high)

  -- where a statement was told a conflict, it is doomed
  step_doomed : Contains (map (λ (step : TransactionStep). step.reply) transaction.steps) (Refused Conflict) → how ≡ Doomed
  step_doomed told = by_standing how refl
    where
      answers : List Answer
      answers = answers_alone streams.base.ids base journal transaction

      wrong : how ≢ Doomed → ⊥
      wrong still =
          tells_no_conflict (Refused Conflict)
          (All-contains TellsOther (map (λ (step : TransactionStep). step.reply) transaction.steps) (Refused Conflict)
          (All-from_recursion TellsOther (map (λ (step : TransactionStep). step.reply) transaction.steps)
          (subst (AllByRecursion TellsOther) (sym (alone.exact still))
          (each_of_map (λ (answer : Answer). answer.reply) TellsOther answers
          (run_other streams.base.ids (state_after_first base journal place) (statements_in transaction.steps)))))
          told)
          refl

      by_standing : (stands : Standing) → how ≡ stands → how ≡ Doomed
      by_standing Active is = absurd (wrong (λ doomed. let both : Active ≡ Doomed = sym is ∙ doomed in absurd cc))
      by_standing (View at) is = absurd (wrong (λ doomed. let both : View at ≡ Doomed = sym is ∙ doomed in absurd cc))
      by_standing Doomed is = is

  -- and then a commit overlaps it
  overlap_there : how ≡ Doomed → HasOverlap streams.base journal transaction
  overlap_there doomed =
      let found = doomed_overlap streams.base.ids base journal false transaction doomed in
      (found.0, found.1.commit, found.1.after, found.1.within, found.1.there, found.1.met)

  answered_alone : (by_commit : Bool) (outcome : Outcome) (rows : List Row) → IsEnding streams transaction by_commit outcome
      → WasAnsweredAlone streams.base journal (ends_now streams by_commit outcome.reply rows transaction)
  answered_alone by_commit outcome rows ending = record {
    since = place_between.0;
    within = place_between.1;
    told = alone.told;
    exact = λ commit still. alone.exact (ending.still commit still);
    conflict = λ told. overlap_there (by_told told);
  }
    where
      by_told : (outcome.reply ≡ Refused Conflict) ⊎ Contains (map (λ (step : TransactionStep). step.reply) transaction.steps) (Refused Conflict) → how ≡ Doomed
      by_told (inl told) = ending.doomed told
      by_told (inr told) = step_doomed told

  -- without rows
  pub ended_alone : (by_commit : Bool) (outcome : Outcome) → outcome.rows ≡ [] → IsEnding streams transaction by_commit outcome
      → RanAlone streams.base journal (ends_now streams by_commit outcome.reply [] transaction)
  ended_alone by_commit outcome none ending = record {
    answered = answered_alone by_commit outcome [] ending;
    acknowledged = λ commit told. sym none ∙ ending.acknowledged commit told;
    committed = tt;
  }

  -- with rows: its commit is the newest
  committed_alone : (by_commit : Bool) (outcome : Outcome) (row : Row) (others : List Row) → CommitsAlone streams.base.ids base journal transaction (row ∷ others)
      → HasCommitted streams.base (journal ++ commit_with streams (row ∷ others)) (ends_now streams by_commit outcome.reply (row ∷ others) transaction)
  committed_alone by_commit outcome row others by = record {
    commit = commit;
    there = ap (slice_get (journal ++ commit ∷ [])) by.newest ∙ get_behind journal commit [];
    by_node = refl;
    same_rows = refl;
    rows_alone = by.same_rows ∙ ap (λ state. (run_alone streams.base.ids state (statements_in transaction.steps)).rows) (sym newest);
    exact = by.replies ∙ ap (λ state. map (λ (answer : Answer). answer.reply) (run_alone streams.base.ids state (statements_in transaction.steps)).answers) (sym newest);
  }
    where
      commit : Tx
      commit = record { replica = record { 0 = streams.base.ids.me }; first = record { 0 = slice_index (clock_after streams.base.clock streams.journal) streams.base.ids.me + 1 }; rows = row ∷ others }

      newest : state_after_first base (journal ++ commit ∷ []) place ≡ state_after base journal
      newest = ap (state_after_first base (journal ++ commit ∷ [])) by.newest ∙ ap (state_after base) (take_at journal (commit ∷ []) (length journal) refl)

  -- either way, in the journal that has its commit
  pub ending_alone : (by_commit : Bool) (outcome : Outcome) → IsEnding streams transaction by_commit outcome
      → RanAlone streams.base (journal ++ commit_with streams outcome.rows) (ends_now streams by_commit outcome.reply outcome.rows transaction)
  ending_alone by_commit outcome ending = by_rows outcome.rows refl
    where
      by_rows : (rows : List Row) → outcome.rows ≡ rows → RanAlone streams.base (journal ++ commit_with streams rows) (ends_now streams by_commit outcome.reply rows transaction)
      by_rows [] is = ran_stays streams.base journal [] _ (ended_alone by_commit outcome is ending)
      by_rows (row ∷ others) is =
          let ended = ends_now streams by_commit outcome.reply (row ∷ others) transaction in
          let commits = commit_with streams (row ∷ others) in record {
            answered = answered_stays streams.base journal commits ended (answered_alone by_commit outcome (row ∷ others) ending);
            acknowledged = λ commit told. rows_stay streams.base journal commits ended place_between.1 (sym is ∙ ending.acknowledged commit told);
            committed = committed_alone by_commit outcome row others (ending.commits row others is);
          }
