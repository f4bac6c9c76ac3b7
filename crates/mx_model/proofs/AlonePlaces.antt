-- An open transaction stands alone after a further commit: it reads the same prefix of the journal, or the commit touched nothing that it read.
use Rattle.std.proofs.Common.{◌≡◌, ℕ, suc, pred, ◌≤◌, Bool, true, false, List, [], ◌∷◌, ◌++◌, length, map, Option, Some, None, refl, sym, ap, ◌∙◌, subst, arith}
use Rattle.std.specs.Prelude.{nat_lt, if◌then◌else◌}
use Rattle.std.specs.List.{AllByRecursion, AllZip}
use Rattle.std.specs.Option.{option_or}
use Rattle.std.proofs.lemmas.Bool.Decides.{nat_tests}
use Rattle.std.proofs.lemmas.List.{length-append, take_all}
use Rattle.mx_row.specs.declared.tx.Tx.{Tx}
use Rattle.mx_schema.specs.Sound.{IsSound}
use Rattle.mx_schema.specs.State.{State}
use Rattle.mx_schema.proofs.AloneLaws.{each_follows}
use Rattle.mx_model.specs.declared.ids.Ids.{Ids}
use Rattle.mx_model.specs.Alone.{HaveBytes, IsToldAlone, StandsAlone, answers_alone}
use Rattle.mx_model.specs.Answers.{state_after_rows}
use Rattle.mx_model.specs.Frame.{reads_in}
use Rattle.mx_model.specs.Overlaps.{Active, Doomed, TransactionStep, Transaction, doomed_or_view, has_row, overlap_of, place_by, place_read, reads_before, standing, standing_after_commit, standing_by, state_after_first, statements_in}
use Rattle.mx_model.specs.RunAlone.{Run, run_alone}
use Rattle.mx_model.specs.Touches.{rows_meet}
use Rattle.mx_model.specs.Transactions.{is_schema_commit, state_after}
use Rattle.mx_model.specs.statements.Answer.{Answer}
use Rattle.mx_model.proofs.AloneFrame.{IsAnsweredSame, rows_leave_run}
use Rattle.mx_model.proofs.FrameRuns.{rows_stay_sound}
use Rattle.mx_model.proofs.JournalLaws.{state_after-append}
use Rattle.mx_model.proofs.OverlapCommits.{is_met, overlap_later, prefix_kept, standing_moved}
use Rattle.mx_model.proofs.OverlapFound.{overlap_found}

-- the whole journal is a prefix of it
pub whole_state : (base : State) (journal : List Tx) → state_after_first base journal (length journal) ≡ state_after base journal
whole_state base journal = ap (state_after base) (take_all (length journal) journal (omega arith))

-- ---- a transaction that isn't overlapped

-- what is active is overlapped by no commit
pub never_overlapped : (ids : Ids) (base : State) (journal : List Tx) (transaction : Transaction) → standing ids base journal false transaction ≡ Active
    → overlap_of base journal transaction ≡ None
never_overlapped ids base journal transaction = by_overlap (overlap_of base journal transaction)
  where
    by_doom : (doomed : Bool) (place : ℕ) → doomed_or_view doomed place ≡ Active → ⊥
    by_doom true place e = absurd cc
    by_doom false place e = absurd cc

    by_overlap : (overlap : Option ℕ) → standing_by ids base journal false transaction.steps overlap ≡ Active → overlap ≡ None
    by_overlap None e = refl
    by_overlap (Some number) e = absurd (by_doom _ _ e)

-- it was answered alone on the newest state
pub active_alone : (ids : Ids) (base : State) (journal : List Tx) (transaction : Transaction) → StandsAlone ids base journal transaction
    → standing ids base journal false transaction ≡ Active
    → map (λ (step : TransactionStep). step.reply) transaction.steps
    ≡ map (λ (answer : Answer). answer.reply) (run_alone ids (state_after base journal) (statements_in transaction.steps)).answers
active_alone ids base journal transaction alone active =
    alone.exact (λ doomed. let both : Active ≡ Doomed = sym active ∙ doomed in absurd cc)
    ∙ ap (λ state. map (λ (answer : Answer). answer.reply) (run_alone ids state (statements_in transaction.steps)).answers)
    (ap (λ overlap. state_after_first base journal (place_by (length journal) overlap)) (never_overlapped ids base journal transaction active) ∙ whole_state base journal)

-- ---- what statements have read

-- the reads of statements made by now are all of theirs
pub all_reads : (count : ℕ) (steps : List TransactionStep) (answers : List Answer) → AllByRecursion (λ (step : TransactionStep). step.after ≤ count) steps
    → map (λ (step : TransactionStep). step.reads) steps ≡ map (λ (answer : Answer). answer.reads) answers → reads_before (suc count) steps ≡ reads_in answers
all_reads count [] [] made same = refl
all_reads count [] (answer ∷ answers) made same = absurd cc
all_reads count (step ∷ steps) [] made same = absurd cc
all_reads count (step ∷ steps) (answer ∷ answers) made same =
    let first : step.reads ≡ answer.reads = cc in
    let rest : map (λ (step : TransactionStep). step.reads) steps ≡ map (λ (answer : Answer). answer.reads) answers = cc in
    let before : nat_lt step.after (suc count) ≡ true = grind (arith, nat_tests, made.0) in
    λ i. (if before i then first i else []) ++ all_reads count steps answers made.1 rest i

-- ---- a further commit

module _ (ids : Ids) (base : State) (journal : List Tx) (commit : Tx) (transaction : Transaction) where
  abbrev longer : List Tx
  longer = journal ++ commit ∷ []

  abbrev run_at : State → Run
  run_at state = run_alone ids state (statements_in transaction.steps)

  newest_after : state_after_first base longer (length longer) ≡ state_after_rows (state_after base journal) commit.rows
  newest_after = whole_state base longer ∙ state_after-append base journal (commit ∷ [])

  module _ (sound : IsSound (state_after base journal)) (bytes : HaveBytes commit.rows) (alone : StandsAlone ids base journal transaction) where
    -- it is answered the same alone, at its place then, and leaves the same rows
    pub run_kept : IsAnsweredSame (run_at (state_after_first base journal (place_read base journal transaction))) (run_at (state_after_first base longer (place_read base longer transaction)))
    run_kept =
        subst (λ overlap. IsAnsweredSame (run_at (state_after_first base journal (place_read base journal transaction))) (run_at (state_after_first base longer (place_by (length longer) overlap))))
        (sym (overlap_later ids base journal commit transaction alone.within))
        (by_overlap (overlap_of base journal transaction) refl)
      where
        same_state : (one other : State) → other ≡ one → IsAnsweredSame (run_at one) (run_at other)
        same_state one other same = (ap (λ state. (run_at state).answers) same, ap (λ state. (run_at state).rows) same)

        missed : overlap_of base journal transaction ≡ None → is_met base journal commit transaction.steps ≡ false
            → rows_meet (state_after base journal) commit.rows (reads_in (run_at (state_after base journal)).answers) ≡ false
        missed is none =
            ap (λ reads. rows_meet (state_after base journal) commit.rows reads)
            (sym (all_reads (length journal) transaction.steps (run_at (state_after base journal)).answers alone.within.made
            (alone.reads ∙ ap (λ state. map (λ (answer : Answer). answer.reads) (run_at state).answers)
            (ap (λ overlap. state_after_first base journal (place_by (length journal) overlap)) is ∙ whole_state base journal))))
            ∙ none

        by_test : (meets : Bool) → overlap_of base journal transaction ≡ None → is_met base journal commit transaction.steps ≡ meets
            → IsAnsweredSame (run_at (state_after_first base journal (length journal)))
            (run_at (state_after_first base longer (place_by (length longer) (if meets then Some (suc (length journal)) else None))))
        by_test true is met = same_state _ _ (prefix_kept base journal (commit ∷ []) (length journal) (omega arith))
        by_test false is met =
            subst (λ one. IsAnsweredSame (run_at one) (run_at (state_after_first base longer (length longer)))) (sym (whole_state base journal))
            (subst (λ other. IsAnsweredSame (run_at (state_after base journal)) (run_at other)) (sym newest_after)
            (rows_leave_run ids (state_after base journal) commit.rows (statements_in transaction.steps) (rows_stay_sound (state_after base journal) commit.rows sound bytes) alone.plain
            (missed is met)))

        by_overlap : (overlap : Option ℕ) → overlap_of base journal transaction ≡ overlap
            → IsAnsweredSame (run_at (state_after_first base journal (place_by (length journal) overlap)))
            (run_at (state_after_first base longer (place_by (length longer) (option_or overlap (if is_met base journal commit transaction.steps then Some (suc (length journal)) else None)))))
        by_overlap None is = by_test (is_met base journal commit transaction.steps) is refl
        by_overlap (Some number) is =
            let found = overlap_found base journal transaction number is in
            same_state _ _ (prefix_kept base journal (commit ∷ []) (pred number) (omega (arith, found.within)))

    answers_kept : answers_alone ids base longer transaction ≡ answers_alone ids base journal transaction
    answers_kept = run_kept.0

    more : length longer ≡ suc (length journal)
    more = let one = length-append journal (commit ∷ []) in omega (arith, one)

    abbrev MadeBy : (count : ℕ) → TransactionStep → Type 0
    MadeBy count step = step.after ≤ count

    pub commit_alone : StandsAlone ids base longer transaction
    commit_alone = record {
      within = record {
        begun = omega (arith, alone.within.begun, more);
        made = each_follows (MadeBy (length journal)) (MadeBy (length longer)) (λ step made. omega (arith, made, more)) transaction.steps alone.within.made;
      };
      plain = alone.plain;
      reads = alone.reads ∙ ap (map (λ (answer : Answer). answer.reads)) (sym answers_kept);
      told = subst (AllZip IsToldAlone transaction.steps) (sym answers_kept) alone.told;
      exact = λ still.
          alone.exact
          (λ doomed. still (standing_moved ids base journal commit transaction alone.within
          ∙ ap (standing_after_commit (has_row ids base journal (length journal) transaction.steps) (is_schema_commit commit) (is_met base journal commit transaction.steps) (length journal)) doomed))
          ∙ ap (map (λ (answer : Answer). answer.reply)) (sym answers_kept);
    }
