-- What a further commit makes of an overlap: the one that was there stays, and else the commit is one where it touches what was read.
use Rattle.std.proofs.Common.{◌≡◌, ℕ, suc, pred, ◌+◌, ◌≤◌, Bool, true, false, ◌||◌, List, [], ◌∷◌, ◌++◌, length, take, drop, Option, Some, None, refl, sym, ap, ◌∙◌, arith}
use Rattle.std.specs.Prelude.{nat_le, if◌then◌else◌}
use Rattle.std.specs.List.{AllByRecursion, list_any}
use Rattle.std.specs.Option.{option_or}
use Rattle.std.proofs.lemmas.Bool.Decides.{nat_tests}
use Rattle.std.proofs.lemmas.List.{drop-append-le, drop_at, length-drop, take-append-drop, take-append-le}
use Rattle.std.proofs.lemmas.List.Folds.{list_any-append}
use Rattle.mx_row.specs.declared.tx.Tx.{Tx}
use Rattle.mx_schema.specs.State.{State}
use Rattle.mx_model.specs.declared.ids.Ids.{Ids}
use Rattle.mx_model.specs.Answers.{state_after_rows}
use Rattle.mx_model.specs.Overlaps.{IsWithin, TransactionStep, Transaction, first_overlap, has_row, has_schema_commit_since, has_written_since, is_some_row, overlap_of, reads_before, state_after_first, statements_in, doomed_or_view, standing, standing_after_commit, standing_by}
use Rattle.mx_model.specs.RunAlone.{run_alone, writes}
use Rattle.mx_model.specs.Touches.{rows_meet}
use Rattle.mx_model.specs.Transactions.{is_schema_commit, state_after}
use Rattle.mx_model.proofs.JournalLaws.{state_after-append}
use Rattle.mx_model.proofs.OverlapFound.{overlap_found}

-- ---- what a further commit makes of an overlap: the one that was there stays, and else the commit is one where it touches what was read

-- a commit behind others overlaps, where it touches what was read and none of these does
first_more : (before : State) (count : ℕ) (later : List Tx) (commit : Tx) (steps : List TransactionStep) (last : ℕ) → count + length later ≡ last
    → first_overlap before count (later ++ commit ∷ []) steps
    ≡ option_or (first_overlap before count later steps) (if rows_meet (state_after before later) commit.rows (reads_before (suc last) steps) then Some (suc last) else None)
first_more before count [] commit steps last is =
    let same : count ≡ last = omega (arith, is) in
    ap (λ number. if rows_meet before commit.rows (reads_before (suc number) steps) then Some (suc number) else None) same
first_more before count (one ∷ later) commit steps last is =
    by_test (rows_meet before one.rows (reads_before (suc count) steps)) _ _ _ (first_more (state_after_rows before one.rows) (suc count) later commit steps last (omega (arith, is)))
  where
    by_test : (meets : Bool) (found rest further : Option ℕ) → found ≡ option_or rest further
        → (if meets then Some (suc count) else found) ≡ option_or (if meets then Some (suc count) else rest) further
    by_test true found rest further same = refl
    by_test false found rest further same = same

-- a commit behind a journal touches what statements have read
abbrev pub is_met : State → List Tx → Tx → List TransactionStep → Bool
is_met base journal commit steps = rows_meet (state_after base journal) commit.rows (reads_before (suc (length journal)) steps)

-- ---- what a further commit leaves

-- prefixes of a journal are those of a longer one
pub prefix_kept : (base : State) (journal more : List Tx) (place : ℕ) → place ≤ length journal → state_after_first base (journal ++ more) place ≡ state_after_first base journal place
prefix_kept base journal more place within = ap (state_after base) (take-append-le place journal more within)

module _ (ids : Ids) (base : State) (journal : List Tx) (commit : Tx) where
  abbrev longer : List Tx
  longer = journal ++ commit ∷ []

  pub row_kept : (place : ℕ) (steps : List TransactionStep) → place ≤ length journal → has_row ids base longer place steps ≡ has_row ids base journal place steps
  row_kept place steps within = ap (λ state. is_some_row (run_alone ids state (statements_in steps)).rows) (prefix_kept base journal (commit ∷ []) place within)

  -- the commits since an overlap are one more
  pub schema_more : (number : ℕ) → pred number ≤ length journal
      → has_schema_commit_since number longer ≡ (has_schema_commit_since number journal || (is_schema_commit commit || false))
  schema_more number within =
      ap (list_any is_schema_commit) (drop-append-le (pred number) journal (commit ∷ []) within) ∙ list_any-append is_schema_commit (drop (pred number) journal) (commit ∷ [])

  -- and it is the last
  pub schema_last : has_schema_commit_since (suc (length journal)) longer ≡ (is_schema_commit commit || false)
  schema_last = ap (list_any is_schema_commit) (drop_at journal (commit ∷ []) (length journal) refl)

  -- statements that were made before it have written nothing since
  pub written_before : (steps : List TransactionStep) → AllByRecursion (λ (step : TransactionStep). step.after ≤ length journal) steps → has_written_since (suc (length journal)) steps ≡ false
  written_before [] made = refl
  written_before (step ∷ steps) made =
      let before : nat_le (suc (length journal)) step.after ≡ false = grind (arith, nat_tests, made.0) in
      ap (λ (b : Bool). (if b then writes step.statement.operation else false) || has_written_since (suc (length journal)) steps) before ∙ written_before steps made.1

  module _ (transaction : Transaction) (within : IsWithin (length journal) transaction) where
    -- the overlap that was there stays
    pub overlap_later : overlap_of base longer transaction
        ≡ option_or (overlap_of base journal transaction) (if is_met base journal commit transaction.steps then Some (suc (length journal)) else None)
    unfolding overlap_of
    overlap_later =
        (λ i. first_overlap (prefix_kept base journal (commit ∷ []) begun within.begun i) begun (drop-append-le begun journal (commit ∷ []) within.begun i) transaction.steps)
        ∙ first_more (state_after_first base journal begun) begun (drop begun journal) commit transaction.steps (length journal) all
        ∙ ap (λ state. option_or (first_overlap (state_after_first base journal begun) begun (drop begun journal) transaction.steps)
        (if rows_meet state commit.rows (reads_before (suc (length journal)) transaction.steps) then Some (suc (length journal)) else None)) newest
      where
        begun : ℕ
        begun = transaction.begun

        all : begun + length (drop begun journal) ≡ length journal
        all = let long = length-drop begun journal in omega (arith, long, within.begun)

        newest : state_after (state_after_first base journal begun) (drop begun journal) ≡ state_after base journal
        newest = sym (state_after-append base (take begun journal) (drop begun journal)) ∙ ap (state_after base) (take-append-drop begun journal)

-- ---- how open transactions stand after a commit

-- one that wasn't overlapped is doomed where it has a row, or the commit is of the schema
first_doom : (has_row is_schema : Bool) (place : ℕ) → doomed_or_view (has_row || false || false || (is_schema || false)) place ≡ doomed_or_view (has_row || is_schema) place
first_doom true is_schema place = refl
first_doom false true place = refl
first_doom false false place = refl

-- one that was is doomed as before, or where the commit is of the schema
later_doom : (has_row has_written has_schema is_schema row meets : Bool) (count place : ℕ)
    → doomed_or_view (has_row || has_written || false || (has_schema || (is_schema || false))) place
    ≡ standing_after_commit row is_schema meets count (doomed_or_view (has_row || has_written || false || has_schema) place)
later_doom true has_written has_schema is_schema row meets count place = refl
later_doom false true has_schema is_schema row meets count place = refl
later_doom false false true is_schema row meets count place = refl
later_doom false false false true row meets count place = refl
later_doom false false false false row meets count place = refl

module _ (ids : Ids) (base : State) (journal : List Tx) (commit : Tx) (transaction : Transaction) (within : IsWithin (length journal) transaction) where
  abbrev steps : List TransactionStep
  steps = transaction.steps

  abbrev count : ℕ
  count = length journal

  abbrev meets_now : Bool
  meets_now = is_met base journal commit steps

  pub standing_moved : standing ids base (journal ++ commit ∷ []) false transaction
      ≡ standing_after_commit (has_row ids base journal count steps) (is_schema_commit commit) meets_now count (standing ids base journal false transaction)
  standing_moved =
      ap (standing_by ids base (journal ++ commit ∷ []) false steps) (overlap_later ids base journal commit transaction within)
      ∙ by_overlap (overlap_of base journal transaction) refl
    where
      by_test : (meets : Bool)
          → standing_by ids base (journal ++ commit ∷ []) false steps (if meets then Some (suc count) else None)
          ≡ standing_after_commit (has_row ids base journal count steps) (is_schema_commit commit) meets count (standing_by ids base journal false steps None)
      by_test true =
          (λ i. doomed_or_view (row_kept ids base journal commit count steps (omega arith) i || written_before ids base journal commit steps within.made i || false
          || behind i) count)
          ∙ first_doom (has_row ids base journal count steps) (is_schema_commit commit) count
        where
          behind : has_schema_commit_since (suc count) (journal ++ commit ∷ []) ≡ (is_schema_commit commit || false)
          behind = schema_last ids base journal commit
      by_test false = refl

      by_overlap : (overlap : Option ℕ) → overlap_of base journal transaction ≡ overlap
          → standing_by ids base (journal ++ commit ∷ []) false steps (option_or overlap (if meets_now then Some (suc count) else None))
          ≡ standing_after_commit (has_row ids base journal count steps) (is_schema_commit commit) meets_now count (standing_by ids base journal false steps overlap)
      by_overlap None is = by_test meets_now
      by_overlap (Some number) is =
          (λ i. doomed_or_view (row_kept ids base journal commit (pred number) steps before i || has_written_since number steps || false
          || schema_more ids base journal commit number before i) (pred number))
          ∙ later_doom (has_row ids base journal (pred number) steps) (has_written_since number steps) (has_schema_commit_since number journal) (is_schema_commit commit)
          (has_row ids base journal count steps) meets_now count (pred number)
        where
          before : pred number ≤ length journal
          before = let found = overlap_found base journal transaction number is in omega (arith, found.within)
