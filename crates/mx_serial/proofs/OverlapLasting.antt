-- An overlap lasts: whatever is committed and stated later, a transaction that is overlapped reads the same prefix of the journal.
use Rattle.std.proofs.Common.{◌≡◌, ◌≢◌, ◌⊎◌, inl, inr, ℕ, suc, pred, ◌+◌, ◌-◌, ◌<◌, ◌≤◌, Bool, true, false, List, [], ◌∷◌, ◌++◌, length, map, drop, Option, Some, None, refl, sym, ap, ◌∙◌, subst, arith}
use Rattle.std.specs.Prelude.{nat_lt, if◌then◌else◌}
use Rattle.std.specs.List.{AllByRecursion}
use Rattle.std.proofs.lemmas.Bool.Decides.{nat_tests}
use Rattle.std.proofs.lemmas.List.{drop-append-le, length-drop}
use Rattle.mx_row.specs.declared.tx.Tx.{Tx}
use Rattle.mx_schema.specs.State.{State}
use Rattle.mx_model.specs.declared.ids.Ids.{Ids}
use Rattle.mx_model.specs.Alone.{StandsAlone}
use Rattle.mx_model.specs.Answers.{state_after_rows}
use Rattle.mx_model.specs.Overlaps.{Doomed, Standing, TransactionStep, Transaction, View, doomed_or_view, first_overlap, overlap_of, place_by, place_read, reads_before, standing, standing_by, state_after_first, statements_in}
use Rattle.mx_model.specs.RunAlone.{run_alone}
use Rattle.mx_model.specs.Streams.{transaction_with_all}
use Rattle.mx_model.specs.Touches.{rows_meet}
use Rattle.mx_model.specs.statements.Answer.{Answer}
use Rattle.mx_model.proofs.OverlapCommits.{prefix_kept}
use Rattle.mx_model.proofs.OverlapFound.{overlap_found}

-- statements are made while the journal has so many transactions at least
abbrev pub AreSince : (count : ℕ) → List TransactionStep → Type 0
AreSince count further = AllByRecursion (λ (step : TransactionStep). count ≤ step.after) further

-- reads made since are none of those before
reads_last : (count number : ℕ) → number ≤ count → (further steps : List TransactionStep) → AreSince count further → reads_before number (further ++ steps) ≡ reads_before number steps
reads_last count number less [] steps since = refl
reads_last count number less (step ∷ further) steps since =
    let later : nat_lt step.after number ≡ false = grind (arith, nat_tests, since.0) in
    ap (λ (b : Bool). (if b then step.reads else []) ++ reads_before number (further ++ steps)) later ∙ reads_last count number less further steps since.1

module _ (last : ℕ) (more : List Tx) (further steps : List TransactionStep) (since : AreSince last further) where
  first_lasts : (before : State) (count : ℕ) (later : List Tx) (number : ℕ) → count + length later ≤ last → first_overlap before count later steps ≡ Some number
      → first_overlap before count (later ++ more) (further ++ steps) ≡ Some number
  first_lasts before count [] number less is = absurd cc
  first_lasts before count (commit ∷ later) number less is =
      ap (λ reads. if rows_meet before commit.rows reads then Some (suc count) else first_overlap (state_after_rows before commit.rows) (suc count) (later ++ more) (further ++ steps))
      (reads_last last (suc count) (omega (arith, less)) further steps since)
      ∙ by_test (rows_meet before commit.rows (reads_before (suc count) steps)) is (first_lasts (state_after_rows before commit.rows) (suc count) later number (omega (arith, less)))
    where
      by_test : (meets : Bool) → (if meets then Some (suc count) else first_overlap (state_after_rows before commit.rows) (suc count) later steps) ≡ Some number
          → (first_overlap (state_after_rows before commit.rows) (suc count) later steps ≡ Some number
          → first_overlap (state_after_rows before commit.rows) (suc count) (later ++ more) (further ++ steps) ≡ Some number)
          → (if meets then Some (suc count) else first_overlap (state_after_rows before commit.rows) (suc count) (later ++ more) (further ++ steps)) ≡ Some number
      by_test true is rest = is
      by_test false is rest = rest is

-- the commit that overlaps a transaction stays that one
overlap_lasts : (base : State) (journal more : List Tx) (further : List TransactionStep) (transaction : Transaction) (number : ℕ) → AreSince (length journal) further
    → overlap_of base journal transaction ≡ Some number → overlap_of base (journal ++ more) (transaction_with_all further transaction) ≡ Some number
unfolding overlap_of
overlap_lasts base journal more further transaction number since is =
    (λ i. first_overlap (prefix_kept base journal more begun within i) begun (drop-append-le begun journal more within i) (further ++ transaction.steps))
    ∙ first_lasts (length journal) more further transaction.steps since (state_after_first base journal begun) begun (drop begun journal) number (omega (arith, long, within)) is
  where
    begun : ℕ
    begun = transaction.begun

    within : begun ≤ length journal
    within = let found = overlap_found base journal transaction number is in omega (arith, found.after, found.within)

    long : length (drop begun journal) ≡ length journal - begun
    long = length-drop begun journal

-- ---- views

-- what is a view is overlapped, by the commit behind its place
record IsViewBy (base : State) (journal : List Tx) (transaction : Transaction) (place : ℕ) : Type 0 where
  number : ℕ
  is : overlap_of base journal transaction ≡ Some number
  before : pred number ≡ place

view_by : (ids : Ids) (base : State) (journal : List Tx) (transaction : Transaction) (place : ℕ) → standing ids base journal false transaction ≡ View place
    → IsViewBy base journal transaction place
view_by ids base journal transaction place = by_overlap (overlap_of base journal transaction) refl
  where
    by_doom : (doomed : Bool) (at : ℕ) → doomed_or_view doomed at ≡ View place → at ≡ place
    by_doom true at e = absurd cc
    by_doom false at e = cc

    by_overlap : (overlap : Option ℕ) → overlap_of base journal transaction ≡ overlap → standing_by ids base journal false transaction.steps overlap ≡ View place
        → IsViewBy base journal transaction place
    by_overlap None is e = absurd cc
    by_overlap (Some number) is e = record { number = number; is = is; before = by_doom _ (pred number) e }

module _ (ids : Ids) (base : State) (journal more : List Tx) (further : List TransactionStep) (transaction : Transaction) (place : ℕ)
    (view : standing ids base journal false transaction ≡ View place) (since : AreSince (length journal) further) where
  abbrev longer : List Tx
  longer = journal ++ more

  abbrev later : Transaction
  later = transaction_with_all further transaction

  by : IsViewBy base journal transaction place
  by = view_by ids base journal transaction place view

  overlapped : overlap_of base longer later ≡ Some by.number
  overlapped = overlap_lasts base journal more further transaction by.number since by.is

  within : place < length journal
  within = let found = overlap_found base journal transaction by.number by.is in omega (arith, found.after, found.within, by.before)

  place_stays : place_read base longer later ≡ place
  place_stays = ap (place_by (length longer)) overlapped ∙ by.before

  state_stays : state_after_first base longer place ≡ state_after_first base journal place
  state_stays = prefix_kept base journal more place (omega (arith, within))

  abbrev IsViewOrDoomed : Standing → Type 0
  IsViewOrDoomed how = (how ≡ View place) ⊎ (how ≡ Doomed)

  stands : (standing ids base longer false later ≡ View place) ⊎ (standing ids base longer false later ≡ Doomed)
  stands =
      subst (λ (overlap : Option ℕ). IsViewOrDoomed (standing_by ids base longer false later.steps overlap)) (sym overlapped)
      (by_doom _)
    where
      by_doom : (doomed : Bool) → IsViewOrDoomed (doomed_or_view doomed (pred by.number))
      by_doom true = inr refl
      by_doom false = inl (ap View by.before)

  pub view_kept : (place < length journal) × (state_after_first base longer place ≡ state_after_first base journal place) × (place_read base longer later ≡ place)
      × ((standing ids base longer false later ≡ View place) ⊎ (standing ids base longer false later ≡ Doomed))
  view_kept = (within, state_stays, place_stays, stands)

  pub view_alone : StandsAlone ids base longer later → standing ids base longer false later ≢ Doomed
      → map (λ (step : TransactionStep). step.reply) (further ++ transaction.steps)
      ≡ map (λ (answer : Answer). answer.reply) (run_alone ids (state_after_first base journal place) (statements_in (further ++ transaction.steps))).answers
  view_alone alone still =
      alone.exact still
      ∙ ap (λ state. map (λ (answer : Answer). answer.reply) (run_alone ids state (statements_in (further ++ transaction.steps))).answers)
      (ap (state_after_first base longer) place_stays ∙ state_stays)
