-- The commit that overlaps a transaction stands in the journal after its BEGIN, and touches what it had read before.
use Rattle.std.proofs.Common.{◌≡◌, ℕ, suc, pred, ◌+◌, ◌<◌, ◌≤◌, Bool, true, false, List, [], ◌∷◌, ◌++◌, length, take, drop, Option, Some, None, refl, sym, ap, ◌∙◌, subst, arith}
use Rattle.std.specs.Prelude.{nat_le, slice_get, if◌then◌else◌}
use Rattle.std.proofs.lemmas.Bool.{leb-false, leb-true}
use Rattle.std.proofs.lemmas.List.{append_assoc, drop_all, length-append, length-take-le, take-append-drop, take_at}
use Rattle.mx_row.specs.declared.tx.Tx.{Tx}
use Rattle.mx_schema.specs.State.{State}
use Rattle.mx_model.specs.Answers.{state_after_rows}
use Rattle.mx_model.specs.declared.ids.Ids.{Ids}
use Rattle.mx_model.specs.Overlaps.{Doomed, TransactionStep, Transaction, first_overlap, overlap_of, reads_before, standing, standing_by, state_after_first}
use Rattle.mx_model.specs.Touches.{rows_meet}
use Rattle.mx_model.specs.Transactions.{state_after}
use Rattle.mx_model.proofs.JournalLaws.{state_after-append}

-- the element behind a list
pub get_behind : {X : Type 0} (front : List X) (x : X) (later : List X) → slice_get (front ++ x ∷ later) (length front) ≡ Some x
get_behind [] x later = refl
get_behind (y ∷ front) x later = get_behind front x later

module _ (base : State) (steps : List TransactionStep) where
  -- a commit of this number overlaps statements, after so many
  pub record IsOverlap (journal : List Tx) (count number : ℕ) : Type 0 where
    pub commit : Tx
    pub after : count < number
    pub within : number ≤ length journal
    pub there : slice_get journal (pred number) ≡ Some commit
    pub met : rows_meet (state_after_first base journal (pred number)) commit.rows (reads_before number steps) ≡ true

  earlier_overlap : (journal : List Tx) (more count number : ℕ) → count ≤ more → IsOverlap journal more number → IsOverlap journal count number
  earlier_overlap journal more count number less is = record {
    commit = is.commit;
    after = omega (arith, less, is.after);
    within = is.within;
    there = is.there;
    met = is.met;
  }

  -- the first commit behind others, where it touches what was read
  here : (front : List Tx) (commit : Tx) (later : List Tx) → rows_meet (state_after base front) commit.rows (reads_before (suc (length front)) steps) ≡ true
      → IsOverlap (front ++ commit ∷ later) (length front) (suc (length front))
  here front commit later meets = record {
    commit = commit;
    after = omega arith;
    within = let long : length (front ++ commit ∷ later) ≡ length front + suc (length later) = length-append front (commit ∷ later) in omega (arith, long);
    there = get_behind front commit later;
    met = ap (λ journal. rows_meet (state_after base journal) commit.rows (reads_before (suc (length front)) steps)) (take_at front (commit ∷ later) (length front) refl) ∙ meets;
  }

  walked : (front later : List Tx) (number : ℕ) → first_overlap (state_after base front) (length front) later steps ≡ Some number
      → IsOverlap (front ++ later) (length front) number
  walked front [] number is = absurd cc
  walked front (commit ∷ later) number is = by_test (rows_meet before commit.rows (reads_before (suc (length front)) steps)) refl is (walked (front ++ commit ∷ []) later number)
    where
      before : State
      before = state_after base front

      long : length (front ++ commit ∷ []) ≡ suc (length front)
      long = let more : length (front ++ commit ∷ []) ≡ length front + 1 = length-append front (commit ∷ []) in omega (arith, more)

      by_test : (meets : Bool) → rows_meet before commit.rows (reads_before (suc (length front)) steps) ≡ meets
          → (if meets then Some (suc (length front)) else first_overlap (state_after_rows before commit.rows) (suc (length front)) later steps) ≡ Some number
          → (first_overlap (state_after base (front ++ commit ∷ [])) (length (front ++ commit ∷ [])) later steps ≡ Some number
          → IsOverlap ((front ++ commit ∷ []) ++ later) (length (front ++ commit ∷ [])) number)
          → IsOverlap (front ++ commit ∷ later) (length front) number
      by_test true meets is rest = let same : suc (length front) ≡ number = cc in subst (IsOverlap (front ++ commit ∷ later) (length front)) same (here front commit later meets)
      by_test false meets is rest =
          subst (λ journal. IsOverlap journal (length front) number) (append_assoc front (commit ∷ []) later)
          (earlier_overlap ((front ++ commit ∷ []) ++ later) (length (front ++ commit ∷ [])) (length front) number (omega (arith, long))
          (rest
          (ap (λ state. first_overlap state (length (front ++ commit ∷ [])) later steps) (state_after-append base front (commit ∷ []))
          ∙ ap (λ count. first_overlap (state_after_rows before commit.rows) count later steps) long ∙ is)))

-- the commit that overlaps a transaction
pub overlap_found : (base : State) (journal : List Tx) (transaction : Transaction) (number : ℕ) → overlap_of base journal transaction ≡ Some number
    → IsOverlap base transaction.steps journal transaction.begun number
unfolding overlap_of
overlap_found base journal transaction number is = by_test (nat_le begun (length journal)) refl
  where
    begun : ℕ
    begun = transaction.begun

    by_test : (b : Bool) → nat_le begun (length journal) ≡ b → IsOverlap base transaction.steps journal begun number
    by_test true test =
        let within : begun ≤ length journal = leb-true _ _ test in
        let long = length-take-le begun journal within in
        subst (λ all. IsOverlap base transaction.steps all begun number) (take-append-drop begun journal)
        (subst (λ count. IsOverlap base transaction.steps (take begun journal ++ drop begun journal) count number) long
        (walked base transaction.steps (take begun journal) (drop begun journal) number
        (ap (λ count. first_overlap (state_after_first base journal begun) count (drop begun journal) transaction.steps) long ∙ is)))
    by_test false test =
        let nothing : drop begun journal ≡ [] = drop_all begun journal (omega (arith, leb-false _ _ test)) in
        let none : ◌≡◌ {A = Option ℕ} None (Some number) = ap (λ later. first_overlap (state_after_first base journal begun) begun later transaction.steps) (sym nothing) ∙ is in
        absurd cc

-- a transaction is doomed only where a commit overlaps it
pub doomed_overlap : (ids : Ids) (base : State) (journal : List Tx) (is_write : Bool) (transaction : Transaction) → standing ids base journal is_write transaction ≡ Doomed
    → (number : ℕ) × IsOverlap base transaction.steps journal transaction.begun number
doomed_overlap ids base journal is_write transaction = by_overlap (overlap_of base journal transaction) refl
  where
    by_overlap : (overlap : Option ℕ) → overlap_of base journal transaction ≡ overlap → standing_by ids base journal is_write transaction.steps overlap ≡ Doomed
        → (number : ℕ) × IsOverlap base transaction.steps journal transaction.begun number
    by_overlap None is doomed = absurd cc
    by_overlap (Some number) is doomed = (number, overlap_found base journal transaction number is)
