-- How a transaction stands, as the plain slow program finds it.
use Rattle.std.proofs.Common.{arith, ◌≡◌, ℕ, zero, suc, pred, ◌+◌, ◌-◌, ◌<◌, ◌≤◌, Bool, true, false, ◌&&◌, ◌||◌, List, [], ◌∷◌, ◌++◌, length, drop, Some, None, refl, sym, ap, ◌∙◌, subst, append-nil, get_or, slice_range}
use Rattle.std.proofs.lemmas.Option.{slice_get-get_or}
use Rattle.std.proofs.lemmas.List.Folds.{drop_split}
use Rattle.std.proofs.Math.Seq.{drop-length}
use Rattle.std.specs.Prelude.{nat_le, nat_lt, slice_get, if◌then◌else◌}
use Rattle.std.specs.List.{AllZip, list_any}
use Rattle.mx_row.specs.declared.row.Row.{Row}
use Rattle.mx_row.specs.declared.tx.Tx.{Tx}
use Rattle.mx_schema.specs.State.{State}
use Rattle.mx_write.specs.Reads.{Read}
use Rattle.mx_model.specs.declared.ids.Ids.{Ids}
use Rattle.mx_slow.specs.declared.slow.SlowCommit.{SlowCommit}
use Rattle.mx_slow.specs.declared.slow.transactions.SlowStep.{SlowStep}
use Rattle.mx_slow.specs.declared.read_ranges.ReadRange.{ReadRange}
use Rattle.mx_slow.specs.declared.touched.TouchedKey.{TouchedKey}
use Rattle.mx_model.specs.Answers.{state_after_rows}
use Rattle.mx_model.specs.Bases.{is_write}
use Rattle.mx_model.specs.Overlaps.{Active, TransactionStep, Transaction, doomed_or_view, first_overlap, has_row, has_schema_commit_since, has_written_since, is_some_row, overlap_of, reads_before, standing, standing_by, state_after_first, statements_in}
use Rattle.mx_model.specs.RunAlone.{run_alone, writes}
use Rattle.mx_slow.specs.Slow.{KeepCommits, KeepsCommit, KeepsStep}
use Rattle.mx_slow.specs.SlowReads.{read_view, reads_view}
use Rattle.mx_slow.specs.SlowTouches.{AreFitReads, meet, touches}
use Rattle.mx_model.specs.Touches.{rows_meet}
use Rattle.mx_model.specs.Transactions.{is_schema_commit}
use Rattle.mx_slow.proofs.SlowRunLaws.{statement_writes}

-- ---- what statements read before a commit

or_assoc : (a b c : Bool) → ((a || b) || c) ≡ (a || (b || c))
or_assoc true b c = refl
or_assoc false b c = refl

meet_append : (keys : List TouchedKey) (a b : List ReadRange) → meet keys (a ++ b) ≡ (meet keys a || meet keys b)
meet_append keys [] b = refl
meet_append keys (x ∷ a) b =
    ap (λ t. list_any (λ key. touches key x) keys || t) (meet_append keys a b) ∙ sym (or_assoc (list_any (λ key. touches key x) keys) (meet keys a) (meet keys b))

view_append : (a b : List Read) → reads_view (a ++ b) ≡ reads_view a ++ reads_view b
view_append [] b = refl
view_append (x ∷ a) b = ap (λ l. read_view x ∷ l) (view_append a b)

fit_both : (a b : List Read) → AreFitReads a → AreFitReads b → AreFitReads (a ++ b)
fit_both [] b first second = second
fit_both (x ∷ a) b (one, first) second = (one, fit_both a b first second)

before_fit : (number : ℕ) (coded : List SlowStep) (steps : List TransactionStep) → AllZip KeepsStep coded steps → AreFitReads (reads_before number steps)
before_fit number [] [] all = tt
before_fit number [] (step ∷ steps) all = absurd all
before_fit number (one ∷ coded) [] all = absurd all
before_fit number (one ∷ coded) (step ∷ steps) (first, all) = fit_both _ _ (by_test (nat_lt step.after number)) (before_fit number coded steps all)
  where
    by_test : (b : Bool) → AreFitReads (if b then step.reads else [])
    by_test true = first.fit
    by_test false = tt

-- keys lie in what one of the steps read that were made before
before_met : (keys : List TouchedKey) (number : ℕ) (coded : List SlowStep) (steps : List TransactionStep) → AllZip KeepsStep coded steps
    → list_any (λ one. nat_lt one.after number && meet keys one.reads) coded ≡ meet keys (reads_view (reads_before number steps))
before_met keys number [] [] all = refl
before_met keys number [] (step ∷ steps) all = absurd all
before_met keys number (one ∷ coded) [] all = absurd all
before_met keys number (one ∷ coded) (step ∷ steps) (first, all) =
    ap (λ t. (nat_lt one.after number && meet keys one.reads) || t) (before_met keys number coded steps all)
    ∙ ap (λ (n : ℕ). (nat_lt n number && meet keys one.reads) || meet keys (reads_view (reads_before number steps))) first.after
    ∙ ap (λ (r : List ReadRange). (nat_lt step.after number && meet keys r) || meet keys (reads_view (reads_before number steps))) first.reads
    ∙ by_test (nat_lt step.after number)
  where
    by_test : (b : Bool) → ((b && meet keys (reads_view step.reads)) || meet keys (reads_view (reads_before number steps)))
        ≡ meet keys (reads_view ((if b then step.reads else []) ++ reads_before number steps))
    by_test true =
        sym (meet_append keys (reads_view step.reads) (reads_view (reads_before number steps))) ∙ ap (meet keys) (sym (view_append step.reads (reads_before number steps)))
    by_test false = refl

pub commit_meets : (before : State) (coded : SlowCommit) (commit : Tx) (number : ℕ) (made : List SlowStep) (steps : List TransactionStep) → KeepsCommit before coded commit → AllZip KeepsStep made steps
    → list_any (λ one. nat_lt one.after number && meet coded.touched one.reads) made ≡ rows_meet before commit.rows (reads_before number steps)
commit_meets before coded commit number made steps keeps all =
    before_met coded.touched number made steps all ∙ keeps.touched (reads_before number steps) (before_fit number made steps all)

-- a statement since then writes
pub written_since : (number : ℕ) (coded : List SlowStep) (steps : List TransactionStep) → AllZip KeepsStep coded steps
    → list_any (λ one. nat_le number one.after && is_write one.request) coded ≡ has_written_since number steps
written_since number [] [] all = refl
written_since number [] (step ∷ steps) all = absurd all
written_since number (one ∷ coded) [] all = absurd all
written_since number (one ∷ coded) (step ∷ steps) (first, all) =
    ap (λ t. (nat_le number one.after && is_write one.request) || t) (written_since number coded steps all)
    ∙ ap (λ (n : ℕ). (nat_le number n && is_write one.request) || has_written_since number steps) first.after
    ∙ ap (λ (w : Bool). (nat_le number step.after && w) || has_written_since number steps) (sym (statement_writes one.request step.statement first.statement))
    ∙ ap (λ t. t || has_written_since number steps) (by_test (nat_le number step.after))
  where
    by_test : (b : Bool) → (b && writes step.statement.operation) ≡ (if b then writes step.statement.operation else false)
    by_test true = refl
    by_test false = refl

-- ---- commits

-- there are as many as in the journal
pub same_length : (before : State) (coded : List SlowCommit) (journal : List Tx) → KeepCommits before coded journal → length coded ≡ length journal
same_length before [] [] keep = refl
same_length before [] (commit ∷ later) keep = absurd keep
same_length before (one ∷ others) [] keep = absurd keep
same_length before (one ∷ others) (commit ∷ later) keep = ap suc (same_length (state_after_rows before commit.rows) others later keep.1)

-- what is found at a place
pub found_there : {A : Type 0} (items now : List A) (place : ℕ) (one : A) → now ≡ items → place < length now → one ≡ get_or now place one → slice_get items place ≡ Some one
found_there items now place one same within is = ap (λ l. slice_get l place) (sym same) ∙ slice_get-get_or now place one within ∙ ap Some (sym is)

-- what stands behind one
pub rest_behind : {A : Type 0} (items : List A) (place : ℕ) → place ≤ length items → slice_range items place (length items) ≡ drop place items
rest_behind items place within =
    sym (drop_split items place (length items) within ∙ ap (λ l. slice_range items place (length items) ++ l) (drop-length items) ∙ append-nil (slice_range items place (length items)))

-- one of them stands in the journal, and in the state before it
pub record StandsAt (base : State) (journal : List Tx) (coded : SlowCommit) (place : ℕ) : Type 0 where
  pub commit : Tx
  pub keeps : KeepsCommit (state_after_first base journal place) coded commit
  pub left : drop place journal ≡ commit ∷ drop (suc place) journal
  pub after : state_after_first base journal (suc place) ≡ state_after_rows (state_after_first base journal place) commit.rows
  pub within : place < length journal

pub commit_at : (base : State) (all : List SlowCommit) (journal : List Tx) (place : ℕ) (coded : SlowCommit) → KeepCommits base all journal → slice_get all place ≡ Some coded
    → StandsAt base journal coded place
commit_at base [] journal place coded keep is = absurd cc
commit_at base (one ∷ others) [] place coded keep is = absurd keep
commit_at base (one ∷ others) (commit ∷ later) zero coded (first, keep) is =
    let same : one ≡ coded = same_some one coded is in
    record { commit = commit; keeps = subst (λ (c : SlowCommit). KeepsCommit base c commit) same first; left = refl; after = refl; within = omega arith }
  where
    same_some : (a b : SlowCommit) → Some a ≡ Some b → a ≡ b
    same_some a b e = cc
commit_at base (one ∷ others) (commit ∷ later) (suc place) coded (first, keep) is =
    let at = commit_at (state_after_rows base commit.rows) others later place coded keep is in
    record { commit = at.commit; keeps = at.keeps; left = at.left; after = at.after; within = let low = at.within in omega (arith, low) }

-- it meets what the steps before it have read, or doesn't
pub met_by_steps : (base : State) (journal : List Tx) (coded : SlowCommit) (place : ℕ) (made now : List SlowStep) (steps : List TransactionStep) (at : StandsAt base journal coded place)
    → now ≡ made → AllZip KeepsStep made steps → (meets : Bool) → list_any (λ one. nat_lt one.after (place + 1) && meet coded.touched one.reads) now ≡ meets
    → rows_meet (state_after_first base journal place) at.commit.rows (reads_before (suc place) steps) ≡ meets
met_by_steps base journal coded place made now steps at same all meets is =
    sym (commit_meets (state_after_first base journal place) coded at.commit (suc place) made steps at.keeps all)
    ∙ ap (λ n. list_any (λ (one : SlowStep). nat_lt one.after n && meet coded.touched one.reads) made) one_more
    ∙ ap (list_any (λ (one : SlowStep). nat_lt one.after (place + 1) && meet coded.touched one.reads)) (sym same) ∙ is
  where
    one_more : suc place ≡ place + 1
    one_more = omega arith

-- the search goes on behind a commit that meets nothing
pub overlap_next : (base : State) (journal : List Tx) (steps : List TransactionStep) (coded : SlowCommit) (place : ℕ) (at : StandsAt base journal coded place)
    → rows_meet (state_after_first base journal place) at.commit.rows (reads_before (suc place) steps) ≡ false
    → first_overlap (state_after_first base journal place) place (drop place journal) steps ≡ first_overlap (state_after_first base journal (suc place)) (suc place) (drop (suc place) journal) steps
overlap_next base journal steps coded place at misses =
    ap (λ l. first_overlap (state_after_first base journal place) place l steps) at.left
    ∙ ap (λ b. if b then Some (suc place) else first_overlap (state_after_rows (state_after_first base journal place) at.commit.rows) (suc place) (drop (suc place) journal) steps) misses
    ∙ ap (λ s. first_overlap s (suc place) (drop (suc place) journal) steps) (sym at.after)

-- and ends at one that does
pub overlap_here : (base : State) (journal : List Tx) (steps : List TransactionStep) (coded : SlowCommit) (place : ℕ) (at : StandsAt base journal coded place)
    → rows_meet (state_after_first base journal place) at.commit.rows (reads_before (suc place) steps) ≡ true
    → first_overlap (state_after_first base journal place) place (drop place journal) steps ≡ Some (suc place)
overlap_here base journal steps coded place at meets =
    ap (λ l. first_overlap (state_after_first base journal place) place l steps) at.left
    ∙ ap (λ b. if b then Some (suc place) else first_overlap (state_after_rows (state_after_first base journal place) at.commit.rows) (suc place) (drop (suc place) journal) steps) meets

pub none_behind : {A : Type 0} (place : ℕ) (journal : List A) → length journal ≤ place → drop place journal ≡ []
none_behind zero [] past = refl
none_behind zero (x ∷ journal) past = absurd (omega (arith, past))
none_behind (suc place) [] past = refl
none_behind (suc place) (x ∷ journal) past = none_behind place journal (omega (arith, past))

-- or behind the last
pub overlap_none : (base : State) (journal : List Tx) (steps : List TransactionStep) (place : ℕ) → length journal ≤ place
    → first_overlap (state_after_first base journal place) place (drop place journal) steps ≡ None
overlap_none base journal steps place past = ap (λ l. first_overlap (state_after_first base journal place) place l steps) (none_behind place journal past)

-- whether one of the last commits changed a space or an index
pub schema_since : (base : State) (coded : List SlowCommit) (journal : List Tx) (place : ℕ) → KeepCommits base coded journal
    → list_any (λ one. one.is_schema) (drop place coded) ≡ list_any is_schema_commit (drop place journal)
schema_since base [] [] zero keep = refl
schema_since base [] [] (suc place) keep = refl
schema_since base [] (commit ∷ later) place keep = absurd keep
schema_since base (one ∷ others) [] place keep = absurd keep
schema_since base (one ∷ others) (commit ∷ later) zero (first, keep) =
    ap (λ (b : Bool). b || list_any (λ one. one.is_schema) others) first.schema
    ∙ ap (λ t. is_schema_commit commit || t) (schema_since (state_after_rows base commit.rows) others later 0 keep)
schema_since base (one ∷ others) (commit ∷ later) (suc place) (first, keep) = schema_since (state_after_rows base commit.rows) others later place keep

-- ---- standings

pub one_less : (number : ℕ) → number - 1 ≡ pred number
one_less zero = refl
one_less (suc number) = omega arith

-- the standing of one that no commit overlaps
pub active_where : (ids : Ids) (base : State) (journal : List Tx) (is_write : Bool) (transaction : Transaction) → overlap_of base journal transaction ≡ None
    → Active ≡ standing ids base journal is_write transaction
active_where ids base journal is_write transaction none = ap (standing_by ids base journal is_write transaction.steps) (sym none)

-- and of one that this commit overlaps
pub overlapped_where : (ids : Ids) (base : State) (journal : List Tx) (is_write : Bool) (transaction : Transaction) (number place : ℕ) (rows : List Row) (written schema : Bool)
    → overlap_of base journal transaction ≡ Some number → place ≡ number - 1
    → rows ≡ (run_alone ids (state_after_first base journal place) (statements_in transaction.steps)).rows
    → written ≡ has_written_since number transaction.steps → schema ≡ has_schema_commit_since number journal
    → doomed_or_view (is_some_row rows || written || is_write || schema) place ≡ standing ids base journal is_write transaction
overlapped_where ids base journal is_write transaction number place rows written schema is place_is rows_are written_is schema_is =
    ap (λ r. doomed_or_view (is_some_row r || written || is_write || schema) place) rows_are
    ∙ ap (λ w. doomed_or_view (has_row ids base journal place transaction.steps || w || is_write || schema) place) written_is
    ∙ ap (λ s. doomed_or_view (has_row ids base journal place transaction.steps || has_written_since number transaction.steps || is_write || s) place) schema_is
    ∙ ap (λ p. doomed_or_view (has_row ids base journal p transaction.steps || has_written_since number transaction.steps || is_write || has_schema_commit_since number journal) p)
    (place_is ∙ one_less number)
    ∙ ap (standing_by ids base journal is_write transaction.steps) (sym is)
