-- What a run touches is what its changes put, and what stood under their keys in the state before it.
use Rattle.std.proofs.Common.{◌≡◌, inl, inr, ℕ, Bool, true, false, cond, not, ◌&&◌, ◌||◌, List, [], ◌∷◌, ◌++◌, Option, Some, None, refl, sym, ap, ◌∙◌, subst, eqb-true}
use Rattle.std.proofs.lemmas.List.Folds.{list_any-append}
use Rattle.std.proofs.Math.Bool.{or-false, or_assoc, or_comm}
use Rattle.std.specs.Prelude.{◌==◌, if◌then◌else◌}
use Rattle.std.specs.FinMap.{get, get-insert, get-remove}
use Rattle.std.specs.List.{AllByRecursion, list_any}
use Rattle.std.specs.Option.{option_to_list}
use Rattle.std.specs.Ordering.{eq_by_cmp}
use Rattle.mx_msgpack.specs.Readers.{◌>>=◌}
use Rattle.mx_base.specs.declared.refusal.Refusal.TheVariants.{ReadOnly, TransactionTooLong}
use Rattle.mx_key.specs.Keys.{Key, key_cmp}
use Rattle.mx_key.proofs.KeyLaws.{key_cmp_total}
use Rattle.mx_row.specs.declared.row.Row.{Row}
use Rattle.mx_row.specs.Limits.{has_room}
use Rattle.mx_schema.specs.declared.schema.Schema.{Schema}
use Rattle.mx_schema.specs.Catalogues.{index_with, schema_of}
use Rattle.mx_schema.specs.Sound.{IsSound}
use Rattle.mx_schema.specs.State.{State, Tuples, index_rows, space_rows, tuples_in}
use Rattle.mx_schema.proofs.AloneLaws.{each_follows}
use Rattle.mx_entries.specs.OwnWrites.{with_write}
use Rattle.mx_entries.specs.OwnStates.{state_with_own}
use Rattle.mx_entries.specs.PlainChanges.{state_with}
use Rattle.mx_entries.proofs.EntriesLaws.{tied_is}
use Rattle.mx_entries.proofs.OwnStateLaws.{tuples_with}
use Rattle.mx_write.specs.Change.{Change, state_after_change, state_after_changed}
use Rattle.mx_write.specs.Judge.{row_change}
use Rattle.mx_write.specs.Reads.{Read}
use Rattle.mx_write.proofs.EachSpaceLaws.{after_put, change_of}
use Rattle.mx_model.specs.declared.ids.Ids.{Ids}
use Rattle.mx_model.specs.Answers.{answer_in_space, state_after_row, state_after_rows}
use Rattle.mx_model.specs.Frame.{IsDataStatement, OperationHasBytes}
use Rattle.mx_model.specs.Bases.{writable_node}
use Rattle.mx_model.specs.RunAlone.{answer_in_run, run_alone, statement_answer, within_limits, writes}
use Rattle.mx_model.specs.RunTouches.{changes_of, puts_of, stood_under}
use Rattle.mx_write.specs.Touches.{Touched, index_by_state, is_met, lies_in_index, are_met, touched_at, touched_by_change}
use Rattle.mx_model.specs.Touches.{rows_meet}
use Rattle.mx_model.specs.statements.Answer.{Answer, refusal_after, refusal_alone}
use Rattle.mx_model.specs.statements.Statement.{Statement}
use Rattle.mx_model.proofs.AloneCommits.{limited_agrees, run_makes, statement_agrees}
use Rattle.mx_model.proofs.AloneSound.{rows_sound, run_bytes}
use Rattle.mx_model.proofs.AnswerLaws.{Agrees}
use Rattle.mx_model.proofs.FrameChange.{after_removed}
use Rattle.mx_model.proofs.FrameTuples.{both_false}
use Rattle.mx_model.proofs.FrameSteps.{IsPlainChange, described_after, plain_change}

-- ---- tests

-- two more tests, of which each is already among those on its side
held : (puts there put stood : Bool) → (((puts || put) || (there || stood)) || put) ≡ (((puts || put) || (there || stood)) || stood)
held true there put stood = refl
held false there true stood = refl
held false true false stood = refl
held false false false true = refl
held false false false false = refl

-- what adds the same goes on adding the same beside more
kept : (puts there put stood one other : Bool) → ((puts || there) || one) ≡ ((puts || there) || other) → (((puts || put) || (there || stood)) || one) ≡ (((puts || put) || (there || stood)) || other)
kept true there put stood one other same = refl
kept false there true stood one other same = refl
kept false true false stood one other same = refl
kept false false false true one other same = refl
kept false false false false one other same = same

gathered : (puts there put stood now : Bool) → ((puts || there) || now) ≡ ((puts || there) || stood) → ((puts || there) || (now || put)) ≡ ((puts || put) || (there || stood))
gathered true there put stood now same = refl
gathered false true true stood now same = refl
gathered false true false stood now same = refl
gathered false false put stood now same = ap (λ b. b || put) same ∙ or_comm stood put

-- ---- where spaces are described the same, the same is met

pub carried_meets : (one other : State) (read : Read) (touched : List Touched)
    → AllByRecursion (λ (t : Touched). schema_of one t.space ≡ schema_of other t.space) touched → list_any (is_met one read) touched ≡ list_any (is_met other read) touched
carried_meets one other read [] same = refl
carried_meets one other read (first ∷ touched) same = λ i. by_space (first.space == read.space) refl i || carried_meets one other read touched same.1 i
  where
    by_space : (b : Bool) → (first.space == read.space) ≡ b
        → (b && lies_in_index (index_by_state one read.space read.index) read.range first) ≡ (b && lies_in_index (index_by_state other read.space read.index) read.range first)
    by_space true e =
        let described = subst (λ n. schema_of one n ≡ schema_of other n) (eqb-true first.space read.space e) same.0 in
        ap (λ (found : Option Schema). lies_in_index (found >>= (λ schema. index_with read.index schema.indexes)) read.range first) described
    by_space false e = refl

-- ---- what stands after changes

-- the tuple under a key after a change of one tuple
found_with : (state : State) (space : ℕ) (key : Key) (tuple : Option (List ℕ)) (q : ℕ) (k : Key)
    → get (tuples_in (state_with state space key tuple) q) k
    ≡ (if q == space then cond (eq_by_cmp key_cmp k key) tuple (get (tuples_in state space) k) else get (tuples_in state q) k)
found_with state space key tuple q k =
    ap (λ (t : Tuples). get t k) (tuples_with state space key tuple q) ∙ by_space (q == space)
  where
    by_write : (all : Tuples) (write : Option (List ℕ)) → get (with_write all key write) k ≡ cond (eq_by_cmp key_cmp k key) write (get all k)
    by_write all None = get-remove key_cmp_total all key k
    by_write all (Some put) = get-insert key_cmp_total all key put k

    by_space : (b : Bool) → get (if b then with_write (tuples_in state space) key tuple else tuples_in state q) k
        ≡ (if b then cond (eq_by_cmp key_cmp k key) tuple (get (tuples_in state space) k) else get (tuples_in state q) k)
    by_space true = by_write (tuples_in state space) tuple
    by_space false = refl

module _ (before : State) (test : Touched → Bool) where
  -- one of the tuples that changes put passes, or one that stood under their keys
  abbrev passes : List Change → Bool
  passes own = list_any test (puts_of own) || list_any test (stood_under before own)

  -- what stands under a key passes
  abbrev at_key : (space : ℕ) → Key → Option (List ℕ) → Bool
  at_key space key tuple = list_any test (touched_at space key tuple)

  one_more : (change : Change) (earlier : List Change)
      → passes (change ∷ earlier)
      ≡ ((list_any test (puts_of earlier) || at_key change.space change.key change.tuple)
      || (list_any test (stood_under before earlier) || at_key change.space change.key (get (tuples_in before change.space) change.key)))
  one_more change earlier = λ i.
      list_any-append test (puts_of earlier) (touched_at change.space change.key change.tuple) i
      || list_any-append test (stood_under before earlier) (touched_at change.space change.key (get (tuples_in before change.space) change.key)) i

  -- beside those, what stands under a key after the changes passes where what stood there before does
  stands : (own : List Change) (space : ℕ) (key : Key)
      → (passes own || at_key space key (get (tuples_in (state_with_own before own) space) key)) ≡ (passes own || at_key space key (get (tuples_in before space) key))
  stands [] space key = refl
  stands (change ∷ earlier) space key =
      ap (λ found. passes (change ∷ earlier) || at_key space key found) (found_with now change.space change.key change.tuple space key)
      ∙ ap (λ b. b || at_key space key (found_by (space == change.space) (eq_by_cmp key_cmp key change.key))) (one_more change earlier)
      ∙ by_space (kept puts there put stood (at_key space key (get (tuples_in now space) key)) (at_key space key (get (tuples_in before space) key)) (stands earlier space key))
      (space == change.space) refl (eq_by_cmp key_cmp key change.key) refl
      ∙ ap (λ b. b || at_key space key (get (tuples_in before space) key)) (sym (one_more change earlier))
    where
      now : State
      now = state_with_own before earlier

      found_by : (here tied : Bool) → Option (List ℕ)
      found_by here tied = if here then cond tied change.tuple (get (tuples_in now change.space) key) else get (tuples_in now space) key

      puts : Bool
      puts = list_any test (puts_of earlier)

      there : Bool
      there = list_any test (stood_under before earlier)

      put : Bool
      put = at_key change.space change.key change.tuple

      stood : Bool
      stood = at_key change.space change.key (get (tuples_in before change.space) change.key)

      by_space : (((puts || put) || (there || stood)) || at_key space key (get (tuples_in now space) key)) ≡ (((puts || put) || (there || stood)) || at_key space key (get (tuples_in before space) key))
          → (here : Bool) → (space == change.space) ≡ here → (tied : Bool) → eq_by_cmp key_cmp key change.key ≡ tied
          → (((puts || put) || (there || stood)) || at_key space key (found_by here tied)) ≡ (((puts || put) || (there || stood)) || at_key space key (get (tuples_in before space) key))
      by_space still false e tied ties = still
      by_space still true e false ties =
          ap (λ n. ((puts || put) || (there || stood)) || at_key space key (get (tuples_in now n) key)) (sym (eqb-true space change.space e)) ∙ still
      by_space still true e true ties =
          let space_is = eqb-true space change.space e in
          let key_is = tied_is key change.key ties in
          (λ i. ((puts || put) || (there || stood)) || at_key (space_is i) (key_is i) change.tuple)
          ∙ held puts there put stood
          ∙ sym (λ i. ((puts || put) || (there || stood)) || at_key (space_is i) (key_is i) (get (tuples_in before (space_is i)) (key_is i)))

  -- a change touches what stands under its key, and what it puts
  touches_more : (own : List Change) (change : Option Change)
      → (passes own || list_any test (touched_by_change (state_with_own before own) change)) ≡ passes (option_to_list change ++ own)
  touches_more own None = or-false (passes own)
  touches_more own (Some change) =
      ap (λ b. passes own || b)
      (list_any-append test (touched_at change.space change.key (get (tuples_in (state_with_own before own) change.space) change.key)) (touched_at change.space change.key change.tuple))
      ∙ gathered (list_any test (puts_of own)) (list_any test (stood_under before own)) (at_key change.space change.key change.tuple)
      (at_key change.space change.key (get (tuples_in before change.space) change.key))
      (at_key change.space change.key (get (tuples_in (state_with_own before own) change.space) change.key)) (stands own change.space change.key)
      ∙ sym (one_more change own)

-- ---- a run of data statements

-- each changes nothing, or a tuple of a space that describes nothing
changes_plainly : (ids : Ids) (before : State) (statement : Statement) → IsDataStatement statement → IsPlainChange (statement_answer ids before statement).change
changes_plainly ids before statement plain = by_test (writes statement.operation && not (ids.me == writable_node))
  where
    by_test : (refuses : Bool)
        → IsPlainChange (if refuses then refusal_alone (ReadOnly (record { 0 = writable_node })) else answer_in_space before statement.space statement.operation).change
    by_test true = inl refl
    by_test false = plain_change before statement.space statement.operation plain.0

limited_plainly : (rows : List Row) (answer : Answer) (row : Option Row) → IsPlainChange answer.change → IsPlainChange (within_limits rows answer row).change
limited_plainly rows answer None plain = plain
limited_plainly rows answer (Some row) plain = by_test (has_room rows row)
  where
    by_test : (room : Bool) → IsPlainChange (if room then answer else refusal_after answer.reads TransactionTooLong).change
    by_test true = plain
    by_test false = inl refl

-- such a change is of one tuple
own_after : (before : State) (own : List Change) (change : Option Change) → IsPlainChange change
    → state_after_changed (state_with_own before own) change ≡ state_with_own before (option_to_list change ++ own)
own_after before own change (inl none) =
    subst (λ (c : Option Change). state_after_changed (state_with_own before own) c ≡ state_with_own before (option_to_list c ++ own)) (sym none) refl
own_after before own change (inr (space, key, tuple, is, plain)) =
    subst (λ (c : Option Change). state_after_changed (state_with_own before own) c ≡ state_with_own before (option_to_list c ++ own)) (sym is) (by_tuple tuple)
  where
    by_tuple : (put : Option (List ℕ)) → state_after_change (state_with_own before own) (change_of space key put) ≡ state_with (state_with_own before own) space key put
    by_tuple None = after_removed (state_with_own before own) space key (both_false (space == space_rows) (space == index_rows) plain).1
    by_tuple (Some put) = after_put (state_with_own before own) space key put

-- what a run makes of a state is the state under its changes, and its spaces are described as before
pub run_is_own : (ids : Ids) (before : State) (statements : List Statement) → AllByRecursion IsDataStatement statements
    → ((run_alone ids before statements).state ≡ state_with_own before (changes_of (run_alone ids before statements).answers))
    × ((q : ℕ) → schema_of (run_alone ids before statements).state q ≡ schema_of before q)
unfolding run_alone
run_is_own ids before [] plain = (refl, λ q. refl)
run_is_own ids before (statement ∷ earlier) plain =
    let run = run_alone ids before earlier in
    let answer = statement_answer ids run.state statement in
    let change = (answer_in_run ids run statement).change in
    let plainly = limited_plainly run.rows answer answer.row (changes_plainly ids run.state statement plain.0) in
    let own = run_is_own ids before earlier plain.1 in (
      ap (λ state. state_after_changed state change) own.0 ∙ own_after before (changes_of run.answers) change plainly,
      λ q. described_after run.state change plainly q ∙ own.1 q,
    )

-- ---- what its rows meet

-- what rows meet, and others after them
meet_both : (before : State) (rows others : List Row) (reads : List Read)
    → rows_meet before (rows ++ others) reads ≡ (rows_meet before rows reads || rows_meet (state_after_rows before rows) others reads)
meet_both before [] others reads = refl
meet_both before (row ∷ rows) others reads =
    let touched = touched_by_change before (row_change before row) in
    let after = state_after_row before row in
    ap (λ b. are_met before touched reads || b) (meet_both after rows others reads)
    ∙ sym (or_assoc (are_met before touched reads) (rows_meet after rows reads) (rows_meet (state_after_rows after rows) others reads))

-- the row of an answer touches what the answer's change does
row_touches : (before : State) → IsSound before → (answer : Answer) → Agrees before answer → (read : Read)
    → rows_meet before (option_to_list answer.row) (read ∷ []) ≡ list_any (is_met before read) (touched_by_change before answer.change)
row_touches before sound answer (inl (none, unchanged)) read =
    ap (λ (row : Option Row). rows_meet before (option_to_list row) (read ∷ [])) none
    ∙ ap (λ (change : Option Change). list_any (is_met before read) (touched_by_change before change)) (sym unchanged)
row_touches before sound answer (inr (row, is, changes)) read =
    ap (λ (row : Option Row). rows_meet before (option_to_list row) (read ∷ [])) is
    ∙ or-false (are_met before (touched_by_change before (row_change before row)) (read ∷ []))
    ∙ or-false (list_any (is_met before read) (touched_by_change before (row_change before row)))
    ∙ ap (λ (change : Option Change). list_any (is_met before read) (touched_by_change before change)) (sym (changes sound))

-- a run keeps a state sound
run_sound : (ids : Ids) (before : State) (statements : List Statement) → IsSound before → AllByRecursion IsDataStatement statements
    → IsSound (run_alone ids before statements).state
run_sound ids before statements sound plain =
    subst IsSound (run_makes ids before statements sound plain)
    (rows_sound before (run_alone ids before statements).rows sound
    (run_bytes ids before statements (each_follows IsDataStatement (λ (statement : Statement). OperationHasBytes statement.operation) (λ statement is. is.1) statements plain)))

-- a read is met by the rows of a run where a tuple meets it that the run's changes put, or one that the state before has under their keys
pub run_touches : (ids : Ids) (before : State) (statements : List Statement) (read : Read) → IsSound before → AllByRecursion IsDataStatement statements
    → rows_meet before (run_alone ids before statements).rows (read ∷ [])
    ≡ (list_any (is_met before read) (puts_of (changes_of (run_alone ids before statements).answers))
    || list_any (is_met before read) (stood_under before (changes_of (run_alone ids before statements).answers)))
unfolding run_alone
run_touches ids before [] read sound plain = refl
run_touches ids before (statement ∷ earlier) read sound plain =
    let run = run_alone ids before earlier in
    let stated = statement_answer ids run.state statement in
    let answer = answer_in_run ids run statement in
    let own = changes_of run.answers in
    let is_own = run_is_own ids before earlier plain.1 in
    let agrees = limited_agrees run.state run.rows stated stated.row (statement_agrees ids run.state statement) in
    meet_both before run.rows (option_to_list answer.row) (read ∷ [])
    ∙ ap (λ b. b || rows_meet (state_after_rows before run.rows) (option_to_list answer.row) (read ∷ [])) (run_touches ids before earlier read sound plain.1)
    ∙ ap (λ state. passes before (is_met before read) own || rows_meet state (option_to_list answer.row) (read ∷ [])) (run_makes ids before earlier sound plain.1)
    ∙ ap (λ b. passes before (is_met before read) own || b) (row_touches run.state (run_sound ids before earlier sound plain.1) answer agrees read)
    ∙ ap (λ b. passes before (is_met before read) own || b)
    (carried_meets run.state before read (touched_by_change run.state answer.change) (everywhere (λ (t : Touched). is_own.1 t.space) (touched_by_change run.state answer.change)))
    ∙ ap (λ state. passes before (is_met before read) own || list_any (is_met before read) (touched_by_change state answer.change)) is_own.0
    ∙ touches_more before (is_met before read) own answer.change
  where
    everywhere : {P : Touched → Type 0} → ((t : Touched) → P t) → (touched : List Touched) → AllByRecursion P touched
    everywhere each [] = tt
    everywhere each (first ∷ touched) = (each first, everywhere each touched)
