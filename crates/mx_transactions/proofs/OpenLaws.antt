-- Open transactions: what is found by a name, and what stays where one slot changes.
use Rattle.std.proofs.Common.{Bool, true, false, not, ◌&&◌, List, [], ◌∷◌, ◌++◌, Option, Some, None, inl, inr, refl, sym, subst, ◌≡◌, ◌≢◌, ℕ, ap, ◌∙◌}
use Rattle.std.specs.Prelude.{◌==◌, if◌then◌else◌}
use Rattle.std.proofs.lemmas.Bool.{eqb-false}
use Rattle.std.specs.List.{AllByRecursion, AllZip, filter}
use Rattle.std.specs.Option.{option_to_list}
use Rattle.mx_base.specs.declared.refusal.Refusal.TheVariants.{ReadOnly, TransactionTooLong}
use Rattle.mx_row.specs.declared.row.Row.{Row}
use Rattle.mx_row.specs.Limits.{has_room}
use Rattle.mx_schema.specs.Sound.{IsSound}
use Rattle.mx_schema.specs.State.{State, index_rows, space_rows}
use Rattle.mx_entries.specs.OwnStates.{AreNoDescriptions}
use Rattle.mx_write.specs.Change.{Change, state_after_changed}
use Rattle.mx_model.specs.declared.ids.Ids.{Ids}
use Rattle.mx_model.specs.Answers.{answer_in_space}
use Rattle.mx_model.specs.Frame.{IsDataStatement}
use Rattle.mx_model.specs.Bases.{writable_node}
use Rattle.mx_model.specs.RunAlone.{Run, answer_in_run, run_alone, statement_answer, within_limits, writes}
use Rattle.mx_model.specs.statements.Answer.{Answer, refusal_after, refusal_alone}
use Rattle.mx_model.specs.statements.Statement.{Statement}
use Rattle.mx_model.proofs.AloneCommits.{run_makes}
use Rattle.mx_model.proofs.FrameTuples.{both_false}
use Rattle.mx_model.proofs.FrameSteps.{IsPlainChange, answer_sound, plain_change}
use Rattle.mx_model.proofs.RunTouchLaws.{run_is_own}
use Rattle.mx_model.specs.RunTouches.{changes_of}
use Rattle.mx_transactions.specs.OpenSteps.{StandsOn, StaysAt}
use Rattle.mx_base.specs.declared.ids.TxnName.{TxnName}
use Rattle.mx_txn.specs.Slots.{IsLive, Txns}
use Rattle.mx_model.specs.Overlaps.{Active, Doomed, Standing, Transaction, TransactionStep, View}
use Rattle.mx_model.specs.Streams.{Streams, is_name, standing_now, transaction_named, transaction_with, with_step}
use Rattle.mx_transactions.specs.declared.names.Named.{Named}
use Rattle.mx_transactions.specs.Open.{HaveOwnSlots, HasSlot, HasStanding, HasTransaction, IsOpen, IsOther, Open, SlotHas, slot_named}

-- ---- what one answer changes

-- a change is of no row that describes a space or an index, and leaves a sound state
abbrev pub ChangesSoundly : State → Option Change → Type 0
ChangesSoundly before change = IsPlainChange change × IsSound (state_after_changed before change)

nothing_changes : (before : State) → IsSound before → ChangesSoundly before None
nothing_changes before sound = (inl refl, sound)

statement_changes : (ids : Ids) (before : State) (statement : Statement) → IsSound before → IsDataStatement statement → ChangesSoundly before (statement_answer ids before statement).change
statement_changes ids before statement sound plain = by_test (writes statement.operation && not (ids.me == writable_node))
  where
    by_test : (refuses : Bool)
        → ChangesSoundly before (if refuses then refusal_alone (ReadOnly (record { 0 = writable_node })) else answer_in_space before statement.space statement.operation).change
    by_test true = nothing_changes before sound
    by_test false = (plain_change before statement.space statement.operation plain.0, answer_sound before sound statement.space statement.operation plain.1)

limited_changes : (before : State) (rows : List Row) (answer : Answer) (row : Option Row) → IsSound before → ChangesSoundly before answer.change
    → ChangesSoundly before (within_limits rows answer row).change
limited_changes before rows answer None sound changes = changes
limited_changes before rows answer (Some row) sound changes = by_test (has_room rows row)
  where
    by_test : (room : Bool) → ChangesSoundly before (if room then answer else refusal_after answer.reads TransactionTooLong).change
    by_test true = changes
    by_test false = nothing_changes before sound

pub answer_changes : (ids : Ids) (run : Run) (statement : Statement) → IsSound run.state → IsDataStatement statement → ChangesSoundly run.state (answer_in_run ids run statement).change
answer_changes ids run statement sound plain =
    let answer = statement_answer ids run.state statement in
    limited_changes run.state run.rows answer answer.row sound (statement_changes ids run.state statement sound plain)

-- ---- a run

-- one change more
one_more : (own : List Change) (change : Option Change) → AreNoDescriptions own → IsPlainChange change → AreNoDescriptions (option_to_list change ++ own)
one_more own change plain (inl none) = subst (λ (c : Option Change). AreNoDescriptions (option_to_list c ++ own)) (sym none) plain
one_more own change plain (inr (space, key, tuple, is, differs)) =
    let tests = both_false (space == space_rows) (space == index_rows) differs in
    subst (λ (c : Option Change). AreNoDescriptions (option_to_list c ++ own)) (sym is)
    ((eqb-false space space_rows tests.0, eqb-false space index_rows tests.1), plain)

-- a run is sound, and changes no description
record RunsOn (run : Run) : Type 0 where
  pub sound : IsSound run.state
  pub plain : AreNoDescriptions (changes_of run.answers)

runs_on : (ids : Ids) (before : State) (statements : List Statement) → IsSound before → AllByRecursion IsDataStatement statements → RunsOn (run_alone ids before statements)
unfolding run_alone
runs_on ids before [] sound plain = record { sound = sound; plain = tt }
runs_on ids before (statement ∷ earlier) sound plain =
    let run = run_alone ids before earlier in
    let on = runs_on ids before earlier sound plain.1 in
    let changes = answer_changes ids run statement on.sound plain.0 in
    record { sound = changes.1; plain = one_more (changes_of run.answers) (answer_in_run ids run statement).change on.plain changes.0 }

pub run_stands : (ids : Ids) (before : State) (statements : List Statement) → IsSound before → AllByRecursion IsDataStatement statements → StandsOn before (run_alone ids before statements)
run_stands ids before statements sound plain =
    let on = runs_on ids before statements sound plain in
    record { sound = on.sound; own = (run_is_own ids before statements plain).0; plain = on.plain; rows = run_makes ids before statements sound plain }

-- ---- by a name

module _ (streams : Streams) (all : Open) (name : TxnName) where
  -- the transaction of a name, and what its slot has
  pub record Found (ones : List Transaction) (slot : ℕ) : Type 0 where
    pub transaction : Transaction
    pub named : transaction_named name ones ≡ Some transaction
    pub has : SlotHas
    pub is : HasSlot all slot has
    pub keeps : HasTransaction streams all.kept transaction has

  same_test : (named : Named) (one : Transaction) → IsOpen streams all named one → is_name one.name name ≡ is_name named.name name
  same_test named one is = ap (λ (n : TxnName). is_name n name) (sym is.name)

  pub found : (names : List Named) (ones : List Transaction) → AllZip (IsOpen streams all) names ones → (slot : ℕ) → slot_named name names ≡ Some slot → Found ones slot
  found [] [] keep slot e = absurd cc
  found [] (one ∷ ones) keep slot e = absurd keep
  found (named ∷ names) [] keep slot e = absurd keep
  found (named ∷ names) (one ∷ ones) (first, keep) slot e = by_test (is_name named.name name) refl e (found names ones keep slot)
    where
      by_test : (b : Bool) → is_name named.name name ≡ b → (if b then Some named.slot else slot_named name names) ≡ Some slot
          → (slot_named name names ≡ Some slot → Found ones slot) → Found (one ∷ ones) slot
      by_test true is e later =
          let same : named.slot ≡ slot = cc in record {
            transaction = one;
            named = ap (λ b. if b then Some one else transaction_named name ones) (same_test named one first ∙ is);
            has = first.has;
            is = subst (λ s. HasSlot all s first.has) same first.is;
            keeps = first.keeps;
          }
      by_test false is e later =
          let rest = later e in record {
            transaction = rest.transaction;
            named = ap (λ b. if b then Some one else transaction_named name ones) (same_test named one first ∙ is) ∙ rest.named;
            has = rest.has;
            is = rest.is;
            keeps = rest.keeps;
          }

  pub none_found : (names : List Named) (ones : List Transaction) → AllZip (IsOpen streams all) names ones → slot_named name names ≡ None → transaction_named name ones ≡ None
  none_found [] [] keep e = refl
  none_found [] (one ∷ ones) keep e = absurd keep
  none_found (named ∷ names) [] keep e = absurd keep
  none_found (named ∷ names) (one ∷ ones) (first, keep) e = by_test (is_name named.name name) refl e (none_found names ones keep)
    where
      by_test : (b : Bool) → is_name named.name name ≡ b → (if b then Some named.slot else slot_named name names) ≡ None
          → (slot_named name names ≡ None → transaction_named name ones ≡ None) → transaction_named name (one ∷ ones) ≡ None
      by_test true is e later = absurd cc
      by_test false is e later = ap (λ b. if b then Some one else transaction_named name ones) (same_test named one first ∙ is) ∙ later e

-- a name that was found has a live slot
pub found_live : (slots : Txns) (name : TxnName) (names : List Named) → AllByRecursion (λ (named : Named). IsLive slots named.slot) names → (slot : ℕ) → slot_named name names ≡ Some slot
    → IsLive slots slot
found_live slots name [] live slot e = absurd cc
found_live slots name (named ∷ names) live slot e = by_test (is_name named.name name) e (found_live slots name names live.1 slot)
  where
    by_test : (b : Bool) → (if b then Some named.slot else slot_named name names) ≡ Some slot → (slot_named name names ≡ Some slot → IsLive slots slot) → IsLive slots slot
    by_test true e later = let same : named.slot ≡ slot = cc in subst (λ s. IsLive slots s) same live.0
    by_test false e later = later e

-- and it isn't the slot of those before it
pub found_other : (one : Named) (name : TxnName) (others : List Named) → AllByRecursion (IsOther one) others → (slot : ℕ) → slot_named name others ≡ Some slot → slot ≢ one.slot
found_other one name [] apart slot e = absurd cc
found_other one name (other ∷ others) apart slot e = by_test (is_name other.name name) e (found_other one name others apart.1 slot)
  where
    by_test : (b : Bool) → (if b then Some other.slot else slot_named name others) ≡ Some slot → (slot_named name others ≡ Some slot → slot ≢ one.slot) → slot ≢ one.slot
    by_test true e later = let same : other.slot ≡ slot = cc in subst (λ s. s ≢ one.slot) same apart.0.slot
    by_test false e later = later e

-- ---- where one slot changes

pub same_slot : (old new : Open) (slot : ℕ) (has : SlotHas) → StaysAt old new slot → HasSlot old slot has → HasSlot new slot has
same_slot old new slot has stays is = record { state = is.state ∙ sym stays.state; work = stays.work ∙ is.work; reads = is.reads ∙ sym stays.reads }

module _ (streams : Streams) (old new : Open) where
  same_standing : (slot : ℕ) (has : SlotHas) (transaction : Transaction) → StaysAt old new slot → HasSlot old slot has → (standing : Standing)
      → HasStanding streams old.kept transaction standing has → HasStanding streams new.kept transaction standing has
  same_standing slot has transaction stays is Active keeps = keeps
  same_standing slot has transaction stays is (View place) (state, keeps) =
      (state, stays.kept place (stays.state ∙ sym is.state ∙ state) keeps)
  same_standing slot has transaction stays is Doomed keeps = keeps

  pub stays_open : (named : Named) (transaction : Transaction) → StaysAt old new named.slot → IsOpen streams old named transaction → IsOpen streams new named transaction
  stays_open named transaction stays is = record {
    name = is.name;
    has = is.has;
    is = same_slot old new named.slot is.has stays is.is;
    keeps = same_standing named.slot is.has transaction stays is.is (standing_now streams false transaction) is.keeps;
  }

  -- all of these stay
  pub all_stay : (names : List Named) (ones : List Transaction) → AllByRecursion (λ (named : Named). StaysAt old new named.slot) names
      → AllZip (IsOpen streams old) names ones → AllZip (IsOpen streams new) names ones
  all_stay [] [] stay keep = tt
  all_stay [] (one ∷ ones) stay keep = absurd keep
  all_stay (named ∷ names) [] stay keep = absurd keep
  all_stay (named ∷ names) (one ∷ ones) stay (first, keep) = (stays_open named one stay.0 first, all_stay names ones stay.1 keep)

  -- all but those of one slot stay
  module _ (slot : ℕ) (others : (other : ℕ) → other ≢ slot → StaysAt old new other) where
    apart_stay : (one : Named) (names : List Named) → one.slot ≡ slot → AllByRecursion (IsOther one) names → AllByRecursion (λ (named : Named). StaysAt old new named.slot) names
    apart_stay one [] is apart = tt
    apart_stay one (named ∷ names) is apart = (others named.slot (λ same. apart.0.slot (same ∙ sym is)), apart_stay one names is apart.1)

    -- a step more of the transaction of a name
    module _ (name : TxnName) (step : TransactionStep)
        (goes : (transaction : Transaction) (has : SlotHas) → HasSlot old slot has → HasTransaction streams old.kept transaction has
        → (now : SlotHas) × HasSlot new slot now × HasTransaction streams new.kept (transaction_with step transaction) now) where
      pub stepped : (names : List Named) (ones : List Transaction) → HaveOwnSlots names → slot_named name names ≡ Some slot → AllZip (IsOpen streams old) names ones
          → AllZip (IsOpen streams new) names (with_step name step ones)
      stepped [] ones apart e keep = absurd cc
      stepped (named ∷ names) [] apart e keep = absurd keep
      stepped (named ∷ names) (one ∷ ones) apart e (first, keep) = by_test (is_name named.name name) refl e (λ e. stepped names ones apart.1 e keep)
        where
          by_test : (b : Bool) → is_name named.name name ≡ b → (if b then Some named.slot else slot_named name names) ≡ Some slot
              → (slot_named name names ≡ Some slot → AllZip (IsOpen streams new) names (with_step name step ones))
              → AllZip (IsOpen streams new) (named ∷ names) (with_step name step (one ∷ ones))
          by_test true is e later =
              let same : named.slot ≡ slot = cc in
              let (now, has, keeps) = goes one first.has (subst (λ s. HasSlot old s first.has) same first.is) first.keeps in
              subst (λ b. AllZip (IsOpen streams new) (named ∷ names) (if b then transaction_with step one ∷ ones else one ∷ with_step name step ones))
              (sym (same_test streams old name named one first ∙ is)) (
                record { name = first.name; has = now; is = subst (λ s. HasSlot new s now) (sym same) has; keeps = keeps },
                all_stay names ones (apart_stay named names same apart.0) keep,
              )
          by_test false is e later =
              subst (λ b. AllZip (IsOpen streams new) (named ∷ names) (if b then transaction_with step one ∷ ones else one ∷ with_step name step ones))
              (sym (same_test streams old name named one first ∙ is))
              (stays_open named one (others named.slot (λ same. found_other named name names apart.0 slot e (sym same))) first, later e)

-- ---- those that stay

-- a filter of names and one of transactions that agree
pub some_open : (streams : Streams) (all : Open) (keeps : TxnName → Bool) (names : List Named) (ones : List Transaction) → AllZip (IsOpen streams all) names ones
    → AllZip (IsOpen streams all) (filter (λ (named : Named). keeps named.name) names) (filter (λ (one : Transaction). keeps one.name) ones)
some_open streams all keeps [] [] keep = tt
some_open streams all keeps [] (one ∷ ones) keep = absurd keep
some_open streams all keeps (named ∷ names) [] keep = absurd keep
some_open streams all keeps (named ∷ names) (one ∷ ones) (first, keep) =
    by_test (keeps named.name) (ap keeps first.name) (some_open streams all keeps names ones keep)
  where
    by_test : (b : Bool) → b ≡ keeps one.name → AllZip (IsOpen streams all) (filter (λ (n : Named). keeps n.name) names) (filter (λ (t : Transaction). keeps t.name) ones)
        → AllZip (IsOpen streams all) (if b then named ∷ filter (λ (n : Named). keeps n.name) names else filter (λ (n : Named). keeps n.name) names)
        (if keeps one.name then one ∷ filter (λ (t : Transaction). keeps t.name) ones else filter (λ (t : Transaction). keeps t.name) ones)
    by_test true alike rest =
        subst (λ b. AllZip (IsOpen streams all) (named ∷ filter (λ (n : Named). keeps n.name) names) (if b then one ∷ filter (λ (t : Transaction). keeps t.name) ones else filter (λ (t : Transaction). keeps t.name) ones))
        alike (first, rest)
    by_test false alike rest =
        subst (λ b. AllZip (IsOpen streams all) (filter (λ (n : Named). keeps n.name) names) (if b then one ∷ filter (λ (t : Transaction). keeps t.name) ones else filter (λ (t : Transaction). keeps t.name) ones))
        alike rest
