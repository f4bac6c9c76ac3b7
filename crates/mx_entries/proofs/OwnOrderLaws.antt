-- Own changes that are apart give the same state in whichever order they are made.
use Rattle.std.proofs.Common.{◌≡◌, ◌≢◌, ℕ, Bool, true, false, cond, List, [], ◌∷◌, ◌++◌, Option, Some, None, refl, sym, ap, ◌∙◌, subst, eqb-true, eq-eqb, reverse}
use Rattle.std.specs.Prelude.{◌==◌, ◌||◌, if◌then◌else◌}
use Rattle.std.specs.FinMap.{empty, entries, get, get-empty, get-entries, get-insert, insert, nat_cmp-IsAntisymmetric, same_map}
use Rattle.std.specs.FinMap.Entries.{find}
use Rattle.std.specs.List.{AllByRecursion}
use Rattle.std.specs.Option.{option_or, unwrap_or}
use Rattle.std.specs.Ordering.{eq_by_cmp}
use Rattle.std.proofs.lemmas.Cmp.{nat_cmp_total}
use Rattle.std.proofs.lemmas.List.{reverse-append}
use Rattle.mx_msgpack.proofs.Options.{same_some}
use Rattle.mx_key.specs.Keys.{Key, key_cmp}
use Rattle.mx_key.proofs.KeyLaws.{key_cmp-IsAntisymmetric, key_cmp_total}
use Rattle.mx_schema.specs.declared.schema.Schema.{Schema}
use Rattle.mx_schema.specs.State.{State, Tuples, tuples_in}
use Rattle.mx_schema.proofs.StateLaws.{spaces_tie}
use Rattle.mx_entries.specs.OwnWrites.{OwnWrites, under, with_write}
use Rattle.mx_entries.specs.OwnStates.{state_with_own, written_by}
use Rattle.mx_entries.specs.PlainChanges.{AreApart, IsApart, MayStand, PlainChange, state_with, state_with_all}
use Rattle.mx_entries.proofs.EntriesLaws.{tied_is, ties_itself}
use Rattle.mx_entries.proofs.OwnStateLaws.{tuples_with_own, turned}

-- ---- what changes write under a key

-- what one change writes there
abbrev pub written_at : (space : ℕ) → Key → PlainChange → Option (Option (List ℕ))
written_at space key change = if change.space == space then cond (eq_by_cmp key_cmp key change.key) (Some change.tuple) None else None

module _ (space : ℕ) (key : Key) where
  none_yet : get (written_by space []) key ≡ None
  none_yet = get-empty key_cmp key

  -- the newest change that is of the key, else what the others write
  pub get-written : (change : PlainChange) (earlier : List PlainChange)
      → get (written_by space (change ∷ earlier)) key ≡ option_or (written_at space key change) (get (written_by space earlier) key)
  get-written change earlier = by_test (change.space == space)
    where
      by_key : (b : Bool) → cond b (Some change.tuple) (get (written_by space earlier) key) ≡ option_or (cond b (Some change.tuple) None) (get (written_by space earlier) key)
      by_key true = refl
      by_key false = refl

      by_test : (b : Bool) → get (if b then insert (written_by space earlier) change.key change.tuple else written_by space earlier) key
          ≡ option_or (if b then cond (eq_by_cmp key_cmp key change.key) (Some change.tuple) None else None) (get (written_by space earlier) key)
      by_test true = get-insert key_cmp_total (written_by space earlier) change.key change.tuple key ∙ by_key (eq_by_cmp key_cmp key change.key)
      by_test false = refl

  joined : (one two three : Option (Option (List ℕ))) → option_or one (option_or two three) ≡ option_or (option_or one two) three
  joined None two three = refl
  joined (Some x) two three = refl

  get-written_both : (newer older : List PlainChange) → get (written_by space (newer ++ older)) key ≡ option_or (get (written_by space newer) key) (get (written_by space older) key)
  get-written_both [] older = ap (λ o. option_or o (get (written_by space older) key)) (sym none_yet)
  get-written_both (change ∷ newer) older =
      get-written change (newer ++ older) ∙ ap (option_or (written_at space key change)) (get-written_both newer older)
      ∙ joined (written_at space key change) (get (written_by space newer) key) (get (written_by space older) key)
      ∙ ap (λ o. option_or o (get (written_by space older) key)) (sym (get-written change newer))

  -- a change that writes there is of this space and key
  pub writes_there : (change : PlainChange) (tuple : Option (List ℕ)) → written_at space key change ≡ Some tuple → (change.space ≡ space) × (key ≡ change.key) × (change.tuple ≡ tuple)
  writes_there change tuple is = by_test (change.space == space) refl (eq_by_cmp key_cmp key change.key) refl is
    where
      by_test : (b : Bool) → (change.space == space) ≡ b → (d : Bool) → eq_by_cmp key_cmp key change.key ≡ d → (if b then cond d (Some change.tuple) None else None) ≡ Some tuple
          → (change.space ≡ space) × (key ≡ change.key) × (change.tuple ≡ tuple)
      by_test true e true tied is = (eqb-true change.space space e, tied_is key change.key tied, same_some change.tuple tuple is)
      by_test true e false tied is = absurd cc
      by_test false e d tied is = absurd cc

-- a change writes under its own key
writes_itself : (change : PlainChange) → written_at change.space change.key change ≡ Some change.tuple
writes_itself change =
    ap (λ b. if b then cond (eq_by_cmp key_cmp change.key change.key) (Some change.tuple) None else None) (eq-eqb change.space change.space refl)
    ∙ ap (λ b. cond b (Some change.tuple) None) (ties_itself change.key change.key refl)

-- one that is apart from another doesn't write under its key
writes_elsewhere : (one other : PlainChange) → (one.space ≡ other.space → one.key ≢ other.key) → written_at other.space other.key one ≡ None
writes_elsewhere one other apart = by_written (written_at other.space other.key one) refl
  where
    by_written : (o : Option (Option (List ℕ))) → written_at other.space other.key one ≡ o → o ≡ None
    by_written None is = refl
    by_written (Some tuple) is = let there = writes_there other.space other.key one tuple is in absurd (apart there.0 (sym there.1))

-- ---- changes that are apart

-- none of them writes under the key of another
free_key : (change : PlainChange) (others : List PlainChange) → AllByRecursion (IsApart change) others → get (written_by change.space others) change.key ≡ None
free_key change [] apart = none_yet change.space change.key
free_key change (other ∷ others) apart =
    get-written change.space change.key other others
    ∙ ap (λ o. option_or o (get (written_by change.space others) change.key)) (writes_elsewhere other change (λ same keys. apart.0 (sym same) (sym keys)))
    ∙ free_key change others apart.1

-- so it doesn't matter which is the newest
module _ (space : ℕ) (key : Key) where
  swapped : (change : PlainChange) (others : List PlainChange) → AllByRecursion (IsApart change) others
      → option_or (get (written_by space others) key) (get (written_by space (change ∷ [])) key) ≡ get (written_by space (change ∷ others)) key
  swapped change others apart =
      ap (option_or (get (written_by space others) key)) (get-written space key change [] ∙ ap (option_or (written_at space key change)) (none_yet space key))
      ∙ by_written (written_at space key change) refl
      ∙ sym (get-written space key change others)
    where
      nothing_more : (o : Option (Option (List ℕ))) → option_or o None ≡ o
      nothing_more None = refl
      nothing_more (Some x) = refl

      by_written : (o : Option (Option (List ℕ))) → written_at space key change ≡ o → option_or (get (written_by space others) key) (option_or o None) ≡ option_or o (get (written_by space others) key)
      by_written None is = nothing_more (get (written_by space others) key)
      by_written (Some tuple) is =
          let there = writes_there space key change tuple is in
          let free : get (written_by space others) key ≡ None =
          subst (λ n. get (written_by n others) key ≡ None) there.0 (ap (get (written_by change.space others)) there.1 ∙ free_key change others apart) in
          ap (λ o. option_or o (Some tuple)) free

  pub get-reversed : (all : List PlainChange) → AreApart all → get (written_by space (reverse all)) key ≡ get (written_by space all) key
  get-reversed [] apart = refl
  get-reversed (change ∷ all) apart =
      ap (λ l. get (written_by space l) key) (reverse-append (change ∷ []) all)
      ∙ get-written_both space key (reverse all) (change ∷ [])
      ∙ ap (λ o. option_or o (get (written_by space (change ∷ [])) key)) (get-reversed all apart.1)
      ∙ swapped change all apart.0

-- each is what they write under its key
abbrev pub IsWritten : List PlainChange → PlainChange → Type 0
IsWritten all change = get (written_by change.space all) change.key ≡ Some change.tuple

pub all_written : (all : List PlainChange) → AreApart all → AllByRecursion (IsWritten all) all
all_written [] apart = tt
all_written (change ∷ all) apart =
    (get-written change.space change.key change all ∙ ap (λ o. option_or o (get (written_by change.space all) change.key)) (writes_itself change), later all apart.0 (all_written all apart.1))
  where
    later : (some : List PlainChange) → AllByRecursion (IsApart change) some → AllByRecursion (IsWritten all) some → AllByRecursion (IsWritten (change ∷ all)) some
    later [] apart written = tt
    later (one ∷ some) apart written = (
      get-written one.space one.key change all ∙ ap (λ o. option_or o (get (written_by one.space all) one.key)) (writes_elsewhere change one apart.0) ∙ written.0,
      later some apart.1 written.1,
    )

-- ---- what is written may stand, where each change may

pub written_may_stand : (schemas : ℕ → Option Schema) (own : List PlainChange) → AllByRecursion (MayStand schemas) own
    → (change : PlainChange) → IsWritten own change → MayStand schemas change
written_may_stand schemas [] stand change is = absurd (nothing_written (sym (none_yet change.space change.key) ∙ is))
  where
    nothing_written : ◌≡◌ {A = Option (Option (List ℕ))} None (Some change.tuple) → ⊥
    nothing_written e = absurd cc
written_may_stand schemas (first ∷ own) stand change is =
    by_written (written_at change.space change.key first) refl (sym (get-written change.space change.key first own) ∙ is) (written_may_stand schemas own stand.1 change)
  where
    by_written : (o : Option (Option (List ℕ))) → written_at change.space change.key first ≡ o → option_or o (get (written_by change.space own) change.key) ≡ Some change.tuple
        → (IsWritten own change → MayStand schemas change) → MayStand schemas change
    by_written None none is later = later is
    by_written (Some tuple) there is later =
        let at = writes_there change.space change.key first tuple there in
        let same : first.tuple ≡ change.tuple = at.2 ∙ same_some tuple change.tuple is in
        let one : first ≡ change = λ i. record { space = at.0 i; key = sym at.1 i; tuple = same i } in
        subst (MayStand schemas) one stand.0

-- ---- states

-- the first change of a commit is the oldest of own ones
pub all_as_own : (all : List PlainChange) (state : State) → state_with_all state all ≡ state_with_own state (reverse all)
all_as_own [] state = refl
all_as_own (change ∷ all) state =
    all_as_own all (state_with state change.space change.key change.tuple)
    ∙ sym (older_first (reverse all))
    ∙ ap (state_with_own state) (sym (reverse-append (change ∷ []) all))
  where
    older_first : (newer : List PlainChange) → state_with_own state (newer ++ change ∷ []) ≡ state_with_own (state_with state change.space change.key change.tuple) newer
    older_first [] = refl
    older_first (one ∷ newer) = ap (λ s. state_with s one.space one.key one.tuple) (older_first newer)

-- a space has changes
abbrev is_touched : (space : ℕ) → List PlainChange → Bool
is_touched space [] = false
is_touched space (change ∷ earlier) = (change.space == space) || is_touched space earlier

abbrev has_any : List (Key × Option (List ℕ)) → Bool
has_any [] = false
has_any (write ∷ others) = true

has_one : (writes : OwnWrites) (key : Key) (write : Option (List ℕ)) → get writes key ≡ Some write → has_any (entries writes) ≡ true
has_one writes key write there = by_list (entries writes) (sym (get-entries writes key) ∙ there)
  where
    by_list : (list : List (Key × Option (List ℕ))) → find key_cmp key list ≡ Some write → has_any list ≡ true
    by_list [] is = absurd cc
    by_list (one ∷ others) is = refl

none_has : (list : List (Key × Option (List ℕ))) → ((key : Key) → find key_cmp key list ≡ None) → has_any list ≡ false
none_has [] none = refl
none_has (one ∷ others) none = absurd (some_first (sym (ap (λ b. cond b (Some one.1) (find key_cmp one.0 others)) (ties_itself one.0 one.0 refl)) ∙ none one.0))
  where
    some_first : ◌≡◌ {A = Option (Option (List ℕ))} (Some one.1) None → ⊥
    some_first e = absurd cc

touched_is : (space : ℕ) (own : List PlainChange) → is_touched space own ≡ has_any (entries (written_by space own))
touched_is space [] = sym (none_has (entries (written_by space [])) (λ key. sym (get-entries (written_by space []) key) ∙ none_yet space key))
touched_is space (change ∷ earlier) = by_test (change.space == space) (touched_is space earlier)
  where
    by_test : (b : Bool) → is_touched space earlier ≡ has_any (entries (written_by space earlier))
        → (b || is_touched space earlier) ≡ has_any (entries (if b then insert (written_by space earlier) change.key change.tuple else written_by space earlier))
    by_test true before =
        sym (has_one (insert (written_by space earlier) change.key change.tuple) change.key change.tuple
        (get-insert key_cmp_total (written_by space earlier) change.key change.tuple change.key ∙ ap (λ b. cond b (Some change.tuple) (get (written_by space earlier) change.key)) (ties_itself change.key change.key refl)))
    by_test false before = before

set_with : (state : State) (space : ℕ) (key : Key) (tuple : Option (List ℕ)) → state_with state space key tuple ≡ insert state space (with_write (tuples_in state space) key tuple)
set_with state space key None = refl
set_with state space key (Some tuple) = refl

-- the space of a change has its tuples, and another one what it had
get-with_own : (base : State) (own : List PlainChange) (space : ℕ)
    → get (state_with_own base own) space ≡ cond (is_touched space own) (Some (tuples_in (state_with_own base own) space)) (get base space)
get-with_own base [] space = refl
get-with_own base (change ∷ earlier) space = by_test (change.space == space) (set ∙ ap (λ b. cond b (Some all) (get before space)) (turned space change.space)) (get-with_own base earlier space)
  where
    before : State
    before = state_with_own base earlier

    all : Tuples
    all = with_write (tuples_in before change.space) change.key change.tuple

    after : State
    after = state_with before change.space change.key change.tuple

    set : get after space ≡ cond (space == change.space) (Some all) (get before space)
    set =
        ap (λ s. get s space) (set_with before change.space change.key change.tuple)
        ∙ get-insert nat_cmp_total before change.space all space ∙ ap (λ b. cond b (Some all) (get before space)) (spaces_tie space change.space)

    by_test : (b : Bool) → get after space ≡ cond b (Some all) (get before space) → get before space ≡ cond (is_touched space earlier) (Some (tuples_in before space)) (get base space)
        → get after space ≡ cond (b || is_touched space earlier) (Some (tuples_in after space)) (get base space)
    by_test true is was = is ∙ ap (λ (t : Tuples). Some t) (sym (ap (λ o. unwrap_or o empty) is))
    by_test false is was =
        is ∙ was ∙ ap (λ (t : Tuples). cond (is_touched space earlier) (Some t) (get base space)) (sym (ap (λ o. unwrap_or o empty) is))

-- changes that write the same give the same state
pub same_states : (base : State) (one other : List PlainChange) → ((space : ℕ) (key : Key) → get (written_by space one) key ≡ get (written_by space other) key)
    → state_with_own base one ≡ state_with_own base other
same_states base one other same =
    same_map nat_cmp_total nat_cmp-IsAntisymmetric (state_with_own base one) (state_with_own base other)
    (λ space.
    let writes : written_by space one ≡ written_by space other = same_map key_cmp_total key_cmp-IsAntisymmetric (written_by space one) (written_by space other) (same space) in
    get-with_own base one space
    ∙ ap (λ b. cond b (Some (tuples_in (state_with_own base one) space)) (get base space))
    (touched_is space one ∙ ap (λ (w : OwnWrites). has_any (entries w)) writes ∙ sym (touched_is space other))
    ∙ ap (λ (t : Tuples). cond (is_touched space other) (Some t) (get base space))
    (tuples_with_own base one space ∙ ap (λ (w : OwnWrites). under w (tuples_in base space)) writes ∙ sym (tuples_with_own base other space))
    ∙ sym (get-with_own base other space))
