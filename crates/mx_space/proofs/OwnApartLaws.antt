-- The changes of a commit of own writes are apart, and give the state under the writes.
use Rattle.std.proofs.Common.{◌≡◌, ◌≢◌, ℕ, Bool, true, false, cond, not, List, [], ◌∷◌, ◌++◌, map, Option, Some, None, refl, sym, ap, ◌∙◌, subst, true≢false, eq-eqb, reverse, nat_cmp}
use Rattle.std.specs.Prelude.{◌||◌, ⊤, is_some}
use Rattle.std.specs.declared.cmp.Ordering.TheVariants.{Less, Equal}
use Rattle.std.specs.BTreeMap.{is_at}
use Rattle.std.specs.Cmp.Lexicographic.{slice_cmp}
use Rattle.std.specs.FinMap.{empty, entries, get, get-empty}
use Rattle.std.specs.List.{AllByRecursion, AllZip, filter, flat_map, list_any}
use Rattle.std.specs.List.Sorted.{IsStrictlySortedBy}
use Rattle.std.specs.Map.{keys_of, lookup}
use Rattle.std.specs.Ordering.{is_eq}
use Rattle.std.proofs.lemmas.Cmp.{nat_list_cmp_total, tied_itself}
use Rattle.std.proofs.lemmas.List.Kept.{IsStrictlySortedBy-filter}
use Rattle.mx_key.specs.Keys.{Key, AreFit, key_cmp}
use Rattle.mx_key.specs.Comparable.{comparable_of}
use Rattle.mx_schema.specs.declared.schema.Schema.{Schema}
use Rattle.mx_schema.specs.Picks.{Indexed}
use Rattle.mx_schema.specs.State.{State}
use Rattle.mx_schema.specs.Stored.{StoredTuple, stored_tuple}
use Rattle.mx_space.specs.declared.overlay.OverlaidSpace.{OverlaidSpace}
use Rattle.mx_space.specs.declared.own_changes.Overlay.{Overlay}
use Rattle.mx_space.specs.declared.tuple_changes.TupleChange.{TupleChange}
use Rattle.mx_entries.specs.OwnWrites.{IsOfKey, OwnWrites, under}
use Rattle.mx_space.specs.Overlays.{StoresOver, StoresWritten}
use Rattle.mx_space.specs.OwnChanges.{HoldsOwn, overlaid}
use Rattle.mx_entries.specs.OwnStates.{state_with_own, written_by}
use Rattle.mx_space.specs.OwnCommit.{AreOrdered, changes_in, is_gone, put_change, puts_in, removal, removals_in}
use Rattle.mx_entries.specs.PlainChanges.{AreApart, IsApart, MayStand, PlainChange, state_with_all}
use Rattle.mx_space.specs.Reserves.{SpellsChange}
use Rattle.mx_space.proofs.OwnCommitLaws.{OwnEntry, all_both, all_filtered, all_mapped, all_pass, all_weaker, below_apart, of_space, of_spaces, other_number, spelled_fit, spelled_is, told, told_of, told_whole, written_told}
use Rattle.mx_space.proofs.OwnHeldLaws.{at_number}
use Rattle.mx_entries.proofs.OwnOrderLaws.{IsWritten, all_as_own, all_written, get-reversed, same_states, written_may_stand}

-- ---- changes as bytes that are apart

abbrev IsNewTo : TupleChange → TupleChange → Type 0
IsNewTo one other = one.space.0 ≡ other.space.0 → one.key ≢ other.key

abbrev AreNew : List TupleChange → Type 0
AreNew [] = ⊤
AreNew (change ∷ others) = AllByRecursion (IsNewTo change) others × AreNew others

new_both : (one other : List TupleChange) → AreNew one → AreNew other → AllByRecursion (λ (change : TupleChange). AllByRecursion (IsNewTo change) other) one → AreNew (one ++ other)
new_both [] other first second apart = second
new_both (change ∷ one) other first second apart = (all_both (IsNewTo change) one other first.0 apart.0, new_both one other first.1 second apart.1)

abbrev keys : List TupleChange → List (List ℕ)
keys changes = map (λ change. change.key) changes

not_below_itself : (key : List ℕ) → slice_cmp nat_cmp key key ≢ Less
not_below_itself key below = let no : Equal ≡ Less = sym (tied_itself nat_list_cmp_total key) ∙ below in absurd cc

-- changes whose keys rise are apart
rising_new : (changes : List TupleChange) → IsStrictlySortedBy (slice_cmp nat_cmp) (keys changes) → AreNew changes
unfolding IsStrictlySortedBy
rising_new [] rises = tt
rising_new (change ∷ changes) rises = (above changes rises.0, rising_new changes rises.1)
  where
    above : (others : List TupleChange) → AllByRecursion (λ key. slice_cmp nat_cmp change.key key ≡ Less) (keys others) → AllByRecursion (IsNewTo change) others
    above [] below = tt
    above (other ∷ others) below = (λ space same. not_below_itself change.key (ap (slice_cmp nat_cmp change.key) same ∙ below.0), above others below.1)

keys_put : (space : ℕ) (kept : List StoredTuple) → keys (map (put_change space) kept) ≡ keys_of kept
keys_put space [] = refl
keys_put space (entry ∷ kept) = ap (λ l. entry.0 ∷ l) (keys_put space kept)

keys_removed : (space : ℕ) (gone : List (List ℕ)) → keys (map (removal space) gone) ≡ gone
keys_removed space [] = refl
keys_removed space (key ∷ gone) = ap (λ l. key ∷ l) (keys_removed space gone)

tied_bytes : (key : List ℕ) → is_at (slice_cmp nat_cmp key) key ≡ true
tied_bytes key = ap is_eq (tied_itself nat_list_cmp_total key)

-- each entry's key is found among them
abbrev IsThere : List StoredTuple → StoredTuple → Type 0
IsThere kept entry = is_some (lookup (is_at (slice_cmp nat_cmp entry.0)) kept) ≡ true

each_there : (kept : List StoredTuple) → AllByRecursion (IsThere kept) kept
each_there [] = tt
each_there (first ∷ kept) =
    (ap (λ b. is_some (cond b (Some first.1) (lookup (is_at (slice_cmp nat_cmp first.0)) kept))) (tied_bytes first.0), all_weaker (IsThere kept) (IsThere (first ∷ kept)) later kept (each_there kept))
  where
    later : (entry : StoredTuple) → IsThere kept entry → IsThere (first ∷ kept) entry
    later entry there = by_test (is_at (slice_cmp nat_cmp entry.0) first.0)
      where
        by_test : (b : Bool) → is_some (cond b (Some first.1) (lookup (is_at (slice_cmp nat_cmp entry.0)) kept)) ≡ true
        by_test true = refl
        by_test false = there

-- each key is among them
abbrev IsAmong : List (List ℕ) → List ℕ → Type 0
IsAmong some key = list_any (is_at (slice_cmp nat_cmp key)) some ≡ true

each_among : (some : List (List ℕ)) → AllByRecursion (IsAmong some) some
each_among [] = tt
each_among (first ∷ some) =
    (ap (λ b. b || list_any (is_at (slice_cmp nat_cmp first)) some) (tied_bytes first), all_weaker (IsAmong some) (IsAmong (first ∷ some)) later some (each_among some))
  where
    later : (key : List ℕ) → IsAmong some key → IsAmong (first ∷ some) key
    later key among = by_test (is_at (slice_cmp nat_cmp key) first)
      where
        by_test : (b : Bool) → (b || list_any (is_at (slice_cmp nat_cmp key)) some) ≡ true
        by_test true = refl
        by_test false = among

module _ (space : ℕ) (over : OverlaidSpace) where
  abbrev gone_keys : List (List ℕ)
  gone_keys = filter (is_gone over) over.removed.keys

  -- a key that has no own tuple isn't that of one
  gone_apart : (entry : StoredTuple) → IsThere over.own.tuples.entries entry → AllByRecursion (IsNewTo (put_change space entry)) (removals_in space over)
  gone_apart entry there =
      all_mapped (IsNewTo (put_change space entry)) (removal space) gone_keys
      (all_weaker (λ key. is_gone over key ≡ true) (λ key. IsNewTo (put_change space entry) (removal space key))
      (λ key gone same_space same. true≢false (sym gone ∙ ap (is_gone over) (sym same) ∙ ap not there)) gone_keys (all_pass (is_gone over) over.removed.keys))

  -- the changes of a space are apart
  new_in : AreOrdered over → AreNew (changes_in (space, over))
  new_in ordered =
      new_both (puts_in space over) (removals_in space over)
      (rising_new (puts_in space over) (subst (IsStrictlySortedBy (slice_cmp nat_cmp)) (sym (keys_put space over.own.tuples.entries)) ordered.own))
      (rising_new (removals_in space over)
      (subst (IsStrictlySortedBy (slice_cmp nat_cmp)) (sym (keys_removed space gone_keys)) (IsStrictlySortedBy-filter (slice_cmp nat_cmp) (is_gone over) over.removed.keys ordered.removed)))
      (all_mapped (λ (change : TupleChange). AllByRecursion (IsNewTo change) (removals_in space over)) (put_change space) over.own.tuples.entries
      (all_weaker (IsThere over.own.tuples.entries) (λ entry. AllByRecursion (IsNewTo (put_change space entry)) (removals_in space over)) gone_apart over.own.tuples.entries
      (each_there over.own.tuples.entries)))

  -- each is of a key
  spelled_in : (schema : Option Schema) (written : OwnWrites) → StoresWritten schema over written → AllByRecursion (λ (change : TupleChange). IsOfKey change.key) (changes_in (space, over))
  spelled_in schema written stores =
      all_both (λ (change : TupleChange). IsOfKey change.key) (puts_in space over) (removals_in space over)
      (all_mapped (λ (change : TupleChange). IsOfKey change.key) (put_change space) over.own.tuples.entries
      (subst (AllByRecursion (λ (entry : StoredTuple). IsOfKey entry.0)) stores.own.holds.keeps.same
      (all_mapped (λ (entry : StoredTuple). IsOfKey entry.0) stored_tuple (entries (under written empty))
      (all_weaker (λ (entry : Indexed). AreFit entry.0) (λ (entry : Indexed). IsOfKey (comparable_of entry.0)) (λ entry fit. (entry.0, fit, refl)) (entries (under written empty)) stores.own.holds.keeps.fit))))
      (all_mapped (λ (change : TupleChange). IsOfKey change.key) (removal space) gone_keys
      (all_filtered IsOfKey (is_gone over) over.removed.keys (all_weaker (IsAmong over.removed.keys) IsOfKey stores.removed over.removed.keys (each_among over.removed.keys))))

-- the changes of all spaces are apart
new_whole : (all : List OwnEntry) → IsStrictlySortedBy nat_cmp (keys_of all) → AllByRecursion (λ (entry : OwnEntry). AreOrdered entry.1) all → AreNew (flat_map changes_in all)
unfolding IsStrictlySortedBy
new_whole [] rises ordered = tt
new_whole (entry ∷ all) rises ordered =
    new_both (changes_in entry) (flat_map changes_in all) (new_in entry.0 entry.1 ordered.0) (new_whole all rises.1 ordered.1)
    (all_weaker (λ (change : TupleChange). change.space.0 ≡ entry.0) (λ (change : TupleChange). AllByRecursion (IsNewTo change) (flat_map changes_in all)) elsewhere (changes_in entry)
    (of_space (λ n. n ≡ entry.0) entry.0 entry.1 refl))
  where
    elsewhere : (change : TupleChange) → change.space.0 ≡ entry.0 → AllByRecursion (IsNewTo change) (flat_map changes_in all)
    elsewhere change here =
        all_weaker (λ (other : TupleChange). entry.0 ≢ other.space.0) (IsNewTo change) (λ other apart same key. apart (sym here ∙ same)) (flat_map changes_in all)
        (of_spaces (λ n. entry.0 ≢ n) all (all_weaker (λ n. nat_cmp entry.0 n ≡ Less) (λ n. entry.0 ≢ n) (λ n. below_apart entry.0 n) (keys_of all) rises.0))

-- ---- plain changes

spells_apart : (coded : List TupleChange) (plain : List PlainChange) → AllZip SpellsChange coded plain → AreNew coded → AreApart plain
spells_apart [] [] spell new = tt
spells_apart [] (one ∷ plain) spell new = absurd spell
spells_apart (change ∷ coded) [] spell new = absurd spell
spells_apart (change ∷ coded) (one ∷ plain) spell new = (from_first coded plain spell.1 new.0, spells_apart coded plain spell.1 new.1)
  where
    from_first : (others : List TupleChange) (some : List PlainChange) → AllZip SpellsChange others some → AllByRecursion (IsNewTo change) others → AllByRecursion (IsApart one) some
    from_first [] [] spells news = tt
    from_first [] (other ∷ some) spells news = absurd spells
    from_first (next ∷ others) [] spells news = absurd spells
    from_first (next ∷ others) (other ∷ some) spells news = (
      (λ same key. news.0 (spell.0.space ∙ same ∙ sym spells.0.space) (spell.0.key ∙ ap comparable_of key ∙ sym spells.0.key)),
      from_first others some spells.1 news.1,
    )

plain_of : (coded : List TupleChange) → AllByRecursion (λ (change : TupleChange). IsOfKey change.key) coded → (plain : List PlainChange) × AllZip SpellsChange coded plain
plain_of [] keyed = ([], tt)
plain_of (change ∷ coded) keyed =
    let others = plain_of coded keyed.1 in
    (record { space = change.space.0; key = keyed.0.0; tuple = change.tuple } ∷ others.0, (record { space = refl; key = keyed.0.2; fit = keyed.0.1; tuple = refl }, others.1))

-- ---- what an overlay has

-- a number's entry is found under it
each_found : (all : List OwnEntry) → IsStrictlySortedBy nat_cmp (keys_of all) → AllByRecursion (λ (entry : OwnEntry). lookup (is_at (nat_cmp entry.0)) all ≡ Some entry.1) all
unfolding IsStrictlySortedBy
each_found [] rises = tt
each_found (first ∷ all) rises =
    (ap (λ b. cond b (Some first.1) (lookup (is_at (nat_cmp first.0)) all)) (at_number first.0 first.0 ∙ eq-eqb first.0 first.0 refl), later all rises.0 (each_found all rises.1))
  where
    later : (some : List OwnEntry) → AllByRecursion (λ n. nat_cmp first.0 n ≡ Less) (keys_of some) → AllByRecursion (λ (entry : OwnEntry). lookup (is_at (nat_cmp entry.0)) all ≡ Some entry.1) some
        → AllByRecursion (λ (entry : OwnEntry). lookup (is_at (nat_cmp entry.0)) (first ∷ all) ≡ Some entry.1) some
    later [] below found = tt
    later (entry ∷ some) below found = (
      ap (λ b. cond b (Some first.1) (lookup (is_at (nat_cmp entry.0)) all)) (at_number entry.0 first.0 ∙ other_number first.0 entry.0 below.0) ∙ found.0,
      later some below.1 found.1,
    )

module _ (schemas : ℕ → Option Schema) (overlay : Overlay) (own : List PlainChange) (holds : HoldsOwn schemas overlay own) (rises : IsStrictlySortedBy nat_cmp (keys_of overlay.spaces.entries)) where
  abbrev pub made : List TupleChange
  made = flat_map changes_in overlay.spaces.entries

  spelled_all : (some : List OwnEntry) → AllByRecursion (λ (entry : OwnEntry). lookup (is_at (nat_cmp entry.0)) overlay.spaces.entries ≡ Some entry.1) some
      → AllByRecursion (λ (change : TupleChange). IsOfKey change.key) (flat_map changes_in some)
  spelled_all [] found = tt
  spelled_all (entry ∷ some) found =
      all_both (λ (change : TupleChange). IsOfKey change.key) (changes_in entry) (flat_map changes_in some)
      (spelled_in entry.0 entry.1 (schemas entry.0) (written_by entry.0 own) (subst (λ o. StoresOver (schemas entry.0) o (written_by entry.0 own)) found.0 (holds.each entry.0)))
      (spelled_all some found.1)

  -- what the writes are under a key, the changes tell
  own_told : (space : ℕ) (key : Key) → AreFit key → told space (comparable_of key) made ≡ get (written_by space own) key
  own_told space key fit = told_whole space (comparable_of key) overlay.spaces.entries rises ∙ by_space (overlaid space overlay) (holds.each space)
    where
      by_space : (over : Option OverlaidSpace) → StoresOver (schemas space) over (written_by space own) → told_of space (comparable_of key) over ≡ get (written_by space own) key
      by_space None none = sym (ap (λ (w : OwnWrites). get w key) none ∙ get-empty key_cmp key)
      by_space (Some over) stores = written_told (schemas space) space over (written_by space own) key stores fit

  own_fit : (space : ℕ) (key : Key) → is_some (get (written_by space own) key) ≡ true → AreFit key
  own_fit space key some = by_space (overlaid space overlay) (holds.each space)
    where
      by_space : (over : Option OverlaidSpace) → StoresOver (schemas space) over (written_by space own) → AreFit key
      by_space None none = absurd (true≢false (sym some ∙ ap is_some (ap (λ (w : OwnWrites). get w key) none ∙ get-empty key_cmp key)))
      by_space (Some over) stores = stores.fit key some

  module _ (ordered : AllByRecursion (λ (entry : OwnEntry). AreOrdered entry.1) overlay.spaces.entries) where
    abbrev all : List PlainChange
    all = (plain_of made (spelled_all overlay.spaces.entries (each_found overlay.spaces.entries rises))).0

    spell : AllZip SpellsChange made all
    spell = (plain_of made (spelled_all overlay.spaces.entries (each_found overlay.spaces.entries rises))).1

    apart : AreApart all
    apart = spells_apart made all spell (new_whole overlay.spaces.entries rises ordered)

    -- the changes write what is written
    same_written : (space : ℕ) (key : Key) → get (written_by space all) key ≡ get (written_by space own) key
    same_written space key =
        by_both (get (written_by space all) key) (get (written_by space own) key) (λ some. same (spelled_fit space key made all spell some)) (λ some. same (own_fit space key some))
      where
        same : AreFit key → get (written_by space all) key ≡ get (written_by space own) key
        same fit = spelled_is space key made all spell fit ∙ own_told space key fit

        by_both : (one other : Option (Option (List ℕ))) → (is_some one ≡ true → one ≡ other) → (is_some other ≡ true → one ≡ other) → one ≡ other
        by_both None None first second = refl
        by_both None (Some x) first second = second refl
        by_both (Some x) other first second = first refl

    stand : AllByRecursion (MayStand schemas) all
    stand =
        all_weaker (IsWritten all) (MayStand schemas) (λ change is. written_may_stand schemas own holds.stand change (sym (same_written change.space change.key) ∙ is)) all
        (all_written all apart)

    same_state : (state : State) → state_with_all state all ≡ state_with_own state own
    same_state state = all_as_own all state ∙ same_states state (reverse all) own (λ space key. get-reversed space key all apart ∙ same_written space key)

    -- these are a commit's changes
    pub commit_made : (changes : List TupleChange) → changes ≡ made → (plain : List PlainChange) × AllZip SpellsChange changes plain × AllByRecursion (MayStand schemas) plain × AreApart plain
        × ((state : State) → state_with_all state plain ≡ state_with_own state own)
    commit_made changes is = (all, subst (λ (c : List TupleChange). AllZip SpellsChange c all) (sym is) spell, stand, apart, same_state)
