-- The entries of a hash index: the one under a key, and one more.
use Rattle.std.proofs.Common.{◌≡◌, ℕ, Bool, true, false, cond, not, List, [], ◌∷◌, ◌++◌, drop, take, Option, Some, None, is_some, refl, sym, ap, ◌∙◌, true≢false, eq-eqb, T, append_assoc}
use Rattle.std.specs.Prelude.{nat_eq}
use Rattle.std.specs.BTreeMap.{insert_entry, is_at}
use Rattle.std.specs.Cmp.Lexicographic.{bytes_decides, nat_list_cmp_total, slice_cmp}
use Rattle.std.specs.FinMap as finite
use Rattle.std.specs.FinMap.{FinMap, entries, entries-from_sorted, entries-insert, entries_sorted, from_sorted, get-entries, get-from_entries, get-from_sorted, get-insert, get-remove, nat_cmp-IsAntisymmetric, slice_cmp-IsAntisymmetric}
use Rattle.std.specs.FinMap.Entries.{find-put, find-where_key, is_sorted}
use Rattle.std.specs.List.{AllByRecursion, IsDistinct}
use Rattle.std.specs.List.Sorted.{IsStrictlySortedBy}
use Rattle.std.specs.Map.{keys_of, lookup, remove_entry}
use Rattle.std.specs.Option.{option_or}
use Rattle.std.specs.Ordering.{eq_by_cmp, nat_cmp}
use Rattle.std.specs.Str.{bytes_eq}
use Rattle.std.proofs.lemmas.Bool.{eqb-true}
use Rattle.std.proofs.lemmas.List.{map-append}
use Rattle.mx_key.specs.Prefixes.{prefix_size}
use Rattle.mx_hash.specs.Views.{map_of}
use Rattle.mx_hash.proofs.TableLaws.{find_by_test, flipped_test, found, same_bytes, same_numbers, same_test}
use Rattle.mx_msgpack.proofs.Options.{same_some}
use Rattle.mx_space.specs.declared.held_entry.HeldEntry.{HeldEntry}
use Rattle.mx_entries.specs.Entries.{IndexEntry, has_entry, with_entry}
use Rattle.mx_space.specs.HashIndexes.{ArePlaced, hash_index_entries, hash_number, held_entries, held_entry, key_hash, under_own}
use Rattle.mx_entries.proofs.SortedLaws.{ascending, entries_without, find_is, put_is, without_is}

abbrev pub Held : Type 0
Held = List (ℕ × HeldEntry)

-- ---- the entry under a key

none_later : (place : ℕ) (one : ℕ) (held : Held) → nat_eq place one ≡ true → AllByRecursion (λ other. nat_eq one other ≡ false) (keys_of held) → lookup (nat_eq place) held ≡ None
none_later place one [] same apart = refl
none_later place one (next ∷ held) same apart =
    let differs : nat_eq place next.0 ≡ false = ap (λ n. nat_eq n next.0) (eqb-true place one same) ∙ apart.0 in
    ap (λ b. cond b (Some next.1) (lookup (nat_eq place) held)) differs ∙ none_later place one held same apart.1

still_later : (place : ℕ) (one : ℕ × HeldEntry) (held : Held) (entry : HeldEntry) → AllByRecursion (λ other. nat_eq one.0 other ≡ false) (keys_of held)
    → lookup (nat_eq place) held ≡ Some entry → lookup (nat_eq place) (one ∷ held) ≡ Some entry
still_later place one held entry apart there = by_test (nat_eq place one.0) refl
  where
    by_test : (same : Bool) → nat_eq place one.0 ≡ same → cond same (Some one.1) (lookup (nat_eq place) held) ≡ Some entry
    by_test true is = let none = none_later place one.0 held is apart in absurd (true≢false (ap is_some (sym there ∙ none)))
    by_test false is = there

here_is : (place : ℕ) (one : ℕ × HeldEntry) (held : Held) → place ≡ one.0 → lookup (nat_eq place) (one ∷ held) ≡ Some one.1
here_is place one held same = ap (λ b. cond b (Some one.1) (lookup (nat_eq place) held)) (eq-eqb place one.0 same)

module _ (parts : ℕ) (key : List ℕ) where
  abbrev place : ℕ
  place = key_hash parts key

  -- an entry that isn't held by its hash isn't held
  found_held : (held : Held) → IsDistinct nat_eq (keys_of held) → ArePlaced parts held → lookup (bytes_eq key) (held_entries held) ≡ under_own key (lookup (nat_eq place) held)
  unfolding IsDistinct
  found_held [] distinct placed = refl
  found_held (one ∷ held) distinct placed =
      by_test (bytes_eq key one.1.key) refl (nat_eq place one.0) refl (found_held held distinct.1 (λ n entry there. placed n entry (still_later n one held entry distinct.0 there)))
    where
      by_test : (here : Bool) → bytes_eq key one.1.key ≡ here → (same : Bool) → nat_eq place one.0 ≡ same
          → lookup (bytes_eq key) (held_entries held) ≡ under_own key (lookup (nat_eq place) held)
          → cond here (Some (drop one.1.begin one.1.key)) (lookup (bytes_eq key) (held_entries held)) ≡ under_own key (cond same (Some one.1) (lookup (nat_eq place) held))
      by_test true here same is others =
          let own = placed one.0 one.1 (here_is one.0 one held refl) in
          let placed_here : place ≡ one.0 = ap (key_hash parts) (same_bytes key one.1.key here) ∙ sym own.0 in
          sym (ap (λ b. under_own key (cond b (Some one.1) (lookup (nat_eq place) held))) (sym is ∙ eq-eqb place one.0 placed_here)
          ∙ ap (λ b. cond b (Some (drop one.1.begin one.1.key)) None) here)
      by_test false here true is others =
          others ∙ ap (under_own key) (none_later place one.0 held is distinct.0) ∙ sym (ap (λ b. cond b (Some (drop one.1.begin one.1.key)) None) here)
      by_test false here false is others = others

lookup_both : (test : List ℕ → Bool) (a b : List IndexEntry) → lookup test (a ++ b) ≡ option_or (lookup test a) (lookup test b)
lookup_both test [] b = refl
lookup_both test (entry ∷ a) b = by_test (test entry.0) (lookup_both test a b)
  where
    by_test : (here : Bool) → lookup test (a ++ b) ≡ option_or (lookup test a) (lookup test b)
        → cond here (Some entry.1) (lookup test (a ++ b)) ≡ option_or (cond here (Some entry.1) (lookup test a)) (lookup test b)
    by_test true later = refl
    by_test false later = later

pub looks : (key : List ℕ) (others : List IndexEntry) → lookup (bytes_eq key) others ≡ lookup (is_at (slice_cmp nat_cmp key)) others
looks key others = sym (find_by_test others key) ∙ find_is key others

pub some_or : (o : Option (List ℕ)) (value : List ℕ) → is_some (option_or o (Some value)) ≡ true
some_or None value = refl
some_or (Some other) value = refl

none_or : (o : Option (List ℕ)) → option_or o None ≡ o
none_or None = refl
none_or (Some other) = refl

nothing : (o : Option (List ℕ)) → is_some o ≡ false → o ≡ None
nothing None is = refl
nothing (Some value) is = absurd (true≢false is)

abbrev Map : Type 0
Map = FinMap (slice_cmp nat_cmp) (List ℕ)

module _ (parts : ℕ) (held : Held) (others : List IndexEntry) (distinct : IsDistinct nat_eq (keys_of held)) (placed : ArePlaced parts held) where
  abbrev pub all : Map
  all = map_of (others ++ held_entries held)

  pub get_is : (key : List ℕ) → finite.get all key ≡ option_or (lookup (bytes_eq key) others) (under_own key (lookup (nat_eq (key_hash parts key)) held))
  get_is key =
      found (others ++ held_entries held) key ∙ lookup_both (bytes_eq key) others (held_entries held)
      ∙ ap (option_or (lookup (bytes_eq key) others)) (found_held parts key held distinct placed)

  pub has_is : (key : List ℕ) → has_entry key (hash_index_entries held others) ≡ is_some (finite.get all key)
  has_is key = ap is_some (sym (find_is key (entries all)) ∙ sym (get-entries all key))

-- ---- one more

-- nothing is added where there is one
pub with_there : (key value : List ℕ) (kept : List IndexEntry) → has_entry key kept ≡ true → with_entry key value kept ≡ kept
with_there key value kept there = ap (λ b. cond b kept (insert_entry (slice_cmp nat_cmp) kept key value)) there

pub with_new : (key value : List ℕ) (kept : List IndexEntry) → has_entry key kept ≡ false → with_entry key value kept ≡ insert_entry (slice_cmp nat_cmp) kept key value
with_new key value kept none = ap (λ b. cond b kept (insert_entry (slice_cmp nat_cmp) kept key value)) none

-- a map that has one more
one_more : (before after : Map) (key value : List ℕ) → ((q : List ℕ) → finite.get after q ≡ cond (eq_by_cmp (slice_cmp nat_cmp) q key) (Some value) (finite.get before q))
    → entries after ≡ insert_entry (slice_cmp nat_cmp) (entries before) key value
one_more before after key value each =
    ap entries (same_numbers after (finite.insert before key value) (λ q. each q ∙ sym (get-insert nat_list_cmp_total before key value q)))
    ∙ entries-insert nat_list_cmp_total before key value ∙ put_is key value (entries before)

look_with : (q key value : List ℕ) (others : List IndexEntry)
    → lookup (bytes_eq q) (insert_entry (slice_cmp nat_cmp) others key value) ≡ cond (eq_by_cmp (slice_cmp nat_cmp) q key) (Some value) (lookup (bytes_eq q) others)
look_with q key value others =
    ap (lookup (bytes_eq q)) (sym (put_is key value others)) ∙ sym (find_by_test _ q) ∙ find-put (slice_cmp nat_cmp) nat_list_cmp_total q key value others
    ∙ ap (cond (eq_by_cmp (slice_cmp nat_cmp) q key) (Some value)) (find_by_test others q)

pub tie_is : (q key : List ℕ) → eq_by_cmp (slice_cmp nat_cmp) q key ≡ true → q ≡ key
tie_is q key same = same_bytes q key (same_test q key ∙ same)

module _ (parts : ℕ) (held : Held) (others : List IndexEntry) (distinct : IsDistinct nat_eq (keys_of held)) (placed : ArePlaced parts held) (key : List ℕ) where
  abbrev Kept : List IndexEntry
  Kept = hash_index_entries held others

  -- the one that is held by its hash
  pub has_held : (entry : HeldEntry) → lookup (nat_eq (key_hash parts key)) held ≡ Some entry → bytes_eq key entry.key ≡ true → has_entry key Kept ≡ true
  has_held entry there same =
      has_is parts held others distinct placed key ∙ ap is_some (get_is parts held others distinct placed key)
      ∙ ap (λ o. is_some (option_or (lookup (bytes_eq key) others) (under_own key o))) there
      ∙ ap (λ b. is_some (option_or (lookup (bytes_eq key) others) (cond b (Some (drop entry.begin entry.key)) None))) same
      ∙ some_or (lookup (bytes_eq key) others) (drop entry.begin entry.key)

  module _ (none : under_own key (lookup (nat_eq (key_hash parts key)) held) ≡ None) where
    -- else it is one of the others
    pub has_other : has_entry key Kept ≡ has_entry key others
    has_other =
        has_is parts held others distinct placed key ∙ ap is_some (get_is parts held others distinct placed key)
        ∙ ap (λ o. is_some (option_or (lookup (bytes_eq key) others) o)) none ∙ ap is_some (none_or (lookup (bytes_eq key) others) ∙ looks key others)

    pub with_other : (value : List ℕ) → hash_index_entries held (with_entry key value others) ≡ with_entry key value Kept
    with_other value = by_test (has_entry key others) refl
      where
        new : List IndexEntry
        new = insert_entry (slice_cmp nat_cmp) others key value

        each : (q : List ℕ) → finite.get (all parts held new distinct placed) q ≡ cond (eq_by_cmp (slice_cmp nat_cmp) q key) (Some value) (finite.get (all parts held others distinct placed) q)
        each q =
            get_is parts held new distinct placed q ∙ ap (λ o. option_or o (under_own q (lookup (nat_eq (key_hash parts q)) held))) (look_with q key value others)
            ∙ by_tie (eq_by_cmp (slice_cmp nat_cmp) q key)
            ∙ sym (ap (cond (eq_by_cmp (slice_cmp nat_cmp) q key) (Some value)) (get_is parts held others distinct placed q))
          where
            by_tie : (tied : Bool) → option_or (cond tied (Some value) (lookup (bytes_eq q) others)) (under_own q (lookup (nat_eq (key_hash parts q)) held))
                ≡ cond tied (Some value) (option_or (lookup (bytes_eq q) others) (under_own q (lookup (nat_eq (key_hash parts q)) held)))
            by_tie true = refl
            by_tie false = refl

        by_test : (there : Bool) → has_entry key others ≡ there → hash_index_entries held (with_entry key value others) ≡ with_entry key value Kept
        by_test true is = ap (hash_index_entries held) (with_there key value others is) ∙ sym (with_there key value Kept (has_other ∙ is))
        by_test false is =
            ap (hash_index_entries held) (with_new key value others is)
            ∙ one_more (all parts held others distinct placed) (all parts held new distinct placed) key value each
            ∙ sym (with_new key value Kept (has_other ∙ is))

  -- it is held where none is by its hash, and it isn't one of the others
  module _ (now : Held) (entry : HeldEntry) (value : List ℕ) (free : lookup (nat_eq (key_hash parts key)) held ≡ None)
      (set : (n : ℕ) → lookup (nat_eq n) now ≡ cond (nat_eq (key_hash parts key) n) (Some entry) (lookup (nat_eq n) held))
      (key_is : entry.key ≡ key) (begin_is : entry.begin ≡ prefix_size parts key) (value_is : drop entry.begin key ≡ value) where
    pub placed_too : ArePlaced parts now
    placed_too n one there = by_place (nat_eq (key_hash parts key) n) refl (sym (set n) ∙ there)
      where
        by_place : (same : Bool) → nat_eq (key_hash parts key) n ≡ same → cond same (Some entry) (lookup (nat_eq n) held) ≡ Some one
            → (n ≡ key_hash parts one.key) × (one.begin ≡ prefix_size parts one.key)
        by_place true is found =
            let own = same_some entry one found in
            let named : key ≡ one.key = sym key_is ∙ ap (λ (h : HeldEntry). h.key) own in
            (sym (eqb-true (key_hash parts key) n is) ∙ ap (key_hash parts) named, ap (λ (h : HeldEntry). h.begin) (sym own) ∙ begin_is ∙ ap (prefix_size parts) named)
        by_place false is found = placed n one found

    pub with_held : IsDistinct nat_eq (keys_of now) → has_entry key others ≡ false → hash_index_entries now others ≡ with_entry key value Kept
    with_held distinct_now absent =
        one_more (all parts held others distinct placed) (all parts now others distinct_now placed_too) key value each
        ∙ sym (with_new key value Kept (has_other (ap (under_own key) free) ∙ absent))
      where
        each : (q : List ℕ) → finite.get (all parts now others distinct_now placed_too) q ≡ cond (eq_by_cmp (slice_cmp nat_cmp) q key) (Some value) (finite.get (all parts held others distinct placed) q)
        each q =
            get_is parts now others distinct_now placed_too q ∙ ap (λ o. option_or (lookup (bytes_eq q) others) (under_own q o)) (set (key_hash parts q))
            ∙ by_tie (eq_by_cmp (slice_cmp nat_cmp) q key) refl
            ∙ sym (ap (cond (eq_by_cmp (slice_cmp nat_cmp) q key) (Some value)) (get_is parts held others distinct placed q))
          where
            at : ℕ
            at = key_hash parts q

            by_place : (same : Bool) → nat_eq (key_hash parts key) at ≡ same → eq_by_cmp (slice_cmp nat_cmp) q key ≡ false
                → option_or (lookup (bytes_eq q) others) (under_own q (cond same (Some entry) (lookup (nat_eq at) held))) ≡ option_or (lookup (bytes_eq q) others) (under_own q (lookup (nat_eq at) held))
            by_place true same differs =
                let other : bytes_eq q entry.key ≡ false = ap (bytes_eq q) key_is ∙ same_test q key ∙ differs in
                let none : lookup (nat_eq at) held ≡ None = ap (λ n. lookup (nat_eq n) held) (sym (eqb-true (key_hash parts key) at same)) ∙ free in
                ap (λ b. option_or (lookup (bytes_eq q) others) (cond b (Some (drop entry.begin entry.key)) None)) other
                ∙ sym (ap (λ o. option_or (lookup (bytes_eq q) others) (under_own q o)) none)
            by_place false same differs = refl

            by_tie : (tied : Bool) → eq_by_cmp (slice_cmp nat_cmp) q key ≡ tied
                → option_or (lookup (bytes_eq q) others) (under_own q (cond (nat_eq (key_hash parts key) at) (Some entry) (lookup (nat_eq at) held)))
                ≡ cond tied (Some value) (option_or (lookup (bytes_eq q) others) (under_own q (lookup (nat_eq at) held)))
            by_tie true is =
                let same = tie_is q key is in
                let here : bytes_eq q entry.key ≡ true = ap (bytes_eq q) (key_is ∙ sym same) ∙ (bytes_decides q q).1 refl in
                let none : lookup (bytes_eq q) others ≡ None = ap (λ k. lookup (bytes_eq k) others) same ∙ looks key others ∙ nothing (lookup (is_at (slice_cmp nat_cmp key)) others) absent in
                ap (λ b. option_or (lookup (bytes_eq q) others) (under_own q (cond b (Some entry) (lookup (nat_eq at) held)))) (eq-eqb (key_hash parts key) at (ap (key_hash parts) (sym same)))
                ∙ ap (λ b. option_or (lookup (bytes_eq q) others) (cond b (Some (drop entry.begin entry.key)) None)) here
                ∙ ap (λ o. option_or o (Some (drop entry.begin entry.key))) none
                ∙ ap Some (ap (drop entry.begin) key_is ∙ value_is)
            by_tie false is = by_place (nat_eq (key_hash parts key) at) refl is

-- ---- one less

pub one_less : (before after : Map) (key : List ℕ) → ((q : List ℕ) → finite.get after q ≡ cond (eq_by_cmp (slice_cmp nat_cmp) q key) None (finite.get before q))
    → entries after ≡ remove_entry (is_at (slice_cmp nat_cmp key)) (entries before)
one_less before after key each =
    ap entries (same_numbers after (finite.remove before key) (λ q. each q ∙ sym (get-remove nat_list_cmp_total before key q)))
    ∙ entries_without nat_list_cmp_total (slice_cmp-IsAntisymmetric nat_cmp-IsAntisymmetric) before key ∙ without_is key (entries before) (entries_sorted before)

abbrev apart_from : (key other : List ℕ) → Bool
apart_from key other = not (eq_by_cmp (slice_cmp nat_cmp) key other)

-- entries without one under a key
pub look_without : (key : List ℕ) (others : List IndexEntry) → T (is_sorted (slice_cmp nat_cmp) others) → (q : List ℕ)
    → lookup (bytes_eq q) (remove_entry (is_at (slice_cmp nat_cmp key)) others) ≡ cond (eq_by_cmp (slice_cmp nat_cmp) q key) None (lookup (bytes_eq q) others)
look_without key others sorted q =
    ap (lookup (bytes_eq q)) (sym (without_is key others sorted)) ∙ sym (find_by_test _ q)
    ∙ find-where_key (slice_cmp nat_cmp) (apart_from key) q (λ x e. ap (apart_from key) (sym (slice_cmp-IsAntisymmetric nat_cmp-IsAntisymmetric q x e))) others
    ∙ ap (λ o. cond (apart_from key q) o None) (find_by_test others q)
    ∙ by_test (eq_by_cmp (slice_cmp nat_cmp) key q)
    ∙ ap (λ b. cond b None (lookup (bytes_eq q) others)) (sym (same_test key q) ∙ flipped_test key q ∙ same_test q key)
  where
    by_test : (same : Bool) → cond (not same) (lookup (bytes_eq q) others) None ≡ cond same None (lookup (bytes_eq q) others)
    by_test true = refl
    by_test false = refl

module _ (parts : ℕ) (held : Held) (others : List IndexEntry) (distinct : IsDistinct nat_eq (keys_of held)) (placed : ArePlaced parts held) (key : List ℕ) where
  -- what is held now has no entry under the key, and else what it had; and so have the others
  pub without_both : (now : Held) (left : List IndexEntry) (distinct_now : IsDistinct nat_eq (keys_of now)) (placed_now : ArePlaced parts now)
      → ((q : List ℕ) → under_own q (lookup (nat_eq (key_hash parts q)) now) ≡ cond (eq_by_cmp (slice_cmp nat_cmp) q key) None (under_own q (lookup (nat_eq (key_hash parts q)) held)))
      → ((q : List ℕ) → lookup (bytes_eq q) left ≡ cond (eq_by_cmp (slice_cmp nat_cmp) q key) None (lookup (bytes_eq q) others))
      → hash_index_entries now left ≡ remove_entry (is_at (slice_cmp nat_cmp key)) (hash_index_entries held others)
  without_both now left distinct_now placed_now held_is left_is =
      one_less (all parts held others distinct placed) (all parts now left distinct_now placed_now) key (λ q.
      get_is parts now left distinct_now placed_now q ∙ (λ i. option_or (left_is q i) (held_is q i)) ∙ by_tie q (eq_by_cmp (slice_cmp nat_cmp) q key)
      ∙ sym (ap (cond (eq_by_cmp (slice_cmp nat_cmp) q key) None) (get_is parts held others distinct placed q)))
    where
      by_tie : (q : List ℕ) (tied : Bool)
          → option_or (cond tied None (lookup (bytes_eq q) others)) (cond tied None (under_own q (lookup (nat_eq (key_hash parts q)) held)))
          ≡ cond tied None (option_or (lookup (bytes_eq q) others) (under_own q (lookup (nat_eq (key_hash parts q)) held)))
      by_tie q true = refl
      by_tie q false = refl

  -- nothing is held under the key
  pub held_apart : under_own key (lookup (nat_eq (key_hash parts key)) held) ≡ None → (q : List ℕ)
      → under_own q (lookup (nat_eq (key_hash parts q)) held) ≡ cond (eq_by_cmp (slice_cmp nat_cmp) q key) None (under_own q (lookup (nat_eq (key_hash parts q)) held))
  held_apart none q = by_tie (eq_by_cmp (slice_cmp nat_cmp) q key) refl
    where
      by_tie : (tied : Bool) → eq_by_cmp (slice_cmp nat_cmp) q key ≡ tied
          → under_own q (lookup (nat_eq (key_hash parts q)) held) ≡ cond tied None (under_own q (lookup (nat_eq (key_hash parts q)) held))
      by_tie true is = ap (λ k. under_own k (lookup (nat_eq (key_hash parts k)) held)) (tie_is q key is) ∙ none
      by_tie false is = refl

  module _ (now : Held) (entry : HeldEntry) (found : lookup (nat_eq (key_hash parts key)) held ≡ Some entry) (same : bytes_eq key entry.key ≡ true)
      (gone : (n : ℕ) → lookup (nat_eq n) now ≡ cond (nat_eq (key_hash parts key) n) None (lookup (nat_eq n) held)) where
    pub placed_still : ArePlaced parts now
    placed_still n one there = by_place (nat_eq (key_hash parts key) n) (sym (gone n) ∙ there)
      where
        by_place : (here : Bool) → cond here None (lookup (nat_eq n) held) ≡ Some one → (n ≡ key_hash parts one.key) × (one.begin ≡ prefix_size parts one.key)
        by_place true is = absurd cc
        by_place false is = placed n one is

    -- the one that was held under the key is gone
    pub held_gone : (q : List ℕ) → under_own q (lookup (nat_eq (key_hash parts q)) now) ≡ cond (eq_by_cmp (slice_cmp nat_cmp) q key) None (under_own q (lookup (nat_eq (key_hash parts q)) held))
    held_gone q = ap (under_own q) (gone (key_hash parts q)) ∙ by_tie (eq_by_cmp (slice_cmp nat_cmp) q key) refl
      where
        at : ℕ
        at = key_hash parts q

        by_place : (here : Bool) → nat_eq (key_hash parts key) at ≡ here → eq_by_cmp (slice_cmp nat_cmp) q key ≡ false
            → under_own q (cond here None (lookup (nat_eq at) held)) ≡ under_own q (lookup (nat_eq at) held)
        by_place true is differs =
            let there : lookup (nat_eq at) held ≡ Some entry = ap (λ n. lookup (nat_eq n) held) (sym (eqb-true (key_hash parts key) at is)) ∙ found in
            let other : bytes_eq q entry.key ≡ false = ap (bytes_eq q) (sym (same_bytes key entry.key same)) ∙ same_test q key ∙ differs in
            sym (ap (under_own q) there ∙ ap (λ b. cond b (Some (drop entry.begin entry.key)) None) other)
        by_place false is differs = refl

        by_tie : (tied : Bool) → eq_by_cmp (slice_cmp nat_cmp) q key ≡ tied
            → under_own q (cond (nat_eq (key_hash parts key) at) None (lookup (nat_eq at) held)) ≡ cond tied None (under_own q (lookup (nat_eq at) held))
        by_tie true is =
            ap (λ b. under_own q (cond b None (lookup (nat_eq at) held))) (eq-eqb (key_hash parts key) at (ap (key_hash parts) (sym (tie_is q key is))))
        by_tie false is = by_place (nat_eq (key_hash parts key) at) refl is

-- ---- all entries, one by one

module _ (kept : List IndexEntry) (key value : List ℕ) where
  abbrev pub pushed_list : List IndexEntry
  pushed_list = kept ++ (key, value) ∷ []

  get_pushed : (q : List ℕ) → finite.get (map_of pushed_list) q ≡ option_or (lookup (bytes_eq q) kept) (cond (bytes_eq q key) (Some value) None)
  get_pushed q = found pushed_list q ∙ lookup_both (bytes_eq q) kept ((key, value) ∷ [])

  -- one more, unless there is one under its key
  pub pushed : with_entry key value (entries (map_of kept)) ≡ entries (map_of pushed_list)
  pushed = by_test (has_entry key (entries (map_of kept))) refl
    where
      has : has_entry key (entries (map_of kept)) ≡ is_some (lookup (bytes_eq key) kept)
      has = ap is_some (sym (find_is key (entries (map_of kept))) ∙ sym (get-entries (map_of kept) key) ∙ found kept key)

      there : (q : List ℕ) → is_some (lookup (bytes_eq key) kept) ≡ true → (tied : Bool) → bytes_eq q key ≡ tied
          → option_or (lookup (bytes_eq q) kept) (cond tied (Some value) None) ≡ lookup (bytes_eq q) kept
      there q some true is = by_found (lookup (bytes_eq q) kept) (ap (λ k. is_some (lookup (bytes_eq k) kept)) (same_bytes q key is) ∙ some)
        where
          by_found : (o : Option (List ℕ)) → is_some o ≡ true → option_or o (Some value) ≡ o
          by_found None never = absurd (true≢false (sym never))
          by_found (Some other) is_there = refl
      there q some false is = none_or (lookup (bytes_eq q) kept)

      new : (q : List ℕ) → lookup (bytes_eq key) kept ≡ None → (tied : Bool) → bytes_eq q key ≡ tied
          → option_or (lookup (bytes_eq q) kept) (cond tied (Some value) None) ≡ cond tied (Some value) (lookup (bytes_eq q) kept)
      new q none true is = ap (λ o. option_or o (Some value)) (ap (λ k. lookup (bytes_eq k) kept) (same_bytes q key is) ∙ none)
      new q none false is = none_or (lookup (bytes_eq q) kept)

      by_test : (b : Bool) → has_entry key (entries (map_of kept)) ≡ b → with_entry key value (entries (map_of kept)) ≡ entries (map_of pushed_list)
      by_test true is =
          with_there key value (entries (map_of kept)) is
          ∙ ap entries (same_numbers (map_of kept) (map_of pushed_list) (λ q. found kept q ∙ sym (get_pushed q ∙ there q (sym has ∙ is) (bytes_eq q key) refl)))
      by_test false is =
          with_new key value (entries (map_of kept)) is
          ∙ sym (one_more (map_of kept) (map_of pushed_list) key value (λ q.
          get_pushed q ∙ new q (nothing (lookup (bytes_eq key) kept) (sym has ∙ is)) (bytes_eq q key) refl
          ∙ (λ i. cond (same_test q key i) (Some value) (sym (found kept q) i))))

-- those that are held, and one more of them
pub entries_more : (before : List IndexEntry) (front : Held) (place : ℕ) (entry : HeldEntry)
    → (before ++ held_entries front) ++ (entry.key, drop entry.begin entry.key) ∷ [] ≡ before ++ held_entries (front ++ (place, entry) ∷ [])
entries_more before front place entry =
    append_assoc before (held_entries front) ((entry.key, drop entry.begin entry.key) ∷ [])
    ∙ ap (λ (l : List IndexEntry). before ++ l) (sym (map-append (λ (one : ℕ × HeldEntry). held_entry one.1) front ((place, entry) ∷ [])))

-- entries in order are those of their map
pub in_order : (kept : List IndexEntry) → IsStrictlySortedBy (slice_cmp nat_cmp) (keys_of kept) → entries (map_of kept) ≡ kept
in_order kept ordered =
    let sorted = ascending (slice_cmp nat_cmp) kept ordered in
    ap entries (same_numbers (map_of kept) (from_sorted kept) (λ q. get-from_entries nat_list_cmp_total kept q ∙ sym (get-from_sorted (slice_cmp nat_cmp) kept q sorted)))
    ∙ entries-from_sorted (slice_cmp nat_cmp) kept sorted

pub bytes_same : (one other : List ℕ) → false ≡ not (bytes_eq one other) → one ≡ other
bytes_same one other is = same_bytes one other (by_test (bytes_eq one other) is)
  where
    by_test : (b : Bool) → false ≡ not b → b ≡ true
    by_test true is = refl
    by_test false is = absurd (true≢false (sym is))

-- ---- the hash of a key's front, as it is worked out

pub place_is : (parts begin number : ℕ) (key bytes whole own : List ℕ) → number ≡ hash_number own → own ≡ take begin whole → whole ≡ key → begin ≡ prefix_size parts bytes → bytes ≡ key
    → number ≡ key_hash parts key
place_is parts begin number key bytes whole own is own_is whole_is begin_is bytes_are =
    is ∙ ap hash_number (own_is ∙ (λ i. take ((begin_is ∙ ap (prefix_size parts) bytes_are) i) (whole_is i)))
