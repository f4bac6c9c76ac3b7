-- What two spaces' tuples have the same of an index where they have the same tuples in a range of its keys.
use Rattle.std.proofs.Common.{◌≡◌, ℕ, zero, suc, Bool, true, false, ◌&&◌, ◌||◌, List, [], ◌∷◌, ◌++◌, Some, refl, sym, ap, ◌∙◌, arith, eq-eqb, cond, filter, Option, None}
use Rattle.std.specs.Prelude.{◌==◌, if◌then◌else◌}
use Rattle.std.specs.List.{Contains, list_any}
use Rattle.std.proofs.lemmas.List.Folds.{list_any-append}
use Rattle.std.specs.FinMap.{empty, entries, find, entries_sorted, get, get-entries}
use Rattle.std.specs.FinMap.Entries.{find-where_key, is_sorted-where_key, same_entries, where_key}
use Rattle.mx_key.specs.Keys.{Key, key_cmp}
use Rattle.mx_key.specs.Ranges.{Range, lies_in}
use Rattle.mx_schema.specs.declared.index_def.IndexDef.{IndexDef}
use Rattle.mx_schema.specs.Picks.{entry_key, Indexed, indexed_with, tuples_by_index}
use Rattle.mx_schema.specs.State.{State, Tuples}
use Rattle.mx_write.specs.Reads.{Read}
use Rattle.mx_write.specs.Touches.{Touched, index_by_state, is_met, lies_in_index, are_met}
use Rattle.mx_key.proofs.KeyLaws.{key_cmp-IsAntisymmetric, key_cmp_total}
use Rattle.mx_entries.proofs.IndexedLaws.{AreApart, held_is, held_there}

-- ---- what reads say that meet nothing which was touched

-- neither of two tests holds
pub both_false : (a b : Bool) → (a || b) ≡ false → (a ≡ false) × (b ≡ false)
both_false true b e = absurd cc
both_false false b e = (refl, e)

-- none of a list passes a test that no element passes
none_passes : {X : Type 0} (test : X → Bool) (xs : List X) (x : X) → list_any test xs ≡ false → Contains xs x → test x ≡ false
none_passes test [] x none (k, within, at) = absurd (omega arith)
none_passes test (y ∷ xs) x none (zero, within, at) = ap test (sym at) ∙ (both_false (test y) (list_any test xs) none).0
none_passes test (y ∷ xs) x none (suc k, within, at) = none_passes test xs x (both_false (test y) (list_any test xs) none).1 (k, omega arith, at)

-- the key of a tuple in an index: the primary key in the index of the number 0
abbrev pub index_key : IndexDef → Key → (tuple : List ℕ) → Key
index_key def key tuple = if def.id.0 == 0 then key else entry_key def key tuple

module _ (one : State) (touched : List Touched) where
  -- nothing that was touched meets these reads
  abbrev pub AreMissed : List Read → Type 0
  AreMissed reads = are_met one touched reads ≡ false

  pub missed_parts : (reads more : List Read) → AreMissed (reads ++ more) → AreMissed reads × AreMissed more
  missed_parts reads more missed =
      both_false (are_met one touched reads) (are_met one touched more) (sym (list_any-append (λ read. list_any (is_met one read) touched) reads more) ∙ missed)

  pub missed_both : (reads more : List Read) → AreMissed reads → AreMissed more → AreMissed (reads ++ more)
  missed_both reads more first second =
      list_any-append (λ read. list_any (is_met one read) touched) reads more ∙ ap (λ b. b || are_met one touched more) first ∙ second

  -- the key of a tuple that was touched lies outside of a range that was read
  pub missed_key : (space index : ℕ) (range : Range) (def : IndexDef) (key : Key) (tuple : List ℕ) → AreMissed (record { space = space; index = index; range = range } ∷ [])
      → index_by_state one space index ≡ Some def → Contains touched (record { space = space; key = key; tuple = tuple }) → lies_in range (index_key def key tuple) ≡ false
  missed_key space index range def key tuple missed is was =
      ap (λ o. lies_in_index o range at) (sym is)
      ∙ ap (λ b. b && lies_in_index (index_by_state one space index) range at) (sym (eq-eqb space space refl))
      ∙ none_passes (is_met one read) touched at (both_false (list_any (is_met one read) touched) false missed).0 was
    where
      at : Touched
      at = record { space = space; key = key; tuple = tuple }

      read : Read
      read = record { space = space; index = index; range = range }

-- ---- what two spaces' tuples have the same of an index where they have the same tuples in a range of its keys

pub same_option : {X : Type 0} (o p : Option X) → ((x : X) → o ≡ Some x → p ≡ Some x) → ((x : X) → p ≡ Some x → o ≡ Some x) → o ≡ p
same_option None None there back = refl
same_option None (Some x) there back = back x refl
same_option (Some x) p there back = sym (there x refl)

-- each tuple of the one whose key in the index lies in the range is one of the other, under the same primary key
abbrev pub Keeps : IndexDef → Range → (one other : Tuples) → Type 0
Keeps def range one other = (key : Key) (tuple : List ℕ) → lies_in range (index_key def key tuple) ≡ true → get one key ≡ Some tuple → get other key ≡ Some tuple

-- and the other way round
pub record AreAlike (def : IndexDef) (range : Range) (one other : Tuples) : Type 0 where
  pub there : Keeps def range one other
  pub back : Keeps def range other one

module _ (def : IndexDef) (range : Range) (key : Key) (lies : lies_in range key ≡ true) where
  found_there : (one other : Tuples) → AreApart def one → AreApart def other → (def.id.0 == 0) ≡ false → Keeps def range one other
      → (tuple : List ℕ) → get (indexed_with def empty (entries one)) key ≡ Some tuple → get (indexed_with def empty (entries other)) key ≡ Some tuple
  found_there one other apart still is_other keeps tuple is =
      let held = held_there def one apart key tuple is in
      let its_key : index_key def held.0 tuple ≡ key = ap (λ b. if b then held.0 else entry_key def held.0 tuple) is_other ∙ held.2 in
      held_is def other still key held.0 tuple (keeps held.0 tuple (ap (lies_in range) its_key ∙ lies) held.1) held.2

  -- under a key of the range both indexes have the same
  pub found_alike : (one other : Tuples) → AreApart def one → AreApart def other → AreAlike def range one other
      → get (tuples_by_index def one) key ≡ get (tuples_by_index def other) key
  found_alike one other apart still alike = by_test (def.id.0 == 0) refl
    where
      by_test : (b : Bool) → (def.id.0 == 0) ≡ b → get (if b then one else indexed_with def empty (entries one)) key ≡ get (if b then other else indexed_with def empty (entries other)) key
      by_test true is =
          let in_range : (tuple : List ℕ) → lies_in range (index_key def key tuple) ≡ true =
          λ tuple. ap (λ b. lies_in range (if b then key else entry_key def key tuple)) is ∙ lies in
          same_option (get one key) (get other key) (λ tuple. alike.there key tuple (in_range tuple)) (λ tuple. alike.back key tuple (in_range tuple))
      by_test false is =
          same_option (get (indexed_with def empty (entries one)) key) (get (indexed_with def empty (entries other)) key)
          (found_there one other apart still is alike.there) (found_there other one still apart is alike.back)

-- where two maps have the same under each key that passes a test, the entries that pass it are the same
pub passing_same : (test : Key → Bool) (one other : Tuples) → ((key : Key) → test key ≡ true → get one key ≡ get other key)
    → filter (λ (entry : Indexed). test entry.0) (entries one) ≡ filter (λ (entry : Indexed). test entry.0) (entries other)
passing_same test one other same =
    same_entries key_cmp key_cmp_total key_cmp-IsAntisymmetric (where_key key_cmp test (entries one)) (where_key key_cmp test (entries other))
    (is_sorted-where_key key_cmp test (entries one) (entries_sorted one)) (is_sorted-where_key key_cmp test (entries other) (entries_sorted other))
    (λ q. found one q ∙ by_test q (test q) refl ∙ sym (found other q))
  where
    found : (map : Tuples) (q : Key) → find key_cmp q (where_key key_cmp test (entries map)) ≡ cond (test q) (get map q) None
    found map q =
        find-where_key key_cmp test q (λ x e. ap test (sym (key_cmp-IsAntisymmetric q x e))) (entries map)
        ∙ ap (λ (o : Option (List ℕ)). cond (test q) o None) (sym (get-entries map q))

    by_test : (q : Key) (b : Bool) → test q ≡ b → cond b (get one q) None ≡ cond b (get other q) None
    by_test q true passes = same q passes
    by_test q false fails = refl
