-- Whether a new index can be made of some tuples, as the plain slow program finds it out with the keys that it has seen.
use Rattle.std.proofs.Common.{◌≡◌, ℕ, suc, ◌+◌, Bool, true, false, cond, ◌&&◌, List, [], ◌∷◌, ◌++◌, map, drop, get_or, length, ◌<◌, ◌≤◌, Option, Some, None, Result, Ok, Err, refl, sym, ap, ◌∙◌, subst, T, add-one, append-nil}
use Rattle.std.specs.Prelude.{◌||◌, ◌==◌, is_some, if◌then◌else◌}
use Rattle.std.specs.declared.cmp.Ordering.{Ordering}
use Rattle.std.specs.declared.cmp.Ordering.TheVariants.{Less, Equal, Greater}
use Rattle.std.specs.FinMap.{empty, entries, entries-insert, entries_sorted, get, get-empty, get-entries, get-insert, insert}
use Rattle.std.specs.FinMap.Entries.{below_all, by_order, find, is_sorted, put}
use Rattle.std.specs.List.{AllByRecursion, list_any}
use Rattle.std.specs.Option.{option_or}
use Rattle.std.specs.Ordering.{eq_by_cmp, is_eq, is_lt, ordering_reverse}
use Rattle.std.specs.Str.{bytes_eq}
use Rattle.std.proofs.lemmas.Bool.{eqb-true}
use Rattle.std.proofs.lemmas.List.{drop_all}
use Rattle.std.proofs.lemmas.List.Folds.{list_any-append}
use Rattle.std.proofs.Math.Seq.{drop-cons}
use Rattle.mx_key.specs.declared.fault.NoKey.{NoKey}
use Rattle.mx_key.specs.Comparable.{comparable_of}
use Rattle.mx_key.specs.Keys.{Key, AreFit, key_cmp}
use Rattle.mx_key.proofs.KeyLaws.{key_cmp_total}
use Rattle.mx_schema.specs.declared.index_def.IndexDef.{IndexDef}
use Rattle.mx_schema.specs.declared.keyed.Keyed.{Keyed}
use Rattle.mx_schema.specs.Picks.{Indexed, entry_key, indexed_with, tuples_by_index}
use Rattle.mx_schema.specs.State.{Tuples, key_in, key_or_none}
use Rattle.mx_schema.specs.Stored.{StoredTuple, StoresTuples, stored_list, stored_tuple, stored_view}
use Rattle.mx_schema.proofs.OrderLaws.{both, lt_is}
use Rattle.mx_schema.proofs.StoredLaws.{no_entries}
use Rattle.mx_entries.specs.declared.build_fault.BuildFault.TheVariants.{Duplicate, LacksKey}
use Rattle.mx_entries.specs.Builds.{build_fault, build_fault_from, row_fault}
use Rattle.mx_write.proofs.UniqueLaws.{same_by_bytes}

-- ---- tuples that have a key

module _ (def : IndexDef) (wanted : Key) where
  abbrev has : (tuple : List ℕ) → Bool
  has tuple = eq_by_cmp key_cmp wanted (key_or_none (key_in def.key tuple))

  abbrev is_had : List Indexed → Bool
  is_had [] = false
  is_had (entry ∷ all) = has entry.1 || is_had all

  -- in a unique index they are what it finds
  module _ (unique : def.unique ≡ true) where
    key_is : (entry : Indexed) → entry_key def entry.0 entry.1 ≡ key_or_none (key_in def.key entry.1)
    key_is entry = ap (λ b. key_or_none (key_in def.key entry.1) ++ (if b then [] else entry.0)) unique ∙ append-nil (key_or_none (key_in def.key entry.1))

    under : (before : Tuples) (entry : Indexed) → is_some (get (insert before (entry_key def entry.0 entry.1) entry.1) wanted) ≡ (has entry.1 || is_some (get before wanted))
    under before entry =
        ap is_some (get-insert key_cmp_total before (entry_key def entry.0 entry.1) entry.1 wanted)
        ∙ ap (λ k. is_some (cond (eq_by_cmp key_cmp wanted k) (Some entry.1) (get before wanted))) (key_is entry) ∙ by_test (has entry.1)
      where
        by_test : (b : Bool) → is_some (cond b (Some entry.1) (get before wanted)) ≡ (b || is_some (get before wanted))
        by_test true = refl
        by_test false = refl

    swapped : (one two three : Bool) → (one || (two || three)) ≡ ((two || one) || three)
    swapped true true three = refl
    swapped true false three = refl
    swapped false true three = refl
    swapped false false three = refl

    found_with : (before : Tuples) (all : List Indexed) → is_some (get (indexed_with def before all) wanted) ≡ (is_had all || is_some (get before wanted))
    found_with before [] = refl
    found_with before (entry ∷ all) =
        found_with (insert before (entry_key def entry.0 entry.1) entry.1) all ∙ ap (λ b. is_had all || b) (under before entry)
        ∙ swapped (is_had all) (has entry.1) (is_some (get before wanted))

    or_none : (b : Bool) → (b || is_some (get (empty {X = List ℕ} {R = key_cmp}) wanted)) ≡ b
    or_none b = ap (λ (o : Option (List ℕ)). b || is_some o) (get-empty key_cmp wanted) ∙ by_test b
      where
        by_test : (b : Bool) → (b || false) ≡ b
        by_test true = refl
        by_test false = refl

    found_by_index : (tuples : Tuples) → (def.id.0 == 0) ≡ false → is_some (get (tuples_by_index def tuples) wanted) ≡ is_had (entries tuples)
    found_by_index tuples other =
        ap (λ b. is_some (get (if b then tuples else indexed_with def empty (entries tuples)) wanted)) other ∙ found_with empty (entries tuples) ∙ or_none (is_had (entries tuples))

  -- with a tuple more
  had_put : (own : Key) (tuple : List ℕ) (all : List Indexed) → find key_cmp own all ≡ None → is_had (put key_cmp own tuple all) ≡ (is_had all || has tuple)
  had_put own tuple [] absent = by_test (has tuple)
    where
      by_test : (b : Bool) → (b || false) ≡ (false || b)
      by_test true = refl
      by_test false = refl
  had_put own tuple (entry ∷ all) absent = by_case (key_cmp own entry.0) refl absent (had_put own tuple all)
    where
      moved : (one two three : Bool) → (one || (two || three)) ≡ ((two || three) || one)
      moved true true three = refl
      moved true false true = refl
      moved true false false = refl
      moved false true three = refl
      moved false false true = refl
      moved false false false = refl

      grouped : (one two three : Bool) → (one || (two || three)) ≡ ((one || two) || three)
      grouped true two three = refl
      grouped false two three = refl

      by_case : (o : Ordering) → key_cmp own entry.0 ≡ o → cond (is_eq o) (Some entry.1) (find key_cmp own all) ≡ None
          → (find key_cmp own all ≡ None → is_had (put key_cmp own tuple all) ≡ (is_had all || has tuple))
          → is_had (by_order o ((own, tuple) ∷ entry ∷ all) ((entry.0, tuple) ∷ all) (entry ∷ put key_cmp own tuple all)) ≡ ((has entry.1 || is_had all) || has tuple)
      by_case Less e none later = moved (has tuple) (has entry.1) (is_had all)
      by_case Equal e none later = absurd cc
      by_case Greater e none later = ap (λ b. has entry.1 || b) (later none) ∙ grouped (has entry.1) (is_had all) (has tuple)

  had_more : (before : Tuples) (own : Key) (tuple : List ℕ) → get before own ≡ None → is_had (entries (insert before own tuple)) ≡ (is_had (entries before) || has tuple)
  had_more before own tuple absent =
      ap is_had (entries-insert key_cmp_total before own tuple) ∙ had_put own tuple (entries before) (sym (get-entries before own) ∙ absent)

-- ---- tuple by tuple

-- a key's bytes are among those that were seen
abbrev pub is_seen : (bytes : List ℕ) → List (List ℕ) → Bool
is_seen bytes seen = list_any (λ one. bytes_eq one bytes) seen

-- some of the tuples were seen, and had no fault, and the others are to come
pub record PartSeen (def : IndexDef) (all : Tuples) (seen : List (List ℕ)) (left : List StoredTuple) : Type 0 where
  pub so_far : Tuples
  pub others : List Indexed
  pub fault_is : build_fault def all ≡ build_fault_from def so_far others
  pub among : def.unique ≡ true → (key : Key) → AreFit key → is_seen (comparable_of key) seen ≡ is_had def key (entries so_far)
  pub first : def.id.0 ≡ 0 → others ≡ []
  pub to_come : map stored_tuple others ≡ left
  pub absent : AllByRecursion (λ (entry : Indexed). get so_far entry.0 ≡ None) others
  pub sorted : T (is_sorted key_cmp others)

pub none_seen : (def : IndexDef) (all : Tuples) (seen : List (List ℕ)) (stored left : List StoredTuple) → seen ≡ [] → left ≡ stored → StoresTuples stored all
    → (def.id.0 ≡ 0 → all ≡ empty) → PartSeen def all seen left
none_seen def all seen stored left none is stores may = record {
  so_far = empty;
  others = entries all;
  fault_is = refl;
  among = λ unique key fit. ap (is_seen (comparable_of key)) none ∙ ap (is_had def key) (sym no_entries);
  first = λ zero. ap entries (may zero) ∙ no_entries;
  to_come = stores.same ∙ sym is;
  absent = each_absent (entries all);
  sorted = entries_sorted all;
}
  where
    each_absent : (some : List Indexed) → AllByRecursion (λ (entry : Indexed). get (empty {X = List ℕ} {R = key_cmp}) entry.0 ≡ None) some
    each_absent [] = tt
    each_absent (entry ∷ some) = (get-empty key_cmp entry.0, each_absent some)

-- those to come are still absent
absent_after : (entry : Indexed) (before : Tuples) (some : List Indexed) → T (below_all key_cmp entry.0 some) → AllByRecursion (λ (one : Indexed). get before one.0 ≡ None) some
    → AllByRecursion (λ (one : Indexed). get (insert before entry.0 entry.1) one.0 ≡ None) some
absent_after entry before [] below absent = tt
absent_after entry before (next ∷ some) below absent =
    let above = both (is_lt (key_cmp entry.0 next.0)) (below_all key_cmp entry.0 some) below in (
      get-insert key_cmp_total before entry.0 entry.1 next.0
          ∙ ap (λ b. cond b (Some entry.1) (get before next.0)) (ap is_eq (key_cmp_total.antisymm next.0 entry.0 ∙ ap ordering_reverse (lt_is (key_cmp entry.0 next.0) above.0))) ∙ absent.0,
      absent_after entry before some above.1 absent.1,
    )

module _ (def : IndexDef) (all : Tuples) (seen : List (List ℕ)) (left rest : List StoredTuple) (primary tuple : List ℕ) (next : left ≡ (primary, tuple) ∷ rest) (part : PartSeen def all seen left) where
  -- the next tuple is one that is to come
  record NextSeen : Type 0 where
    own : Key
    later : List Indexed
    others_are : part.others ≡ (own, tuple) ∷ later
    to_come : map stored_tuple later ≡ rest

  next_seen : NextSeen
  next_seen = by_others part.others refl (part.to_come ∙ next)
    where
      by_others : (others : List Indexed) → part.others ≡ others → map stored_tuple others ≡ (primary, tuple) ∷ rest → NextSeen
      by_others [] is e = absurd cc
      by_others ((own, one) ∷ later) is e =
          let pair : stored_tuple (own, one) ≡ (primary, tuple) = cc in
          let more : map stored_tuple later ≡ rest = cc in
          record {
            own = own;
            later = later;
            others_are = is ∙ ap (λ t. (own, t) ∷ later) (ap (λ (p : StoredTuple). p.1) pair);
            to_come = more;
          }

  -- so the index has another number than 0
  other : (def.id.0 == 0) ≡ false
  other = by_test (def.id.0 == 0) refl
    where
      by_test : (b : Bool) → (def.id.0 == 0) ≡ b → b ≡ false
      by_test false e = refl
      by_test true e = let none : (next_seen.own, tuple) ∷ next_seen.later ≡ [] = sym next_seen.others_are ∙ part.first (eqb-true def.id.0 0 e) in absurd cc

  -- the fault is this one's, or one of those after it
  fault_at : (read : Result Key NoKey) → key_in def.key tuple ≡ read
      → build_fault def all ≡ option_or (row_fault def part.so_far read) (build_fault_from def (insert part.so_far next_seen.own tuple) next_seen.later)
  fault_at read is =
      part.fault_is ∙ ap (build_fault_from def part.so_far) next_seen.others_are
      ∙ ap (λ r. option_or (row_fault def part.so_far r) (build_fault_from def (insert part.so_far next_seen.own tuple) next_seen.later)) is

  -- it has no key
  pub lacks_key : (why : NoKey) → key_in def.key tuple ≡ Err why → build_fault def all ≡ Some (LacksKey why)
  lacks_key why is = fault_at (Err why) is

  module _ (bytes : List ℕ) (key : Key) (is : key_in def.key tuple ≡ Ok key) (fit : AreFit key) (bytes_are : bytes ≡ comparable_of key) where
    seen_as_found : def.unique ≡ true → is_seen bytes seen ≡ is_some (get (tuples_by_index def part.so_far) key)
    seen_as_found unique =
        ap (λ b. is_seen b seen) bytes_are ∙ part.among unique key fit ∙ sym (found_by_index def key unique part.so_far other)

    -- it has the key of one before it
    pub is_duplicate : def.unique ≡ true → is_seen bytes seen ≡ true → build_fault def all ≡ Some Duplicate
    is_duplicate unique test =
        fault_at (Ok key) is
        ∙ (λ i. option_or (if unique i && (sym (seen_as_found unique) ∙ test) i then Some Duplicate else None)
        (build_fault_from def (insert part.so_far next_seen.own tuple) next_seen.later))

    -- it has a key of its own
    module _ (alone : def.unique ≡ true → is_seen bytes seen ≡ false) where
      no_fault : row_fault def part.so_far (Ok key) ≡ None
      no_fault = by_test def.unique refl
        where
          by_test : (b : Bool) → def.unique ≡ b → row_fault def part.so_far (Ok key) ≡ None
          by_test true u = λ i. if u i && (sym (seen_as_found u) ∙ alone u) i then Some Duplicate else None
          by_test false u = ap (λ b. if b && is_some (get (tuples_by_index def part.so_far) key) then Some Duplicate else None) u

      pub one_more_seen : PartSeen def all (seen ++ bytes ∷ []) rest
      one_more_seen =
          let own = next_seen.own in
          let later = next_seen.later in
          let absent = subst (AllByRecursion (λ (entry : Indexed). get part.so_far entry.0 ≡ None)) next_seen.others_are part.absent in
          let sorted = subst (λ l. T (is_sorted key_cmp l)) next_seen.others_are part.sorted in
          let rises = both (below_all key_cmp own later) (is_sorted key_cmp later) sorted in
          record {
            so_far = insert part.so_far own tuple;
            others = later;
            fault_is = fault_at (Ok key) is ∙ ap (λ o. option_or o (build_fault_from def (insert part.so_far own tuple) later)) no_fault;
            among = λ unique wanted fits.
                list_any-append (λ one. bytes_eq one (comparable_of wanted)) seen (bytes ∷ [])
                ∙ (λ i. part.among unique wanted fits i || new wanted fits i)
                ∙ sym (had_more def wanted part.so_far own tuple absent.0);
            first = λ zero. let none : ((own, tuple) ∷ later) ≡ [] = sym next_seen.others_are ∙ part.first zero in absurd cc;
            to_come = next_seen.to_come;
            absent = absent_after (own, tuple) part.so_far later (subst T (sym rises.0) tt) absent.1;
            sorted = rises.1;
          }
        where
          flipped : (o : Ordering) → is_eq (ordering_reverse o) ≡ is_eq o
          flipped Less = refl
          flipped Equal = refl
          flipped Greater = refl

          or_false : (b : Bool) → (b || false) ≡ b
          or_false true = refl
          or_false false = refl

          new : (wanted : Key) → AreFit wanted → is_seen (comparable_of wanted) (bytes ∷ []) ≡ eq_by_cmp key_cmp wanted (key_or_none (key_in def.key tuple))
          new wanted fits =
              or_false (bytes_eq bytes (comparable_of wanted)) ∙ ap (λ b. bytes_eq b (comparable_of wanted)) bytes_are ∙ sym (same_by_bytes key wanted fit fits)
              ∙ ap is_eq (key_cmp_total.antisymm key wanted) ∙ flipped (key_cmp wanted key) ∙ ap (λ r. eq_by_cmp key_cmp wanted (key_or_none r)) (sym is)

-- none had a fault
pub all_seen : (def : IndexDef) (all : Tuples) (seen : List (List ℕ)) (left : List StoredTuple) → left ≡ [] → PartSeen def all seen left → build_fault def all ≡ None
all_seen def all seen left over part = by_others part.others refl (part.to_come ∙ over)
  where
    by_others : (others : List Indexed) → part.others ≡ others → map stored_tuple others ≡ [] → build_fault def all ≡ None
    by_others [] is none = part.fault_is ∙ ap (build_fault_from def part.so_far) is
    by_others (entry ∷ others) is none = absurd cc

-- ---- in a list

pub listed_next : (kept : List Keyed) (place : ℕ) (one : Keyed) → place < length kept → one ≡ get_or kept place one
    → stored_list (drop place kept) ≡ stored_view one ∷ stored_list (drop (place + 1) kept)
listed_next kept place one within is =
    rw add-one (ap stored_list (drop-cons kept place one within) ∙ ap (λ k. stored_view k ∷ stored_list (drop (suc place) kept)) (sym is))

pub listed_all : (kept : List Keyed) (place : ℕ) → length kept ≤ place → stored_list (drop place kept) ≡ []
listed_all kept place past = ap stored_list (drop_all place kept past)
