-- The tuples by an index are its kept entries, in order, and those in a range are the kept entries in that range.
use Rattle.std.proofs.Common.{◌≡◌, ℕ, ◌≤◌, Bool, true, false, cond, not, ◌&&◌, ◌||◌, T, List, [], ◌∷◌, ◌++◌, map, length, filter, Option, Some, None, refl, sym, ap, ◌∙◌, subst, arith, true≢false}
use Rattle.std.specs.Prelude.{◌==◌, if◌then◌else◌}
use Rattle.std.specs.declared.cmp.Ordering.{Ordering}
use Rattle.std.specs.declared.cmp.Ordering.TheVariants.{Less, Equal, Greater}
use Rattle.std.specs.Cmp.{tied_itself}
use Rattle.std.specs.FinMap.{empty, entries, entries_sorted, get, get-entries}
use Rattle.std.specs.FinMap.Entries.{below_all, find, is_sorted, same_entries}
use Rattle.std.specs.List.{AllByRecursion}
use Rattle.std.specs.Option.{unwrap_or}
use Rattle.std.specs.Ordering.{eq_by_cmp, is_eq, is_gt, is_lt, ordering_reverse, ordering_then}
use Rattle.mx_key.specs.Keys.{Key, key_cmp, part_cmp, is_key_prefix}
use Rattle.mx_key.specs.Ranges.{End, Inclusive, Exclusive, Open, Range, is_from, is_up_to, lies_in}
use Rattle.mx_key.proofs.KeyLaws.{key_cmp-IsAntisymmetric, key_cmp_total, part_cmp_total}
use Rattle.mx_schema.specs.declared.index_def.IndexDef.{IndexDef}
use Rattle.mx_schema.specs.Picks.{Indexed, entry_key, indexed_with, tuples_by_index}
use Rattle.mx_schema.specs.Sound.{AreUnique, HaveKeys}
use Rattle.mx_schema.specs.State.{Tuples, key_in, key_or_none}
use Rattle.mx_schema.proofs.TakenLaws.{each_found}
use Rattle.mx_schema.proofs.OrderLaws.{both, lt_is}
use Rattle.mx_entries.specs.Built.{AreLong}
use Rattle.mx_entries.specs.KeptEntries.{kept_entries}
use Rattle.mx_entries.specs.KeptKeys.{kept_key}
use Rattle.mx_entries.proofs.EntriesLaws.{entry_is_of, entry_there, primary_behind, primary_in, tied_is, ties_itself}
use Rattle.mx_entries.proofs.HolderKeyLaws.{entry_key_is, key_long, one_holder, unique_apart}
use Rattle.mx_entries.proofs.IndexedLaws.{AreApart, Held, held_is, held_there, each_is_found}

-- ---- a key, and the same with more behind it

-- a key at an end has at most so many parts
abbrev pub IsShort : End → ℕ → Type 0
IsShort (Inclusive key) long = length key ≤ long
IsShort (Exclusive key) long = length key ≤ long
IsShort Open long = Unit {0}

and_false : (b : Bool) → (b && false) ≡ false
and_false true = refl
and_false false = refl

below_behind : (end key behind : Key) → length end ≤ length key → is_lt (key_cmp (key ++ behind) end) ≡ is_lt (key_cmp key end)
below_behind [] [] [] short = refl
below_behind [] [] (part ∷ behind) short = refl
below_behind [] (one ∷ key) behind short = refl
below_behind (part ∷ end) [] behind short = absurd (omega arith)
below_behind (part ∷ end) (one ∷ key) behind short = by_part (part_cmp one part) (below_behind end key behind (omega arith))
  where
    by_part : (o : Ordering) → is_lt (key_cmp (key ++ behind) end) ≡ is_lt (key_cmp key end)
        → is_lt (ordering_then o (key_cmp (key ++ behind) end)) ≡ is_lt (ordering_then o (key_cmp key end))
    by_part Less later = refl
    by_part Equal later = later
    by_part Greater later = refl

above_behind : (end key behind : Key) → length end ≤ length key
    → (is_gt (key_cmp (key ++ behind) end) && not (is_key_prefix end (key ++ behind))) ≡ (is_gt (key_cmp key end) && not (is_key_prefix end key))
above_behind [] key behind short = and_false (is_gt (key_cmp (key ++ behind) [])) ∙ sym (and_false (is_gt (key_cmp key [])))
above_behind (part ∷ end) [] behind short = absurd (omega arith)
above_behind (part ∷ end) (one ∷ key) behind short =
    ap (λ o. is_gt (key_cmp (one ∷ key ++ behind) (part ∷ end)) && not (is_eq o && is_key_prefix end (key ++ behind))) (part_cmp_total.antisymm part one)
    ∙ by_part (part_cmp one part) (above_behind end key behind (omega arith))
    ∙ ap (λ o. is_gt (key_cmp (one ∷ key) (part ∷ end)) && not (is_eq o && is_key_prefix end key)) (sym (part_cmp_total.antisymm part one))
  where
    by_part : (o : Ordering)
        → (is_gt (key_cmp (key ++ behind) end) && not (is_key_prefix end (key ++ behind))) ≡ (is_gt (key_cmp key end) && not (is_key_prefix end key))
        → (is_gt (ordering_then o (key_cmp (key ++ behind) end)) && not (is_eq (ordering_reverse o) && is_key_prefix end (key ++ behind)))
        ≡ (is_gt (ordering_then o (key_cmp key end)) && not (is_eq (ordering_reverse o) && is_key_prefix end key))
    by_part Less later = refl
    by_part Equal later = later
    by_part Greater later = refl

other_way : (above prefix : Bool) → (not above || prefix) ≡ not (above && not prefix)
other_way true true = refl
other_way true false = refl
other_way false prefix = refl

from_behind : (end : End) (key behind : Key) → IsShort end (length key) → is_from end (key ++ behind) ≡ is_from end key
from_behind (Inclusive end) key behind short = ap not (below_behind end key behind short)
from_behind (Exclusive end) key behind short = above_behind end key behind short
from_behind Open key behind short = refl

up_to_behind : (end : End) (key behind : Key) → IsShort end (length key) → is_up_to end (key ++ behind) ≡ is_up_to end key
up_to_behind (Inclusive end) key behind short =
    other_way (is_gt (key_cmp (key ++ behind) end)) (is_key_prefix end (key ++ behind)) ∙ ap not (above_behind end key behind short)
    ∙ sym (other_way (is_gt (key_cmp key end)) (is_key_prefix end key))
up_to_behind (Exclusive end) key behind short = below_behind end key behind short
up_to_behind Open key behind short = refl

-- the ends of a range have at most so many parts
abbrev pub AreShort : Range → ℕ → Type 0
AreShort range long = IsShort range.low long × IsShort range.high long

lies_behind : (range : Range) (key behind : Key) → AreShort range (length key) → lies_in range (key ++ behind) ≡ lies_in range key
lies_behind range key behind short = λ i. from_behind range.low key behind short.0 i && up_to_behind range.high key behind short.1 i

joined_order : (key other behind more : Key) → length key ≡ length other → key_cmp (key ++ behind) (other ++ more) ≡ ordering_then (key_cmp key other) (key_cmp behind more)
joined_order [] [] behind more same = refl
joined_order [] (part ∷ other) behind more same = absurd (omega arith)
joined_order (one ∷ key) [] behind more same = absurd (omega arith)
joined_order (one ∷ key) (part ∷ other) behind more same = by_part (part_cmp one part) (joined_order key other behind more (omega arith))
  where
    by_part : (o : Ordering) → key_cmp (key ++ behind) (other ++ more) ≡ ordering_then (key_cmp key other) (key_cmp behind more)
        → ordering_then o (key_cmp (key ++ behind) (other ++ more)) ≡ ordering_then (ordering_then o (key_cmp key other)) (key_cmp behind more)
    by_part Less later = refl
    by_part Equal later = later
    by_part Greater later = refl

-- ---- the tuples of kept entries

-- the tuple of a kept entry under its key in the index
abbrev pub indexed_entry : IndexDef → Tuples → Key × Key → Indexed
indexed_entry def tuples entry = (entry_key def entry.1 (unwrap_or (get tuples entry.1) []), unwrap_or (get tuples entry.1) [])

-- a kept entry is that of a tuple
abbrev IsOf : IndexDef → Tuples → Key × Key → Type 0
IsOf def tuples entry = (tuple : List ℕ) × (get tuples entry.1 ≡ Some tuple) × (entry.0 ≡ kept_key def entry.1 tuple)

-- the order of kept entries is that of the keys in the index
abbrev pub KeepsOrder : IndexDef → Tuples → Type 0
KeepsOrder def tuples = (one other : Key) (first second : List ℕ) → get tuples one ≡ Some first → get tuples other ≡ Some second
    → key_cmp (kept_key def one first) (kept_key def other second) ≡ Less → key_cmp (entry_key def one first) (entry_key def other second) ≡ Less

equal_less : Equal ≡ Less → ⊥
equal_less e = absurd cc

many_key : (def : IndexDef) → def.unique ≡ false → (primary : Key) (tuple : List ℕ) → entry_key def primary tuple ≡ kept_key def primary tuple
many_key def many primary tuple = ap (λ b. key_or_none (key_in def.key tuple) ++ (if b then [] else primary)) many

-- so it is where several tuples may have one key, since keys are the same
pub order_kept : (def : IndexDef) (tuples : Tuples) → def.unique ≡ false → KeepsOrder def tuples
order_kept def tuples many one other first second here there less =
    (λ i. key_cmp (many_key def many one first i) (many_key def many other second i)) ∙ less

pub many_apart : (def : IndexDef) (tuples : Tuples) (long : ℕ) → AreLong long tuples → def.unique ≡ false → AreApart def tuples
many_apart def tuples long whole many one other first second here there same =
    sym (primary_behind (key_or_none (key_in def.key first)) one long (each_found one (λ entry. length entry.0 ≡ long) tuples first here whole))
    ∙ ap (primary_in long) (sym (many_key def many one first) ∙ same ∙ many_key def many other second)
    ∙ primary_behind (key_or_none (key_in def.key second)) other long (each_found other (λ entry. length entry.0 ≡ long) tuples second there whole)

-- and where no two have one
unique_order : (def : IndexDef) (unique : def.unique ≡ true) (tuples : Tuples) (one_each : AreUnique def tuples) (have : HaveKeys def tuples) → KeepsOrder def tuples
unique_order def unique tuples one_each have one other first second here there less =
    (λ i. key_cmp (entry_key_is def unique tuples one_each have one first i) (entry_key_is def unique tuples one_each have other second i))
    ∙ by_order (key_cmp key next) refl
    (sym (joined_order key next one other (key_long def unique tuples one_each have one first here ∙ sym (key_long def unique tuples one_each have other second there))) ∙ less)
  where
    key : Key
    key = key_or_none (key_in def.key first)

    next : Key
    next = key_or_none (key_in def.key second)

    by_order : (o : Ordering) → key_cmp (key_or_none (key_in def.key first)) (key_or_none (key_in def.key second)) ≡ o → ordering_then o (key_cmp one other) ≡ Less → o ≡ Less
    by_order Less is less = refl
    by_order Equal is less =
        let same : one ≡ other =
        one_holder def unique tuples one_each have one other first second here there (key_cmp-IsAntisymmetric (key_or_none (key_in def.key first)) (key_or_none (key_in def.key second)) is) in
        absurd (equal_less (sym (tied_itself key_cmp_total other) ∙ ap (λ k. key_cmp k other) (sym same) ∙ less))
    by_order Greater is less = less

module _ (def : IndexDef) (tuples : Tuples) (long : ℕ) (whole : AreLong long tuples) (apart : AreApart def tuples) (order : KeepsOrder def tuples) where
  abbrev kept : List (Key × Key)
  kept = entries (kept_entries def tuples)

  each_is_of : (some : List (Key × Key)) → AllByRecursion (λ (entry : Key × Key). get (kept_entries def tuples) entry.0 ≡ Some entry.1) some → AllByRecursion (IsOf def tuples) some
  each_is_of [] found = tt
  each_is_of (entry ∷ some) found = (entry_is_of def long tuples whole entry.0 entry.1 found.0, each_is_of some found.1)

  shown : (entry : Key × Key) (tuple : List ℕ) → get tuples entry.1 ≡ Some tuple → indexed_entry def tuples entry ≡ (entry_key def entry.1 tuple, tuple)
  shown entry tuple there = ap (λ o. (entry_key def entry.1 (unwrap_or o []), unwrap_or o [])) there

  -- ---- sorted

  rises : (entry other : Key × Key) → IsOf def tuples entry → IsOf def tuples other → key_cmp entry.0 other.0 ≡ Less
      → key_cmp (indexed_entry def tuples entry).0 (indexed_entry def tuples other).0 ≡ Less
  rises entry other one two less =
      (λ i. key_cmp (shown entry one.0 one.1 i).0 (shown other two.0 two.1 i).0)
      ∙ order entry.1 other.1 one.0 two.0 one.1 two.1 ((λ i. key_cmp (sym one.2 i) (sym two.2 i)) ∙ less)

  below_shown : (entry : Key × Key) (some : List (Key × Key)) → IsOf def tuples entry → AllByRecursion (IsOf def tuples) some → T (below_all key_cmp entry.0 some)
      → T (below_all key_cmp (indexed_entry def tuples entry).0 (map (indexed_entry def tuples) some))
  below_shown entry [] one each below = tt
  below_shown entry (next ∷ some) one each below =
      let above = both (is_lt (key_cmp entry.0 next.0)) (below_all key_cmp entry.0 some) below in
      subst T (sym (ap (λ o. is_lt o && below_all key_cmp (indexed_entry def tuples entry).0 (map (indexed_entry def tuples) some))
      (rises entry next one each.0 (lt_is (key_cmp entry.0 next.0) above.0))))
      (below_shown entry some one each.1 above.1)

  sorted_shown : (some : List (Key × Key)) → AllByRecursion (IsOf def tuples) some → T (is_sorted key_cmp some) → T (is_sorted key_cmp (map (indexed_entry def tuples) some))
  sorted_shown [] each sorted = tt
  sorted_shown (entry ∷ some) each sorted =
      let above = both (below_all key_cmp entry.0 some) (is_sorted key_cmp some) sorted in
      joined (below_all key_cmp (indexed_entry def tuples entry).0 (map (indexed_entry def tuples) some)) (is_sorted key_cmp (map (indexed_entry def tuples) some))
      (below_shown entry some each.0 each.1 (subst T (sym above.0) tt)) (sorted_shown some each.1 above.1)
    where
      joined : (b c : Bool) → T b → T c → T (b && c)
      joined true c p q = q
      joined false c p q = p

  -- ---- found

  module _ (wanted : Key) where
    found_of : (some : List (Key × Key)) → AllByRecursion (IsOf def tuples) some → (tuple : List ℕ) → find key_cmp wanted (map (indexed_entry def tuples) some) ≡ Some tuple
        → Held def tuples apart wanted tuple
    found_of [] each tuple found = absurd cc
    found_of (entry ∷ some) each tuple found =
        by_test (eq_by_cmp key_cmp wanted (indexed_entry def tuples entry).0) refl found (λ later. found_of some each.1 tuple later)
      where
        by_test : (b : Bool) → eq_by_cmp key_cmp wanted (indexed_entry def tuples entry).0 ≡ b
            → cond b (Some (indexed_entry def tuples entry).1) (find key_cmp wanted (map (indexed_entry def tuples) some)) ≡ Some tuple
            → (find key_cmp wanted (map (indexed_entry def tuples) some) ≡ Some tuple → Held def tuples apart wanted tuple)
            → Held def tuples apart wanted tuple
        by_test true tied here later =
            let view = shown entry each.0.0 each.0.1 in
            let same : each.0.0 ≡ tuple = ap (λ (e : Indexed). e.1) (sym view) ∙ some_is (indexed_entry def tuples entry).1 tuple here in (
              entry.1,
              each.0.1 ∙ ap (λ t. Some t) same,
              ap (entry_key def entry.1) (sym same) ∙ ap (λ (e : Indexed). e.0) (sym view) ∙ sym (tied_is wanted (indexed_entry def tuples entry).0 tied),
            )
          where
            some_is : (x y : List ℕ) → Some x ≡ Some y → x ≡ y
            some_is x y e = cc
        by_test false other there later = later there

    finds : (primary : Key) (tuple : List ℕ) → get tuples primary ≡ Some tuple → entry_key def primary tuple ≡ wanted
        → (some : List (Key × Key)) → AllByRecursion (IsOf def tuples) some → find key_cmp (kept_key def primary tuple) some ≡ Some primary
        → find key_cmp wanted (map (indexed_entry def tuples) some) ≡ Some tuple
    finds primary tuple there is [] each among = absurd cc
    finds primary tuple there is (entry ∷ some) each among =
        by_tests (eq_by_cmp key_cmp wanted (indexed_entry def tuples entry).0) refl (eq_by_cmp key_cmp (kept_key def primary tuple) entry.0) refl among
        (λ later. finds primary tuple there is some each.1 later)
      where
        by_tests : (b : Bool) → eq_by_cmp key_cmp wanted (indexed_entry def tuples entry).0 ≡ b
            → (c : Bool) → eq_by_cmp key_cmp (kept_key def primary tuple) entry.0 ≡ c → cond c (Some entry.1) (find key_cmp (kept_key def primary tuple) some) ≡ Some primary
            → (find key_cmp (kept_key def primary tuple) some ≡ Some primary → find key_cmp wanted (map (indexed_entry def tuples) some) ≡ Some tuple)
            → cond b (Some (indexed_entry def tuples entry).1) (find key_cmp wanted (map (indexed_entry def tuples) some)) ≡ Some tuple
        by_tests true tied c other among later =
            let view = shown entry each.0.0 each.0.1 in
            let key : entry_key def entry.1 each.0.0 ≡ entry_key def primary tuple =
            ap (λ (e : Indexed). e.0) (sym view) ∙ sym (tied_is wanted (indexed_entry def tuples entry).0 tied) ∙ sym is in
            let same : entry.1 ≡ primary = apart entry.1 primary each.0.0 tuple each.0.1 there key in
            ap (λ (e : Indexed). Some e.1) view ∙ sym each.0.1 ∙ ap (get tuples) same ∙ there
        by_tests false other true tied among later =
            let same : entry.1 ≡ primary = key_is entry.1 primary among in
            let its : get tuples entry.1 ≡ Some tuple = ap (get tuples) same ∙ there in
            let key : wanted ≡ (indexed_entry def tuples entry).0 =
            sym is ∙ ap (λ k. entry_key def k tuple) (sym same) ∙ sym (ap (λ (e : Indexed). e.0) (shown entry tuple its)) in
            absurd (true≢false (sym (ties_itself wanted (indexed_entry def tuples entry).0 key) ∙ other))
          where
            key_is : (x y : Key) → Some x ≡ Some y → x ≡ y
            key_is x y e = cc
        by_tests false other false apart_from among later = later among

    same_found : get (indexed_with def empty (entries tuples)) wanted ≡ find key_cmp wanted (map (indexed_entry def tuples) kept)
    same_found = by_found (get (indexed_with def empty (entries tuples)) wanted) refl (find key_cmp wanted (map (indexed_entry def tuples) kept)) refl
      where
        each : AllByRecursion (IsOf def tuples) kept
        each = each_is_of kept (each_is_found (kept_entries def tuples))

        by_found : (o : Option (List ℕ)) → get (indexed_with def empty (entries tuples)) wanted ≡ o → (p : Option (List ℕ)) → find key_cmp wanted (map (indexed_entry def tuples) kept) ≡ p → o ≡ p
        by_found None absent None none = refl
        by_found None absent (Some tuple) some =
            let held = found_of kept each tuple some in
            sym absent ∙ held_is def tuples apart wanted held.0 tuple held.1 held.2
        by_found (Some tuple) is p found =
            let held = held_there def tuples apart wanted tuple is in
            sym (finds held.0 tuple held.1 held.2 kept each (among held.0 tuple held.1)) ∙ found
          where
            among : (primary : Key) (tuple : List ℕ) → get tuples primary ≡ Some tuple → find key_cmp (kept_key def primary tuple) kept ≡ Some primary
            among primary tuple there =
                sym (get-entries (kept_entries def tuples) (kept_key def primary tuple))
                ∙ entry_there def long tuples whole primary tuple (each_found primary (λ entry. length entry.0 ≡ long) tuples tuple there whole) there

  -- the tuples by the index, in the order of its keys
  pub indexed_are : entries (indexed_with def empty (entries tuples)) ≡ map (indexed_entry def tuples) kept
  indexed_are =
      same_entries key_cmp key_cmp_total key_cmp-IsAntisymmetric (entries (indexed_with def empty (entries tuples))) (map (indexed_entry def tuples) kept)
      (entries_sorted (indexed_with def empty (entries tuples)))
      (sorted_shown kept (each_is_of kept (each_is_found (kept_entries def tuples))) (entries_sorted (kept_entries def tuples)))
      (λ wanted. sym (get-entries (indexed_with def empty (entries tuples)) wanted) ∙ same_found wanted)

  module _ (range : Range) (same : (primary : Key) (tuple : List ℕ) → get tuples primary ≡ Some tuple → lies_in range (entry_key def primary tuple) ≡ lies_in range (kept_key def primary tuple)) where
    lying : (some : List (Key × Key)) → AllByRecursion (IsOf def tuples) some
        → filter (λ (entry : Indexed). lies_in range entry.0) (map (indexed_entry def tuples) some) ≡ map (indexed_entry def tuples) (filter (λ (entry : Key × Key). lies_in range entry.0) some)
    lying [] each = refl
    lying (entry ∷ some) each =
        ap (λ b. cond b (indexed_entry def tuples entry ∷ filter (λ (one : Indexed). lies_in range one.0) (map (indexed_entry def tuples) some))
        (filter (λ (one : Indexed). lies_in range one.0) (map (indexed_entry def tuples) some)))
        (ap (λ (e : Indexed). lies_in range e.0) (shown entry each.0.0 each.0.1) ∙ same entry.1 each.0.0 each.0.1 ∙ ap (lies_in range) (sym each.0.2))
        ∙ by_test (lies_in range entry.0) (lying some each.1)
      where
        by_test : (b : Bool)
            → filter (λ (one : Indexed). lies_in range one.0) (map (indexed_entry def tuples) some) ≡ map (indexed_entry def tuples) (filter (λ (one : Key × Key). lies_in range one.0) some)
            → cond b (indexed_entry def tuples entry ∷ filter (λ (one : Indexed). lies_in range one.0) (map (indexed_entry def tuples) some))
            (filter (λ (one : Indexed). lies_in range one.0) (map (indexed_entry def tuples) some))
            ≡ map (indexed_entry def tuples) (cond b (entry ∷ filter (λ (one : Key × Key). lies_in range one.0) some) (filter (λ (one : Key × Key). lies_in range one.0) some))
        by_test true later = ap (λ l. indexed_entry def tuples entry ∷ l) later
        by_test false later = later

    -- and those in a range
    indexed_in : filter (λ (entry : Indexed). lies_in range entry.0) (entries (indexed_with def empty (entries tuples)))
        ≡ map (indexed_entry def tuples) (filter (λ (entry : Key × Key). lies_in range entry.0) kept)
    indexed_in = ap (filter (λ (entry : Indexed). lies_in range entry.0)) indexed_are ∙ lying kept (each_is_of kept (each_is_found (kept_entries def tuples)))

-- ---- the two kinds of indexes

module _ (def : IndexDef) (other : (def.id.0 == 0) ≡ false) (tuples : Tuples) (long : ℕ) (whole : AreLong long tuples) where
  index_is : tuples_by_index def tuples ≡ indexed_with def empty (entries tuples)
  index_is = ap (λ b. if b then tuples else indexed_with def empty (entries tuples)) other

  -- the entries of an index that may have several tuples of one key
  pub many_in_order : def.unique ≡ false → entries (tuples_by_index def tuples) ≡ map (indexed_entry def tuples) (entries (kept_entries def tuples))
  many_in_order many = ap (λ t. entries t) index_is ∙ indexed_are def tuples long whole (many_apart def tuples long whole many) (order_kept def tuples many)

  -- and those in a range
  pub many_in_range : def.unique ≡ false → (range : Range)
      → filter (λ (entry : Indexed). lies_in range entry.0) (entries (tuples_by_index def tuples))
      ≡ map (indexed_entry def tuples) (filter (λ (entry : Key × Key). lies_in range entry.0) (entries (kept_entries def tuples)))
  many_in_range many range =
      ap (λ t. filter (λ (entry : Indexed). lies_in range entry.0) (entries t)) index_is
      ∙ indexed_in def tuples long whole (many_apart def tuples long whole many) (order_kept def tuples many) range (λ primary tuple there. ap (lies_in range) (many_key def many primary tuple))

  module _ (unique : def.unique ≡ true) (one_each : AreUnique def tuples) (have : HaveKeys def tuples) where
    -- the entries of a unique index
    pub unique_in_order : entries (tuples_by_index def tuples) ≡ map (indexed_entry def tuples) (entries (kept_entries def tuples))
    unique_in_order =
        ap (λ t. entries t) index_is
        ∙ indexed_are def tuples long whole (unique_apart def unique tuples one_each have) (unique_order def unique tuples one_each have)

    -- and those in a range whose ends have no more parts than the index
    pub unique_in_range : (range : Range) → AreShort range (length def.key)
        → filter (λ (entry : Indexed). lies_in range entry.0) (entries (tuples_by_index def tuples))
        ≡ map (indexed_entry def tuples) (filter (λ (entry : Key × Key). lies_in range entry.0) (entries (kept_entries def tuples)))
    unique_in_range range short =
        ap (λ t. filter (λ (entry : Indexed). lies_in range entry.0) (entries t)) index_is
        ∙ indexed_in def tuples long whole (unique_apart def unique tuples one_each have) (unique_order def unique tuples one_each have) range
        (λ primary tuple there. ap (lies_in range) (entry_key_is def unique tuples one_each have primary tuple)
        ∙ sym (lies_behind range (key_or_none (key_in def.key tuple)) primary
        (subst (AreShort range) (sym (key_long def unique tuples one_each have primary tuple there)) short)))
