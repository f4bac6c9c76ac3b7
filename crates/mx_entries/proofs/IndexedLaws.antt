-- Where no two tuples have one entry of an index, each stands under its own.
use Rattle.std.proofs.Common.{◌≡◌, Bool, true, false, T, List, ◌++◌, Some, ℕ, cond, [], ◌∷◌, None, inl, inr, refl, sym, ap, ◌∙◌}
use Rattle.std.specs.declared.cmp.Ordering.TheVariants.{Less}
use Rattle.std.specs.FinMap.{FinMap, entries, get, empty, get-empty, get-entries, get-insert, insert}
use Rattle.std.specs.FinMap.Entries.{below_all, find, is_sorted}
use Rattle.std.specs.List.{AllByRecursion}
use Rattle.std.specs.Ordering.{eq_by_cmp, is_gt, is_lt}
use Rattle.std.specs.Prelude.{◌⊎◌}
use Rattle.mx_key.specs.Keys.{Key, key_cmp, part_cmp}
use Rattle.mx_key.proofs.KeyLaws.{key_cmp-IsAntisymmetric, key_cmp_total, part_cmp-IsAntisymmetric, part_cmp_total}
use Rattle.mx_msgpack.proofs.Options.{same_some}
use Rattle.mx_schema.specs.declared.index_def.IndexDef.{IndexDef}
use Rattle.mx_schema.specs.Picks.{Indexed, entry_key, indexed_with}
use Rattle.mx_schema.specs.State.{Tuples}
use Rattle.mx_entries.proofs.EntriesLaws.{tied_is, ties_itself}
use Rattle.std.specs.List as list
use Rattle.mx_entries.proofs.OrderedLaws as ordered
use Rattle.std.specs.FinMap.Entries as pairs

-- ---- entries that are found: each under its key, and the first that isn't below one

module _ {X : Type 0} where
  -- what is found above a key is greater
  pub above : (key : Key) (value : X) (first : Key) (all : List (Key × X)) → find key_cmp key all ≡ Some value → T (below_all key_cmp first all) → key_cmp first key ≡ Less
  above = ordered.above key_cmp key_cmp_total key_cmp-IsAntisymmetric

  pub not_first : (entry : Key × X) (key : Key) → key_cmp entry.0 key ≡ Less → eq_by_cmp key_cmp key entry.0 ≡ false
  not_first = ordered.not_first key_cmp key_cmp_total key_cmp-IsAntisymmetric

  -- each entry of a map is found in it
  pub each_is_found : (all : FinMap key_cmp X) → AllByRecursion (λ (entry : Key × X). get all entry.0 ≡ Some entry.1) (entries all)
  each_is_found = ordered.each_is_found key_cmp key_cmp_total key_cmp-IsAntisymmetric

  -- what each entry has, that one has which passes a test
  pub passing_has : (P : Key × X → Type 0) (test : Key × X → Bool) (all : List (Key × X)) (entry : Key × X) → AllByRecursion P all → list.find test all ≡ Some entry
      → P entry × (test entry ≡ true)
  passing_has = ordered.passing_has key_cmp key_cmp_total key_cmp-IsAntisymmetric

  -- the first key that passes a test isn't greater than another one that does
  pub first_passing : (test : Key → Bool) (key : Key) (value : X) (all : List (Key × X)) → T (is_sorted key_cmp all) → find key_cmp key all ≡ Some value → test key ≡ true
      → (entry : Key × X) × (list.find (λ (one : Key × X). test one.0) all ≡ Some entry) × (is_gt (key_cmp entry.0 key) ≡ false)
  first_passing = ordered.first_passing key_cmp key_cmp_total key_cmp-IsAntisymmetric

-- between a key and one that begins with it are only keys that begin with it
pub begins : (wanted key others : Key) → is_lt (key_cmp key wanted) ≡ false → is_gt (key_cmp key (wanted ++ others)) ≡ false → (rest : Key) × (key ≡ wanted ++ rest)
begins = ordered.begins part_cmp part_cmp_total part_cmp-IsAntisymmetric

-- a key isn't below one that it begins with
pub not_below : (wanted others : Key) → is_lt (key_cmp (wanted ++ others) wanted) ≡ false
not_below = ordered.not_below part_cmp part_cmp_total part_cmp-IsAntisymmetric

-- ---- where no two tuples have one entry of an index, each stands under its own

pub not_none : {A : Type 0} (x : A) → Some x ≡ None → ⊥
not_none x e = absurd cc

-- no two tuples have one entry
abbrev pub AreApart : IndexDef → Tuples → Type 0
AreApart def tuples = (one other : Key) (first second : List ℕ) → get tuples one ≡ Some first → get tuples other ≡ Some second
    → entry_key def one first ≡ entry_key def other second → one ≡ other

module _ (def : IndexDef) (tuples : Tuples) (apart : AreApart def tuples) (wanted : Key) where
  -- a tuple whose entry has this key
  abbrev pub Held : List ℕ → Type 0
  Held tuple = (primary : Key) × (get tuples primary ≡ Some tuple) × (entry_key def primary tuple ≡ wanted)

  abbrev Found : Indexed → Type 0
  Found entry = get tuples entry.0 ≡ Some entry.1

  indexed_has : (all : List Indexed) → AllByRecursion Found all → (before : Tuples) (tuple : List ℕ) → get (indexed_with def before all) wanted ≡ Some tuple
      → Held tuple ⊎ (get before wanted ≡ Some tuple)
  indexed_has [] found before tuple is = inr is
  indexed_has (entry ∷ all) found before tuple is = by_case (indexed_has all found.1 (insert before (entry_key def entry.0 entry.1) entry.1) tuple is)
    where
      by_test : (b : Bool) → eq_by_cmp key_cmp wanted (entry_key def entry.0 entry.1) ≡ b → cond b (Some entry.1) (get before wanted) ≡ Some tuple
          → Held tuple ⊎ (get before wanted ≡ Some tuple)
      by_test true tied is =
          let same : entry.1 ≡ tuple = same_some entry.1 tuple is in
          inl (entry.0, found.0 ∙ ap (λ t. Some t) same, ap (entry_key def entry.0) (sym same) ∙ sym (tied_is wanted (entry_key def entry.0 entry.1) tied))
      by_test false other is = inr is

      by_case : Held tuple ⊎ (get (insert before (entry_key def entry.0 entry.1) entry.1) wanted ≡ Some tuple) → Held tuple ⊎ (get before wanted ≡ Some tuple)
      by_case (inl held) = inl held
      by_case (inr is) =
          by_test (eq_by_cmp key_cmp wanted (entry_key def entry.0 entry.1)) refl (sym (get-insert key_cmp_total before (entry_key def entry.0 entry.1) entry.1 wanted) ∙ is)

  -- what is under a key is a tuple with this entry
  pub held_there : (tuple : List ℕ) → get (indexed_with def empty (entries tuples)) wanted ≡ Some tuple → Held tuple
  held_there tuple is = by_case (indexed_has (entries tuples) (each_is_found tuples) empty tuple is)
    where
      by_case : Held tuple ⊎ (get (empty {X = List ℕ} {R = key_cmp}) wanted ≡ Some tuple) → Held tuple
      by_case (inl held) = held
      by_case (inr there) = absurd (not_none tuple (sym there ∙ get-empty key_cmp wanted))

  module _ (primary : Key) (tuple : List ℕ) (there : get tuples primary ≡ Some tuple) (is : entry_key def primary tuple ≡ wanted) where
    indexed_keeps : (all : List Indexed) → AllByRecursion Found all → (before : Tuples) → get before wanted ≡ Some tuple → get (indexed_with def before all) wanted ≡ Some tuple
    indexed_keeps [] found before kept = kept
    indexed_keeps (entry ∷ all) found before kept =
        indexed_keeps all found.1 (insert before (entry_key def entry.0 entry.1) entry.1)
        (get-insert key_cmp_total before (entry_key def entry.0 entry.1) entry.1 wanted ∙ by_test (eq_by_cmp key_cmp wanted (entry_key def entry.0 entry.1)) refl)
      where
        by_test : (b : Bool) → eq_by_cmp key_cmp wanted (entry_key def entry.0 entry.1) ≡ b → cond b (Some entry.1) (get before wanted) ≡ Some tuple
        by_test true tied =
            let same : entry.0 ≡ primary = apart entry.0 primary entry.1 tuple found.0 there (sym (tied_is wanted (entry_key def entry.0 entry.1) tied) ∙ sym is) in
            sym found.0 ∙ ap (get tuples) same ∙ there
        by_test false other = kept

    indexed_finds : (all : List Indexed) → AllByRecursion Found all → pairs.find key_cmp primary all ≡ Some tuple → (before : Tuples)
        → get (indexed_with def before all) wanted ≡ Some tuple
    indexed_finds [] found none before = absurd cc
    indexed_finds (entry ∷ all) found among before =
        by_test (eq_by_cmp key_cmp primary entry.0) refl among (λ later. indexed_finds all found.1 later (insert before (entry_key def entry.0 entry.1) entry.1))
      where
        by_test : (b : Bool) → eq_by_cmp key_cmp primary entry.0 ≡ b → cond b (Some entry.1) (pairs.find key_cmp primary all) ≡ Some tuple
            → (pairs.find key_cmp primary all ≡ Some tuple → get (indexed_with def (insert before (entry_key def entry.0 entry.1) entry.1) all) wanted ≡ Some tuple)
            → get (indexed_with def (insert before (entry_key def entry.0 entry.1) entry.1) all) wanted ≡ Some tuple
        by_test true tied among later =
            let same : entry.1 ≡ tuple = same_some entry.1 tuple among in
            let key : wanted ≡ entry_key def entry.0 entry.1 =
            sym is ∙ (λ i. entry_key def (tied_is primary entry.0 tied i) (sym same i)) in
            indexed_keeps all found.1 (insert before (entry_key def entry.0 entry.1) entry.1)
            (get-insert key_cmp_total before (entry_key def entry.0 entry.1) entry.1 wanted
            ∙ ap (λ b. cond b (Some entry.1) (get before wanted)) (ties_itself wanted (entry_key def entry.0 entry.1) key) ∙ ap (λ t. Some t) same)
        by_test false other among later = later among

    -- a tuple stands under the key of its entry
    pub held_is : get (indexed_with def empty (entries tuples)) wanted ≡ Some tuple
    held_is = indexed_finds (entries tuples) (each_is_found tuples) (sym (get-entries tuples primary) ∙ there) empty
