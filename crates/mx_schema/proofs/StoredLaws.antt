-- What is kept in memory and the tuples that it stands for.
use Rattle.std.proofs.Common.{◌≡◌, ℕ, Bool, true, false, append-nil, List, [], ◌∷◌, ◌++◌, map, refl, sym, ap, ◌∙◌, subst, eq-eqb, ne_eqb}
use Rattle.std.specs.Prelude.{if◌then◌else◌}
use Rattle.std.specs.List.{AllByRecursion}
use Rattle.std.specs.BTreeMap.{insert_entry}
use Rattle.std.specs.Ordering.{match_ordering, nat_cmp}
use Rattle.std.specs.Cmp.Lexicographic.{slice_cmp}
use Rattle.std.specs.FinMap as finite
use Rattle.std.proofs.lemmas.List.{nil_from_length}
use Rattle.std.specs.FinMap.Entries.{by_order, put}
use Rattle.std.specs.declared.cmp.Ordering.{Ordering}
use Rattle.std.specs.declared.cmp.Ordering.TheVariants.{Less, Equal, Greater}
use Rattle.mx_key.specs.Keys.{Key, AreFit, key_cmp}
use Rattle.mx_key.specs.Comparable.{comparable_of}
use Rattle.mx_key.proofs.KeyLaws.{key_cmp-IsAntisymmetric, key_cmp_total}
use Rattle.mx_key.proofs.EncodingLaws.{bytes_order}
use Rattle.mx_key.proofs.MakingLaws.{comparable_of-append}
use Rattle.mx_schema.specs.declared.index_def.IndexDef.{IndexDef}
use Rattle.mx_schema.specs.State.{Tuples, key_in, key_or_none}
use Rattle.mx_schema.specs.Picks.{Indexed, entry_key, indexed_with, tuples_by_index}
use Rattle.mx_schema.specs.Stored.{StoredTuple, stored_tuple, StoresTuples}

-- comparable bytes are ordered as the keys are
abbrev pub OrdersKeys : Type 0
OrdersKeys = (x y : Key) → AreFit x → AreFit y → slice_cmp nat_cmp (comparable_of x) (comparable_of y) ≡ key_cmp x y

-- it is kept as it is put among the keys
pub kept_with : OrdersKeys → (key : Key) (tuple : List ℕ) → AreFit key → (all : List Indexed) → AllByRecursion (λ (entry : Indexed). AreFit entry.0) all
    → insert_entry (slice_cmp nat_cmp) (map stored_tuple all) (comparable_of key) tuple ≡ map stored_tuple (put key_cmp key tuple all)
kept_with law key tuple fit [] others = refl
kept_with law key tuple fit (entry ∷ all) others =
    ap (λ o. match_ordering o (new ∷ stored_tuple entry ∷ map stored_tuple all) ((comparable_of entry.0, tuple) ∷ map stored_tuple all) (stored_tuple entry ∷ inserted))
    (law key entry.0 fit others.0)
    ∙ by_case (key_cmp key entry.0) (kept_with law key tuple fit all others.1)
  where
    new : StoredTuple
    new = (comparable_of key, tuple)

    inserted : List StoredTuple
    inserted = insert_entry (slice_cmp nat_cmp) (map stored_tuple all) (comparable_of key) tuple

    by_case : (o : Ordering) → inserted ≡ map stored_tuple (put key_cmp key tuple all)
        → match_ordering o (new ∷ stored_tuple entry ∷ map stored_tuple all) ((comparable_of entry.0, tuple) ∷ map stored_tuple all) (stored_tuple entry ∷ inserted)
        ≡ map stored_tuple (by_order o ((key, tuple) ∷ entry ∷ all) ((entry.0, tuple) ∷ all) (entry ∷ put key_cmp key tuple all))
    by_case Less same = refl
    by_case Equal same = refl
    by_case Greater same = ap (λ l. stored_tuple entry ∷ l) same

-- and the keys have a property as before
pub all_with : (P : Key → Type 0) (key : Key) (tuple : List ℕ) → P key → (all : List Indexed) → AllByRecursion (λ (entry : Indexed). P entry.0) all
    → AllByRecursion (λ (entry : Indexed). P entry.0) (put key_cmp key tuple all)
all_with P key tuple has [] others = (has, tt)
all_with P key tuple has (entry ∷ all) others = by_case (key_cmp key entry.0) (all_with P key tuple has all others.1)
  where
    by_case : (o : Ordering) → AllByRecursion (λ (entry : Indexed). P entry.0) (put key_cmp key tuple all)
        → AllByRecursion (λ (entry : Indexed). P entry.0) (by_order o ((key, tuple) ∷ entry ∷ all) ((entry.0, tuple) ∷ all) (entry ∷ put key_cmp key tuple all))
    by_case Less later = (has, others)
    by_case Equal later = others
    by_case Greater later = (others.0, later)

pub no_entries : finite.entries (finite.empty {X = List ℕ} {R = key_cmp}) ≡ []
no_entries = nil_from_length _ (sym (finite.len-entries finite.empty) ∙ finite.len-empty key_cmp (List ℕ))

-- nothing is kept of no tuples
pub stores_none : (kept : List StoredTuple) → kept ≡ [] → StoresTuples kept finite.empty
stores_none kept none = record {
  same = ap (map stored_tuple) no_entries ∙ sym none;
  fit = subst (AllByRecursion (λ (entry : Indexed). AreFit entry.0)) (sym no_entries) tt;
}

-- a tuple more is kept under its key
pub stores_put : (kept after : List StoredTuple) (tuples : Tuples) (key : Key) (bytes tuple : List ℕ) → StoresTuples kept tuples
    → AreFit key → bytes ≡ comparable_of key → after ≡ insert_entry (slice_cmp nat_cmp) kept bytes tuple
    → StoresTuples after (finite.insert tuples key tuple)
stores_put kept after tuples key bytes tuple keeps fit is put_in =
    let all = finite.entries tuples in
    let new : finite.entries (finite.insert tuples key tuple) ≡ put key_cmp key tuple all = finite.entries-insert key_cmp_total tuples key tuple in
    record {
      same = ap (map stored_tuple) new ∙ sym (kept_with bytes_order key tuple fit all keeps.fit)
          ∙ ap (λ es. insert_entry (slice_cmp nat_cmp) es (comparable_of key) tuple) keeps.same
          ∙ ap (λ k. insert_entry (slice_cmp nat_cmp) kept k tuple) (sym is) ∙ sym put_in;
      fit = subst (AllByRecursion (λ (entry : Indexed). AreFit entry.0)) (sym new) (all_with AreFit key tuple fit all keeps.fit);
    }

-- each entry has a property after one more is put that has it
pub each_put : (P : Indexed → Type 0) (tuples : Tuples) (key : Key) (tuple : List ℕ) → P (key, tuple) → AllByRecursion P (finite.entries tuples)
    → AllByRecursion P (finite.entries (finite.insert tuples key tuple))
each_put P tuples key tuple has others = subst (AllByRecursion P) (sym (finite.entries-insert key_cmp_total tuples key tuple)) (all_put (finite.entries tuples) others)
  where
    by_case : (entry : Indexed) (all later : List Indexed) (o : Ordering) → key_cmp key entry.0 ≡ o → P entry → AllByRecursion P all → AllByRecursion P later
        → AllByRecursion P (by_order o ((key, tuple) ∷ entry ∷ all) ((entry.0, tuple) ∷ all) (entry ∷ later))
    by_case entry all later Less e one others rest = (has, (one, others))
    by_case entry all later Equal e one others rest = (subst (λ (k : Key). P (k, tuple)) (key_cmp-IsAntisymmetric key entry.0 e) has, others)
    by_case entry all later Greater e one others rest = (one, rest)

    all_put : (all : List Indexed) → AllByRecursion P all → AllByRecursion P (put key_cmp key tuple all)
    all_put [] others = (has, tt)
    all_put (entry ∷ all) others = by_case entry all (put key_cmp key tuple all) (key_cmp key entry.0) refl others.0 others.1 (all_put all others.1)

-- no tuples have it
pub each_none : (P : Indexed → Type 0) → AllByRecursion P (finite.entries (finite.empty {X = List ℕ} {R = key_cmp}))
each_none P = subst (AllByRecursion P) (sym no_entries) tt

-- keys that are joined, and their bytes
pub keys_joined : (one other : Key) → comparable_of (one ++ other) ≡ comparable_of one ++ comparable_of other
keys_joined one other = comparable_of-append one other

pub fit_joined : (one other : Key) → AreFit one → AreFit other → AreFit (one ++ other)
fit_joined [] other fits fit = fit
fit_joined (part ∷ one) other fits fit = (fits.0, fit_joined one other fits.1 fit)

-- the key in an index, by the test whether the index is unique
pub index_key_is : (def : IndexDef) (first : Key) (tuple bytes : List ℕ) (unique : Bool) → def.unique ≡ unique → AreFit (key_or_none (key_in def.key tuple)) → AreFit first
    → bytes ≡ comparable_of (key_or_none (key_in def.key tuple)) ++ (if unique then [] else comparable_of first)
    → (bytes ≡ comparable_of (entry_key def first tuple)) × AreFit (entry_key def first tuple)
index_key_is def first tuple bytes true is fits fit told =
    let parts = key_or_none (key_in def.key tuple) in
    let key : entry_key def first tuple ≡ parts = ap (λ b. parts ++ (if b then [] else first)) is ∙ append-nil parts in
    (told ∙ append-nil (comparable_of parts) ∙ ap comparable_of (sym key), subst AreFit (sym key) fits)
index_key_is def first tuple bytes false is fits fit told =
    let parts = key_or_none (key_in def.key tuple) in
    let key : entry_key def first tuple ≡ parts ++ first = ap (λ b. parts ++ (if b then [] else first)) is in
    (told ∙ sym (keys_joined parts first) ∙ ap comparable_of (sym key), subst AreFit (sym key) (fit_joined parts first fits fit))

-- ---- the tuples by another index

-- some of the tuples are kept under their keys in an index, and the others are to come
pub record PartIndexed (def : IndexDef) (all : Tuples) (kept left : List StoredTuple) : Type 0 where
  pub so_far : Tuples
  pub others : List Indexed
  pub same : indexed_with def so_far others ≡ indexed_with def finite.empty (finite.entries all)
  pub keeps : StoresTuples kept so_far
  pub to_come : map stored_tuple others ≡ left
  pub fit : AllByRecursion (λ (entry : Indexed). AreFit entry.0) others

pub none_indexed : (def : IndexDef) (all : Tuples) (kept stored left : List StoredTuple) → kept ≡ [] → left ≡ stored → StoresTuples stored all → PartIndexed def all kept left
none_indexed def all kept stored left none is keeps = record {
  so_far = finite.empty;
  others = finite.entries all;
  same = refl;
  keeps = stores_none kept none;
  to_come = keeps.same ∙ sym is;
  fit = keeps.fit;
}

-- one more is put under its key
pub one_indexed : (def : IndexDef) (all : Tuples) (kept after left rest : List StoredTuple) (primary tuple bytes copy : List ℕ) → left ≡ (primary, tuple) ∷ rest
    → ((first : Key) → AreFit first → primary ≡ comparable_of first → (bytes ≡ comparable_of (entry_key def first tuple)) × AreFit (entry_key def first tuple) × (copy ≡ tuple))
    → after ≡ insert_entry (slice_cmp nat_cmp) kept bytes copy → PartIndexed def all kept left → PartIndexed def all after rest
one_indexed def all kept after left rest primary tuple bytes copy next keyed put_in part = by_others part.others part.same (part.to_come ∙ next) part.fit
  where
    by_others : (others : List Indexed) → indexed_with def part.so_far others ≡ indexed_with def finite.empty (finite.entries all) → map stored_tuple others ≡ (primary, tuple) ∷ rest
        → AllByRecursion (λ (entry : Indexed). AreFit entry.0) others → PartIndexed def all after rest
    by_others [] same to_come fit = absurd cc
    by_others ((first, one) ∷ others) same to_come (fit, fits) =
        let pair : stored_tuple (first, one) ≡ (primary, tuple) = cc in
        let key_is : primary ≡ comparable_of first = sym (ap (λ (p : StoredTuple). p.0) pair) in
        let one_is : one ≡ tuple = ap (λ (p : StoredTuple). p.1) pair in
        let others_are : map stored_tuple others ≡ rest = cc in
        let (bytes_are, key_fit, copied) = keyed first fit key_is in
        let key = entry_key def first tuple in
        record {
          so_far = finite.insert part.so_far key tuple;
          others = others;
          same = ap (λ t. indexed_with def (finite.insert part.so_far (entry_key def first t) t) others) (sym one_is) ∙ same;
          keeps = stores_put kept after part.so_far key bytes tuple part.keeps key_fit bytes_are (put_in ∙ ap (insert_entry (slice_cmp nat_cmp) kept bytes) copied);
          to_come = others_are;
          fit = fits;
        }

-- all are
pub all_indexed : (def : IndexDef) (all : Tuples) (kept left : List StoredTuple) → left ≡ [] → PartIndexed def all kept left
    → StoresTuples kept (indexed_with def finite.empty (finite.entries all))
all_indexed def all kept left over part = by_others part.others part.same (part.to_come ∙ over)
  where
    by_others : (others : List Indexed) → indexed_with def part.so_far others ≡ indexed_with def finite.empty (finite.entries all) → map stored_tuple others ≡ []
        → StoresTuples kept (indexed_with def finite.empty (finite.entries all))
    by_others [] same none = subst (StoresTuples kept) same part.keeps
    by_others (entry ∷ others) same none = absurd cc

-- the index of the number 0 has the tuples as they are, and another one under keys of its own
pub primary_index : (def : IndexDef) (all : Tuples) → def.id.0 ≡ 0 → tuples_by_index def all ≡ all
primary_index def all is = ap (λ b. if b then all else indexed_with def finite.empty (finite.entries all)) (eq-eqb def.id.0 0 is)

pub other_index : (def : IndexDef) (all : Tuples) → (def.id.0 ≡ 0 → ⊥) → tuples_by_index def all ≡ indexed_with def finite.empty (finite.entries all)
other_index def all apart = ap (λ b. if b then all else indexed_with def finite.empty (finite.entries all)) (ne_eqb def.id.0 0 apart)
