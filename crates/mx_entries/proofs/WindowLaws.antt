-- What skipping entries and taking them makes of a list of them, step by step.
use Rattle.std.proofs.Common.{◌≡◌, List, [], ◌∷◌, ℕ, length, Option, Some, None, sym, ◌∙◌, subst, zero, suc, ◌+◌, ◌-◌, ◌<◌, ◌≤◌, Bool, true, false, cond, ◌++◌, map, reverse, take, drop, filter, sum, refl, ap, append-nil, append_assoc, arith, slice_index_or, slice_get, slice_set, insert, All, IfSome}
use Rattle.std.specs.Prelude.{◌≢◌, MatchOption}
use Rattle.std.specs.List.{AllByRecursion}
use Rattle.std.specs.declared.cmp.Ordering.{Ordering}
use Rattle.std.specs.declared.cmp.Ordering.TheVariants.{Less, Equal, Greater}
use Rattle.std.specs.Ordering.{nat_cmp, is_lt, is_eq, ordering_reverse, match_ordering}
use Rattle.std.specs.Cmp.Lexicographic.{slice_cmp}
use Rattle.std.specs.BTreeMap.{insert_entry}
use Rattle.std.proofs.lemmas.Cmp.{nat_list_cmp_total}
use Rattle.std.proofs.lemmas.List.{reverse-append, map-append, take_more, take-append-drop, take-set, drop-set, drop_more, set-get_or}
use Rattle.std.proofs.lemmas.Option.{slice_get_past}
use Rattle.std.proofs.lemmas.List.Sums.{sum_by-append}
use Rattle.std.proofs.lemmas.List.Elements.{filter-append, All-same, All-push, recursion_from_All}
use Rattle.std.proofs.Math.Seq.{drop-nil}
use Rattle.mx_key.specs.Keys.{Key}
use Rattle.mx_schema.specs.declared.index_def.IndexDef.{IndexDef}
use Rattle.mx_schema.specs.Picks.{Indexed, tuples_by_index, directed, window, total_bytes, max_result_size}
use Rattle.mx_schema.specs.State.{Tuples}
use Rattle.mx_schema.specs.Stored.{StoredTuple, StoresTuples, stored_view, stored_list}
use Rattle.mx_schema.proofs.StoredLaws.{primary_index}
use mathlib.Core.Bool.{true≢false}
use Rattle.mx_schema.specs.declared.keyed.Keyed.{Keyed}
use Rattle.mx_entries.specs.Windows.{last_key_or}

-- ---- the map that a SELECT reads: the tuples of a space, or those under their keys in another index

-- keys with as many parts as one of them
pub all_as_long : (key : Key) (long : ℕ) → length key ≡ long → (all : List Indexed) → AllByRecursion (λ (entry : Indexed). length entry.0 ≡ long) all
    → AllByRecursion (λ (entry : Indexed). length entry.0 ≡ length key) all
all_as_long key long is [] whole = tt
all_as_long key long is (entry ∷ all) (first, others) = (first ∙ sym is, all_as_long key long is all others)

module _ {X : Type 0} (view : X → List StoredTuple) (def : IndexDef) (all : Tuples) (tuples kept : X) where
  -- those of the space for the index of the number 0, and else others
  pub kept_stored : (indexed : Option X) → StoresTuples (view tuples) all
      → MatchOption indexed (def.id.0 ≡ 0) (λ found. (def.id.0 ≢ 0) × StoresTuples (view found) (tuples_by_index def all))
      → MatchOption indexed (kept ≡ tuples) (λ found. kept ≡ found) → StoresTuples (view kept) (tuples_by_index def all)
  kept_stored None keeps first same =
      let theirs : StoresTuples (view kept) all = subst (λ one. StoresTuples (view one) all) (sym same) keeps in
      subst (StoresTuples (view kept)) (sym (primary_index def all first)) theirs
  kept_stored (Some found) keeps other same = subst (λ one. StoresTuples (view one) (tuples_by_index def all)) (sym same) other.1

-- ---- what skipping entries and taking them makes of a list of them, step by step

not_more : ¬ (0 < 0)
not_more = omega arith

module _ {X : Type 0} where
  pub drop_one : (n : ℕ) (x : X) (xs ys : List X) → 0 < n → xs ≡ x ∷ ys → drop n xs ≡ drop (n - 1) ys
  drop_one zero x xs ys more next = absurd (not_more more)
  drop_one (suc n) x xs ys more next = let less : n ≡ suc n - 1 = omega arith in ap (drop (suc n)) next ∙ ap (λ k. drop k ys) less

  pub take_one : (n : ℕ) (x : X) (xs ys : List X) → 0 < n → xs ≡ x ∷ ys → take n xs ≡ x ∷ take (n - 1) ys
  take_one zero x xs ys more next = absurd (not_more more)
  take_one (suc n) x xs ys more next = let less : n ≡ suc n - 1 = omega arith in ap (take (suc n)) next ∙ ap (λ k. x ∷ take k ys) less

-- the last one's key, where there may be an earlier one
abbrev pub last_after : Option (List ℕ) → List StoredTuple → Option (List ℕ)
last_after earlier [] = earlier
last_after earlier (entry ∷ others) = Some (last_key_or entry.0 others)

last_after-some : (key : List ℕ) (entries : List StoredTuple) → last_after (Some key) entries ≡ Some (last_key_or key entries)
last_after-some key [] = refl
last_after-some key (entry ∷ others) = refl

-- the tuples of entries
abbrev pub tuples_of : List StoredTuple → List (List ℕ)
tuples_of entries = map (λ entry. entry.1) entries

total_bytes-append : (xs ys : List (List ℕ)) → total_bytes (xs ++ ys) ≡ total_bytes xs + total_bytes ys
total_bytes-append xs ys = ap sum (map-append length xs ys) ∙ sum_by-append (λ x. x) (map length xs) (map length ys)

-- one entry more is taken
pub took_tuple : (all : List (List ℕ)) (tuples : List (List ℕ)) (left : ℕ) (next : StoredTuple) (entries others : List StoredTuple)
    → 0 < left → entries ≡ next ∷ others → all ≡ tuples ++ tuples_of (take left entries)
    → all ≡ (tuples ++ next.1 ∷ []) ++ tuples_of (take (left - 1) others)
took_tuple all tuples left next entries others more is before =
    before ∙ ap (λ taken. tuples ++ tuples_of taken) (take_one left next entries others more is)
    ∙ sym (append_assoc tuples (next.1 ∷ []) (tuples_of (take (left - 1) others)))

pub took_last : (last : Option (List ℕ)) (earlier : Option (List ℕ)) (left : ℕ) (next : StoredTuple) (entries others : List StoredTuple)
    → 0 < left → entries ≡ next ∷ others → last ≡ last_after earlier (take left entries) → last ≡ last_after (Some next.0) (take (left - 1) others)
took_last last earlier left next entries others more is before =
    before ∙ ap (last_after earlier) (take_one left next entries others more is) ∙ sym (last_after-some next.0 (take (left - 1) others))

pub took_bytes : (tuples : List (List ℕ)) (tuple : List ℕ) (bytes : ℕ) → bytes ≡ total_bytes tuples → bytes + length tuple ≡ total_bytes (tuples ++ tuple ∷ [])
took_bytes tuples tuple bytes before = omega (arith, total_bytes-append tuples (tuple ∷ []))

-- the next entry is too many bytes
pub too_long : (all : List (List ℕ)) (tuples : List (List ℕ)) (left bytes : ℕ) (next : StoredTuple) (entries others : List StoredTuple)
    → 0 < left → entries ≡ next ∷ others → all ≡ tuples ++ tuples_of (take left entries)
    → bytes ≡ total_bytes tuples → bytes ≤ max_result_size → max_result_size - bytes < length next.1 → max_result_size < total_bytes all
too_long all tuples left bytes next entries others more is before sum within beyond =
    let whole = took_tuple all tuples left next entries others more is before in
    let rest = tuples_of (take (left - 1) others) in
    omega (arith, ap total_bytes whole, total_bytes-append (tuples ++ next.1 ∷ []) rest, total_bytes-append tuples (next.1 ∷ []))

-- ---- a filter, step by step

filter-cons_true : {X : Type 0} (p : X → Bool) (x : X) (xs : List X) → p x ≡ true → filter p (x ∷ xs) ≡ x ∷ filter p xs
filter-cons_true p x xs held = ap (λ b. cond b (x ∷ filter p xs) (filter p xs)) held

filter-cons_false : {X : Type 0} (p : X → Bool) (x : X) (xs : List X) → p x ≡ false → filter p (x ∷ xs) ≡ filter p xs
filter-cons_false p x xs missed = ap (λ b. cond b (x ∷ filter p xs) (filter p xs)) missed

reverse_cons : {X : Type 0} (x : X) (xs : List X) → reverse (x ∷ xs) ≡ reverse xs ++ x ∷ []
reverse_cons x xs = reverse-append (x ∷ []) xs

-- the filter of what was reversed is the reverse of the filter
pub filter-reverse : {X : Type 0} (p : X → Bool) (xs : List X) → filter p (reverse xs) ≡ reverse (filter p xs)
filter-reverse p [] = refl
filter-reverse {X = X} p (x ∷ xs) =
    ap (filter p) (reverse_cons x xs)
    ∙ filter-append p (reverse xs) (x ∷ [])
    ∙ ap (λ l. l ++ filter p (x ∷ [])) (filter-reverse p xs)
    ∙ by_test (p x)
  where
    by_test : (b : Bool) → reverse (filter p xs) ++ cond {A = List X} b (x ∷ []) [] ≡ reverse (cond b (x ∷ filter p xs) (filter p xs))
    by_test true = sym (reverse_cons x (filter p xs))
    by_test false = append-nil (reverse (filter p xs))

pub map-reverse : {X Y : Type 0} (f : X → Y) (xs : List X) → map f (reverse xs) ≡ reverse (map f xs)
map-reverse f [] = refl
map-reverse f (x ∷ xs) =
    ap (map f) (reverse_cons x xs)
    ∙ map-append f (reverse xs) (x ∷ [])
    ∙ ap (λ l. l ++ f x ∷ []) (map-reverse f xs)
    ∙ sym (reverse_cons (f x) (map f xs))

pub filter-directed : {X : Type 0} (p : X → Bool) (down : Bool) (xs : List X) → directed down (filter p xs) ≡ filter p (directed down xs)
filter-directed p true xs = sym (filter-reverse p xs)
filter-directed p false xs = refl

pub map-directed : {X Y : Type 0} (f : X → Y) (down : Bool) (xs : List X) → directed down (map f xs) ≡ map f (directed down xs)
map-directed f true xs = sym (map-reverse f xs)
map-directed f false xs = refl

-- ---- one entry more is looked at

-- of what is seen of each, the next one is the next one's
pub next_seen : {X Y : Type 0} (f : X → Y) (down : Bool) (next : X) (rest others : List X)
    → directed down rest ≡ next ∷ directed down others → directed down (map f rest) ≡ f next ∷ directed down (map f others)
next_seen f down next rest others is =
    map-directed f down rest ∙ ap (map f) is ∙ ap (λ l. f next ∷ l) (sym (map-directed f down others))

module _ (p : StoredTuple → Bool) (down : Bool) (next : StoredTuple) (entries others : List StoredTuple) (is : directed down entries ≡ next ∷ directed down others) where
  filtered_out : p next ≡ false → directed down (filter p entries) ≡ directed down (filter p others)
  filtered_out missed =
      filter-directed p down entries ∙ ap (filter p) is ∙ filter-cons_false p next (directed down others) missed ∙ sym (filter-directed p down others)

  filtered_in : p next ≡ true → directed down (filter p entries) ≡ next ∷ directed down (filter p others)
  filtered_in held =
      filter-directed p down entries ∙ ap (filter p) is ∙ filter-cons_true p next (directed down others) held
      ∙ ap (λ l. next ∷ l) (sym (filter-directed p down others))

  module _ (all tuples : List (List ℕ)) (offset left : ℕ) (before : all ≡ tuples ++ tuples_of (window offset left (directed down (filter p entries)))) where
    -- an entry that the filter omits
    pub went_outside : p next ≡ false → all ≡ tuples ++ tuples_of (window offset left (directed down (filter p others)))
    went_outside missed = before ∙ ap (λ l. tuples ++ tuples_of (window offset left l)) (filtered_out missed)

    -- one that the offset passes over
    pub went_past : p next ≡ true → 0 < offset → all ≡ tuples ++ tuples_of (window (offset - 1) left (directed down (filter p others)))
    went_past held more =
        before ∙ ap (λ l. tuples ++ tuples_of (take left l))
        (drop_one offset next (directed down (filter p entries)) (directed down (filter p others)) more (filtered_in held))

    at_hand : offset ≡ 0 → all ≡ tuples ++ tuples_of (take left (directed down (filter p entries)))
    at_hand none = before ∙ ap (λ n. tuples ++ tuples_of (window n left (directed down (filter p entries)))) none

    -- one that is taken
    pub went_on : p next ≡ true → offset ≡ 0 → 0 < left → all ≡ (tuples ++ next.1 ∷ []) ++ tuples_of (window offset (left - 1) (directed down (filter p others)))
    went_on held none more =
        took_tuple all tuples left next (directed down (filter p entries)) (directed down (filter p others)) more (filtered_in held) (at_hand none)
        ∙ ap (λ n. (tuples ++ next.1 ∷ []) ++ tuples_of (window n (left - 1) (directed down (filter p others)))) (sym none)

    -- one that is too many bytes
    pub went_too_far : (bytes : ℕ) → p next ≡ true → offset ≡ 0 → 0 < left
        → bytes ≡ total_bytes tuples → bytes ≤ max_result_size → max_result_size - bytes < length next.1 → max_result_size < total_bytes all
    went_too_far bytes held none more sum within beyond =
        too_long all tuples left bytes next (directed down (filter p entries)) (directed down (filter p others)) more (filtered_in held) (at_hand none) sum within beyond

-- ---- the place of a key

-- one element more has the property that those before it have
pub taken_more : {X : Type 0} (P : X → Type 0) (xs : List X) (i : ℕ) (x : X)
    → i < length xs → x ≡ slice_index_or xs i x → All P (take i xs) → P x → All P (take (i + 1) xs)
taken_more P xs i x within is all held =
    All-same P (take (i + 1) xs) (take i xs ++ slice_index_or xs i x ∷ []) (take_more xs i x within) (All-push P (take i xs) (slice_index_or xs i x) all (subst P is held))

pub none_past : {X : Type 0} (P : X → Type 0) (xs : List X) (i : ℕ) → length xs ≤ i → IfSome (slice_get xs i) P
none_past P xs i past = subst (λ o. IfSome o P) (sym (slice_get_past xs i past)) tt

-- an element put where it stands changes nothing
pub set_same : {X : Type 0} (xs : List X) (i : ℕ) (x : X) → x ≡ slice_index_or xs i x → slice_set xs i x ≡ xs
set_same xs i x is = ap (slice_set xs i) is ∙ set-get_or xs i x

pub there : {X : Type 0} (P : X → Type 0) (xs : List X) (i : ℕ) (x : X) → i < length xs → x ≡ slice_index_or xs i x → P x → IfSome (slice_get xs i) P
there P [] i x within is held = tt
there P (y ∷ ys) zero x within is held = subst P is held
there P (y ∷ ys) (suc i) x within is held = there P ys i x (omega arith) is held

both_there : {X : Type 0} (P Q : X → Type 0) (o : Option X) → IfSome o P → IfSome o Q → IfSome o (λ x. P x × Q x)
both_there P Q None p q = tt
both_there P Q (Some x) p q = (p, q)

tie_turns : (o : Ordering) → is_eq o ≡ true → ordering_reverse o ≡ Equal
tie_turns Less is = absurd (true≢false (sym is))
tie_turns Equal is = refl
tie_turns Greater is = absurd (true≢false (sym is))

lower_turns : (o : Ordering) → is_lt o ≡ true → ordering_reverse o ≡ Greater
lower_turns Less is = refl
lower_turns Equal is = absurd (true≢false (sym is))
lower_turns Greater is = absurd (true≢false (sym is))

upper_turns : (o : Ordering) → is_lt o ≡ false → is_eq o ≡ false → ordering_reverse o ≡ Less
upper_turns Less lower tied = absurd (true≢false lower)
upper_turns Equal lower tied = absurd (true≢false tied)
upper_turns Greater lower tied = refl

-- the key of a tuple is below another one, isn't, or isn't the other one
abbrev pub IsBelow : List ℕ → Keyed → Type 0
IsBelow key one = is_lt (slice_cmp nat_cmp one.key key) ≡ true

abbrev pub IsNotBelow : List ℕ → Keyed → Type 0
IsNotBelow key one = is_lt (slice_cmp nat_cmp one.key key) ≡ false

abbrev pub IsOther : List ℕ → Keyed → Type 0
IsOther key one = is_eq (slice_cmp nat_cmp one.key key) ≡ false

module _ (key tuple : List ℕ) where
  -- those below stay first
  put_behind : (before : List Keyed) (after : List StoredTuple) → AllByRecursion (IsBelow key) before
      → insert_entry (slice_cmp nat_cmp) (stored_list before ++ after) key tuple ≡ stored_list before ++ insert_entry (slice_cmp nat_cmp) after key tuple
  put_behind [] after below = refl
  put_behind (one ∷ before) after below =
      let all = stored_view one ∷ (stored_list before ++ after) in
      ap (λ o. match_ordering o ((key, tuple) ∷ all) ((one.key, tuple) ∷ (stored_list before ++ after)) (stored_view one ∷ insert_entry (slice_cmp nat_cmp) (stored_list before ++ after) key tuple))
      (nat_list_cmp_total.antisymm key one.key ∙ lower_turns (slice_cmp nat_cmp one.key key) below.0)
      ∙ ap (λ l. stored_view one ∷ l) (put_behind before after below.1)

  put_at : (kept : List Keyed) (place : ℕ) → All (IsBelow key) (take place kept)
      → insert_entry (slice_cmp nat_cmp) (stored_list kept) key tuple ≡ stored_list (take place kept) ++ insert_entry (slice_cmp nat_cmp) (stored_list (drop place kept)) key tuple
  put_at kept place below =
      ap (λ l. insert_entry (slice_cmp nat_cmp) (stored_list l) key tuple) (sym (take-append-drop place kept))
      ∙ ap (λ l. insert_entry (slice_cmp nat_cmp) l key tuple) (map-append stored_view (take place kept) (drop place kept))
      ∙ put_behind (take place kept) (stored_list (drop place kept)) (recursion_from_All (IsBelow key) (take place kept) below)

  -- the key is there, and the tuple takes the place of its tuple
  pub put_replaces : (kept : List Keyed) (place : ℕ) (found : Keyed) → place < length kept → found ≡ slice_index_or kept place found
      → All (IsBelow key) (take place kept) → is_eq (slice_cmp nat_cmp found.key key) ≡ true
      → stored_list (slice_set kept place (record { key = found.key; tuple = tuple })) ≡ insert_entry (slice_cmp nat_cmp) (stored_list kept) key tuple
  put_replaces kept place found within is below tied =
      let new : Keyed = record { key = found.key; tuple = tuple } in
      let rest = drop (place + 1) kept in
      ap stored_list (sym (take-append-drop place (slice_set kept place new)))
      ∙ map-append stored_view (take place (slice_set kept place new)) (drop place (slice_set kept place new))
      ∙ ap (λ l. stored_list l ++ stored_list (drop place (slice_set kept place new))) (take-set kept place new)
      ∙ ap (λ l. stored_list (take place kept) ++ stored_list l) (drop-set kept place new within)
      ∙ ap (λ l. stored_list (take place kept) ++ l) (sym (
      ap (λ l. insert_entry (slice_cmp nat_cmp) (stored_list l) key tuple) (drop_more kept place found within ∙ ap (λ one. one ∷ rest) (sym is))
      ∙ ap (λ o. match_ordering o ((key, tuple) ∷ stored_view found ∷ stored_list rest) ((found.key, tuple) ∷ stored_list rest) (stored_view found ∷ insert_entry (slice_cmp nat_cmp) (stored_list rest) key tuple))
      (nat_list_cmp_total.antisymm key found.key ∙ tie_turns (slice_cmp nat_cmp found.key key) tied)
      ))
      ∙ sym (put_at kept place below)

  put_first : (kept : List Keyed) (place : ℕ) → IfSome (slice_get kept place) (λ one. IsNotBelow key one × IsOther key one)
      → insert_entry (slice_cmp nat_cmp) (stored_list (drop place kept)) key tuple ≡ (key, tuple) ∷ stored_list (drop place kept)
  put_first [] place above = ap (λ l. insert_entry (slice_cmp nat_cmp) (stored_list l) key tuple) (drop-nil place) ∙ ap (λ l. (key, tuple) ∷ stored_list l) (sym (drop-nil {A = Keyed} place))
  put_first (one ∷ others) zero above =
      ap (λ o. match_ordering o ((key, tuple) ∷ stored_view one ∷ stored_list others) ((one.key, tuple) ∷ stored_list others) (stored_view one ∷ insert_entry (slice_cmp nat_cmp) (stored_list others) key tuple))
      (nat_list_cmp_total.antisymm key one.key ∙ upper_turns (slice_cmp nat_cmp one.key key) above.0 above.1)
  put_first (one ∷ others) (suc place) above = put_first others place above

  -- the key is new
  pub put_adds : (kept : List Keyed) (place : ℕ) → All (IsBelow key) (take place kept)
      → IfSome (slice_get kept place) (IsNotBelow key)
      → IfSome (slice_get kept place) (IsOther key)
      → stored_list (insert kept place (record { key = key; tuple = tuple })) ≡ insert_entry (slice_cmp nat_cmp) (stored_list kept) key tuple
  put_adds kept place below lower other =
      let above = both_there (IsNotBelow key) (IsOther key) (slice_get kept place) lower other in
      map-append stored_view (take place kept) (record { key = key; tuple = tuple } ∷ drop place kept)
      ∙ ap (λ l. stored_list (take place kept) ++ l) (sym (put_first kept place above))
      ∙ sym (put_at kept place below)
