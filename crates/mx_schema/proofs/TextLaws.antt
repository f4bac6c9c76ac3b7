-- Looking for several keys in a map's pairs, one pair after the other.
use Rattle.std.proofs.Common.{◌≡◌, ℕ, zero, suc, ◌+◌, ◌-◌, ◌<◌, ◌≤◌, Bool, true, false, cond, List, [], ◌∷◌, length, map, take, set, get_or, Option, Some, None, refl, sym, ap, ◌∙◌, arith, add-one}
use Rattle.std.specs.Option.{option_or}
use Rattle.mx_schema.specs.TextMaps.{TextPair, is_same_text, text_pairs_from, value_of_key}
use Rattle.mx_schema.specs.Lookups.{noted_text}

-- the later one of two, where there is one
abbrev pub later : {X : Type 0} → Option X → Option X → Option X
later earlier last = option_or last earlier

-- what these keys have with the pairs that come later
abbrev pub followed : (keys : List (List ℕ)) → List (Option (List ℕ)) → List TextPair → List (Option (List ℕ))
followed [] found pairs = []
followed (key ∷ keys) [] pairs = []
followed (key ∷ keys) (value ∷ found) pairs = later value (value_of_key key pairs) ∷ followed keys found pairs

pub later_none : {X : Type 0} (o : Option X) → later None o ≡ o
later_none None = refl
later_none (Some x) = refl

pub later_assoc : {X : Type 0} (first second third : Option X) → later first (later second third) ≡ later (later first second) third
later_assoc first second None = refl
later_assoc first second (Some x) = refl

pub followed_none : (keys : List (List ℕ)) (found : List (Option (List ℕ))) (pairs : List TextPair) → found ≡ map (λ key. None) keys
    → followed keys found pairs ≡ map (λ key. value_of_key key pairs) keys
followed_none [] found pairs e = refl
followed_none (key ∷ keys) [] pairs e = absurd cc
followed_none (key ∷ keys) (value ∷ found) pairs e =
    let first : value ≡ None = cc in
    let nothing : found ≡ map (λ key. None) keys = cc in
    let others = followed_none keys found pairs nothing in
    rw (first, others) (ap (λ o. o ∷ map (λ key. value_of_key key pairs) keys) (later_none (value_of_key key pairs)))

pub followed_all : (keys : List (List ℕ)) (found : List (Option (List ℕ))) → length found ≡ length keys → followed keys found [] ≡ found
followed_all [] [] e = refl
followed_all [] (value ∷ found) e = absurd (omega arith)
followed_all (key ∷ keys) [] e = absurd (omega arith)
followed_all (key ∷ keys) (value ∷ found) e = ap (λ found. value ∷ found) (followed_all keys found (omega arith))

taken : (b : Bool) (value : List ℕ) (old : Option (List ℕ)) (rest : Option (List ℕ))
    → later old (later (cond b (Some value) None) rest) ≡ later (cond b (Some value) old) rest
taken true value old rest = later_assoc old (Some value) rest
taken false value old rest = ap (later old) (later_none rest)

-- a pair with a key, and one without
pub followed_key : (key value : List ℕ) (keys : List (List ℕ)) (found : List (Option (List ℕ))) (pairs : List TextPair)
    → followed keys found (record { key = Some key; value = value } ∷ pairs) ≡ followed keys (noted_text key value keys found) pairs
followed_key key value [] found pairs = refl
followed_key key value (wanted ∷ keys) [] pairs = refl
followed_key key value (wanted ∷ keys) (old ∷ found) pairs =
    let first = taken (is_same_text key wanted) value old (value_of_key wanted pairs) in
    let others = followed_key key value keys found pairs in
    cc

pub followed_other : (value : List ℕ) (keys : List (List ℕ)) (found : List (Option (List ℕ))) (pairs : List TextPair)
    → followed keys found (record { key = None; value = value } ∷ pairs) ≡ followed keys found pairs
followed_other value [] found pairs = refl
followed_other value (wanted ∷ keys) [] pairs = refl
followed_other value (wanted ∷ keys) (old ∷ found) pairs =
    let first = later_none (value_of_key wanted pairs) in
    let others = followed_other value keys found pairs in
    cc

-- the key at a place is another one, or this one
pub noted_other : (key value : List ℕ) (keys : List (List ℕ)) (found : List (Option (List ℕ))) (place : ℕ)
    → is_same_text key (get_or keys place []) ≡ false → noted_text key value (take (suc place) keys) found ≡ noted_text key value (take place keys) found
noted_other key value [] found zero e = refl
noted_other key value [] found (suc place) e = refl
noted_other key value (wanted ∷ keys) [] zero e = refl
noted_other key value (wanted ∷ keys) [] (suc place) e = refl
noted_other key value (wanted ∷ keys) (old ∷ found) zero e = rw e refl
noted_other key value (wanted ∷ keys) (old ∷ found) (suc place) e =
    ap (λ found. cond (is_same_text key wanted) (Some value) old ∷ found) (noted_other key value keys found place e)

pub noted_here : (key value : List ℕ) (keys : List (List ℕ)) (found : List (Option (List ℕ))) (place : ℕ) → place < length keys
    → is_same_text key (get_or keys place []) ≡ true → noted_text key value (take (suc place) keys) found ≡ set (noted_text key value (take place keys) found) place (Some value)
noted_here key value [] found place in_range e = absurd (omega arith)
noted_here key value (wanted ∷ keys) [] zero in_range e = refl
noted_here key value (wanted ∷ keys) [] (suc place) in_range e = refl
noted_here key value (wanted ∷ keys) (old ∷ found) zero in_range e = rw e refl
noted_here key value (wanted ∷ keys) (old ∷ found) (suc place) in_range e =
    ap (λ found. cond (is_same_text key wanted) (Some value) old ∷ found) (noted_here key value keys found place (omega arith) e)

-- a turn of the loop over the keys
pub turn_here : (key value wanted : List ℕ) (keys : List (List ℕ)) (found before after : List (Option (List ℕ))) (place : ℕ) → place < length keys
    → wanted ≡ get_or keys place [] → is_same_text key wanted ≡ true → before ≡ noted_text key value (take place keys) found → after ≡ set before place (Some value)
    → after ≡ noted_text key value (take (place + 1) keys) found
turn_here key value wanted keys found before after place in_range stands same so_far is =
    rw add-one (is ∙ ap (λ found. set found place (Some value)) so_far ∙ sym (noted_here key value keys found place in_range (ap (is_same_text key) (sym stands) ∙ same)))

pub turn_other : (key value wanted : List ℕ) (keys : List (List ℕ)) (found before after : List (Option (List ℕ))) (place : ℕ)
    → wanted ≡ get_or keys place [] → is_same_text key wanted ≡ false → before ≡ noted_text key value (take place keys) found → after ≡ before
    → after ≡ noted_text key value (take (place + 1) keys) found
turn_other key value wanted keys found before after place stands other so_far is =
    rw add-one (is ∙ so_far ∙ sym (noted_other key value keys found place (ap (is_same_text key) (sym stands) ∙ other)))

-- a turn of the loop over the pairs
pub pair_with_key : (keys : List (List ℕ)) (before after whole : List (Option (List ℕ))) (left : ℕ) (bytes rest : List ℕ) (key value : List ℕ) → 0 < left
    → ((others : ℕ) → text_pairs_from (suc others) bytes ≡ record { key = Some key; value = value } ∷ text_pairs_from others rest)
    → after ≡ noted_text key value keys before → followed keys before (text_pairs_from left bytes) ≡ whole
    → followed keys after (text_pairs_from (left - 1) rest) ≡ whole
pair_with_key keys before after whole left bytes rest key value some first is all =
    let more : left ≡ suc (left - 1) = omega arith in
    let pairs : text_pairs_from left bytes ≡ record { key = Some key; value = value } ∷ text_pairs_from (left - 1) rest = ap (λ (n : ℕ). text_pairs_from n bytes) more ∙ first (left - 1) in
    rw is (sym (followed_key key value keys before (text_pairs_from (left - 1) rest)) ∙ ap (followed keys before) (sym pairs) ∙ all)

pub pair_with_none : (keys : List (List ℕ)) (before after whole : List (Option (List ℕ))) (left : ℕ) (bytes rest value : List ℕ) → 0 < left
    → ((others : ℕ) → text_pairs_from (suc others) bytes ≡ record { key = None; value = value } ∷ text_pairs_from others rest)
    → after ≡ before → followed keys before (text_pairs_from left bytes) ≡ whole
    → followed keys after (text_pairs_from (left - 1) rest) ≡ whole
pair_with_none keys before after whole left bytes rest value some first is all =
    let more : left ≡ suc (left - 1) = omega arith in
    let pairs : text_pairs_from left bytes ≡ record { key = None; value = value } ∷ text_pairs_from (left - 1) rest = ap (λ (n : ℕ). text_pairs_from n bytes) more ∙ first (left - 1) in
    rw is (sym (followed_other value keys before (text_pairs_from (left - 1) rest)) ∙ ap (followed keys before) (sym pairs) ∙ all)

-- no pair remains
pub pairs_over : (keys : List (List ℕ)) (found whole : List (Option (List ℕ))) (left : ℕ) (bytes : List ℕ) → left ≤ 0 → length found ≡ length keys
    → followed keys found (text_pairs_from left bytes) ≡ whole → found ≡ whole
pairs_over keys found whole left bytes none long all =
    let over : left ≡ 0 = omega arith in
    sym (followed_all keys found long) ∙ ap (λ (n : ℕ). followed keys found (text_pairs_from n bytes)) (sym over) ∙ all

-- none for each
pub none_each : {X Y : Type 0} (f : X → Y) (xs : List X) → map {B = Option (List ℕ)} (λ x. None) xs ≡ map (λ y. None) (map f xs)
none_each f [] = refl
none_each f (x ∷ xs) = ap (λ (l : List (Option (List ℕ))). None ∷ l) (none_each f xs)
