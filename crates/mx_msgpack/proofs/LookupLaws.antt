-- Looking for several keys in a map's pairs, one pair after the other.
use Rattle.std.proofs.Common.{◌≡◌, ℕ, zero, suc, ◌+◌, ◌-◌, ◌<◌, ◌≤◌, Bool, true, false, cond, List, [], ◌∷◌, length, map, take, set, get_or, Option, Some, None, refl, sym, ap, ◌∙◌, arith, eqb, eq-eqb, add-one}
use Rattle.std.proofs.lemmas.Bool.{ne_eqb}
use Rattle.std.specs.Option.{option_or}
use Rattle.mx_msgpack.specs.Maps.{Pair, pairs_from, value_under}
use Rattle.mx_msgpack.specs.Lookups.{noted}

-- the later one of two, where there is one
abbrev pub later : {X : Type 0} → Option X → Option X → Option X
later earlier last = option_or last earlier

-- what these keys have with the pairs that come later
abbrev pub followed : (keys : List ℕ) → List (Option (List ℕ)) → List Pair → List (Option (List ℕ))
followed [] found pairs = []
followed (key ∷ keys) [] pairs = []
followed (key ∷ keys) (value ∷ found) pairs = later value (value_under key pairs) ∷ followed keys found pairs

pub later_none : {X : Type 0} (o : Option X) → later None o ≡ o
later_none None = refl
later_none (Some x) = refl

pub later_assoc : {X : Type 0} (first second third : Option X) → later first (later second third) ≡ later (later first second) third
later_assoc first second None = refl
later_assoc first second (Some x) = refl

pub followed_none : (keys : List ℕ) (found : List (Option (List ℕ))) (pairs : List Pair) → found ≡ map (λ key. None) keys
    → followed keys found pairs ≡ map (λ key. value_under key pairs) keys
followed_none [] found pairs e = refl
followed_none (key ∷ keys) [] pairs e = absurd cc
followed_none (key ∷ keys) (value ∷ found) pairs e =
    let first : value ≡ None = cc in
    let nothing : found ≡ map (λ key. None) keys = cc in
    let others = followed_none keys found pairs nothing in
    rw (first, others) (ap (λ o. o ∷ map (λ key. value_under key pairs) keys) (later_none (value_under key pairs)))

pub followed_all : (keys : List ℕ) (found : List (Option (List ℕ))) → length found ≡ length keys → followed keys found [] ≡ found
followed_all [] [] e = refl
followed_all [] (value ∷ found) e = absurd (omega arith)
followed_all (key ∷ keys) [] e = absurd (omega arith)
followed_all (key ∷ keys) (value ∷ found) e = ap (λ found. value ∷ found) (followed_all keys found (omega arith))

taken : (b : Bool) (value : List ℕ) (old : Option (List ℕ)) (rest : Option (List ℕ))
    → later old (later (cond b (Some value) None) rest) ≡ later (cond b (Some value) old) rest
taken true value old rest = later_assoc old (Some value) rest
taken false value old rest = ap (later old) (later_none rest)

-- a pair with a key, and one without
pub followed_key : (key : ℕ) (value : List ℕ) (keys : List ℕ) (found : List (Option (List ℕ))) (pairs : List Pair)
    → followed keys found (record { key = Some key; value = value } ∷ pairs) ≡ followed keys (noted key value keys found) pairs
followed_key key value [] found pairs = refl
followed_key key value (wanted ∷ keys) [] pairs = refl
followed_key key value (wanted ∷ keys) (old ∷ found) pairs =
    let first = taken (eqb key wanted) value old (value_under wanted pairs) in
    let others = followed_key key value keys found pairs in
    cc

pub followed_other : (value : List ℕ) (keys : List ℕ) (found : List (Option (List ℕ))) (pairs : List Pair)
    → followed keys found (record { key = None; value = value } ∷ pairs) ≡ followed keys found pairs
followed_other value [] found pairs = refl
followed_other value (wanted ∷ keys) [] pairs = refl
followed_other value (wanted ∷ keys) (old ∷ found) pairs =
    let first = later_none (value_under wanted pairs) in
    let others = followed_other value keys found pairs in
    cc

-- the key at a place is another one, or this one
pub noted_other : (key : ℕ) (value : List ℕ) (keys : List ℕ) (found : List (Option (List ℕ))) (place : ℕ)
    → eqb key (get_or keys place 0) ≡ false → noted key value (take (suc place) keys) found ≡ noted key value (take place keys) found
noted_other key value [] found zero e = refl
noted_other key value [] found (suc place) e = refl
noted_other key value (wanted ∷ keys) [] zero e = refl
noted_other key value (wanted ∷ keys) [] (suc place) e = refl
noted_other key value (wanted ∷ keys) (old ∷ found) zero e = rw e refl
noted_other key value (wanted ∷ keys) (old ∷ found) (suc place) e =
    ap (λ found. cond (eqb key wanted) (Some value) old ∷ found) (noted_other key value keys found place e)

pub noted_here : (key : ℕ) (value : List ℕ) (keys : List ℕ) (found : List (Option (List ℕ))) (place : ℕ) → place < length keys
    → eqb key (get_or keys place 0) ≡ true → noted key value (take (suc place) keys) found ≡ set (noted key value (take place keys) found) place (Some value)
noted_here key value [] found place in_range e = absurd (omega arith)
noted_here key value (wanted ∷ keys) [] zero in_range e = refl
noted_here key value (wanted ∷ keys) [] (suc place) in_range e = refl
noted_here key value (wanted ∷ keys) (old ∷ found) zero in_range e = rw e refl
noted_here key value (wanted ∷ keys) (old ∷ found) (suc place) in_range e =
    ap (λ found. cond (eqb key wanted) (Some value) old ∷ found) (noted_here key value keys found place (omega arith) e)

-- a turn of the loop over the keys
pub turn_here : (key : ℕ) (value keys : List ℕ) (found before after : List (Option (List ℕ))) (place : ℕ) → place < length keys
    → key ≡ get_or keys place 0 → before ≡ noted key value (take place keys) found → after ≡ set before place (Some value)
    → after ≡ noted key value (take (place + 1) keys) found
turn_here key value keys found before after place in_range same so_far is =
    rw add-one (is ∙ ap (λ found. set found place (Some value)) so_far ∙ sym (noted_here key value keys found place in_range (eq-eqb key (get_or keys place 0) same)))

pub turn_other : (key : ℕ) (value keys : List ℕ) (found before after : List (Option (List ℕ))) (place : ℕ)
    → (key ≡ get_or keys place 0 → ⊥) → before ≡ noted key value (take place keys) found → after ≡ before
    → after ≡ noted key value (take (place + 1) keys) found
turn_other key value keys found before after place other so_far is =
    rw add-one (is ∙ so_far ∙ sym (noted_other key value keys found place (ne_eqb key (get_or keys place 0) other)))

-- a turn of the loop over the pairs
pub pair_with_key : (keys : List ℕ) (before after whole : List (Option (List ℕ))) (left : ℕ) (bytes rest : List ℕ) (key : ℕ) (value : List ℕ) → 0 < left
    → ((others : ℕ) → pairs_from (suc others) bytes ≡ record { key = Some key; value = value } ∷ pairs_from others rest)
    → after ≡ noted key value keys before → followed keys before (pairs_from left bytes) ≡ whole
    → followed keys after (pairs_from (left - 1) rest) ≡ whole
pair_with_key keys before after whole left bytes rest key value some first is all =
    let more : left ≡ suc (left - 1) = omega arith in
    let pairs : pairs_from left bytes ≡ record { key = Some key; value = value } ∷ pairs_from (left - 1) rest = ap (λ (n : ℕ). pairs_from n bytes) more ∙ first (left - 1) in
    rw is (sym (followed_key key value keys before (pairs_from (left - 1) rest)) ∙ ap (followed keys before) (sym pairs) ∙ all)

pub pair_with_none : (keys : List ℕ) (before after whole : List (Option (List ℕ))) (left : ℕ) (bytes rest value : List ℕ) → 0 < left
    → ((others : ℕ) → pairs_from (suc others) bytes ≡ record { key = None; value = value } ∷ pairs_from others rest)
    → after ≡ before → followed keys before (pairs_from left bytes) ≡ whole
    → followed keys after (pairs_from (left - 1) rest) ≡ whole
pair_with_none keys before after whole left bytes rest value some first is all =
    let more : left ≡ suc (left - 1) = omega arith in
    let pairs : pairs_from left bytes ≡ record { key = None; value = value } ∷ pairs_from (left - 1) rest = ap (λ (n : ℕ). pairs_from n bytes) more ∙ first (left - 1) in
    rw is (sym (followed_other value keys before (pairs_from (left - 1) rest)) ∙ ap (followed keys before) (sym pairs) ∙ all)

-- no pair remains
pub pairs_over : (keys : List ℕ) (found whole : List (Option (List ℕ))) (left : ℕ) (bytes : List ℕ) → left ≤ 0 → length found ≡ length keys
    → followed keys found (pairs_from left bytes) ≡ whole → found ≡ whole
pairs_over keys found whole left bytes none long all =
    let over : left ≡ 0 = omega arith in
    sym (followed_all keys found long) ∙ ap (λ (n : ℕ). followed keys found (pairs_from n bytes)) (sym over) ∙ all

-- ---- no values

-- a turn of the loop that clears values
pub cleared_more : {X : Type 0} (seen : X → Option (List ℕ)) (none : X) (values old : List X) (place : ℕ) → seen none ≡ None → length values ≡ length old → place < length old
    → map seen (take place values) ≡ map (λ value. None) (take place old) → map seen (take (place + 1) (set values place none)) ≡ map (λ value. None) (take (place + 1) old)
cleared_more {X} seen none values old place is long in_range so_far = rw add-one (by_place values old place long in_range so_far)
  where
    by_place : (values old : List X) (place : ℕ) → length values ≡ length old → place < length old → map seen (take place values) ≡ map (λ value. None) (take place old)
        → map seen (take (suc place) (set values place none)) ≡ map (λ value. None) (take (suc place) old)
    by_place [] old place long in_range so_far = absurd (omega arith)
    by_place (value ∷ values) [] place long in_range so_far = absurd (omega arith)
    by_place (value ∷ values) (first ∷ others) zero long in_range so_far = rw is refl
    by_place (value ∷ values) (first ∷ others) (suc place) long in_range so_far =
        let here : seen value ≡ None = cc in
        let rest : map seen (take place values) ≡ map (λ value. None) (take place others) = cc in
        rw here (ap (λ (l : List (Option (List ℕ))). None ∷ l) (by_place values others place (omega arith) (omega arith) rest))

-- so many values that are none
pub nones : {X Y : Type 0} (one : List X) (other : List Y) → length one ≡ length other → map {B = Option (List ℕ)} (λ x. None) one ≡ map (λ x. None) other
nones [] [] e = refl
nones [] (y ∷ other) e = absurd (omega arith)
nones (x ∷ one) [] e = absurd (omega arith)
nones (x ∷ one) (y ∷ other) e = ap (λ (l : List (Option (List ℕ))). None ∷ l) (nones one other (omega arith))
