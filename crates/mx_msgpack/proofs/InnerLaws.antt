-- The values that stand in a map: each is spelled whole, with room for one container less than the map.
use Rattle.std.proofs.Common.{◌≡◌, ℕ, ◌-◌, ◌≤◌, List, [], ◌∷◌, ◌++◌, length, take, map, Option, Some, None, Ok, refl, sym, ap, ◌∙◌, subst, append_assoc, arith}
use Rattle.std.specs.Prelude.{⊤, Bool, true, false, if◌then◌else◌, IfSome}
use Rattle.std.proofs.lemmas.List.{append-nil, length-append}
use Rattle.mx_msgpack.specs.Grammar.{Value, Pairs, NoPair, MorePairs, pair_count, Spells, SpellsPairs}
use Rattle.mx_msgpack.specs.Reading.{head_at, after_first, measured, reading_of, Shown, ShownMap, shown}
use Rattle.mx_msgpack.specs.View.{Shows}
use Rattle.mx_msgpack.proofs.Results.{bind_ok, ok_is}
use Rattle.mx_msgpack.proofs.ValueLaws.{measured_ok}
use Rattle.mx_msgpack.proofs.Heads.{head_spelled}
use Rattle.mx_msgpack.proofs.FrontLaws.{roomier, measured_again}
use Rattle.mx_msgpack.proofs.Options.{same_some}
use Rattle.mx_msgpack.proofs.Shown.{Seen, value_seen}
use Rattle.mx_msgpack.specs.Maps.{AreValues, Pair, is_key, pairs_from, pairs_in, value_under}
use Rattle.mx_msgpack.proofs.LookupLaws.{later}
use Rattle.mx_msgpack.proofs.ItemLaws.{first_is}
use Rattle.mx_msgpack.proofs.ProjectionLaws.{first_read}
use Rattle.mx_msgpack.specs.Projections.{as_map, shown_first}
use Rattle.std.specs.Option.{option_map_or, option_and_then}
use Rattle.mx_msgpack.specs.Items.{IsOneValue, after_value}

-- one value that stands in a map
abbrev pub IsInner : List ℕ → Type 0
IsInner bytes = (value : Value) × Spells 63 value bytes

-- each pair's value is one
abbrev pub AreInner : List Pair → Type 0
AreInner [] = ⊤
AreInner (pair ∷ others) = IsInner pair.value × AreInner others

-- ---- what stands first

seen_value : (bytes : List ℕ) (seen what : Shown) (n size : ℕ) → Seen bytes seen n → reading_of bytes ≡ Ok (what, size) → (value : Value) × Shows what value
seen_value bytes seen what n size s e =
    let same = ap (λ (x : Shown × ℕ). x.0) (ok_is (seen, n) (what, size) (sym s.exact ∙ e)) in
    (s.spelled.1, subst (λ (w : Shown). Shows w s.spelled.1) same s.spelled.3)

-- what is shown is a value
pub shown_value : (bytes : List ℕ) (what : Shown) (size : ℕ) → reading_of bytes ≡ Ok (what, size) → (value : Value) × Shows what value
unfolding reading_of
shown_value bytes what size e =
    let a = bind_ok (head_at 0 bytes) _ (what, size) e in
    let b = bind_ok (after_first (length bytes) 64 bytes) (λ rest. Ok (shown a.0.0 (take (length a.0.1 - length rest) a.0.1) (take (length bytes - length rest) bytes), length bytes - length rest)) (what, size) a.2 in
    let h = head_spelled 0 bytes a.0.0 a.0.1 a.1 in
    let l = ap length h.1 ∙ length-append h.0 a.0.1 in
    let short : length a.0.1 ≤ length bytes = omega arith in
    let s = value_seen bytes a.0.0 a.0.1 (length bytes - length b.0) short a.1 (sym (measured_ok bytes b.0 b.1)) _ _ _ refl refl refl in
    seen_value bytes _ what _ size s e

-- ---- the pairs of a map

pub pairs_inner : (pairs : Pairs) (items : List ℕ) → SpellsPairs 63 pairs items → AreInner (pairs_from (pair_count pairs) items)
pairs_inner NoPair items e = tt
pairs_inner (MorePairs key value others) items (front, middle, rest, e, s, t, ss) =
    let whole = e ∙ append_assoc front middle rest in
    let behind = ap after_value whole ∙ (first_is key front (middle ++ rest) s).1 in
    let here = first_is value middle rest t in
    rw (behind, here.0, here.1) ((value, t), pairs_inner others rest ss)

map_inner : (bytes : List ℕ) (first : Option (Shown × ℕ)) → shown_first bytes ≡ first
    → AreInner (option_map_or (λ (map : ℕ × List ℕ). pairs_from map.0 map.1) (option_and_then (λ (f : Shown × ℕ). as_map f.0) first) [])
map_inner bytes None e = tt
map_inner bytes (Some (ShownMap count items, size)) e =
    let v = shown_value bytes (ShownMap count items) size (first_read bytes (ShownMap count items, size) e) in
    rw v.1.2 (pairs_inner v.1.0 items v.1.3)
map_inner bytes (Some _) e = tt

pub body_inner : (bytes : List ℕ) → AreInner (pairs_in bytes)
body_inner bytes = map_inner bytes (shown_first bytes) refl

-- ---- the value of a key

chosen_inner : (here : Bool) (value : List ℕ) (others : Option (List ℕ)) (found : List ℕ) → IsInner value → (others ≡ Some found → IsInner found)
    → later (if here then Some value else None) others ≡ Some found → IsInner found
chosen_inner true value None found inner rest e = subst IsInner (same_some value found e) inner
chosen_inner true value (Some other) found inner rest e = rest e
chosen_inner false value None found inner rest e = absurd cc
chosen_inner false value (Some other) found inner rest e = rest e

pub under_inner : (key : ℕ) (pairs : List Pair) (value : List ℕ) → AreInner pairs → value_under key pairs ≡ Some value → IsInner value
under_inner key [] value inner e = absurd cc
under_inner key (pair ∷ others) value (here, rest) e =
    chosen_inner (is_key key pair.key) pair.value (value_under key others) value here (λ f. under_inner key others value rest f) e

-- ---- the values of several keys

inner_whole : (bytes : List ℕ) → IsInner bytes → IsOneValue bytes
inner_whole bytes (value, s) = ap measured (sym (append-nil bytes)) ∙ measured_again value bytes [] (roomier 63 value bytes s)

found_whole : (key : ℕ) (bytes : List ℕ) (found : Option (List ℕ)) → value_under key (pairs_in bytes) ≡ found → IfSome found IsOneValue
found_whole key bytes None e = tt
found_whole key bytes (Some value) e = inner_whole value (under_inner key (pairs_in bytes) value (body_inner bytes) e)

values_whole : (keys bytes : List ℕ) → AreValues (map (λ key. value_under key (pairs_in bytes)) keys)
values_whole [] bytes = tt
values_whole (key ∷ keys) bytes = (found_whole key bytes (value_under key (pairs_in bytes)) refl, values_whole keys bytes)

pub are_values : (keys bytes : List ℕ) (values : List (Option (List ℕ))) → values ≡ map (λ key. value_under key (pairs_in bytes)) keys → AreValues values
are_values keys bytes values e = subst AreValues (sym e) (values_whole keys bytes)
