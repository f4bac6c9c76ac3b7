-- The map that stands first is read alone as it is read with what follows it.
use Rattle.std.proofs.Common.{◌≡◌, ℕ, ◌-◌, List, [], ◌++◌, length, take, drop, Some, Result, Ok, refl, sym, ap, ◌∙◌, append_assoc, subst, arith}
use Rattle.std.specs.Prelude.{pos}
use Rattle.std.proofs.lemmas.List.{append-nil, take_all, take-append-drop, length-append}
use Rattle.mx_msgpack.specs.declared.head.Head.{Head}
use Rattle.mx_msgpack.specs.Grammar as grammar
use Rattle.mx_msgpack.specs.Grammar.{Value, Spells}
use Rattle.mx_msgpack.specs.Reading.{head_at, after_first, reading_of, Shown, shown}
use Rattle.mx_msgpack.specs.Readers.{unsigned_at}
use Rattle.mx_msgpack.specs.Items.{after_value}
use Rattle.std.specs.Option.{option_and_then, option_map_or}
use Rattle.std.specs.Result.{result_ok}
use Rattle.mx_msgpack.specs.declared.bad.Bad.{Bad}
use Rattle.mx_msgpack.specs.Maps.{Pair, pairs_from, pairs_in, map_at}
use Rattle.mx_msgpack.specs.Projections.{as_map, shown_first}
use Rattle.mx_msgpack.proofs.Options.{bind_some, same_some}
use Rattle.mx_msgpack.proofs.ProjectionLaws.{first_read}
use Rattle.mx_msgpack.proofs.Results.{bind_ok, ok_is}
use Rattle.mx_msgpack.proofs.GrammarLaws.{value_again, value_stands}
use Rattle.mx_msgpack.proofs.Heads.{SpellsHead, head_spelled, head_again}
use Rattle.mx_msgpack.proofs.ItemLaws.{first_is}
use Rattle.mx_msgpack.proofs.Measured.{front_is}
use Rattle.mx_msgpack.proofs.Shown.{one_head, reads}
use Rattle.mx_msgpack.proofs.UnsignedLaws.{unsigned_spelled}

-- a number of 0 or more, and the bytes after it
pub key_passed : (bytes : List ℕ) (found : ℕ × List ℕ) → unsigned_at bytes ≡ Some found → after_value bytes ≡ found.1
key_passed bytes found e =
    let s = unsigned_spelled bytes found e in
    ap after_value s.1 ∙ (first_is (grammar.Int (pos found.0)) s.0 found.1 s.2).1

nothing_after : (xs : List ℕ) → take (length xs - length {A = ℕ} []) xs ≡ xs
nothing_after xs = take_all (length xs - length {A = ℕ} []) xs (omega arith)

-- a value and nothing else
alone : (head : Head) (front content : List ℕ) (value : Value) → SpellsHead head front → Spells 64 value (front ++ content)
    → reading_of (front ++ content) ≡ Ok (shown head content (front ++ content), length (front ++ content))
alone head front content value h s =
    let bytes = front ++ content in
    let after : after_first (length bytes) 64 bytes ≡ Ok [] =
    ap (after_first (length bytes) 64) (sym (append-nil bytes)) ∙ value_again (length bytes) 64 value bytes [] s in
    let size : length bytes - length {A = ℕ} [] ≡ length bytes = omega arith in
    reads bytes head content [] (head_again 0 head front content h) after
    ∙ (λ i. Ok (shown head (nothing_after content i) (nothing_after bytes i), size i))

-- what a value's head, content and bytes say of these bytes alone
parts_alone : (bytes : List ℕ) (head : Head) (after rest heading content front : List ℕ) (value : Value) (what : Shown) (size : ℕ)
    → after ≡ content ++ rest → bytes ≡ heading ++ after → SpellsHead head heading → bytes ≡ front ++ rest → Spells 64 value front
    → shown head (take (length after - length rest) after) (take (length bytes - length rest) bytes) ≡ what → length bytes - length rest ≡ size
    → reading_of (take size bytes) ≡ Ok (what, size)
parts_alone bytes head after rest heading content front value what size inside parts h whole s told many =
    let all = heading ++ content in
    let joined : bytes ≡ all ++ rest = parts ∙ ap (λ (l : List ℕ). heading ++ l) inside ∙ sym (append_assoc heading content rest) in
    let taken : take size bytes ≡ all = front_is bytes all rest size joined many in
    let same : front ≡ all = sym (front_is bytes front rest size whole many) ∙ taken in
    let content_is : take (length after - length rest) after ≡ content = front_is after content rest (length after - length rest) inside refl in
    let all_is : take (length bytes - length rest) bytes ≡ all = front_is bytes all rest (length bytes - length rest) joined refl in
    let l = ap length joined ∙ length-append all rest in
    let long : length all ≡ size = omega arith in
    let what_is : shown head content all ≡ what = sym (λ i. shown head (content_is i) (all_is i)) ∙ told in
    let read = alone head heading content value h (subst (λ (l : List ℕ). Spells 64 value l) same s) in
    rw taken (read ∙ (λ i. Ok (what_is i, long i)))

pub read_alone : (bytes : List ℕ) (what : Shown) (size : ℕ) → reading_of bytes ≡ Ok (what, size) → reading_of (take size bytes) ≡ Ok (what, size)
unfolding reading_of
read_alone bytes what size e =
    let a = bind_ok (head_at 0 bytes) _ (what, size) e in
    let b =
    bind_ok (after_first (length bytes) 64 bytes)
    (λ rest. Ok (shown a.0.0 (take (length a.0.1 - length rest) a.0.1) (take (length bytes - length rest) bytes), length bytes - length rest)) (what, size) a.2 in
    let same = ok_is (shown a.0.0 (take (length a.0.1 - length b.0) a.0.1) (take (length bytes - length b.0) bytes), length bytes - length b.0) (what, size) b.2 in
    let s = value_stands (length bytes) 64 bytes b.0 b.1 in
    let heads = one_head (length bytes) bytes a.0.0 s.head a.0.1 s.after refl a.1 s.begins in
    let h = head_spelled 0 bytes a.0.0 a.0.1 a.1 in
    parts_alone bytes a.0.0 a.0.1 b.0 h.0 s.content s.front s.value what size (heads.1 ∙ s.parts) h.1 h.2 s.whole s.spelled
    (ap (λ (x : Shown × ℕ). x.0) same) (ap (λ (x : Shown × ℕ). x.1) same)

-- the pairs that a reading gives
abbrev pairs_by : Result (Shown × ℕ) Bad → List Pair
pairs_by read = option_map_or (λ (map : ℕ × List ℕ). pairs_from map.0 map.1) (option_and_then (λ (first : Shown × ℕ). as_map first.0) (result_ok read)) []

same_pairs : (bytes : List ℕ) (what : Shown) (size : ℕ) → reading_of bytes ≡ Ok (what, size) → pairs_in (take size bytes) ≡ pairs_in bytes
same_pairs bytes what size e = ap pairs_by (read_alone bytes what size e ∙ sym e)

-- the map that stands first has its pairs where it stands alone, and is all bytes where nothing follows it
pub map_alone : (bytes map rest : List ℕ) → map_at bytes ≡ Some (map, rest) → pairs_in map ≡ pairs_in bytes
unfolding map_at
map_alone bytes map rest e =
    let first = bind_some (shown_first bytes) _ (map, rest) e in
    let held = bind_some (as_map first.0.0) _ (map, rest) first.2 in
    let front : take first.0.1 bytes ≡ map = ap (λ (x : List ℕ × List ℕ). x.0) (same_some (take first.0.1 bytes, drop first.0.1 bytes) (map, rest) held.2) in
    ap pairs_in (sym front) ∙ same_pairs bytes first.0.0 first.0.1 (first_read bytes first.0 first.1)

pub map_whole : (bytes map : List ℕ) → map_at bytes ≡ Some (map, []) → map ≡ bytes
unfolding map_at
map_whole bytes map e =
    let first = bind_some (shown_first bytes) _ (map, []) e in
    let held = bind_some (as_map first.0.0) _ (map, []) first.2 in
    let same = same_some (take first.0.1 bytes, drop first.0.1 bytes) (map, []) held.2 in
    sym (append-nil map) ∙ sym (λ i. (same i).0 ++ (same i).1) ∙ take-append-drop first.0.1 bytes
