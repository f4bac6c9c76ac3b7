-- Reading an owned value: what was taken after a head spells the value, and the first fault is that of reading.
use Rattle.std.proofs.Common.{◌≡◌, ℕ, zero, suc, ◌+◌, ◌-◌, ◌*◌, ◌<◌, ◌≤◌, ltb, true, false, Bool, List, [], ◌∷◌, ◌++◌, length, take, drop, Some, Result, Ok, Err, refl, sym, ap, ◌∙◌, append_assoc, inl, inr, ◌⊎◌, subst, arith}
use Rattle.std.specs.Prelude.{ℤ}
use Rattle.std.proofs.lemmas.List.{append-nil, take_at, take-append-drop, length-take, length-append}
use Rattle.std.proofs.lemmas.Bool.{lt-ltb, le-ltb}
use Rattle.mx_msgpack.specs.declared.bad.Bad.{Bad}
use Rattle.mx_msgpack.specs.declared.bad.Bad.TheVariants.{Deep, Long}
use Rattle.mx_msgpack.specs.declared.head.Head.{Head}
use Rattle.mx_msgpack.specs.declared.head.Head.TheVariants.{Nil, Bool as Boolean, Int, Str, Bin, Array, Map, Fixed, Extension}
use Rattle.mx_msgpack.specs.declared.decode.ReadBad.{ReadBad}
use Rattle.mx_msgpack.specs.declared.decode.ReadBad.TheVariants.{Bad as Faulty}
use Rattle.mx_msgpack.specs.declared.value.Value.{Value}
use Rattle.mx_msgpack.specs.Grammar as grammar
use Rattle.mx_msgpack.specs.Grammar.{Values, Pairs, value_count, pair_count, max_length, Spells, SpellsAll, SpellsPairs}
use Rattle.mx_msgpack.specs.Owned.{value_view, list_view, pair_list_view, SpelledUpTo, AllSpelledUpTo, PairsSpelledUpTo}
use Rattle.mx_msgpack.specs.Reading.{◌>>=◌, head_at, after_all, after_inside, after_content, after_first, measured, first_fault}
use Rattle.mx_msgpack.specs.Spelling.{AreBytes, IsSpellable}
use Rattle.mx_msgpack.proofs.ShortestLaws.{front_of}
use Rattle.mx_msgpack.proofs.ValueLaws.{inside_of, value_is, value_begins}
use Rattle.mx_msgpack.proofs.Heads.{head_spelled}
use Rattle.mx_msgpack.proofs.OpaqueLaws.{fixed_whole, extension_whole}
use Rattle.mx_msgpack.proofs.GrammarLaws.{joined, twice, value_again}

-- ---- what was taken after a head

pub nil_found : (room at : ℕ) (bytes after : List ℕ) → head_at at bytes ≡ Ok (Nil, after) → SpelledUpTo room grammar.Nil bytes after
nil_found room at bytes after e = head_spelled at bytes Nil after e

pub bool_found : (room at : ℕ) (truth : Bool) (bytes after : List ℕ) → head_at at bytes ≡ Ok (Boolean truth, after) → SpelledUpTo room (grammar.Boolean truth) bytes after
bool_found room at truth bytes after e = head_spelled at bytes (Boolean truth) after e

pub int_found : (room at : ℕ) (number : ℤ) (bytes after : List ℕ) → head_at at bytes ≡ Ok (Int number, after) → SpelledUpTo room (grammar.Int number) bytes after
int_found room at number bytes after e = head_spelled at bytes (Int number) after e

-- so many bytes after a head
record Taken (size : ℕ) (after content rest : List ℕ) : Type 0 where
  many : length content ≡ size
  parts : after ≡ content ++ rest

taken : (size : ℕ) (after content rest : List ℕ) → size ≤ length after → content ≡ take size after → rest ≡ drop size after → Taken size after content rest
taken size after content rest long e f = record {
  many = ap length e ∙ omega (arith, length-take size after);
  parts = sym (take-append-drop size after) ∙ ap (λ (l : List ℕ). l ++ drop size after) (sym e) ∙ ap (λ (l : List ℕ). content ++ l) (sym f);
}

pub str_found : (room at size : ℕ) (bytes after content rest : List ℕ) → head_at at bytes ≡ Ok (Str size, after) → size ≤ max_length → size ≤ length after
    → content ≡ take size after → rest ≡ drop size after → SpelledUpTo room (grammar.Str content) bytes rest
str_found room at size bytes after content rest e few long c r =
    let h = head_spelled at bytes (Str size) after e in
    let t = taken size after content rest long c r in
    (h.0 ++ content, joined bytes h.0 after content rest h.1 t.parts, (h.0, rw t.many h.2, rw t.many few, refl))

pub bin_found : (room at size : ℕ) (bytes after content rest : List ℕ) → head_at at bytes ≡ Ok (Bin size, after) → size ≤ max_length → size ≤ length after
    → content ≡ take size after → rest ≡ drop size after → SpelledUpTo room (grammar.Bin content) bytes rest
bin_found room at size bytes after content rest e few long c r =
    let h = head_spelled at bytes (Bin size) after e in
    let t = taken size after content rest long c r in
    (h.0 ++ content, joined bytes h.0 after content rest h.1 t.parts, (h.0, rw t.many h.2, rw t.many few, refl))

-- the head and what was taken after it, as a prefix of all the bytes
whole_front : (size : ℕ) (bytes front after : List ℕ) → bytes ≡ front ++ after → size ≤ length after
    → take (length bytes - length after + size) bytes ≡ front ++ take size after
whole_front size bytes front after e long =
    let l = ap length e ∙ length-append front after in
    let m = length-append front (take size after) in
    let n = length-take size after in
    let same : length (front ++ take size after) ≡ length bytes - length after + size = omega arith in
    ap (take (length bytes - length after + size)) (e ∙ ap (λ (x : List ℕ). front ++ x) (sym (take-append-drop size after)) ∙ sym (append_assoc front (take size after) (drop size after)))
    ∙ take_at (front ++ take size after) (drop size after) (length bytes - length after + size) same

opaque_found : (room size : ℕ) (bytes front after spelling rest : List ℕ) → bytes ≡ front ++ after → size ≤ length after → grammar.IsOpaque (front ++ take size after)
    → spelling ≡ take (length bytes - length after + size) bytes → rest ≡ drop size after → SpelledUpTo room (grammar.Opaque spelling) bytes rest
opaque_found room size bytes front after spelling rest e long is s r =
    let t = taken size after (take size after) rest long refl r in
    let same = s ∙ whole_front size bytes front after e long in
    (front ++ take size after, joined bytes front after (take size after) rest e t.parts, (subst grammar.IsOpaque (sym same) is, sym same))

pub fixed_found : (room at size : ℕ) (bytes after spelling rest : List ℕ) → head_at at bytes ≡ Ok (Fixed size, after) → size ≤ length after
    → spelling ≡ take (length bytes - length after + size) bytes → rest ≡ drop size after → SpelledUpTo room (grammar.Opaque spelling) bytes rest
fixed_found room at size bytes after spelling rest e long s r =
    let h = head_spelled at bytes (Fixed size) after e in
    let t = taken size after (take size after) rest long refl r in
    opaque_found room size bytes h.0 after spelling rest h.1 long (fixed_whole size h.0 (take size after) h.2 t.many) s r

pub extension_found : (room at size : ℕ) (bytes after spelling rest : List ℕ) → head_at at bytes ≡ Ok (Extension size, after) → size ≤ max_length
    → size + 1 ≤ length after → spelling ≡ take (length bytes - length after + (size + 1)) bytes → rest ≡ drop (size + 1) after
    → SpelledUpTo room (grammar.Opaque spelling) bytes rest
extension_found room at size bytes after spelling rest e few long s r =
    let h = head_spelled at bytes (Extension size) after e in
    let t = taken (size + 1) after (take (size + 1) after) rest long refl r in
    let many : length (take (size + 1) after) ≡ suc size = t.many ∙ omega arith in
    opaque_found room (size + 1) bytes h.0 after spelling rest h.1 long (extension_whole size h.0 (take (size + 1) after) h.2 few many) s r

pub array_found : (room inner at count : ℕ) (bytes after rest : List ℕ) (values : Values) → head_at at bytes ≡ Ok (Array count, after) → room ≡ suc inner
    → count ≤ max_length → value_count values ≡ count → AllSpelledUpTo inner values after rest → SpelledUpTo room (grammar.Array values) bytes rest
array_found room inner at count bytes after rest values e is few many (content, parts, all) =
    let h = head_spelled at bytes (Array count) after e in
    rw is (h.0 ++ content, joined bytes h.0 after content rest h.1 parts, (h.0, content, rw many h.2, rw many few, refl, all))

pub map_found : (room inner at count : ℕ) (bytes after rest : List ℕ) (pairs : Pairs) → head_at at bytes ≡ Ok (Map count, after) → room ≡ suc inner
    → count ≤ max_length → pair_count pairs ≡ count → PairsSpelledUpTo inner pairs after rest → SpelledUpTo room (grammar.Map pairs) bytes rest
map_found room inner at count bytes after rest pairs e is few many (content, parts, all) =
    let h = head_spelled at bytes (Map count) after e in
    rw is (h.0 ++ content, joined bytes h.0 after content rest h.1 parts, (h.0, content, rw many h.2, rw many few, refl, all))

-- what stands first in bytes can be spelled
pub found_spellable : (value : grammar.Value) (bytes rest : List ℕ) → AreBytes bytes → SpelledUpTo 64 value bytes rest → IsSpellable value
found_spellable value bytes rest each (front, parts, s) = (front, front_of bytes front rest parts each, s)

-- ---- faults

-- the fault that a `?` hands on, where the step before returned a `Bad`, and where it returned a `ReadBad`
pub told_bad : {A : Type 0} (result : Result A ReadBad) (told : ReadBad) (field bad : Bad) → result ≡ Err told → told ≡ Faulty field → result ≡ Err (Faulty bad) → field ≡ bad
told_bad result told field bad e f g = cc

pub told_read_bad : {A : Type 0} (result : Result A ReadBad) (told field : ReadBad) (bad : Bad) → result ≡ Err told → told ≡ field → result ≡ Err (Faulty bad) → field ≡ Faulty bad
told_read_bad result told field bad e f g = cc

pub head_fault : (total room : ℕ) (bytes : List ℕ) (bad : Bad) → head_at (total - length bytes) bytes ≡ Err bad → after_first total room bytes ≡ Err bad
head_fault total room bytes bad e =
    value_is total room bytes
    ∙ ap (λ (r : Result (Head × List ℕ) Bad). r >>= λ head. after_content (inside_of total room) (total - length bytes) head.0 head.1) e

-- what the head announces fails
pub content_fault : (total room : ℕ) (bytes after : List ℕ) (head : Head) (bad : Bad) → head_at (total - length bytes) bytes ≡ Ok (head, after)
    → after_content (inside_of total room) (total - length bytes) head after ≡ Err bad → after_first total room bytes ≡ Err bad
content_fault total room bytes after head bad e f = value_begins total room bytes head after e ∙ f

pub room_fault : (total room at count values : ℕ) (after : List ℕ) (bad : Bad)
    → ((room ≡ 0) × (bad ≡ Deep at)) ⊎ ((room ≡ suc (room - 1)) × (max_length < count) × (bad ≡ Long at))
    → after_inside (inside_of total room) at count values after ≡ Err bad
room_fault total room at count values after bad (inl (none, e)) = rw (none, e) refl
room_fault total zero at count values after bad (inr (some, long, e)) = absurd (omega arith)
room_fault total (suc room) at count values after bad (inr (some, long, e)) =
    let t : ltb max_length count ≡ true = lt-ltb _ _ long in
    rw (t, e) refl

pub inside_fault : (total room inner at count values : ℕ) (after : List ℕ) (bad : Bad) → room ≡ suc inner → count ≤ max_length
    → after_all (after_first total inner) values after ≡ Err bad → after_inside (inside_of total room) at count values after ≡ Err bad
inside_fault total room inner at count values after bad is few e =
    let f : ltb max_length count ≡ false = le-ltb _ _ few in
    rw (is, f) e

pub whole_fault : (bytes : List ℕ) (bad : Bad) → after_first (length bytes) 64 bytes ≡ Err bad → first_fault bytes ≡ Some bad
unfolding measured
whole_fault bytes bad e = rw e refl

-- ---- values and pairs in a row

begins_after : (total room : ℕ) (value : grammar.Value) (bytes rest : List ℕ) → SpelledUpTo room value bytes rest → after_first total room bytes ≡ Ok rest
begins_after total room value bytes rest (front, parts, s) = ap (after_first total room) parts ∙ value_again total room value front rest s

spelled_more : (room : ℕ) (values : List Value) (value : Value) (front more : List ℕ) → SpellsAll room (list_view values) front → Spells room (value_view value) more
    → SpellsAll room (list_view (values ++ value ∷ [])) (front ++ more)
spelled_more room [] value front more e s = (more, [], ap (λ (l : List ℕ). l ++ more) e ∙ sym (append-nil more), s, refl)
spelled_more room (x ∷ xs) value front more (one, rest, e, first, all) s =
    (one, rest ++ more, ap (λ (l : List ℕ). l ++ more) e ∙ append_assoc one rest more, first, spelled_more room xs value rest more all s)

pairs_spelled_more : (room : ℕ) (pairs : List (Value × Value)) (pair : Value × Value) (front key value : List ℕ) → SpellsPairs room (pair_list_view pairs) front
    → Spells room (value_view pair.0) key → Spells room (value_view pair.1) value
    → SpellsPairs room (pair_list_view (pairs ++ pair ∷ [])) (front ++ (key ++ value))
pairs_spelled_more room [] pair front key value e k v =
    (key, value, [], ap (λ (l : List ℕ). l ++ (key ++ value)) e ∙ sym (append-nil (key ++ value)), k, v, refl)
pairs_spelled_more room (x ∷ xs) pair front key value (a, b, rest, e, first, second, all) k v = (
  a,
  b,
  rest ++ (key ++ value),
  ap (λ (l : List ℕ). l ++ (key ++ value)) e ∙ append_assoc (a ++ b) rest (key ++ value),
  first,
  second,
  pairs_spelled_more room xs pair rest key value all k v,
)

-- how far a loop has come: what it read spells the bytes up to here, and reading all would go on here
pub record Came (total room count : ℕ) (bytes : List ℕ) (left : ℕ) (values : List Value) (rest : List ℕ) : Type 0 where
  pub many : length values + left ≡ count
  pub so_far : AllSpelledUpTo room (list_view values) bytes rest
  pub same : after_all (after_first total room) left rest ≡ after_all (after_first total room) count bytes

pub came_on : (total room count : ℕ) (bytes : List ℕ) (left : ℕ) (values new : List Value) (value : Value) (rest after : List ℕ) → Came total room count bytes left values rest
    → 0 < left → new ≡ values ++ value ∷ [] → SpelledUpTo room (value_view value) rest after → Came total room count bytes (left - 1) new after
came_on total room count bytes zero values new value rest after came some e b = absurd (omega arith)
came_on total room count bytes (suc left) values new value rest after came some e (one, parts, s) =
    let f = came.so_far in
    let l = ap length e ∙ length-append values (value ∷ []) in
    let m = came.many in
    let less : left ≡ suc left - 1 = omega arith in
    rw (← less) (record {
      many = omega arith;
      so_far = rw e (f.0 ++ one, joined bytes f.0 rest one after f.1 parts, spelled_more room values value f.0 one f.2 s);
      same = sym (ap (λ (r : Result (List ℕ) Bad). r >>= after_all (after_first total room) left) (begins_after total room (value_view value) rest after (one, parts, s))) ∙ came.same;
    })

pub record CamePairs (total room count : ℕ) (bytes : List ℕ) (left : ℕ) (pairs : List (Value × Value)) (rest : List ℕ) : Type 0 where
  pub many : length pairs + left ≡ count
  pub so_far : PairsSpelledUpTo room (pair_list_view pairs) bytes rest
  pub same : after_all (after_first total room) (2 * left) rest ≡ after_all (after_first total room) (2 * count) bytes

-- reading all goes on after a pair
pair_step : (one : List ℕ → Result (List ℕ) Bad) (left : ℕ) (rest middle after : List ℕ) → one rest ≡ Ok middle → one middle ≡ Ok after
    → after_all one (2 * suc left) rest ≡ after_all one (2 * left) after
pair_step one left rest middle after e f =
    ap (λ (n : ℕ). after_all one n rest) (twice left)
    ∙ ap (λ (r : Result (List ℕ) Bad). r >>= after_all one (suc (2 * left))) e
    ∙ ap (λ (r : Result (List ℕ) Bad). r >>= after_all one (2 * left)) f

pub pairs_came_on : (total room count : ℕ) (bytes : List ℕ) (left : ℕ) (pairs new : List (Value × Value)) (pair : Value × Value) (rest middle after : List ℕ)
    → CamePairs total room count bytes left pairs rest → 0 < left → new ≡ pairs ++ pair ∷ [] → SpelledUpTo room (value_view pair.0) rest middle
    → SpelledUpTo room (value_view pair.1) middle after → CamePairs total room count bytes (left - 1) new after
pairs_came_on total room count bytes zero pairs new pair rest middle after came some e k v = absurd (omega arith)
pairs_came_on total room count bytes (suc left) pairs new pair rest middle after came some e (key, key_parts, k) (value, parts, v) =
    let f = came.so_far in
    let l = ap length e ∙ length-append pairs (pair ∷ []) in
    let m = came.many in
    let less : left ≡ suc left - 1 = omega arith in
    let first = begins_after total room (value_view pair.0) rest middle (key, key_parts, k) in
    let second = begins_after total room (value_view pair.1) middle after (value, parts, v) in
    rw (← less) (record {
      many = omega arith;
      so_far = rw e (
        f.0 ++ (key ++ value),
        joined bytes f.0 rest (key ++ value) after f.1 (joined rest key middle value after key_parts parts),
        pairs_spelled_more room pairs pair f.0 key value f.2 k v,
      );
      same = sym (pair_step (after_first total room) left rest middle after first second) ∙ came.same;
    })

pub member_fault : (total room count : ℕ) (bytes : List ℕ) (left : ℕ) (pairs : List (Value × Value)) (key : Value) (rest middle : List ℕ) (bad : Bad)
    → CamePairs total room count bytes left pairs rest → 0 < left → SpelledUpTo room (value_view key) rest middle → after_first total room middle ≡ Err bad
    → after_all (after_first total room) (2 * count) bytes ≡ Err bad
member_fault total room count bytes zero pairs key rest middle bad came some k e = absurd (omega arith)
member_fault total room count bytes (suc left) pairs key rest middle bad came some k e =
    sym came.same ∙ ap (λ (n : ℕ). after_all (after_first total room) n rest) (twice left)
    ∙ ap (λ (r : Result (List ℕ) Bad). r >>= after_all (after_first total room) (suc (2 * left))) (begins_after total room (value_view key) rest middle k)
    ∙ ap (λ (r : Result (List ℕ) Bad). r >>= after_all (after_first total room) (2 * left)) e
