-- The values of keys are whole as they are written, and are read again.
use Rattle.std.proofs.Common.{◌≡◌, ℕ, ◌-◌, ◌^◌, ◌<◌, ◌≤◌, List, [], length, Some, Ok, All, refl, sym, ap, ◌∙◌, subst, inl, arith}
use Rattle.std.specs.Prelude.{pos}
use Rattle.std.proofs.lemmas.Bool.{le-leb, eq-eqb}
use Rattle.mx_msgpack.specs.Items.{IsArray, array_of}
use Rattle.std.proofs.lemmas.List.{append-nil, take_all, length-append, get_or_default}
use Rattle.uuid.specs.Text.{hyphenated_text, lower}
use Rattle.uuid.proofs.RoundTrips.{parses_hyphenated_text}
use Rattle.mx_msgpack.specs.Grammar.{Value, Int, Str, Array, Values, Spells}
use Rattle.mx_msgpack.specs.Reading.{head_at, after_first, reading_of, Shown, ShownStr, ShownArray, ShownMap}
use Rattle.mx_msgpack.specs.Spelling.{shortest_unsigned, str_head}
use Rattle.std.specs.Option.{option_map}
use Rattle.mx_msgpack.specs.Projections.{as_text, as_array}
use Rattle.mx_msgpack.specs.View.{Shows}
use Rattle.mx_msgpack.proofs.FrontLaws.{roomier}
use Rattle.mx_msgpack.proofs.GrammarLaws.{value_again, value_stands}
use Rattle.mx_msgpack.proofs.Heads.{head_spelled}
use Rattle.mx_msgpack.proofs.NumberSpellings.{str_head_spelled}
use Rattle.mx_msgpack.proofs.PrefixLaws.{one_value}
use Rattle.mx_msgpack.proofs.Shown.{Seen, value_seen}
use Rattle.mx_msgpack.proofs.SpellingLaws.{shortest_spelled, unsigned_again}
use Rattle.mx_msgpack.proofs.ValueLaws.{measured_ok}
use Rattle.mx_request.specs.Values.{number_to, array_in, uuid_in}
use Rattle.mx_msgpack.specs.Readers.{unsigned_in}
use Rattle.mx_request.specs.Spelling.{IsInnerArray, IsUuid, uuid_str}
use Rattle.mx_msgpack.proofs.InnerLaws.{IsInner}
use Rattle.mx_request.proofs.WriterLaws.{uuid_length}

-- ---- a value that stands alone

-- what is shown of it
record Alone (value : Value) (bytes : List ℕ) : Type 0 where
  what : Shown
  size : ℕ
  read : reading_of bytes ≡ Ok (what, size)
  whole : size ≡ length bytes
  shows : Shows what value

seen_alone : (value : Value) (bytes : List ℕ) (what : Shown) → Spells 64 value bytes → Seen bytes what (length bytes) → Alone value bytes
seen_alone value bytes what s seen =
    let v = seen.spelled.1 in
    let whole = take_all (length bytes) bytes (omega arith) in
    let same : v ≡ value = one_value 64 v value bytes (subst (λ (l : List ℕ). Spells 64 v l) whole seen.spelled.2) s in
    record { what = what; size = length bytes; read = seen.exact; whole = refl; shows = subst (λ (x : Value). Shows what x) same seen.spelled.3 }

alone : (value : Value) (bytes : List ℕ) → Spells 63 value bytes → Alone value bytes
alone value bytes inner =
    let s = roomier 63 value bytes inner in
    let after : after_first (length bytes) 64 bytes ≡ Ok [] =
    ap (after_first (length bytes) 64) (sym (append-nil bytes)) ∙ value_again (length bytes) 64 value bytes [] s in
    let v = value_stands (length bytes) 64 bytes [] after in
    let at : length bytes - length bytes ≡ 0 = omega arith in
    let size : length bytes - length {A = ℕ} [] ≡ length bytes = omega arith in
    let begins = ap (λ (k : ℕ). head_at k bytes) (sym at) ∙ v.begins in
    let h = head_spelled 0 bytes v.head v.after begins in
    let l = ap length h.1 ∙ length-append h.0 v.after in
    let short : length v.after ≤ length bytes = omega arith in
    let m = sym (measured_ok bytes [] after) ∙ ap Ok size in
    seen_alone value bytes _ s (value_seen bytes v.head v.after (length bytes) short begins m _ _ _ refl refl refl)

-- ---- numbers

pub number_inner : (number : ℕ) → number < 2 ^ 64 → IsInner (shortest_unsigned number)
number_inner number fits = (Int (pos number), inl (number, refl, shortest_spelled number fits))

pub unsigned_read_again : (number : ℕ) → number < 2 ^ 64 → unsigned_in (shortest_unsigned number) ≡ Some number
unsigned_read_again number fits =
    ap unsigned_in (sym (append-nil (shortest_unsigned number))) ∙ ap (option_map (λ (x : ℕ × List ℕ). x.0)) (unsigned_again number [] fits)

pub number_read_again : (most number : ℕ) → number ≤ most → number < 2 ^ 64 → number_to most (shortest_unsigned number) ≡ Some number
number_read_again most number within fits = rw (unsigned_read_again number fits, le-leb number most within) refl

-- ---- arrays

pub array_inner_value : (bytes : List ℕ) → IsInnerArray bytes → IsInner bytes
array_inner_value bytes (values, s) = (Array values, s)

array_shown : (values : Values) (what : Shown) → Shows what (Array values) → (array : ℕ × List ℕ) × (as_array what ≡ Some array)
array_shown values (ShownArray count items) s = ((count, items), refl)
array_shown values (ShownMap count items) (pairs, e, n, s) = absurd cc
array_shown values _ s = absurd cc

pub array_read_again : (bytes : List ℕ) → IsInnerArray bytes → array_in bytes ≡ Some bytes
array_read_again bytes (values, s) =
    let a = alone (Array values) bytes s in
    rw (a.read, (array_shown values a.what a.shows).1) refl

pub inner_is_array : (bytes : List ℕ) → IsInnerArray bytes → IsArray bytes
unfolding array_of
inner_is_array bytes (values, s) =
    let a = alone (Array values) bytes s in
    let shown = array_shown values a.what a.shows in
    (shown.0, rw (a.read, shown.1, eq-eqb a.size (length bytes) a.whole) refl)

-- ---- UUIDs

uuid_spelled : (id : List ℕ) → Spells 63 (Str (hyphenated_text lower id)) (uuid_str id)
uuid_spelled id =
    let text = hyphenated_text lower id in
    let size : length text ≡ 36 = uuid_length id in
    (str_head 36, rw size (str_head_spelled 36 (omega arith)), rw size (omega arith), refl)

pub uuid_inner : (id : List ℕ) → IsInner (uuid_str id)
uuid_inner id = (Str (hyphenated_text lower id), uuid_spelled id)

text_shown : (text : List ℕ) (what : Shown) → Shows what (Str text) → as_text what ≡ Some text
text_shown text (ShownStr other) s = let same : other ≡ text = cc in ap Some same
text_shown text (ShownArray count items) (values, e, n, s) = absurd cc
text_shown text (ShownMap count items) (pairs, e, n, s) = absurd cc
text_shown text _ s = absurd cc

pub uuid_read_again : (id : List ℕ) → IsUuid id → uuid_in (uuid_str id) ≡ Some id
uuid_read_again id (len, each) =
    let a = alone (Str (hyphenated_text lower id)) (uuid_str id) (uuid_spelled id) in
    let bytes : All (λ b. b < 256) id = λ i d within. rw (get_or_default id i d 0 within) (omega (arith, each i)) in
    rw (a.read, text_shown (hyphenated_text lower id) a.what a.shows) (sym (parses_hyphenated_text lower id (inl refl) len bytes))
