-- The key of a tuple fits where the tuple is bytes: its numbers have 64 bits.
use Rattle.std.proofs.Common.{◌≡◌, ℕ, zero, suc, ◌-◌, ◌≤◌, List, [], ◌∷◌, length, take, drop, Option, Some, None, Result, Ok, Err, refl, sym, ap, ◌∙◌, subst, arith}
use Rattle.std.specs.List.{AllByRecursion, slice_get}
use Rattle.std.specs.Option.{ok_or, option_map, unwrap_or}
use Rattle.std.proofs.lemmas.List.{length-append, take-append-drop}
use Rattle.mx_msgpack.specs.declared.bad.Bad.{Bad}
use Rattle.mx_msgpack.specs.Grammar.{Value, Spells}
use Rattle.mx_msgpack.specs.Items.{parted, first_value, after_value, values_from, array_of, items_of}
use Rattle.mx_msgpack.specs.Reading.{Shown, shown, head_at, after_first, measured, reading_of}
use Rattle.mx_msgpack.specs.Spelling.{AreBytes}
use Rattle.mx_msgpack.specs.View.{Shows}
use Rattle.mx_msgpack.proofs.Heads.{head_spelled}
use Rattle.mx_msgpack.proofs.ItemLaws.{array_row}
use Rattle.mx_msgpack.proofs.Results.{bind_ok, ok_is}
use Rattle.mx_msgpack.proofs.ShortestLaws.{front_of, rest_of}
use Rattle.mx_msgpack.proofs.Shown.{Seen, value_seen}
use Rattle.mx_msgpack.proofs.ValueLaws.{measured_ok}
use Rattle.mx_key.specs.declared.fault.NoKey.TheVariants.{Wrong}
use Rattle.mx_key.specs.declared.part.Part.{Part}
use Rattle.mx_key.specs.declared.part.PartKind.{PartKind}
use Rattle.mx_key.specs.Keys.{Key, KeyPart, IsFit, AreFit}
use Rattle.mx_key.specs.Parts.{◌>>=◌, key_of, part_in, part_of, part_read}
use Rattle.mx_key.proofs.FitLaws.{shown_fits}

-- ---- one field

value_seen_so : (bytes : List ℕ) (seen what : Shown) (n size : ℕ) → Seen bytes seen n → reading_of bytes ≡ Ok (what, size)
    → (value : Value) × Spells 64 value (take size bytes) × Shows what value
value_seen_so bytes seen what n size s e =
    subst (λ (x : Shown × ℕ). (value : Value) × Spells 64 value (take x.1 bytes) × Shows x.0 value) (ok_is (seen, n) (what, size) (sym s.exact ∙ e))
    (s.spelled.1, s.spelled.2, s.spelled.3)

-- what is read of bytes is a value that they spell
value_read : (bytes : List ℕ) (what : Shown) (size : ℕ) → reading_of bytes ≡ Ok (what, size) → (value : Value) × Spells 64 value (take size bytes) × Shows what value
unfolding reading_of
value_read bytes what size e =
    let a = bind_ok (head_at 0 bytes) _ (what, size) e in
    let b = bind_ok (after_first (length bytes) 64 bytes) (λ rest. Ok (shown a.0.0 (take (length a.0.1 - length rest) a.0.1) (take (length bytes - length rest) bytes), length bytes - length rest)) (what, size) a.2 in
    let h = head_spelled 0 bytes a.0.0 a.0.1 a.1 in
    let l = ap length h.1 ∙ length-append h.0 a.0.1 in
    let short : length a.0.1 ≤ length bytes = omega arith in
    let s = value_seen bytes a.0.0 a.0.1 (length bytes - length b.0) short a.1 (sym (measured_ok bytes b.0 b.1)) _ _ _ refl refl refl in
    value_seen_so bytes _ what _ size s e

field_fits : (kind : PartKind) (field : List ℕ) (part : KeyPart) → AreBytes field → part_in kind field ≡ Some part → IsFit part
unfolding part_in
field_fits kind field part each = by_reading (reading_of field) refl
  where
    by_reading : (read : Result (Shown × ℕ) Bad) → reading_of field ≡ read → part_read kind read ≡ Some part → IsFit part
    by_reading (Err bad) is e = absurd cc
    by_reading (Ok (what, size)) is e =
        let v = value_read field what size is in
        shown_fits kind field size v.0 what part each v.1 v.2 e

-- ---- the fields of a tuple

no_bytes : AreBytes []
no_bytes i = omega arith

parted_bytes : (bytes : List ℕ) → AreBytes bytes → AreBytes (first_value bytes) × AreBytes (after_value bytes)
parted_bytes bytes each = by_size (measured bytes)
  where
    by_size : (answer : Result ℕ Bad) → AreBytes (parted bytes answer).0 × AreBytes (parted bytes answer).1
    by_size (Err bad) = (no_bytes, no_bytes)
    by_size (Ok size) =
        let whole = sym (take-append-drop size bytes) in
        (front_of bytes (take size bytes) (drop size bytes) whole each, rest_of bytes (take size bytes) (drop size bytes) whole each)

values_bytes : (count : ℕ) (bytes : List ℕ) → AreBytes bytes → AllByRecursion AreBytes (values_from count bytes)
values_bytes zero bytes each = tt
values_bytes (suc count) bytes each =
    let parts = parted_bytes bytes each in
    (parts.0, values_bytes count (after_value bytes) parts.1)

fields_bytes : (tuple : List ℕ) → AreBytes tuple → AllByRecursion AreBytes (unwrap_or (items_of tuple) [])
fields_bytes tuple each = by_array (array_of tuple) refl
  where
    by_array : (array : Option (ℕ × List ℕ)) → array_of tuple ≡ array → AllByRecursion AreBytes (unwrap_or (option_map (λ (a : ℕ × List ℕ). values_from a.0 a.1) array) [])
    by_array None is = tt
    by_array (Some (count, content)) is =
        let row = array_row tuple count content is in
        values_bytes count content (rest_of tuple row.head content row.parts each)

field_bytes : (fields : List (List ℕ)) (place : ℕ) (field : List ℕ) → AllByRecursion AreBytes fields → slice_get fields place ≡ Some field → AreBytes field
field_bytes [] place field each e = absurd cc
field_bytes (first ∷ fields) zero field each e = let same : first ≡ field = cc in subst AreBytes same each.0
field_bytes (first ∷ fields) (suc place) field each e = field_bytes fields place field each.1 e

-- ---- the key

part_fits : (part : Part) (fields : List (List ℕ)) (found : KeyPart) → AllByRecursion AreBytes fields → part_of part (slice_get fields part.field) ≡ Ok found → IsFit found
part_fits part fields found each = by_field (slice_get fields part.field) refl
  where
    by_part : (spelling : List ℕ) (o : Option KeyPart) → part_in part.kind spelling ≡ o → AreBytes spelling → ok_or o (Wrong part.field part.kind) ≡ Ok found → IsFit found
    by_part spelling None is bytes e = absurd cc
    by_part spelling (Some other) is bytes e =
        let same : other ≡ found = cc in
        field_fits part.kind spelling found bytes (is ∙ ap Some same)

    by_field : (field : Option (List ℕ)) → slice_get fields part.field ≡ field → part_of part field ≡ Ok found → IsFit found
    by_field None is e = absurd cc
    by_field (Some spelling) is e = by_part spelling (part_in part.kind spelling) refl (field_bytes fields part.field spelling each is) e

made : {E : Type 0} (first : Result KeyPart E) (others : Result Key E) (key : Key) → (first >>= λ part. (others >>= λ parts. Ok (part ∷ parts))) ≡ Ok key
    → (part : KeyPart) × (parts : Key) × (first ≡ Ok part) × (others ≡ Ok parts) × (part ∷ parts ≡ key)
made (Ok part) (Ok parts) key e = (part, parts, refl, refl, cc)
made (Ok part) (Err why) key e = absurd cc
made (Err why) others key e = absurd cc

fields_fit : (def : List Part) (fields : List (List ℕ)) (key : Key) → AllByRecursion AreBytes fields → key_of def fields ≡ Ok key → AreFit key
fields_fit [] fields [] each e = tt
fields_fit [] fields (part ∷ parts) each e = absurd cc
fields_fit (part ∷ def) fields key each e =
    let m = made (part_of part (slice_get fields part.field)) (key_of def fields) key e in
    subst AreFit m.4 (part_fits part fields m.0 each m.2, fields_fit def fields m.1 each m.3)

pub tuple_key_fits : (def : List Part) (tuple : List ℕ) (key : Key) → AreBytes tuple → key_of def (unwrap_or (items_of tuple) []) ≡ Ok key → AreFit key
tuple_key_fits def tuple key each e = fields_fit def (unwrap_or (items_of tuple) []) key (fields_bytes tuple each) e
