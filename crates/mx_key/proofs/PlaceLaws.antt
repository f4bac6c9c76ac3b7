-- The part that stands first among values in a row, and the bytes after so many of them.
use Rattle.std.proofs.Common.{◌≡◌, ℕ, zero, suc, ◌+◌, ◌-◌, ◌<◌, ◌≤◌, List, [], length, take, drop, Option, Some, None, Result, Ok, Err, refl, sym, ap, ◌∙◌, IfSome, arith}
use Rattle.std.specs.Prelude.{pos, negsuc}
use Rattle.std.specs.List.{slice_get}
use Rattle.std.specs.Option.{ok_or, option_map, unwrap_or}
use Rattle.std.specs.Result.{result_ok}
use Rattle.mx_msgpack.specs.declared.bad.Bad.{Bad}
use Rattle.mx_msgpack.specs.declared.bad.Bad.TheVariants.{Short}
use Rattle.mx_msgpack.specs.Items.{parted, first_value, after_value, values_from, array_of, items_of}
use Rattle.mx_msgpack.specs.Projections.{as_int}
use Rattle.mx_msgpack.specs.Readers.{◌>>=◌, as_unsigned, unsigned_at}
use Rattle.mx_msgpack.specs.Reading.{Shown, ShownNil, ShownBool, ShownInt, ShownStr, ShownBin, ShownArray, ShownMap, ShownOpaque, shown, head_at, after_first, measured, reading_of}
use Rattle.mx_msgpack.proofs.Results.{bind_ok, ok_is}
use Rattle.mx_msgpack.proofs.ValueLaws.{measured_ok, read_ok}
use Rattle.mx_msgpack.proofs.GrammarLaws.{value_stands}
use Rattle.mx_msgpack.proofs.Shown.{head_fails, reads}
use Rattle.mx_msgpack.proofs.MapLaws.{read_alone}
use Rattle.mx_key.specs.declared.fault.NoKey.TheVariants.{Missing, Wrong}
use Rattle.mx_key.specs.declared.part.Part.{Part}
use Rattle.mx_key.specs.declared.part.PartKind.{PartKind}
use Rattle.mx_key.specs.declared.part.PartKind.TheVariants.{Unsigned}
use Rattle.mx_key.specs.Keys.{KeyPart, Integer}
use Rattle.mx_key.specs.Parts.{part_in, part_read, part_of, part_of_type, key_of}
use Rattle.mx_key.specs.Places.{after_values}

-- ---- the value that stands first

-- where one is read, it is the first, and the others follow it
read_size : (bytes : List ℕ) (what : Shown) (size : ℕ) → reading_of bytes ≡ Ok (what, size) → measured bytes ≡ Ok size
unfolding reading_of
read_size bytes what size e =
    let a = bind_ok (head_at 0 bytes) _ (what, size) e in
    let b =
    bind_ok (after_first (length bytes) 64 bytes)
    (λ rest. Ok (shown a.0.0 (take (length a.0.1 - length rest) a.0.1) (take (length bytes - length rest) bytes), length bytes - length rest)) (what, size) a.2 in
    let same = ok_is (shown a.0.0 (take (length a.0.1 - length b.0) a.0.1) (take (length bytes - length b.0) bytes), length bytes - length b.0) (what, size) b.2 in
    sym (measured_ok bytes b.0 b.1) ∙ ap (λ (x : Shown × ℕ). Ok x.1) same

pub first_read : (bytes : List ℕ) (what : Shown) (size : ℕ) → reading_of bytes ≡ Ok (what, size)
    → (first_value bytes ≡ take size bytes) × (after_value bytes ≡ drop size bytes)
first_read bytes what size e =
    let m = read_size bytes what size e in
    (ap (λ (r : Result ℕ Bad). (parted bytes r).0) m, ap (λ (r : Result ℕ Bad). (parted bytes r).1) m)

pub part_first : (kind : PartKind) (bytes : List ℕ) (what : Shown) (size : ℕ) → reading_of bytes ≡ Ok (what, size)
    → part_in kind (first_value bytes) ≡ part_of_type kind what
unfolding part_in
part_first kind bytes what size e =
    ap (part_in kind) (first_read bytes what size e).0 ∙ ap (part_read kind) (read_alone bytes what size e)

-- of no bytes no part is read
nothing_read : reading_of [] ≡ Err Short
unfolding head_at
nothing_read = head_fails [] Short refl

-- where none is read, there is no part
pub no_part_first : (kind : PartKind) (bytes : List ℕ) (bad : Bad) → reading_of bytes ≡ Err bad → part_in kind (first_value bytes) ≡ None
unfolding part_in
no_part_first kind bytes bad e = by_measured (measured bytes) refl
  where
    by_measured : (r : Result ℕ Bad) → measured bytes ≡ r → part_in kind (parted bytes r).0 ≡ None
    by_measured (Err bad) m = ap (part_read kind) nothing_read
    by_measured (Ok size) m =
        let r = read_ok bytes size m in
        let s = value_stands (length bytes) 64 bytes r.0 r.1 in
        let at : 0 ≡ length bytes - length bytes = omega arith in
        let read = sym (reads bytes s.head s.after r.0 (ap (λ (k : ℕ). head_at k bytes) at ∙ s.begins) r.1) ∙ e in
        absurd cc

-- ---- a number of 0 or more that stands first

pub record IsUnsigned (bytes : List ℕ) (found : Option (ℕ × List ℕ)) : Type 0 where
  pub part : option_map (λ (x : ℕ × List ℕ). Integer (pos x.0)) found ≡ part_in Unsigned (first_value bytes)
  pub after : IfSome found (λ x. x.1 ≡ after_value bytes)

abbrev unsigned_of : List ℕ → Result (Shown × ℕ) Bad → Option (ℕ × List ℕ)
unsigned_of bytes read =
    result_ok read >>= λ first. (as_int first.0 >>= λ number. (as_unsigned number >>= λ unsigned. Some (unsigned, drop first.1 bytes)))

unsigned_by : (bytes : List ℕ) → unsigned_at bytes ≡ unsigned_of bytes (reading_of bytes)
unfolding unsigned_at
unsigned_by bytes = refl

pub unsigned_first : (bytes : List ℕ) (found : Option (ℕ × List ℕ)) → found ≡ unsigned_at bytes → IsUnsigned bytes found
unsigned_first bytes found is = rw (is ∙ unsigned_by bytes) (by_read (reading_of bytes) refl)
  where
    other : (what : Shown) (size : ℕ) → reading_of bytes ≡ Ok (what, size) → part_of_type Unsigned what ≡ None → IsUnsigned bytes None
    other what size e none = record { part = sym (part_first Unsigned bytes what size e ∙ none); after = tt }

    by_read : (read : Result (Shown × ℕ) Bad) → reading_of bytes ≡ read → IsUnsigned bytes (unsigned_of bytes read)
    by_read (Err bad) e = record { part = sym (no_part_first Unsigned bytes bad e); after = tt }
    by_read (Ok (ShownInt (pos number), size)) e =
        record { part = sym (part_first Unsigned bytes (ShownInt (pos number)) size e); after = sym (first_read bytes (ShownInt (pos number)) size e).1 }
    by_read (Ok (ShownInt (negsuc below), size)) e = other (ShownInt (negsuc below)) size e refl
    by_read (Ok (ShownNil, size)) e = other ShownNil size e refl
    by_read (Ok (ShownBool truth, size)) e = other (ShownBool truth) size e refl
    by_read (Ok (ShownStr text, size)) e = other (ShownStr text) size e refl
    by_read (Ok (ShownBin content, size)) e = other (ShownBin content) size e refl
    by_read (Ok (ShownArray count items, size)) e = other (ShownArray count items) size e refl
    by_read (Ok (ShownMap count items, size)) e = other (ShownMap count items) size e refl
    by_read (Ok (ShownOpaque spelling, size)) e = other (ShownOpaque spelling) size e refl

-- ---- the bytes after so many values

none_more : ¬ (0 < 0)
none_more = omega arith

pub after_one : (count : ℕ) (bytes : List ℕ) → 0 < count → after_values (count - 1) (after_value bytes) ≡ after_values count bytes
after_one zero bytes more = absurd (none_more more)
after_one (suc count) bytes more = let less : suc count - 1 ≡ count = omega arith in ap (λ (n : ℕ). after_values n (after_value bytes)) less

after_both : (one other : ℕ) (bytes : List ℕ) → after_values other (after_values one bytes) ≡ after_values (one + other) bytes
after_both zero other bytes = let none : other ≡ 0 + other = omega arith in ap (λ (n : ℕ). after_values n bytes) none
after_both (suc one) other bytes =
    let more : suc (one + other) ≡ suc one + other = omega arith in
    after_both one other (after_value bytes) ∙ ap (λ (n : ℕ). after_values n bytes) more

-- from one place on to a later one
pub after_rest : (place field : ℕ) (from bytes : List ℕ) → place ≤ field → from ≡ after_values place bytes → after_values (field - place) from ≡ after_values field bytes
after_rest place field from bytes below is =
    let whole : place + (field - place) ≡ field = omega arith in
    ap (after_values (field - place)) is ∙ after_both place (field - place) bytes ∙ ap (λ (n : ℕ). after_values n bytes) whole

-- from a field to the next one
pub after_field : (field : ℕ) (from after bytes : List ℕ) → from ≡ after_values field bytes → after ≡ after_value from → after ≡ after_values (field + 1) bytes
after_field field from after bytes is next = next ∙ ap after_value is ∙ after_both field 1 bytes

-- the field in a place, where there is one
pub field_there : (count field : ℕ) (bytes : List ℕ) → field < count → slice_get (values_from count bytes) field ≡ Some (first_value (after_values field bytes))
field_there zero field bytes below = absurd (omega arith)
field_there (suc count) zero bytes below = refl
field_there (suc count) (suc field) bytes below = field_there count field (after_value bytes) (omega arith)

pub field_missing : (count field : ℕ) (bytes : List ℕ) → count ≤ field → slice_get (values_from count bytes) field ≡ None
field_missing zero field bytes past = refl
field_missing (suc count) zero bytes past = absurd (omega arith)
field_missing (suc count) (suc field) bytes past = field_missing count field (after_value bytes) (omega arith)

-- ---- a part of the field in its place

module _ (part : Part) (count : ℕ) (bytes : List ℕ) where
  pub part_missing : count ≤ part.field → part_of part (slice_get (values_from count bytes) part.field) ≡ Err (Missing part.field)
  part_missing past = ap (part_of part) (field_missing count part.field bytes past)

  module _ (from : List ℕ) (below : part.field < count) (is : from ≡ after_values part.field bytes) where
    field_first : part_of part (slice_get (values_from count bytes) part.field) ≡ ok_or (part_in part.kind (first_value from)) (Wrong part.field part.kind)
    field_first =
        ap (part_of part) (field_there count part.field bytes below)
        ∙ ap (λ (l : List ℕ). ok_or (part_in part.kind (first_value l)) (Wrong part.field part.kind)) (sym is)

    pub part_there : (found : KeyPart) → part_in part.kind (first_value from) ≡ Some found → part_of part (slice_get (values_from count bytes) part.field) ≡ Ok found
    part_there found e = field_first ∙ ap (λ (o : Option KeyPart). ok_or o (Wrong part.field part.kind)) e

    pub no_part_there : part_in part.kind (first_value from) ≡ None → part_of part (slice_get (values_from count bytes) part.field) ≡ Err (Wrong part.field part.kind)
    no_part_there e = field_first ∙ ap (λ (o : Option KeyPart). ok_or o (Wrong part.field part.kind)) e

-- the key of a tuple's fields, by the items of its array
pub array_key : (tuple : List ℕ) (count : ℕ) (bytes : List ℕ) (def parts : List Part) → array_of tuple ≡ Some (count, bytes) → parts ≡ def
    → key_of def (unwrap_or (items_of tuple) []) ≡ key_of parts (values_from count bytes)
array_key tuple count bytes def parts array same =
    ap (λ (o : Option (ℕ × List ℕ)). key_of def (unwrap_or (option_map (λ (a : ℕ × List ℕ). values_from a.0 a.1) o) [])) array
    ∙ ap (λ (l : List Part). key_of l (values_from count bytes)) (sym same)
