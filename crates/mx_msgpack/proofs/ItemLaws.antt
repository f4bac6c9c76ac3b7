-- The items of an array: they fill its bytes after the head, and each is the spelling of the value in its place.
use Rattle.std.proofs.Common.{◌≡◌, ℕ, zero, suc, ◌+◌, ◌-◌, ◌≤◌, List, [], ◌∷◌, ◌++◌, length, take, drop, Option, Some, None, Result, Ok, Err, refl, sym, subst, ap, ◌∙◌, arith, eqb, eqb-true, eq-eqb}
use Rattle.std.specs.List.{concat}
use Rattle.std.specs.Option.{option_map}
use Rattle.std.proofs.lemmas.List.{append-nil, take_at, drop_at, take-append-drop, length-append}
use Rattle.mx_msgpack.specs.declared.bad.Bad.{Bad}
use Rattle.mx_msgpack.specs.declared.head.Head.{Head}
use Rattle.mx_msgpack.specs.declared.head.Head.TheVariants.{Nil, Bool as Boolean, Int, Str, Bin, Array, Map, Fixed, Extension}
use Rattle.std.specs.Prelude.{false, is_some}
use Rattle.mx_msgpack.specs.Lookups.{is_array_head}
use Rattle.mx_msgpack.specs.Grammar as grammar
use Rattle.mx_msgpack.specs.Grammar.{Value, Values, NoValue, MoreValues, value_count, max_length, max_nesting, ArrayHead, Spells, SpellsAll}
use Rattle.mx_msgpack.specs.Reading.{Shown, ShownArray, shown, head_at, after_first, reading_of, measured}
use Rattle.mx_msgpack.specs.Items as items
use Rattle.mx_msgpack.specs.Items.{IsOneValue, parted, first_value, values_from, array_of, items_of, SpellEach}
use Rattle.mx_msgpack.proofs.Results.{bind_ok, ok_is}
use Rattle.mx_msgpack.specs.Projections.{as_array, first_as, shown_first}
use Rattle.mx_msgpack.proofs.ProjectionLaws.{first_read, array_is}
use Rattle.mx_msgpack.proofs.Options.{bind_some, allowed, same_some}
use Rattle.mx_msgpack.proofs.Heads.{head_again}
use Rattle.mx_msgpack.proofs.GrammarLaws.{value_again, value_spelled}
use Rattle.mx_msgpack.proofs.FrontLaws.{roomier, measured_again}
use Rattle.mx_msgpack.proofs.ContainerLaws.{array_spelled}
use Rattle.mx_msgpack.proofs.Shown.{head_fails, reads}
use Rattle.mx_msgpack.proofs.ValueLaws.{read_ok}

-- ---- values in a row

-- a value's spelling is parted from what follows it
parted_front : (value : Value) (front more : List ℕ) → Spells 63 value front → parted (front ++ more) (measured (front ++ more)) ≡ (front, more)
parted_front value front more s =
    ap (parted (front ++ more)) (measured_again value front more (roomier 63 value front s))
    ∙ (λ i. (take_at front more (length front) refl i, drop_at front more (length front) refl i))

first_front : (value : Value) (front more : List ℕ) → Spells 63 value front → first_value (front ++ more) ≡ front
first_front value front more s = ap (λ (x : List ℕ × List ℕ). x.0) (parted_front value front more s)

after_front : (value : Value) (front more : List ℕ) → Spells 63 value front → items.after_value (front ++ more) ≡ more
after_front value front more s = ap (λ (x : List ℕ × List ℕ). x.1) (parted_front value front more s)

pub first_is : (value : Value) (front more : List ℕ) → Spells 63 value front
    → (first_value (front ++ more) ≡ front) × (items.after_value (front ++ more) ≡ more)
first_is value front more s = (first_front value front more s, after_front value front more s)

-- the spellings of values in a row fill their bytes
pub values_fill : (values : Values) (bytes : List ℕ) → SpellsAll 63 values bytes → concat (values_from (value_count values) bytes) ≡ bytes
values_fill NoValue bytes e = sym e
values_fill (MoreValues value others) bytes (front, more, e, s, ss) =
    rw (e, first_front value front more s, after_front value front more s) (ap (λ (l : List ℕ). front ++ l) (values_fill others more ss))

-- and each is the spelling of the value in its place
pub values_each : (values : Values) (bytes : List ℕ) → SpellsAll 63 values bytes → SpellEach 63 values (values_from (value_count values) bytes)
values_each NoValue bytes e = tt
values_each (MoreValues value others) bytes (front, more, e, s, ss) =
    rw (e, first_front value front more s, after_front value front more s) (s, values_each others more ss)

-- the first value and the bytes after it are no longer than all
pub parted_within : (bytes : List ℕ) → length (first_value bytes) + length (items.after_value bytes) ≤ length bytes
parted_within bytes = within (measured bytes)
  where
    within : (answer : Result ℕ Bad) → length (parted bytes answer).0 + length (parted bytes answer).1 ≤ length bytes
    within (Err bad) = omega arith
    within (Ok size) = let l = length-append (take size bytes) (drop size bytes) in let w = ap length (take-append-drop size bytes) in omega arith

pub values_count : (count : ℕ) (bytes : List ℕ) → length (values_from count bytes) ≡ count
values_count zero bytes = refl
values_count (suc count) bytes = ap suc (values_count count (items.after_value bytes))

-- ---- an array

-- an array that is spelled is read, and nothing follows it
pub array_read : (values : Values) (head content : List ℕ) → ArrayHead (value_count values) head → value_count values ≤ max_length → SpellsAll 63 values content
    → array_of (head ++ content) ≡ Some (value_count values, content)
unfolding array_of
array_read values head content h few s =
    let count = value_count values in
    let bytes = head ++ content in
    let begins : head_at 0 bytes ≡ Ok (Array count, content) = head_again 0 (Array count) head content h in
    let value : after_first (length bytes) 64 bytes ≡ Ok [] =
    ap (after_first (length bytes) 64) (sym (append-nil bytes))
    ∙ value_again (length bytes) 64 (grammar.Array values) bytes [] (head, content, h, few, refl, s) in
    let whole : length content ≡ length content - length (the_empty) = omega arith in
    let all : take (length content - length the_empty) content ≡ content =
    ap (take (length content - length the_empty)) (sym (append-nil content)) ∙ take_at content [] (length content - length the_empty) whole in
    let same : length bytes - length the_empty ≡ length bytes = omega arith in
    let read : reading_of bytes ≡ Ok (ShownArray count content, length bytes) =
    reads bytes (Array count) content [] begins value
    ∙ (λ i. Ok (ShownArray count (all i), same i)) in
    rw (read, eq-eqb (length bytes) (length bytes) refl) refl
  where
    the_empty : List ℕ
    the_empty = []

-- what an array is made of
pub record Row (bytes : List ℕ) (count : ℕ) (content : List ℕ) : Type 0 where
  pub head : List ℕ
  pub values : Values
  pub parts : bytes ≡ head ++ content
  pub many : value_count values ≡ count
  pub few : count ≤ max_length
  pub spelled : SpellsAll 63 values content

-- what is shown of an array
pub whole_array : (bytes : List ℕ) (array : ℕ × List ℕ) → array_of bytes ≡ Some array → reading_of bytes ≡ Ok (ShownArray array.0 array.1, length bytes)
unfolding array_of
whole_array bytes array e =
    let first = bind_some (shown_first bytes) _ array e in
    let held = bind_some (as_array first.0.0) _ array first.2 in
    let whole = allowed (eqb first.0.1 (length bytes)) (Some held.0) array held.2 in
    let what = array_is first.0.0 array (held.1 ∙ whole.1) in
    let size = eqb-true first.0.1 (length bytes) whole.0 in
    first_read bytes first.0 first.1 ∙ (λ i. Ok (what i, size i))

-- no bytes follow a value that takes all of them
all_read : (bytes : List ℕ) (what : Shown) → reading_of bytes ≡ Ok (what, length bytes) → after_first (length bytes) 64 bytes ≡ Ok []
unfolding reading_of
all_read bytes what e =
    let a = bind_ok (head_at 0 bytes) _ (what, length bytes) e in
    let b =
    bind_ok (after_first (length bytes) 64 bytes)
    (λ rest. Ok (shown a.0.0 (take (length a.0.1 - length rest) a.0.1) (take (length bytes - length rest) bytes), length bytes - length rest)) (what, length bytes) a.2 in
    let same =
    ap (λ (x : Shown × ℕ). x.1)
    (ok_is (shown a.0.0 (take (length a.0.1 - length b.0) a.0.1) (take (length bytes - length b.0) bytes), length bytes - length b.0) (what, length bytes) b.2) in
    let v = value_spelled (length bytes) 64 bytes b.0 b.1 in
    let l = ap length v.2 ∙ length-append v.1 b.0 in
    b.1 ∙ ap Ok (no_rest b.0 (omega arith))
  where
    no_rest : (rest : List ℕ) → length rest ≡ 0 → rest ≡ []
    no_rest [] e = refl
    no_rest (byte ∷ rest) e = absurd cc

-- an array that is read is spelled
array_of_spelled : (bytes : List ℕ) (count : ℕ) (content : List ℕ) → array_of bytes ≡ Some (count, content) → (values : Values) × Spells 64 (grammar.Array values) bytes
unfolding array_of
array_of_spelled bytes count content e =
    let read = whole_array bytes (count, content) e in
    array_spelled (length bytes) 63 bytes count content (length bytes) (all_read bytes (ShownArray count content) read) read

-- and so it is a head and values in a row
pub array_row : (bytes : List ℕ) (count : ℕ) (content : List ℕ) → array_of bytes ≡ Some (count, content) → Row bytes count content
array_row bytes count content e = by_spelling (array_of_spelled bytes count content e)
  where
    by_spelling : (values : Values) × Spells 64 (grammar.Array values) bytes → Row bytes count content
    by_spelling (values, (head, inside, h, few, parts, s)) =
        let same = same_some (value_count values, inside) (count, content) (sym (ap array_of parts ∙ array_read values head inside h few s) ∙ e) in
        let many : value_count values ≡ count = ap (λ (x : ℕ × List ℕ). x.0) same in
        let content_is : inside ≡ content = ap (λ (x : ℕ × List ℕ). x.1) same in
        record { head = head; values = values; parts = rw (← content_is) parts; many = many; few = rw (← many) few; spelled = rw (← content_is) s }

-- its items fill the bytes after its head
pub row_fills : (bytes : List ℕ) (count : ℕ) (content : List ℕ) → Row bytes count content → concat (values_from count content) ≡ content
row_fills bytes count content row = rw (← row.many) (values_fill row.values content row.spelled)

-- and its head alone tells its count, and where its items begin
pub array_head : (bytes : List ℕ) (array : ℕ × List ℕ) → array_of bytes ≡ Some array → head_at 0 bytes ≡ Ok (Array array.0, array.1)
array_head bytes (count, content) e = by_spelling (array_of_spelled bytes count content e)
  where
    by_spelling : (values : Values) × Spells 64 (grammar.Array values) bytes → head_at 0 bytes ≡ Ok (Array count, content)
    by_spelling (values, (head, inside, h, few, parts, s)) =
        let same = same_some (value_count values, inside) (count, content) (sym (ap array_of parts ∙ array_read values head inside h few s) ∙ e) in
        ap (head_at 0) parts ∙ head_again 0 (Array (value_count values)) head inside h ∙ ap (λ (x : ℕ × List ℕ). Ok (Array x.0, x.1)) same

pub known_by_head : (bytes : List ℕ) (array : ℕ × List ℕ) (head : Head) (items : List ℕ) (count : ℕ) → array_of bytes ≡ Some array → head_at 0 bytes ≡ Ok (head, items)
    → ((announced : ℕ) → head ≡ Array announced → count ≡ announced) → array_of bytes ≡ Some (count, items)
known_by_head bytes array head items count is read announces =
    let same = ok_is (Array array.0, array.1) (head, items) (sym (array_head bytes array is) ∙ read) in
    let many = sym (announces array.0 (ap (λ (x : Head × List ℕ). x.0) (sym same))) in
    let items_same = ap (λ (x : Head × List ℕ). x.1) same in
    is ∙ (λ i. Some (many i, items_same i))

pub known_has_head : (bytes : List ℕ) (array : ℕ × List ℕ) (bad : Bad) → array_of bytes ≡ Some array → head_at 0 bytes ≡ Err bad → ⊥
known_has_head bytes array bad is fails = let read = sym (array_head bytes array is) ∙ fails in absurd cc

-- an array that is spelled is a head and the spellings of its values, which are its items
pub array_items : (bytes : List ℕ) (values : Values) → Spells max_nesting (grammar.Array values) bytes
    → (head : List ℕ) × (items : List (List ℕ)) × (items_of bytes ≡ Some items) × (bytes ≡ head ++ concat items) × SpellEach 63 values items
array_items bytes values (head, content, h, few, e, s) =
    let all = values_from (value_count values) content in (
      head,
      all,
      ap (option_map (λ (array : ℕ × List ℕ). values_from array.0 array.1)) (ap array_of e ∙ array_read values head content h few s),
      e ∙ ap (λ (l : List ℕ). head ++ l) (sym (values_fill values content s)),
      values_each values content s,
    )

-- an array that is read has no more items than a container may
pub items_few : (bytes : List ℕ) (fields : List (List ℕ)) → items_of bytes ≡ Some fields → length fields ≤ max_length
items_few bytes fields e = by_array (array_of bytes) refl e
  where
    by_array : (array : Option (ℕ × List ℕ)) → array_of bytes ≡ array → option_map (λ (x : ℕ × List ℕ). values_from x.0 x.1) array ≡ Some fields → length fields ≤ max_length
    by_array None is e = absurd cc
    by_array (Some (count, content)) is e =
        let row = array_row bytes count content is in
        let many = ap length (same_some (values_from count content) fields e) in
        omega (arith, values_count count content, row.few)

-- bytes that have items are spelled as an array
pub items_spelled : (bytes : List ℕ) (fields : List (List ℕ)) → items_of bytes ≡ Some fields → (values : Values) × Spells max_nesting (grammar.Array values) bytes
items_spelled bytes fields e = by_array (array_of bytes) refl e
  where
    by_array : (array : Option (ℕ × List ℕ)) → array_of bytes ≡ array → option_map (λ (x : ℕ × List ℕ). values_from x.0 x.1) array ≡ Some fields
        → (values : Values) × Spells max_nesting (grammar.Array values) bytes
    by_array None is e = absurd cc
    by_array (Some (count, content)) is e = array_of_spelled bytes count content is

-- the items of an array are the spellings of its values
pub items_each : (bytes : List ℕ) (fields : List (List ℕ)) (values : Values) → items_of bytes ≡ Some fields → Spells max_nesting (grammar.Array values) bytes → SpellEach 63 values fields
items_each bytes fields values e s =
    let all = array_items bytes values s in
    subst (SpellEach 63 values) (same_some all.1 fields (sym all.2 ∙ e)) all.4

-- ---- an array by its head

shown_array : (head : Head) (content whole : List ℕ) → is_array_head head ≡ is_some (as_array (shown head content whole))
shown_array Nil content whole = refl
shown_array (Boolean truth) content whole = refl
shown_array (Int number) content whole = refl
shown_array (Str _) content whole = refl
shown_array (Bin _) content whole = refl
shown_array (Array count) content whole = refl
shown_array (Map count) content whole = refl
shown_array (Fixed _) content whole = refl
shown_array (Extension _) content whole = refl

pub array_by_head : (bytes : List ℕ) (head : Head) (after : List ℕ) → IsOneValue bytes → head_at 0 bytes ≡ Ok (head, after) → is_array_head head ≡ is_some (first_as as_array bytes)
array_by_head bytes head after whole h =
    let r = read_ok bytes (length bytes) whole in
    rw (reads bytes head after r.0 h r.1) (shown_array head _ _)

pub no_array : (bytes : List ℕ) (bad : Bad) → head_at 0 bytes ≡ Err bad → false ≡ is_some (first_as as_array bytes)
no_array bytes bad h = rw (head_fails bytes bad h) refl
