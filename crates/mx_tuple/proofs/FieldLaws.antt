-- The fields of a tuple, each between its place and the next one.
use Rattle.std.proofs.Common.{◌≡◌, ℕ, zero, suc, ◌+◌, ◌-◌, ◌<◌, ◌≤◌, Bool, true, false, cond, List, [], ◌∷◌, ◌++◌, length, take, drop, get_or, Option, Some, None, Result, Ok, Err, Bor, refl, sym, ap, ◌∙◌, append_assoc, arith, leb}
use Rattle.std.specs.Prelude.{◌&&◌, nat_le, if◌then◌else◌}
use Rattle.std.specs.List.{concat, slice_get, PartBy}
use Rattle.std.specs.Option.{option_copied, option_map, unwrap_or}
use Rattle.std.specs.Result.{OkIff, result_unwrap_or}
use Rattle.std.proofs.lemmas.Bool.{le-leb, leb-true}
use Rattle.std.proofs.lemmas.List.{take_at, drop_at, length-append}
use Rattle.std.proofs.lemmas.Option.{slice_get_read, slice_get_past}
use Rattle.mx_msgpack.specs.Items.{first_value, after_value, values_from, array_of, items_of}
use Rattle.mx_msgpack.proofs.ItemLaws.{array_row, row_fills, items_few}
use Rattle.mx_tuple.specs.Fields.{TupleValue, tuple_of, places_from, HasPlaces}

-- ---- a field by the places around it

-- the bytes from one place to the next one, where both lie in the bytes and in order
abbrev pub between : Option ℕ → Option ℕ → List ℕ → Option (List ℕ)
between None to bytes = None
between (Some from) None bytes = None
between (Some from) (Some to) bytes = if nat_le from to && nat_le to (length bytes) then Some (take (to - from) (drop from bytes)) else None

-- a field of a tuple: the bytes between its place and the next one
abbrev pub field_at : List ℕ → (places : List ℕ) → ℕ → Option (List ℕ)
field_at bytes places n = between (slice_get places n) (slice_get places (suc n)) bytes

places_first : (at : ℕ) (fields : List (List ℕ)) → slice_get (places_from at fields) 0 ≡ Some at
places_first at [] = refl
places_first at (field ∷ fields) = refl

pub places_many : (at : ℕ) (fields : List (List ℕ)) → length (places_from at fields) ≡ suc (length fields)
places_many at [] = refl
places_many at (field ∷ fields) = ap suc (places_many (at + length field) fields)

-- the bytes between two places that lie in order
between_in : (from to : ℕ) (bytes : List ℕ) → from ≤ to → to ≤ length bytes → between (Some from) (Some to) bytes ≡ Some (take (to - from) (drop from bytes))
between_in from to bytes order within = rw (le-leb from to order, le-leb to (length bytes) within) refl

first_between : (before field more bytes : List ℕ) (at : ℕ) → at ≡ length before → bytes ≡ before ++ (field ++ more) → between (Some at) (Some (at + length field)) bytes ≡ Some field
first_between before field more bytes at place parts =
    let l = ap length parts ∙ length-append before (field ++ more) in
    let m = length-append field more in
    let size : length field ≡ (at + length field) - at = omega arith in
    between_in at (at + length field) bytes (omega arith) (omega arith)
    ∙ ap (λ (x : List ℕ). Some (take ((at + length field) - at) x)) (ap (drop at) parts ∙ drop_at before (field ++ more) at (sym place))
    ∙ ap (λ (x : List ℕ). Some x) (take_at field more ((at + length field) - at) size)

pub row_between : (before : List ℕ) (fields : List (List ℕ)) (bytes : List ℕ) (at n : ℕ) → at ≡ length before → bytes ≡ before ++ concat fields
    → slice_get fields n ≡ field_at bytes (places_from at fields) n
row_between before [] bytes at zero place parts = refl
row_between before [] bytes at (suc n) place parts = refl
row_between before (field ∷ fields) bytes at zero place parts =
    sym (first_between before field (concat fields) bytes at place parts)
    ∙ ap (λ (to : Option ℕ). between (Some at) to bytes) (sym (places_first (at + length field) fields))
row_between before (field ∷ fields) bytes at (suc n) place parts =
    let l = length-append before field in
    row_between (before ++ field) fields bytes (at + length field) n (omega arith) (parts ∙ sym (append_assoc before field (concat fields)))

field_between : (tuple : TupleValue) (places : List ℕ) → HasPlaces tuple places → (n : ℕ) → slice_get tuple.fields n ≡ field_at tuple.bytes places n
field_between tuple places has n = rw has.places_are (row_between has.head tuple.fields tuple.bytes (length has.head) n refl has.in_row)

-- ---- what the code reads

-- the place that indexing gave
pub place_read : (places seen : List ℕ) (n place : ℕ) → seen ≡ places → n < length seen → place ≡ get_or seen n place → slice_get places n ≡ Some place
place_read places seen n place same lt e =
    let long = ap length same in
    slice_get_read places (length places) n place refl (omega arith) (e ∙ ap (λ (l : List ℕ). get_or l n place) same)

module _ (tuple : TupleValue) (places : List ℕ) (has : HasPlaces tuple places) where
  -- no place for the field
  pub none_from : (seen : List ℕ) (n : ℕ) → seen ≡ places → length seen ≤ n → None ≡ slice_get tuple.fields n
  none_from seen n same past =
      let len = ap length same in
      sym (field_between tuple places has n ∙ rw (slice_get_past places n (omega arith)) refl)

  -- no place after it
  pub none_to : (seen : List ℕ) (n from : ℕ) → slice_get places n ≡ Some from → seen ≡ places → length seen ≤ n + 1 → None ≡ slice_get tuple.fields n
  none_to seen n from e same past =
      let len = ap length same in
      sym (field_between tuple places has n ∙ rw (e, slice_get_past places (suc n) (omega arith)) refl)

-- the bytes that a range gave
part_is : (bytes : List ℕ) (from to : ℕ) (part : Option (Bor (List ℕ))) → PartBy (λ (x : Bor (List ℕ)). x.now) bytes from to part
    → option_copied part ≡ between (Some from) (Some to) bytes
part_is bytes from to None (out, some) = by_order (leb from to) (leb to (length bytes)) refl refl
  where
    nothing : Option (List ℕ)
    nothing = None

    by_order : (first second : Bool) → leb from to ≡ first → leb to (length bytes) ≡ second → nothing ≡ cond (first && second) (Some (take (to - from) (drop from bytes))) None
    by_order true true a b = let there = some (leb-true from to a, leb-true to (length bytes) b) in absurd cc
    by_order true false a b = refl
    by_order false true a b = refl
    by_order false false a b = refl
part_is bytes from to (Some part) ((order, within, e, size), some) = ap (λ (x : List ℕ). Some x) e ∙ sym (between_in from to bytes order within)

pub part_read : (tuple : TupleValue) (places : List ℕ) → HasPlaces tuple places → (n from to : ℕ) (seen : List ℕ) (part : Option (Bor (List ℕ)))
    → slice_get places n ≡ Some from → slice_get places (n + 1) ≡ Some to
    → seen ≡ tuple.bytes → PartBy (λ (x : Bor (List ℕ)). x.now) seen from to part → option_copied part ≡ slice_get tuple.fields n
part_read tuple places has n from to seen part f t same p =
    let next : slice_get places (suc n) ≡ Some to = ap (slice_get places) (one_more n) ∙ t in
    part_is seen from to part p
    ∙ ap (between (Some from) (Some to)) same
    ∙ (λ i. between (sym f i) (sym next i) tuple.bytes)
    ∙ sym (field_between tuple places has n)
  where
    one_more : (n : ℕ) → suc n ≡ n + 1
    one_more n = omega arith

-- how many fields there are, which a number of 32 bits tells
pub counted : {E : Type 0} (tuple : TupleValue) (places : List ℕ) → HasPlaces tuple places → (answer : Result ℕ E) (len less count : ℕ) → len ≡ length places → less ≡ len - 1
    → OkIff answer (less < 4294967296) less → count ≡ result_unwrap_or answer 0 → count ≡ length tuple.fields
counted {E = E} tuple places has answer len less count l m fits e =
    let many = l ∙ ap length has.places_are ∙ places_many (length has.head) tuple.fields in
    let few = items_few tuple.bytes tuple.fields has.items in
    e ∙ by_answer answer fits (omega arith) ∙ omega arith
  where
    by_answer : (answer : Result ℕ E) → OkIff answer (less < 4294967296) less → less < 4294967296 → result_unwrap_or answer 0 ≡ less
    by_answer (Ok x) (small, same) lt = same
    by_answer (Err bad) large lt = absurd (large lt)

-- ---- the places of values in a row

-- one value more
pub one_place : (places : List ℕ) (at left : ℕ) (rest : List ℕ) → 0 < left
    → (places ++ at ∷ []) ++ places_from (at + length (first_value rest)) (values_from (left - 1) (after_value rest)) ≡ places ++ places_from at (values_from left rest)
one_place places at left rest some =
    let e : left ≡ suc (left - 1) = omega arith in
    append_assoc places (at ∷ []) (places_from (at + length (first_value rest)) (values_from (left - 1) (after_value rest)))
    ∙ ap (λ (k : ℕ). places ++ places_from at (values_from k rest)) (sym e)

-- an array's bytes are its head and its items
pub items_within : (bytes : List ℕ) (count : ℕ) (content : List ℕ) → array_of bytes ≡ Some (count, content) → length content ≤ length bytes
items_within bytes count content e =
    let row = array_row bytes count content e in
    let l = ap length row.parts ∙ length-append row.head content in
    omega arith

-- the tuple of an array's bytes and of its items' places
pub tuple_made : (bytes places : List ℕ) (count : ℕ) (content : List ℕ) → array_of bytes ≡ Some (count, content)
    → places ≡ places_from (length bytes - length content) (values_from count content) → HasPlaces (tuple_of bytes) places
tuple_made bytes places count content e at =
    let row = array_row bytes count content e in
    let l = ap length row.parts ∙ length-append row.head content in
    let start : length bytes - length content ≡ length row.head = omega arith in
    let items : items_of bytes ≡ Some (values_from count content) = ap (option_map (λ (x : ℕ × List ℕ). values_from x.0 x.1)) e in
    let fields : (tuple_of bytes).fields ≡ values_from count content = ap (λ (o : Option (List (List ℕ))). unwrap_or o []) items in
    record {
      items = items ∙ ap Some (sym fields);
      head = row.head;
      in_row = row.parts ∙ ap (λ (l : List ℕ). row.head ++ l) (sym (row_fills bytes count content row) ∙ ap concat (sym fields));
      places_are = at ∙ ap (λ (at : ℕ). places_from at (values_from count content)) start ∙ ap (places_from (length row.head)) (sym fields);
    }
