-- A tuple has no more fields than bytes.
use Rattle.std.proofs.Common.{◌≡◌, ℕ, ◌≤◌, List, [], ◌∷◌, ◌++◌, length, Option, Some, sym, ap, ◌∙◌, arith}
use Rattle.std.specs.Prelude.{map}
use Rattle.std.specs.List.{concat}
use Rattle.std.specs.Option.{option_map, unwrap_or}
use Rattle.std.proofs.lemmas.List.{length-append, length-map}
use Rattle.mx_msgpack.specs.Grammar.{Values, NoValue, MoreValues}
use Rattle.mx_msgpack.specs.Items.{IsArray, SpellEach, items_of, values_from}
use Rattle.mx_msgpack.proofs.FrontLaws.{spelled_some}
use Rattle.mx_msgpack.proofs.ItemLaws.{items_spelled, array_items}
use Rattle.mx_msgpack.proofs.Options.{same_some}
use Rattle.mx_update.specs.Updates.{Field, Sent, fields_of}

each_has_bytes : (values : Values) (items : List (List ℕ)) → SpellEach 63 values items → length items ≤ length (concat items)
each_has_bytes NoValue [] each = omega arith
each_has_bytes (MoreValues value values) (item ∷ items) each =
    let some = spelled_some 63 value item each.0 in
    let others : length items ≤ length (concat items) = each_has_bytes values items each.1 in
    let l = length-append item (concat items) in
    omega arith
each_has_bytes NoValue (item ∷ items) each = absurd each
each_has_bytes (MoreValues value values) [] each = absurd each

items_within : (bytes : List ℕ) (items : List (List ℕ)) → items_of bytes ≡ Some items → length items ≤ length bytes
items_within bytes items e =
    let (values, spelled) = items_spelled bytes items e in
    let (head, all, read, parts, each) = array_items bytes values spelled in
    let same = ap length (same_some items all (sym e ∙ read)) in
    let few = each_has_bytes values all each in
    let l = ap length parts ∙ length-append head (concat all) in
    omega arith

pub fields_few : (tuple : List ℕ) → IsArray tuple → length (fields_of tuple) ≤ length tuple
fields_few tuple (array, is) =
    let items : items_of tuple ≡ Some (values_from array.0 array.1) = ap (option_map (λ (x : ℕ × List ℕ). values_from x.0 x.1)) is in
    let fields : fields_of tuple ≡ map Sent (values_from array.0 array.1) = ap (λ (o : Option (List (List ℕ))). map Sent (unwrap_or o [])) items in
    let few = items_within tuple (values_from array.0 array.1) items in
    let many = ap length fields ∙ length-map (values_from array.0 array.1) Sent in
    omega arith

pub all_few : {X : Type 0} (view : X → Field) (fields : List X) (left : ℕ) (rest tuple : List ℕ) → left ≡ 0 → IsArray tuple
    → map view fields ++ map Sent (values_from left rest) ≡ fields_of tuple → length (map view fields) ≤ length tuple
all_few view fields left rest tuple none array all =
    let whole : map view fields ++ map Sent (values_from 0 rest) ≡ fields_of tuple = ap (λ (k : ℕ). map view fields ++ map Sent (values_from k rest)) (sym none) ∙ all in
    let l = ap length whole in
    let m = length-append (map view fields) (map Sent (values_from 0 rest)) in
    omega (arith, fields_few tuple array)
