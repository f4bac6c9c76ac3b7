-- A key as an array: it is spelled, and read again as the key; and one that is made part by part.
use Rattle.std.proofs.Common.{◌≡◌, ℕ, suc, ◌≤◌, List, [], ◌∷◌, ◌++◌, length, map, Option, Some, None, Result, Ok, Err, refl, sym, subst, ap, ◌∙◌, append_assoc, append-nil, arith}
use Rattle.std.specs.List.{concat, slice_get}
use Rattle.std.specs.Option.{ok_or}
use Rattle.std.proofs.lemmas.List.{length-append}
use Rattle.mx_msgpack.specs.Grammar as grammar
use Rattle.mx_msgpack.specs.Grammar.{Values, ArrayHead, Spells, SpellsAll, max_length, value_count}
use Rattle.mx_msgpack.specs.Items.{array_of, values_from}
use Rattle.mx_msgpack.specs.Spelling.{array_head}
use Rattle.mx_msgpack.proofs.FrontLaws.{spelled_some}
use Rattle.mx_msgpack.proofs.ItemLaws.{array_read, first_is}
use Rattle.mx_msgpack.proofs.NumberSpellings.{array_head_spelled}
use Rattle.mx_key.specs.declared.fault.NoKey.TheVariants.{Wrong}
use Rattle.mx_key.specs.declared.part.Part.{Part}
use Rattle.mx_key.specs.Arrays.{key_array, part_spelling, value_of_part, values_of_key}
use Rattle.mx_key.specs.Keys.{Key, KeyPart, IsFit, AreFit}
use Rattle.mx_key.specs.Parts.{◌>>=◌, key_of, key_of_array, part_in, part_of, parts_of_items, whole_key}
use Rattle.mx_key.proofs.ArrayLaws.{as_many_items, few_items}
use Rattle.mx_key.proofs.MakingLaws.{AreFit-push, regroup}
use Rattle.mx_key.proofs.SpellingLaws.{part_again, part_spelled}

-- the parts' spellings in a row
abbrev pub parts_text : Key → List ℕ
parts_text key = concat (map part_spelling key)

pub parts_text-push : (key : Key) (part : KeyPart) → parts_text (key ++ part ∷ []) ≡ parts_text key ++ part_spelling part
parts_text-push [] part = append-nil (part_spelling part)
parts_text-push (first ∷ key) part =
    ap (λ (l : List ℕ). part_spelling first ++ l) (parts_text-push key part) ∙ sym (append_assoc (part_spelling first) (parts_text key) (part_spelling part))

-- ---- the array is spelled

count_is : (key : Key) → value_count (values_of_key key) ≡ length key
count_is [] = refl
count_is (part ∷ key) = ap suc (count_is key)

row_spelled : (room : ℕ) (key : Key) → AreFit key → length (parts_text key) ≤ max_length → SpellsAll room (values_of_key key) (parts_text key)
row_spelled room [] fit few = refl
row_spelled room (part ∷ key) fit few =
    let l = length-append (part_spelling part) (parts_text key) in
    (part_spelling part, parts_text key, refl, part_spelled room part fit.0 (omega arith), row_spelled room key fit.1 (omega arith))

-- no part is spelled by no byte
parts_few : (key : Key) → AreFit key → length (parts_text key) ≤ max_length → length key ≤ length (parts_text key)
parts_few [] fit few = omega arith
parts_few (part ∷ key) fit few =
    let l = length-append (part_spelling part) (parts_text key) in
    let some = spelled_some 63 (value_of_part part) (part_spelling part) (part_spelled 63 part fit.0 (omega arith)) in
    let others = parts_few key fit.1 (omega arith) in
    omega arith

module _ (key : Key) (fit : AreFit key) (few : length (key_array key) ≤ max_length) where
  text_few : length (parts_text key) ≤ max_length
  text_few = let l = length-append (array_head (length key)) (parts_text key) in omega arith

  count_few : length key ≤ max_length
  count_few = let l = parts_few key fit text_few in let m = text_few in omega arith

  head_spelled : ArrayHead (value_count (values_of_key key)) (array_head (length key))
  head_spelled = subst (λ (n : ℕ). ArrayHead n (array_head (length key))) (sym (count_is key)) (array_head_spelled (length key) count_few)

  values_few : value_count (values_of_key key) ≤ max_length
  values_few = subst (λ (n : ℕ). n ≤ max_length) (sym (count_is key)) count_few

  pub array_spelled : (values : Values) × Spells 63 (grammar.Array values) (key_array key)
  array_spelled = (values_of_key key, (array_head (length key), parts_text key, head_spelled, values_few, refl, row_spelled 62 key fit text_few))

  pub array_is : array_of (key_array key) ≡ Some (length key, parts_text key)
  array_is =
      array_read (values_of_key key) (array_head (length key)) (parts_text key) head_spelled values_few (row_spelled 63 key fit text_few)
      ∙ ap (λ (n : ℕ). Some (n, parts_text key)) (count_is key)

-- ---- and read again

items_are : (key : Key) → AreFit key → length (parts_text key) ≤ max_length → values_from (length key) (parts_text key) ≡ map part_spelling key
items_are [] fit few = refl
items_are (part ∷ key) fit few =
    let l = length-append (part_spelling part) (parts_text key) in
    let first = first_is (value_of_part part) (part_spelling part) (parts_text key) (part_spelled 63 part fit.0 (omega arith)) in
    (λ i. first.0 i ∷ values_from (length key) (first.1 i)) ∙ ap (λ (l : List (List ℕ)). part_spelling part ∷ l) (items_are key fit.1 (omega arith))

-- the parts of a key that is made, the first and the others
made : {E : Type 0} (first : Result KeyPart E) (others : Result Key E) (key : Key) → (first >>= λ part. (others >>= λ parts. Ok (part ∷ parts))) ≡ Ok key
    → (part : KeyPart) × (parts : Key) × (first ≡ Ok part) × (others ≡ Ok parts) × (key ≡ part ∷ parts)
made (Ok part) (Ok parts) key e = (part, parts, refl, refl, cc)
made (Ok part) (Err why) key e = absurd cc
made (Err why) others key e = absurd cc

-- a part that is made of a field is one of its spelling
part_made : (part : Part) (field : Option (List ℕ)) (found : KeyPart) → part_of part field ≡ Ok found → (spelling : List ℕ) × (part_in part.kind spelling ≡ Some found)
part_made part None found e = absurd cc
part_made part (Some spelling) found e = (spelling, by_part (part_in part.kind spelling) e)
  where
    by_part : (o : Option KeyPart) → ok_or o (Wrong part.field part.kind) ≡ Ok found → o ≡ Some found
    by_part None e = absurd cc
    by_part (Some other) e = cc

parts_again : (place : ℕ) (def : List Part) (fields : List (List ℕ)) (key : Key) → key_of def fields ≡ Ok key → AreFit key → length (parts_text key) ≤ max_length
    → (length key ≡ length def) × (parts_of_items place def (map part_spelling key) ≡ Ok key)
parts_again place [] fields [] e fit few = (refl, refl)
parts_again place [] fields (part ∷ parts) e fit few = absurd cc
parts_again place (part ∷ def) fields key e fit few =
    let m = made (part_of part (slice_get fields part.field)) (key_of def fields) key e in
    by_parts (parts_again (suc place) def fields) m.0 m.1 m.2 m.3 m.4
  where
    by_parts : ((parts : Key) → key_of def fields ≡ Ok parts → AreFit parts → length (parts_text parts) ≤ max_length
        → (length parts ≡ length def) × (parts_of_items (suc place) def (map part_spelling parts) ≡ Ok parts))
        → (found : KeyPart) (parts : Key) → part_of part (slice_get fields part.field) ≡ Ok found → key_of def fields ≡ Ok parts → key ≡ found ∷ parts
        → (length key ≡ suc (length def)) × (parts_of_items place (part ∷ def) (map part_spelling key) ≡ Ok key)
    by_parts others_again found parts first others is =
        let fits : IsFit found × AreFit parts = subst AreFit is fit in
        let short : length (parts_text (found ∷ parts)) ≤ max_length = subst (λ (k : Key). length (parts_text k) ≤ max_length) is few in
        let l = length-append (part_spelling found) (parts_text parts) in
        let read = part_made part (slice_get fields part.field) found first in
        let again = part_again part.kind found read.0 (part_spelling found) read.1 (part_spelled 64 found fits.0 (omega arith)) in
        let rest = others_again parts others fits.1 (omega arith) in
        subst (λ (k : Key). (length k ≡ suc (length def)) × (parts_of_items place (part ∷ def) (map part_spelling k) ≡ Ok k)) (sym is)
        (ap suc rest.0, rw (again, rest.1) refl)

pub key_again : (def : List Part) (fields : List (List ℕ)) (key : Key) → key_of def fields ≡ Ok key → AreFit key → length (key_array key) ≤ max_length
    → key_of_array def (key_array key) ≡ Ok key
key_again def fields key e fit few =
    let all = parts_again 0 def fields key e fit (text_few key fit few) in
    few_items def (key_array key) (length key) (parts_text key) (array_is key fit few) (omega (arith, all.0))
    ∙ ap (parts_of_items 0 def) (items_are key fit (text_few key fit few)) ∙ all.1

-- ---- an array that is made part by part

-- the whole key is these parts, which stand behind a head, and then the remaining ones
pub record IsArraySoFar {E : Type 0} (whole left : Result Key E) (head out : List ℕ) : Type 0 where
  pub done : Key
  pub fit : AreFit done
  pub bytes : out ≡ head ++ parts_text done
  pub same : whole ≡ (left >>= λ rest. Ok (done ++ rest))

module _ {E : Type 0} (whole : Result Key E) (head : List ℕ) where
  pub array_more : (left others : Result Key E) (out more : List ℕ) (part : KeyPart) → IsArraySoFar whole left head out → IsFit part
      → left ≡ (others >>= λ rest. Ok (part ∷ rest)) → more ≡ out ++ part_spelling part → IsArraySoFar whole others head more
  array_more left others out more part made fits next written = record {
    done = made.done ++ part ∷ [];
    fit = AreFit-push made.done part made.fit fits;
    bytes = written ∙ ap (λ (l : List ℕ). l ++ part_spelling part) made.bytes ∙ append_assoc head (parts_text made.done) (part_spelling part)
        ∙ ap (λ (l : List ℕ). head ++ l) (sym (parts_text-push made.done part));
    same = made.same ∙ ap (λ (r : Result Key E). r >>= λ rest. Ok (made.done ++ rest)) next ∙ regroup whole made.done part others;
  }

  pub array_none : (left : Result Key E) (out : List ℕ) (fault : E) → IsArraySoFar whole left head out → left ≡ Err fault → whole ≡ Err fault
  array_none left out fault made fails = made.same ∙ ap (λ (r : Result Key E). r >>= λ rest. Ok (made.done ++ rest)) fails

key_length : (def : List Part) (fields : List (List ℕ)) (key : Key) → key_of def fields ≡ Ok key → length key ≡ length def
key_length [] fields [] e = refl
key_length [] fields (part ∷ parts) e = absurd cc
key_length (part ∷ def) fields key e =
    let m = made (part_of part (slice_get fields part.field)) (key_of def fields) key e in
    ap length m.4 ∙ ap suc (key_length def fields m.1 m.3)

-- a key with all its parts
pub array_made : (def left : List Part) (fields : List (List ℕ)) (out : List ℕ) → left ≡ [] → IsArraySoFar (key_of def fields) (key_of left fields) (array_head (length def)) out
    → (key : Key) × (key_of def fields ≡ Ok key) × AreFit key × (out ≡ key_array key)
array_made def left fields out over made =
    let whole : key_of def fields ≡ Ok made.done =
    made.same ∙ ap (λ (parts : List Part). key_of parts fields >>= λ rest. Ok (made.done ++ rest)) over ∙ ap (λ (k : Key). Ok k) (append-nil made.done) in
    (made.done, whole, made.fit, made.bytes ∙ ap (λ (n : ℕ). array_head n ++ parts_text made.done) (sym (key_length def fields made.done whole)))

-- the array of a key that a tuple has is that key whole
pub whole_again : (def : List Part) (fields : List (List ℕ)) (key : Key) → key_of def fields ≡ Ok key → AreFit key → length (key_array key) ≤ max_length
    → whole_key def (key_array key) ≡ Ok key
whole_again def fields key e fit few =
    let many = key_length def fields key e in
    let array = array_is key fit few in
    as_many_items def (key_array key) (length key) (parts_text key) array many
    ∙ sym (few_items def (key_array key) (length key) (parts_text key) array (omega (arith, many)))
    ∙ key_again def fields key e fit few
