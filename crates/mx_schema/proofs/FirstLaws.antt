-- The catalogue of a new database.
use Rattle.std.proofs.Common.{◌≡◌, ℕ, zero, suc, ◌^◌, Bool, true, false, ◌&&◌, List, [], ◌∷◌, length, Option, Some, None, Result, Ok, Err, inl, inr, refl, sym, ap, ◌∙◌, subst}
use Rattle.std.specs.Prelude.{pos, negsuc, nat_lt, nat_le, is_some}
use Rattle.std.specs.FinMap.{find, from_entries, get-from_entries}
use Rattle.std.specs.Ordering.{nat_cmp}
use Rattle.std.specs.Cmp.{nat_cmp_total}
use Rattle.std.specs.Option.{ok_or}
use Rattle.std.proofs.lemmas.Bool.{leb-true, ltb-true}
use Rattle.mx_base.specs.declared.refusal.Refusal.{Refusal}
use Rattle.mx_base.specs.declared.refusal.Refusal.TheVariants.{BadIndexRow, BadSpaceRow}
use Rattle.mx_msgpack.specs.Grammar as grammar
use Rattle.mx_msgpack.specs.Grammar.{Value, Values, Pairs, NoValue, MoreValues, NoPair, MorePairs, Spells, SpellsAll, SpellsPairs, max_length, max_nesting, pair_count, value_count}
use Rattle.mx_msgpack.specs.Spelling.{shortest, shortest_all, shortest_pairs, array_head, map_head, str_head, shortest_unsigned}
use Rattle.mx_msgpack.specs.Items.{array_of}
use Rattle.mx_msgpack.specs.Reading.{after_first, head_at, measured, reading_of}
use Rattle.mx_msgpack.specs.Readers.{unsigned_at}
use Rattle.mx_msgpack.proofs.NumberSpellings.{array_head_spelled, map_head_spelled, str_head_spelled}
use Rattle.mx_msgpack.proofs.SpellingLaws.{shortest_spelled}
use Rattle.mx_schema.specs.Bootstrap.{first_indexes, first_spaces, rows_of}
use Rattle.mx_schema.specs.Catalogues.{Catalogue}
use Rattle.mx_schema.specs.declared.index_def.IndexRow.{IndexRow}
use Rattle.mx_schema.specs.declared.schema.Schema.{Schema}
use Rattle.mx_schema.specs.declared.space_def.SpaceDef.{SpaceDef}
use Rattle.mx_schema.specs.IndexRows.{index_in}
use Rattle.mx_schema.specs.RowParts.{is_among}
use Rattle.mx_schema.specs.SpaceRows.{space_in}
use Rattle.mx_schema.specs.SchemaChecks.{IndexesMake, IsMade, IsOneOf, JudgesIndex, JudgesSpace, RowFault, RowsMake, indexes_with, with_index_on, with_index_row, with_space}
use Rattle.mx_schema.proofs.BootstrapLaws.{among}

-- ---- values that are spelled as they are written

-- numbers, texts, booleans, and what holds only these, no deeper than there is room
abbrev mutual
  pub is_simple : (room : ℕ) → Value → Bool
  is_simple room (grammar.Int (pos number)) = nat_lt number (2 ^ 64)
  is_simple room (grammar.Boolean truth) = true
  is_simple room (grammar.Str text) = nat_le (length text) max_length
  is_simple (suc room) (grammar.Array values) = nat_le (value_count values) max_length && are_simple room values
  is_simple (suc room) (grammar.Map pairs) = nat_le (pair_count pairs) max_length && are_pairs_simple room pairs
  is_simple _ _ = false

  pub are_simple : (room : ℕ) → Values → Bool
  are_simple room NoValue = true
  are_simple room (MoreValues value others) = is_simple room value && are_simple room others

  pub are_pairs_simple : (room : ℕ) → Pairs → Bool
  are_pairs_simple room NoPair = true
  are_pairs_simple room (MorePairs key value others) = is_simple room key && (is_simple room value && are_pairs_simple room others)

pub both_of : (x rest : Bool) → (x && rest) ≡ true → (x ≡ true) × (rest ≡ true)
both_of true rest h = (refl, h)
both_of false rest h = absurd cc

mutual
  pub simple_spelled : (room : ℕ) (value : Value) → is_simple room value ≡ true → Spells room value (shortest value)
  simple_spelled room (grammar.Int (pos number)) e = inl (number, refl, shortest_spelled number (ltb-true number (2 ^ 64) e))
  simple_spelled room (grammar.Int (negsuc number)) e = absurd cc
  simple_spelled room grammar.Nil e = absurd cc
  simple_spelled room (grammar.Boolean truth) e = refl
  simple_spelled room (grammar.Str text) e = let few = leb-true (length text) max_length e in (str_head (length text), str_head_spelled (length text) few, few, refl)
  simple_spelled room (grammar.Bin content) e = absurd cc
  simple_spelled zero (grammar.Array values) e = absurd cc
  simple_spelled (suc room) (grammar.Array values) e =
      let parts = both_of (nat_le (value_count values) max_length) (are_simple room values) e in
      let few = leb-true (value_count values) max_length parts.0 in
      (array_head (value_count values), shortest_all values, array_head_spelled (value_count values) few, few, refl, all_spelled room values parts.1)
  simple_spelled zero (grammar.Map pairs) e = absurd cc
  simple_spelled (suc room) (grammar.Map pairs) e =
      let parts = both_of (nat_le (pair_count pairs) max_length) (are_pairs_simple room pairs) e in
      let few = leb-true (pair_count pairs) max_length parts.0 in
      (map_head (pair_count pairs), shortest_pairs pairs, map_head_spelled (pair_count pairs) few, few, refl, pairs_spelled room pairs parts.1)
  simple_spelled room (grammar.Opaque spelling) e = absurd cc

  all_spelled : (room : ℕ) (values : Values) → are_simple room values ≡ true → SpellsAll room values (shortest_all values)
  all_spelled room NoValue e = refl
  all_spelled room (MoreValues value others) e =
      let parts = both_of (is_simple room value) (are_simple room others) e in
      (shortest value, shortest_all others, refl, simple_spelled room value parts.0, all_spelled room others parts.1)

  pairs_spelled : (room : ℕ) (pairs : Pairs) → are_pairs_simple room pairs ≡ true → SpellsPairs room pairs (shortest_pairs pairs)
  pairs_spelled room NoPair e = refl
  pairs_spelled room (MorePairs key value others) e =
      let parts = both_of (is_simple room key) (is_simple room value && are_pairs_simple room others) e in
      let rest = both_of (is_simple room value) (are_pairs_simple room others) parts.1 in
      (shortest key, shortest value, shortest_pairs others, refl, simple_spelled room key parts.0, simple_spelled room value rest.0, pairs_spelled room others rest.1)

-- a value of some is one of them, as it is written
pub one_of : (values : List Value) (value : Value) → (is_simple max_nesting value && is_among (shortest value) (rows_of values)) ≡ true → IsOneOf values (shortest value)
one_of values value e =
    let parts = both_of (is_simple max_nesting value) (is_among (shortest value) (rows_of values)) e in
    (value, simple_spelled max_nesting value parts.0, among (shortest value) (rows_of values) parts.1)

-- ---- a catalogue as a list of schemas

-- the schemas with a further space, or a further index
abbrev pub listed_space : Option SpaceDef → List (ℕ × Schema) → List (ℕ × Schema)
listed_space None schemas = schemas
listed_space (Some def) schemas = (def.id.0, record { def = def; indexes = [] }) ∷ schemas

abbrev pub put_listed : IndexRow → Option Schema → List (ℕ × Schema) → List (ℕ × Schema)
put_listed row None schemas = schemas
put_listed row (Some schema) schemas = (row.space.0, record { def = schema.def; indexes = indexes_with row.def schema.indexes }) ∷ schemas

abbrev pub listed_index : Option IndexRow → List (ℕ × Schema) → List (ℕ × Schema)
listed_index None schemas = schemas
listed_index (Some row) schemas = put_listed row (find nat_cmp row.space.0 schemas) schemas

abbrev pub listed_spaces : List Value → List (ℕ × Schema) → List (ℕ × Schema)
listed_spaces [] schemas = schemas
listed_spaces (value ∷ others) schemas = listed_spaces others (listed_space (space_in (shortest value)) schemas)

abbrev pub listed_indexes : List Value → List (ℕ × Schema) → List (ℕ × Schema)
listed_indexes [] schemas = schemas
listed_indexes (value ∷ others) schemas = listed_indexes others (listed_index (index_in (shortest value)) schemas)

abbrev catalogue_of : List (ℕ × Schema) → Catalogue
catalogue_of schemas = from_entries schemas

index_listed : (row : IndexRow) (schemas : List (ℕ × Schema)) → with_index_row (catalogue_of schemas) row ≡ catalogue_of (listed_index (Some row) schemas)
index_listed row schemas =
    ap (with_index_on (catalogue_of schemas) row) (get-from_entries nat_cmp_total schemas row.space.0) ∙ by_found (find nat_cmp row.space.0 schemas)
  where
    by_found : (found : Option Schema) → with_index_on (catalogue_of schemas) row found ≡ catalogue_of (put_listed row found schemas)
    by_found None = refl
    by_found (Some schema) = refl

-- ---- rows that are a new database's own

-- each of the values is one of all, and describes something
abbrev pub are_own : (all : List Value) → {D : Type 0} → (List ℕ → Option D) → List Value → Bool
are_own all read [] = true
are_own all read (value ∷ others) = (is_simple max_nesting value && is_among (shortest value) (rows_of all)) && (is_some (read (shortest value)) && are_own all read others)

-- an own row is judged by what it describes alone
own_space : (catalogue : Catalogue) (row : List ℕ) (judged : Result SpaceDef Refusal) → IsOneOf first_spaces row → JudgesSpace catalogue row judged → judged ≡ ok_or (space_in row) BadSpaceRow
own_space catalogue row judged one (inl (also, is)) = is
own_space catalogue row judged one (inr (none, is)) = absurd (none one)

own_index : (catalogue : Catalogue) (row : List ℕ) (judged : Result IndexRow Refusal) → IsOneOf first_indexes row → JudgesIndex catalogue row judged → judged ≡ ok_or (index_in row) BadIndexRow
own_index catalogue row judged one (inl (also, is)) = is
own_index catalogue row judged one (inr (none, is)) = absurd (none one)

told : {D : Type 0} (described : Option D) (judged : Result D Refusal) (bad : Refusal) → is_some described ≡ true → judged ≡ ok_or described bad → (def : D) × (described ≡ Some def) × (judged ≡ Ok def)
told None judged bad some is = absurd cc
told (Some def) judged bad some is = (def, refl, is)

spaces_made : (values : List Value) (place : ℕ) (schemas : List (ℕ × Schema)) (made : Result Catalogue RowFault) → are_own first_spaces space_in values ≡ true
    → RowsMake JudgesSpace with_space place (rows_of values) (catalogue_of schemas) made → made ≡ Ok (catalogue_of (listed_spaces values schemas))
spaces_made [] place schemas made own is = is
spaces_made (value ∷ others) place schemas made own is =
    let parts = both_of (is_simple max_nesting value && is_among (shortest value) (rows_of first_spaces)) _ own in
    let rest = both_of (is_some (space_in (shortest value))) (are_own first_spaces space_in others) parts.1 in
    by_row (one_of first_spaces value parts.0) rest.0 (λ more. spaces_made others (suc place) more made rest.1) is
  where
    by_row : IsOneOf first_spaces (shortest value) → is_some (space_in (shortest value)) ≡ true
        → ((more : List (ℕ × Schema)) → RowsMake JudgesSpace with_space (suc place) (rows_of others) (catalogue_of more) made → made ≡ Ok (catalogue_of (listed_spaces others more)))
        → RowsMake JudgesSpace with_space place (rows_of (value ∷ others)) (catalogue_of schemas) made → made ≡ Ok (catalogue_of (listed_spaces (value ∷ others) schemas))
    by_row one some others_made (inl (refusal, judged, is)) =
        let t = told (space_in (shortest value)) (Err refusal) BadSpaceRow some (own_space (catalogue_of schemas) (shortest value) (Err refusal) one judged) in
        absurd cc
    by_row one some others_made (inr (def, judged, rest)) =
        let t = told (space_in (shortest value)) (Ok def) BadSpaceRow some (own_space (catalogue_of schemas) (shortest value) (Ok def) one judged) in
        let same : def ≡ t.0 = cc in
        let listed : (def.id.0, record { def = def; indexes = [] }) ∷ schemas ≡ listed_space (space_in (shortest value)) schemas =
        ap (λ d. listed_space (Some d) schemas) same ∙ ap (λ o. listed_space o schemas) (sym t.1) in
        others_made ((def.id.0, record { def = def; indexes = [] }) ∷ schemas) rest ∙ ap (λ l. Ok (catalogue_of (listed_spaces others l))) listed

indexes_made : (values : List Value) (place : ℕ) (schemas : List (ℕ × Schema)) (made : Result Catalogue RowFault) → are_own first_indexes index_in values ≡ true
    → RowsMake JudgesIndex with_index_row place (rows_of values) (catalogue_of schemas) made → made ≡ Ok (catalogue_of (listed_indexes values schemas))
indexes_made [] place schemas made own is = is
indexes_made (value ∷ others) place schemas made own is =
    let parts = both_of (is_simple max_nesting value && is_among (shortest value) (rows_of first_indexes)) _ own in
    let rest = both_of (is_some (index_in (shortest value))) (are_own first_indexes index_in others) parts.1 in
    by_row (one_of first_indexes value parts.0) rest.0 (λ more. indexes_made others (suc place) more made rest.1) is
  where
    by_row : IsOneOf first_indexes (shortest value) → is_some (index_in (shortest value)) ≡ true
        → ((more : List (ℕ × Schema)) → RowsMake JudgesIndex with_index_row (suc place) (rows_of others) (catalogue_of more) made → made ≡ Ok (catalogue_of (listed_indexes others more)))
        → RowsMake JudgesIndex with_index_row place (rows_of (value ∷ others)) (catalogue_of schemas) made → made ≡ Ok (catalogue_of (listed_indexes (value ∷ others) schemas))
    by_row one some others_made (inl (refusal, judged, is)) =
        let t = told (index_in (shortest value)) (Err refusal) BadIndexRow some (own_index (catalogue_of schemas) (shortest value) (Err refusal) one judged) in
        absurd cc
    by_row one some others_made (inr (row, judged, rest)) =
        let t = told (index_in (shortest value)) (Ok row) BadIndexRow some (own_index (catalogue_of schemas) (shortest value) (Ok row) one judged) in
        let same : row ≡ t.0 = cc in
        let listed : listed_index (Some row) schemas ≡ listed_index (index_in (shortest value)) schemas =
        ap (λ r. listed_index (Some r) schemas) same ∙ ap (λ o. listed_index o schemas) (sym t.1) in
        others_made (listed_index (Some row) schemas)
        (subst (λ (c : Catalogue). RowsMake JudgesIndex with_index_row (suc place) (rows_of others) c made) (index_listed row schemas) rest)
        ∙ ap (λ l. Ok (catalogue_of (listed_indexes others l))) listed

-- ---- what they make

abbrev pub first_schemas : List (ℕ × Schema)
first_schemas = listed_indexes first_indexes (listed_spaces first_spaces [])

spaces_own : are_own first_spaces space_in first_spaces ≡ true
unfolding space_in array_of reading_of head_at after_first measured unsigned_at shortest_unsigned str_head array_head map_head
spaces_own = refl

indexes_own : are_own first_indexes index_in first_indexes ≡ true
unfolding index_in array_of reading_of head_at after_first measured unsigned_at shortest_unsigned str_head array_head map_head
indexes_own = refl

pub first_made : (made : Result Catalogue RowFault) → IsMade (rows_of first_spaces) (rows_of first_indexes) made → made ≡ Ok (catalogue_of first_schemas)
first_made made (after, spaces, rest) =
    let first : after ≡ Ok (catalogue_of (listed_spaces first_spaces [])) = spaces_made first_spaces 0 [] after spaces_own spaces in
    indexes_made first_indexes (length (rows_of first_spaces)) (listed_spaces first_spaces []) made indexes_own
    (subst (λ (a : Result Catalogue RowFault). IndexesMake (length (rows_of first_spaces)) (rows_of first_indexes) a made) first rest)
