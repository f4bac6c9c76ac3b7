-- What rows of a state, in the order of their keys, make of a catalogue.
use Rattle.std.proofs.Common.{◌≡◌, ℕ, Bool, true, false, cond, ◌&&◌, List, [], ◌∷◌, Option, Some, None, Result, Ok, Err, inl, inr, refl, sym, ap, ◌∙◌}
use Rattle.std.specs.Prelude.{nat_lt, not, ◌||◌, ◌==◌, codes, is_none, is_some}
use Rattle.std.specs.FinMap.{get, values}
use Rattle.std.specs.Option.{ok_or, option_or, unwrap_or}
use Rattle.mx_base.specs.declared.refusal.Refusal.{Refusal}
use Rattle.mx_base.specs.declared.refusal.Refusal.TheVariants.{BadIndexRow, BadSpaceRow, Unsupported}
use Rattle.mx_base.specs.declared.kinds.Unsupported.TheVariants.{SystemSpaceWrite}
use Rattle.mx_key.specs.declared.part.Part.{Part}
use Rattle.mx_msgpack.specs.Items.{items_of}
use Rattle.mx_msgpack.specs.Projections.{as_text, first_as}
use Rattle.mx_msgpack.specs.Readers.{◌>>=◌, unsigned_in}
use Rattle.mx_msgpack.proofs.Options.{allowed, bind_some, same_some}
use Rattle.mx_schema.specs.declared.index_def.IndexDef.{IndexDef}
use Rattle.mx_schema.specs.declared.index_def.IndexKind.{IndexKind}
use Rattle.mx_schema.specs.declared.index_def.IndexRow.{IndexRow}
use Rattle.mx_schema.specs.declared.schema.Schema.{Schema}
use Rattle.mx_schema.specs.declared.space_def.SpaceDef.{SpaceDef}
use Rattle.mx_tuple.specs.declared.formats.FormatEntry.{FormatEntry}
use Rattle.mx_schema.specs.TextMaps.{TextPair, text_pairs_in, value_of_key}
use Rattle.mx_schema.specs.Catalogues.{Catalogue, index_with, space_among}
use Rattle.mx_schema.specs.IndexRows.{index_in, index_kind_of, index_of_fields, is_always_unique, parts_in, space_number, unique_in}
use Rattle.mx_schema.specs.SpaceRows.{are_flags, format_in, is_text, name_in, number_up_to, space_in, space_of_fields, when}
use Rattle.mx_schema.specs.SchemaChecks.{JudgesIndex, JudgesSpace, first_number, has_name, index_exists, index_on_schema, judged_index, judged_space, space_named, unless_there, user_index}

-- ---- what a row that is taken describes

ok_of : {D : Type 0} (found : Option D) (bad : Refusal) (def : D) → ◌≡◌ {A = Result D Refusal} (Ok def) (ok_or found bad) → found ≡ Some def
ok_of None bad def e = absurd cc
ok_of (Some other) bad def e = cc

same_ok : {D : Type 0} (x y : D) → ◌≡◌ {A = Result D Refusal} (Ok x) (Ok y) → x ≡ y
same_ok x y e = cc

free_space : (def other : SpaceDef) (there : Option SpaceDef) → Ok def ≡ unless_there other there → other ≡ def
free_space def other None e = sym (same_ok def other e)
free_space def other (Some found) e = absurd cc

new_described : (catalogue : Catalogue) (found : Option SpaceDef) (def : SpaceDef) → Ok def ≡ judged_space catalogue found → found ≡ Some def
new_described catalogue None def e = absurd cc
new_described catalogue (Some other) def e = by_test (nat_lt other.id.0 512) (option_or (space_among catalogue other.id.0) (space_named other.name (values catalogue))) e
  where
    by_test : (b : Bool) (there : Option SpaceDef) → Ok def ≡ cond b (Err BadSpaceRow) (unless_there other there) → Some other ≡ Some def
    by_test true there e = absurd cc
    by_test false there e = ap Some (free_space def other there e)

pub space_fields : (row : List ℕ) (def : SpaceDef) → space_of_fields (unwrap_or (items_of row) []) ≡ Some def → space_in row ≡ Some def
unfolding space_in
space_fields row def = by_items (items_of row)
  where
    by_items : (items : Option (List (List ℕ))) → space_of_fields (unwrap_or items []) ≡ Some def → (items >>= space_of_fields) ≡ Some def
    by_items None e = absurd cc
    by_items (Some fields) e = e

pub space_described : (catalogue : Catalogue) (row : List ℕ) (def : SpaceDef) → JudgesSpace catalogue row (Ok def) → space_in row ≡ Some def
space_described catalogue row def (inl (one, e)) = ok_of (space_in row) BadSpaceRow def e
space_described catalogue row def (inr (none, e)) = space_fields row def (new_described catalogue (space_of_fields (unwrap_or (items_of row) [])) def e)

pub index_fields : (row : List ℕ) (index : IndexRow) → index_of_fields (unwrap_or (items_of row) []) ≡ Some index → index_in row ≡ Some index
unfolding index_in
index_fields row index = by_items (items_of row)
  where
    by_items : (items : Option (List (List ℕ))) → index_of_fields (unwrap_or items []) ≡ Some index → (items >>= index_of_fields) ≡ Some index
    by_items None e = absurd cc
    by_items (Some fields) e = e

judged_described : (indexes : List IndexDef) (found : Option IndexRow) (index : IndexRow) → Ok index ≡ judged_index indexes found → found ≡ Some index
judged_described indexes None index e = absurd cc
judged_described indexes (Some other) index e =
    by_tests (not (other.def.id.0 == 0) && is_none (index_with 0 indexes)) (is_some (index_with other.def.id.0 indexes)) (has_name other.def.name indexes) BadIndexRow
    (index_exists (codes "primary")) (index_exists (codes "name")) e
  where
    by_tests : (a b c : Bool) (x y z : Refusal) → Ok index ≡ cond a (Err x) (cond b (Err y) (cond c (Err z) (Ok other))) → Some other ≡ Some index
    by_tests true b c x y z e = absurd cc
    by_tests false true c x y z e = absurd cc
    by_tests false false true x y z e = absurd cc
    by_tests false false false x y z e = ap Some (sym (same_ok index other e))

on_schema_described : (space : ℕ) (fields : List (List ℕ)) (schema : Option Schema) (index : IndexRow) → Ok index ≡ index_on_schema space fields schema → index_of_fields fields ≡ Some index
on_schema_described space fields None index e = absurd cc
on_schema_described space fields (Some schema) index e = judged_described schema.indexes (index_of_fields fields) index e

user_described : (catalogue : Catalogue) (fields : List (List ℕ)) (space : Option ℕ) (index : IndexRow) → Ok index ≡ user_index catalogue fields space → index_of_fields fields ≡ Some index
user_described catalogue fields None index e = absurd cc
user_described catalogue fields (Some space) index e = by_test (nat_lt space 512) (Unsupported SystemSpaceWrite) e
  where
    by_test : (b : Bool) (refusal : Refusal) → Ok index ≡ cond b (Err refusal) (index_on_schema space fields (get catalogue space)) → index_of_fields fields ≡ Some index
    by_test true refusal e = absurd cc
    by_test false refusal e = on_schema_described space fields (get catalogue space) index e

pub index_described : (catalogue : Catalogue) (row : List ℕ) (index : IndexRow) → JudgesIndex catalogue row (Ok index) → index_in row ≡ Some index
index_described catalogue row index (inl (one, e)) = ok_of (index_in row) BadIndexRow index e
index_described catalogue row index (inr (none, e)) =
    index_fields row index (user_described catalogue (unwrap_or (items_of row) []) (first_number (unwrap_or (items_of row) [])) index e)

-- ---- and by which key it stands

number_of : (maximum : ℕ) (spelling : List ℕ) (number : ℕ) → number_up_to maximum spelling ≡ Some number → unsigned_in spelling ≡ Some number
number_of maximum spelling number e =
    let found = bind_some (unsigned_in spelling) _ number e in
    found.1 ∙ (allowed _ (Some found.0) number found.2).1

chain : (a b : Option ℕ) (c : Option (List ℕ)) (d : Option (Unit {0})) (e : Option ℕ) (f : Option (Unit {0})) (g : Option (List FormatEntry)) (def : SpaceDef)
    → (a >>= λ number. b >>= λ _. c >>= λ called. d >>= λ _. e >>= λ count. f >>= λ _. g >>= λ entries.
    Some (record { id = record { 0 = number }; name = called; format = record { count = count; entries = entries } })) ≡ Some def → a ≡ Some def.id.0
chain None b c d e f g def is = absurd cc
chain (Some number) None c d e f g def is = absurd cc
chain (Some number) (Some owner) None d e f g def is = absurd cc
chain (Some number) (Some owner) (Some called) None e f g def is = absurd cc
chain (Some number) (Some owner) (Some called) (Some there) None f g def is = absurd cc
chain (Some number) (Some owner) (Some called) (Some there) (Some count) None g def is = absurd cc
chain (Some number) (Some owner) (Some called) (Some there) (Some count) (Some also) None def is = absurd cc
chain (Some number) (Some owner) (Some called) (Some there) (Some count) (Some also) (Some entries) def is =
    ap (λ (o : SpaceDef). Some o.id.0) (same_some (record { id = record { 0 = number }; name = called; format = record { count = count; entries = entries } }) def is)

pub space_number_first : (fields : List (List ℕ)) (def : SpaceDef) → space_of_fields fields ≡ Some def
    → (first : List ℕ) × (others : List (List ℕ)) × (fields ≡ first ∷ others) × (unsigned_in first ≡ Some def.id.0)
space_number_first (id ∷ owner ∷ name ∷ engine ∷ field_count ∷ flags ∷ format ∷ []) def e = (
  id,
  owner ∷ name ∷ engine ∷ field_count ∷ flags ∷ format ∷ [],
  refl,
  number_of 65535 id def.id.0
      (chain (number_up_to 65535 id) (unsigned_in owner) (name_in name) (when (is_text (codes "memtx") (first_as as_text engine))) (number_up_to 65535 field_count)
      (when (are_flags (text_pairs_in flags))) (format_in format) def e),
)
space_number_first _ def e = absurd cc

index_chain : (a b : Option ℕ) (c d : Option (List ℕ)) (sorts : List ℕ → Option IndexKind) (e : Option (List TextPair)) (uniques : List TextPair → Option Bool) (g : Option (List Part))
    (allows : ℕ → IndexKind → Bool → Option (Unit {0})) (index : IndexRow)
    → (a >>= λ owner. b >>= λ number. c >>= λ called. d >>= λ type_name. sorts type_name >>= λ sort. e >>= λ pairs. uniques pairs >>= λ unique. g >>= λ key.
    allows number sort unique >>= λ _.
    Some (record { space = record { 0 = owner }; def = record { id = record { 0 = number }; name = called; kind = sort; unique = unique; key = key } })) ≡ Some index
    → (a ≡ Some index.space.0) × (b ≡ Some index.def.id.0)
index_chain None b c d sorts e uniques g allows index is = absurd cc
index_chain (Some owner) None c d sorts e uniques g allows index is = absurd cc
index_chain (Some owner) (Some number) None d sorts e uniques g allows index is = absurd cc
index_chain (Some owner) (Some number) (Some called) None sorts e uniques g allows index is = absurd cc
index_chain (Some owner) (Some number) (Some called) (Some type) sorts e uniques g allows index is = by_sort (sorts type) e is
  where
    by_allowed : (sort : IndexKind) (unique : Bool) (key : List Part) (allowed : Option (Unit {0}))
        → (allowed >>= λ _. Some (record { space = record { 0 = owner }; def = record { id = record { 0 = number }; name = called; kind = sort; unique = unique; key = key } })) ≡ Some index
        → (◌≡◌ {A = Option ℕ} (Some owner) (Some index.space.0)) × (◌≡◌ {A = Option ℕ} (Some number) (Some index.def.id.0))
    by_allowed sort unique key None is = absurd cc
    by_allowed sort unique key (Some there) is =
        let same = same_some (record { space = record { 0 = owner }; def = record { id = record { 0 = number }; name = called; kind = sort; unique = unique; key = key } }) index is in
        (ap (λ (o : IndexRow). Some o.space.0) same, ap (λ (o : IndexRow). Some o.def.id.0) same)

    by_key : (sort : IndexKind) (unique : Option Bool) (g : Option (List Part))
        → (unique >>= λ u. g >>= λ key. allows number sort u >>= λ _.
        Some (record { space = record { 0 = owner }; def = record { id = record { 0 = number }; name = called; kind = sort; unique = u; key = key } })) ≡ Some index
        → (◌≡◌ {A = Option ℕ} (Some owner) (Some index.space.0)) × (◌≡◌ {A = Option ℕ} (Some number) (Some index.def.id.0))
    by_key sort None g is = absurd cc
    by_key sort (Some unique) None is = absurd cc
    by_key sort (Some unique) (Some key) is = by_allowed sort unique key (allows number sort unique) is

    by_sort : (sort : Option IndexKind) (e : Option (List TextPair))
        → (sort >>= λ s. e >>= λ pairs. uniques pairs >>= λ u. g >>= λ key. allows number s u >>= λ _.
        Some (record { space = record { 0 = owner }; def = record { id = record { 0 = number }; name = called; kind = s; unique = u; key = key } })) ≡ Some index
        → (◌≡◌ {A = Option ℕ} (Some owner) (Some index.space.0)) × (◌≡◌ {A = Option ℕ} (Some number) (Some index.def.id.0))
    by_sort None e is = absurd cc
    by_sort (Some sort) None is = absurd cc
    by_sort (Some sort) (Some pairs) is = by_key sort (uniques pairs) g is

pub index_numbers_first : (fields : List (List ℕ)) (index : IndexRow) → index_of_fields fields ≡ Some index
    → (first second : List ℕ) × (others : List (List ℕ)) × (fields ≡ first ∷ second ∷ others) × (unsigned_in first ≡ Some index.space.0) × (unsigned_in second ≡ Some index.def.id.0)
index_numbers_first (space ∷ id ∷ name ∷ type ∷ options ∷ parts ∷ []) index e =
    let numbers =
    index_chain (space_number space) (number_up_to 127 id) (name_in name) (first_as as_text type) index_kind_of (text_pairs_in options)
    (λ pairs. unique_in (value_of_key (codes "unique") pairs)) (parts_in parts) (λ number sort unique. when (unique || not (is_always_unique number sort))) index e in
    (space, id, name ∷ type ∷ options ∷ parts ∷ [], refl, number_of 4294967295 space index.space.0 numbers.0, number_of 127 id index.def.id.0 numbers.1)
index_numbers_first _ index e = absurd cc

-- the number of an index's space stands first
pub index_space_first : (fields : List (List ℕ)) (index : IndexRow) → index_of_fields fields ≡ Some index → first_number fields ≡ Some index.space.0
index_space_first (space ∷ id ∷ name ∷ type ∷ options ∷ parts ∷ []) index e =
    let numbers =
    index_chain (space_number space) (number_up_to 127 id) (name_in name) (first_as as_text type) index_kind_of (text_pairs_in options)
    (λ pairs. unique_in (value_of_key (codes "unique") pairs)) (parts_in parts) (λ number sort unique. when (unique || not (is_always_unique number sort))) index e in
    numbers.0
index_space_first _ index e = absurd cc
