-- The catalogue of a new database is that of its state.
use Rattle.std.proofs.Common.{◌≡◌, ℕ, Bool, true, false, cond, ◌&&◌, List, [], ◌∷◌, map, Option, Some, None, refl, sym, ap, ◌∙◌, subst, eqb, eqb-true, eq-eqb, ne_eqb, true≢false}
use Rattle.std.specs.Prelude.{pos, ⊤, is_some, ◌==◌, if◌then◌else◌}
use Rattle.std.specs.FinMap as finite
use Rattle.std.specs.FinMap.{IsAntisymmetric, empty, find, from_entries, get-entries, get-from_entries, insert, entries-insert, len-empty, len-entries, nat_cmp-IsAntisymmetric}
use Rattle.std.specs.FinMap.Entries.{put}
use Rattle.std.specs.List.{AllByRecursion, filter}
use Rattle.std.specs.Cmp.{nat_cmp_total}
use Rattle.std.specs.declared.cmp.Ordering.{Ordering}
use Rattle.std.specs.declared.cmp.Ordering.TheVariants.{Less, Equal, Greater}
use Rattle.std.specs.Ordering.{is_eq, nat_cmp}
use Rattle.std.proofs.lemmas.List.{nil_from_length}
use Rattle.mx_key.specs.declared.part.Part.{Part}
use Rattle.mx_key.specs.Keys.{Key, Integer, is_key_prefix, key_cmp}
use Rattle.mx_key.specs.Parts.{part_in}
use Rattle.mx_key.proofs.KeyLaws.{key_cmp_total, key_cmp-IsAntisymmetric}
use Rattle.mx_msgpack.specs.Grammar.{Value}
use Rattle.mx_msgpack.specs.Items.{array_of}
use Rattle.mx_msgpack.specs.Reading.{after_first, head_at, measured, reading_of}
use Rattle.mx_msgpack.specs.Readers.{◌>>=◌, unsigned_at}
use Rattle.mx_msgpack.specs.Spelling.{array_head, map_head, shortest_unsigned, str_head}
use Rattle.mx_schema.specs.declared.index_def.IndexRow.{IndexRow}
use Rattle.mx_schema.specs.declared.schema.Schema.{Schema}
use Rattle.mx_schema.specs.declared.space_def.SpaceDef.{SpaceDef}
use Rattle.mx_schema.specs.Bootstrap.{cluster, first_indexes, first_settings, first_spaces, first_state, part_of_numbers, part_of_texts, rows_of, settings, test_space, with_rows}
use Rattle.mx_schema.specs.Catalogues.{IsCatalogueOf, index_defs, schema_by, schema_of}
use Rattle.mx_schema.specs.IndexRows.{index_in}
use Rattle.mx_schema.specs.SchemaChanges.{IndexRowStands, IndexesHaveSpaces, RowsStand}
use Rattle.mx_schema.specs.SpaceRows.{space_in}
use Rattle.mx_schema.specs.State.{State, Tuples, index_rows, key_in, key_or_none, space_rows, tuples_in, with_tuple}
use Rattle.mx_schema.specs.Stored.{IsKeyedBy}
use Rattle.mx_schema.proofs.StateLaws.{no_tuples, tuples_after}
use Rattle.mx_schema.proofs.FirstLaws.{both_of, first_schemas}
use Rattle.mx_schema.proofs.IndexRowLaws.{of_its_space}

-- ---- entries that are put one after the other

abbrev pub put_all : {K X : Type 0} → (K → K → Ordering) → (before : List (K × X)) → List (K × X) → List (K × X)
put_all R before [] = before
put_all R before (e ∷ es) = put_all R (put R e.0 e.1 before) es

pub no_entries : {K X : Type 0} (R : K → K → Ordering) → finite.entries (empty {X = X} {R = R}) ≡ []
no_entries {K} {X} R = nil_from_length (finite.entries (empty {X = X} {R = R})) (sym (len-entries (empty {X = X} {R = R})) ∙ len-empty R X)

-- ---- keys that differ from all

not_tied : (o : Ordering) → (o ≡ Equal → ⊥) → is_eq o ≡ false
not_tied Less other = refl
not_tied Equal other = absurd (other refl)
not_tied Greater other = refl

abbrev pub all_keys : {K X : Type 0} → (K → Bool) → List (K × X) → Bool
all_keys test [] = true
all_keys test (e ∷ es) = test e.0 && all_keys test es

pub none_found : {K X : Type 0} (R : K → K → Ordering) → IsAntisymmetric R → (q : K) (test : K → Bool) → ((k : K) → test k ≡ true → q ≡ k → ⊥)
    → (es : List (K × X)) → all_keys test es ≡ true → find R q es ≡ None
none_found R same q test apart [] all = refl
none_found R same q test apart (e ∷ es) all =
    let parts = both_of (test e.0) (all_keys test es) all in
    ap (λ b. cond b (Some e.1) (find R q es)) (not_tied (R q e.0) (λ tied. apart e.0 parts.0 (same q e.0 tied))) ∙ none_found R same q test apart es parts.1

-- ---- numbers among others

abbrev pub has_number : (wanted : ℕ) → List ℕ → Bool
has_number wanted [] = false
has_number wanted (number ∷ others) = cond (eqb number wanted) true (has_number wanted others)

abbrev pub Each : (ℕ → Type 0) → List ℕ → Type 0
Each P [] = ⊤
Each P (number ∷ others) = P number × Each P others

pub each_has : (P : ℕ → Type 0) (wanted : ℕ) (numbers : List ℕ) → Each P numbers → has_number wanted numbers ≡ true → P wanted
each_has P wanted [] each has = absurd cc
each_has P wanted (number ∷ others) each has = by_test (eqb number wanted) refl (each_has P wanted others each.1) has
  where
    by_test : (b : Bool) → eqb number wanted ≡ b → (has_number wanted others ≡ true → P wanted) → cond b true (has_number wanted others) ≡ true → P wanted
    by_test true same later has = subst P (eqb-true number wanted same) each.0
    by_test false same later has = later has

-- a key of one number that is among them
abbrev pub is_number_key : List ℕ → Key → Bool
is_number_key numbers (Integer (pos number) ∷ []) = has_number number numbers
is_number_key numbers _ = false

-- ---- the state

-- the rows of a space, each with its key
abbrev pub keyed : List Part → List Value → List (Key × List ℕ)
keyed parts rows = map (λ row. (key_or_none (key_in parts row), row)) (rows_of rows)

-- a space has the rows that are put into it
pub entries_after : (space : ℕ) (parts : List Part) (before : State) (rows : List (List ℕ)) → finite.entries (tuples_in (with_rows space parts before rows) space)
    ≡ put_all key_cmp (finite.entries (tuples_in before space)) (map (λ row. (key_or_none (key_in parts row), row)) rows)
entries_after space parts before [] = refl
entries_after space parts before (row ∷ rows) =
    let key = key_or_none (key_in parts row) in
    let here : tuples_in (with_tuple before space key row) space ≡ insert (tuples_in before space) key row =
    tuples_after before space key row space ∙ ap (λ b. if b then insert (tuples_in before space) key row else tuples_in before space) (eq-eqb space space refl) in
    entries_after space parts (with_tuple before space key row) rows
    ∙ ap (λ (es : List (Key × List ℕ)). put_all key_cmp es (map (λ row. (key_or_none (key_in parts row), row)) rows))
    (ap (λ (t : Tuples). finite.entries t) here ∙ entries-insert key_cmp_total (tuples_in before space) key row)

-- and the others are as before
pub others_after : (space : ℕ) (parts : List Part) (before : State) (rows : List (List ℕ)) (q : ℕ) → (q == space) ≡ false
    → tuples_in (with_rows space parts before rows) q ≡ tuples_in before q
others_after space parts before [] q other = refl
others_after space parts before (row ∷ rows) q other =
    let key = key_or_none (key_in parts row) in
    others_after space parts (with_tuple before space key row) rows q other
    ∙ tuples_after before space key row q ∙ ap (λ b. if b then insert (tuples_in before space) key row else tuples_in before q) other

abbrev pub with_settings : State
with_settings = with_rows settings (part_of_texts 0 ∷ []) empty (rows_of first_settings)

abbrev pub with_spaces : State
with_spaces = with_rows space_rows (part_of_numbers 0 ∷ []) with_settings (rows_of first_spaces)

none_before : (space : ℕ) → (space == settings) ≡ false → finite.entries (tuples_in with_settings space) ≡ []
none_before space other =
    ap (λ (t : Tuples). finite.entries t) (others_after settings (part_of_texts 0 ∷ []) empty (rows_of first_settings) space other ∙ no_tuples space) ∙ no_entries key_cmp

abbrev pub spaces_keyed : List (Key × List ℕ)
spaces_keyed = put_all key_cmp [] (keyed (part_of_numbers 0 ∷ []) first_spaces)

abbrev pub indexes_keyed : List (Key × List ℕ)
indexes_keyed = put_all key_cmp [] (keyed (part_of_numbers 0 ∷ part_of_numbers 1 ∷ []) first_indexes)

pub spaces_are : finite.entries (tuples_in first_state space_rows) ≡ spaces_keyed
unfolding first_state
spaces_are =
    ap (λ (t : Tuples). finite.entries t) (others_after index_rows (part_of_numbers 0 ∷ part_of_numbers 1 ∷ []) with_spaces (rows_of first_indexes) space_rows refl)
    ∙ entries_after space_rows (part_of_numbers 0 ∷ []) with_settings (rows_of first_spaces)
    ∙ ap (λ (es : List (Key × List ℕ)). put_all key_cmp es (keyed (part_of_numbers 0 ∷ []) first_spaces)) (none_before space_rows refl)

pub entries_are : finite.entries (tuples_in first_state index_rows) ≡ indexes_keyed
unfolding first_state
entries_are =
    entries_after index_rows (part_of_numbers 0 ∷ part_of_numbers 1 ∷ []) with_spaces (rows_of first_indexes)
    ∙ ap (λ (es : List (Key × List ℕ)). put_all key_cmp es (keyed (part_of_numbers 0 ∷ part_of_numbers 1 ∷ []) first_indexes))
    (ap (λ (t : Tuples). finite.entries t) (others_after space_rows (part_of_numbers 0 ∷ []) with_settings (rows_of first_spaces) index_rows refl) ∙ none_before index_rows refl)

-- what the rows say of a space
abbrev schema_found : (space : ℕ) → Option SpaceDef → Option Schema
schema_found space None = None
schema_found space (Some def) = Some (record { def = def; indexes = index_defs (filter (λ entry. is_key_prefix (Integer (pos space) ∷ []) entry.0) indexes_keyed) })

abbrev pub schema_listed : (space : ℕ) → Option Schema
schema_listed space = schema_found space (find key_cmp (Integer (pos space) ∷ []) spaces_keyed >>= space_in)

pub schema_is : (space : ℕ) → schema_of first_state space ≡ schema_listed space
unfolding schema_of
schema_is space =
    ap (schema_by first_state space)
    (ap (λ (o : Option (List ℕ)). o >>= space_in)
    (get-entries (tuples_in first_state space_rows) (Integer (pos space) ∷ []) ∙ ap (find key_cmp (Integer (pos space) ∷ [])) spaces_are))
    ∙ by_def (find key_cmp (Integer (pos space) ∷ []) spaces_keyed >>= space_in)
  where
    by_def : (def : Option SpaceDef) → schema_by first_state space def ≡ schema_found space def
    by_def None = refl
    by_def (Some def) =
        ap (λ (es : List (Key × List ℕ)). Some (record { def = def; indexes = index_defs (filter (λ entry. is_key_prefix (Integer (pos space) ∷ []) entry.0) es) })) entries_are

-- ---- both

abbrev pub first_ids : List ℕ
first_ids = settings ∷ space_rows ∷ 281 ∷ index_rows ∷ 289 ∷ cluster ∷ test_space ∷ []

Agrees : ℕ → Type 0
Agrees space = find nat_cmp space first_schemas ≡ schema_listed space

all_agree : Each Agrees first_ids
unfolding Agrees space_in index_in array_of reading_of head_at after_first measured unsigned_at part_in shortest_unsigned str_head array_head map_head
all_agree = (refl, (refl, (refl, (refl, (refl, (refl, (refl, tt)))))))

pub schemas_numbered : all_keys (λ k. has_number k first_ids) first_schemas ≡ true
unfolding space_in index_in array_of reading_of head_at after_first measured unsigned_at shortest_unsigned str_head array_head map_head
schemas_numbered = refl

rows_numbered : all_keys (is_number_key first_ids) spaces_keyed ≡ true
unfolding array_of reading_of head_at after_first measured part_in shortest_unsigned str_head array_head map_head
rows_numbered = refl

pub number_apart : (space : ℕ) → has_number space first_ids ≡ false → (k : ℕ) → has_number k first_ids ≡ true → space ≡ k → ⊥
number_apart space none k has same = cc (ap (λ n. has_number n first_ids) same)

key_apart : (space : ℕ) → has_number space first_ids ≡ false → (k : Key) → is_number_key first_ids k ≡ true → Integer (pos space) ∷ [] ≡ k → ⊥
key_apart space none k has same = cc (ap (is_number_key first_ids) same)

pub agree : (space : ℕ) → find nat_cmp space first_schemas ≡ schema_listed space
unfolding Agrees
agree space = by_test (has_number space first_ids) refl
  where
    by_test : (b : Bool) → has_number space first_ids ≡ b → find nat_cmp space first_schemas ≡ schema_listed space
    by_test true has = each_has Agrees space first_ids all_agree has
    by_test false none =
        none_found nat_cmp nat_cmp-IsAntisymmetric space (λ k. has_number k first_ids) (number_apart space none) first_schemas schemas_numbered
        ∙ ap (λ (o : Option (List ℕ)). schema_found space (o >>= space_in))
        (sym (none_found key_cmp key_cmp-IsAntisymmetric (Integer (pos space) ∷ []) (is_number_key first_ids) (key_apart space none) spaces_keyed rows_numbered))

pub first_catalogue : IsCatalogueOf (from_entries first_schemas) first_state
first_catalogue space = get-from_entries nat_cmp_total first_schemas space ∙ agree space ∙ sym (schema_is space)

-- ---- the parts of the primary indexes

keyed_so : (parts : List Part) (space : ℕ) → IsKeyedBy parts (schema_listed space) → IsKeyedBy parts (schema_of first_state space)
keyed_so parts space listed = subst (IsKeyedBy parts) (sym (schema_is space)) listed

pub settings_keyed : IsKeyedBy (part_of_texts 0 ∷ []) (schema_of first_state settings)
unfolding space_in index_in array_of reading_of head_at after_first measured unsigned_at part_in shortest_unsigned str_head array_head map_head
settings_keyed = keyed_so (part_of_texts 0 ∷ []) settings refl

pub space_rows_keyed : IsKeyedBy (part_of_numbers 0 ∷ []) (schema_of first_state space_rows)
unfolding space_in index_in array_of reading_of head_at after_first measured unsigned_at part_in shortest_unsigned str_head array_head map_head
space_rows_keyed = keyed_so (part_of_numbers 0 ∷ []) space_rows refl

pub index_rows_keyed : IsKeyedBy (part_of_numbers 0 ∷ part_of_numbers 1 ∷ []) (schema_of first_state index_rows)
unfolding space_in index_in array_of reading_of head_at after_first measured unsigned_at part_in shortest_unsigned str_head array_head map_head
index_rows_keyed = keyed_so (part_of_numbers 0 ∷ part_of_numbers 1 ∷ []) index_rows refl

-- ---- rows of indexes stand under their numbers

abbrev stands_at : Option IndexRow → Key → Bool
stands_at None key = false
stands_at (Some row) key = is_eq (key_cmp key (Integer (pos row.space.0) ∷ Integer (pos row.def.id.0) ∷ []))

abbrev all_stand : List (Key × List ℕ) → Bool
all_stand [] = true
all_stand (e ∷ es) = stands_at (index_in e.1) e.0 && all_stand es

each_stands : (es : List (Key × List ℕ)) → all_stand es ≡ true → AllByRecursion IndexRowStands es
each_stands [] all = tt
each_stands (e ∷ es) all =
    let parts = both_of (stands_at (index_in e.1) e.0) (all_stand es) all in
    (by_row (index_in e.1) refl parts.0, each_stands es parts.1)
  where
    tied : (o : Ordering) → is_eq o ≡ true → o ≡ Equal
    tied Less e = absurd cc
    tied Equal e = refl
    tied Greater e = absurd cc

    by_row : (o : Option IndexRow) → index_in e.1 ≡ o → stands_at o e.0 ≡ true → IndexRowStands e
    by_row None is stands = absurd cc
    by_row (Some row) is stands =
        let key : Key = Integer (pos row.space.0) ∷ Integer (pos row.def.id.0) ∷ [] in
        (row, is, key_cmp-IsAntisymmetric e.0 key (tied (key_cmp e.0 key) stands))

indexes_stand : all_stand indexes_keyed ≡ true
unfolding space_in index_in array_of reading_of head_at after_first measured unsigned_at part_in shortest_unsigned str_head array_head map_head
indexes_stand = refl

pub first_rows_stand : RowsStand first_state
first_rows_stand = subst (AllByRecursion IndexRowStands) (sym entries_are) (each_stands indexes_keyed indexes_stand)

-- ---- and each is of a space that is there

abbrev is_listed : Option IndexRow → Bool
is_listed None = false
is_listed (Some row) = has_number row.space.0 first_ids

abbrev all_listed : List (Key × List ℕ) → Bool
all_listed [] = true
all_listed (e ∷ es) = is_listed (index_in e.1) && all_listed es

indexes_listed : all_listed indexes_keyed ≡ true
unfolding space_in index_in array_of reading_of head_at after_first measured unsigned_at part_in shortest_unsigned str_head array_head map_head
indexes_listed = refl

IsThere : ℕ → Type 0
IsThere space = is_some (schema_listed space) ≡ true

all_there : Each IsThere first_ids
unfolding IsThere space_in index_in array_of reading_of head_at after_first measured unsigned_at part_in shortest_unsigned str_head array_head map_head
all_there = (refl, (refl, (refl, (refl, (refl, (refl, (refl, tt)))))))

none_of_space : (q : ℕ) → has_number q first_ids ≡ false → (es : List (Key × List ℕ)) → AllByRecursion IndexRowStands es → all_listed es ≡ true
    → index_defs (filter (λ entry. is_key_prefix (Integer (pos q) ∷ []) entry.0) es) ≡ []
none_of_space q none [] stand listed = refl
none_of_space q none (e ∷ es) stand listed =
    let parts = both_of (is_listed (index_in e.1)) (all_listed es) listed in
    let row : IndexRow = stand.0.0 in
    let has : has_number row.space.0 first_ids ≡ true = sym (ap is_listed stand.0.1) ∙ parts.0 in
    let other : (q == row.space.0) ≡ false = ne_eqb q row.space.0 (number_apart q none row.space.0 has) in
    ap (λ b. index_defs (cond b (e ∷ filter (λ entry. is_key_prefix (Integer (pos q) ∷ []) entry.0) es) (filter (λ entry. is_key_prefix (Integer (pos q) ∷ []) entry.0) es)))
    (of_its_space q e row stand.0.2 ∙ other)
    ∙ none_of_space q none es stand.1 parts.1

pub first_indexes_have_spaces : IndexesHaveSpaces first_state
unfolding IsThere
first_indexes_have_spaces q none =
    ap (λ (es : List (Key × List ℕ)). index_defs (filter (λ entry. is_key_prefix (Integer (pos q) ∷ []) entry.0) es)) entries_are ∙ by_test (has_number q first_ids) refl
  where
    by_test : (b : Bool) → has_number q first_ids ≡ b → index_defs (filter (λ entry. is_key_prefix (Integer (pos q) ∷ []) entry.0) indexes_keyed) ≡ []
    by_test true has =
        let gone : schema_listed q ≡ None = sym (schema_is q) ∙ none in
        absurd (true≢false (sym (each_has IsThere q first_ids all_there has) ∙ ap is_some gone))
    by_test false without = none_of_space q without indexes_keyed (each_stands indexes_keyed indexes_stand) indexes_listed
