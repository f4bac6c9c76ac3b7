-- What a new database has is indexed, and its rows describe it.
use Rattle.std.proofs.Common.{◌≡◌, ℕ, Bool, true, false, cond, not, ◌&&◌, List, [], ◌∷◌, Option, Some, None, Result, Ok, Err, refl, sym, ap, ◌∙◌, subst, eqb-true, eq-eqb, true≢false}
use Rattle.std.specs.Prelude.{is_some, ◌==◌, if◌then◌else◌}
use Rattle.std.specs.FinMap as finite
use Rattle.std.specs.FinMap.{empty, find, get-entries, nat_cmp-IsAntisymmetric}
use Rattle.std.specs.Cmp.{tied_itself}
use Rattle.std.specs.List.{AllByRecursion}
use Rattle.std.specs.Ordering.{eq_by_cmp, is_eq, nat_cmp}
use Rattle.mx_key.specs.declared.fault.NoKey.{NoKey}
use Rattle.mx_key.specs.Keys.{Key, key_cmp}
use Rattle.mx_key.specs.Parts.{part_in}
use Rattle.mx_msgpack.specs.Items.{array_of}
use Rattle.mx_msgpack.specs.Reading.{after_first, head_at, measured, reading_of}
use Rattle.mx_msgpack.specs.Readers.{unsigned_at}
use Rattle.mx_msgpack.specs.Spelling.{array_head, map_head, shortest_unsigned, str_head}
use Rattle.mx_schema.specs.declared.index_def.IndexDef.{IndexDef}
use Rattle.mx_schema.specs.declared.schema.Schema.{Schema}
use Rattle.mx_schema.specs.declared.space_def.SpaceDef.{SpaceDef}
use Rattle.mx_schema.specs.Bootstrap.{first_indexes, first_settings, first_spaces, first_state, part_of_numbers, part_of_texts, rows_of, settings}
use Rattle.mx_schema.specs.Catalogues.{index_with, schema_of}
use Rattle.mx_schema.specs.IndexRows.{index_in}
use Rattle.mx_schema.specs.Picks.{Indexed}
use Rattle.mx_schema.specs.Sound.{AreIndexed, HaveKeys, IsDescribed, SpaceRowStands}
use Rattle.mx_schema.specs.SpaceRows.{space_in}
use Rattle.mx_schema.specs.State.{Tuples, index_rows, key_in, space_rows, tuples_in}
use Rattle.mx_schema.proofs.AloneLaws.{Alone, tied_is}
use Rattle.mx_schema.proofs.FirstLaws.{both_of, first_schemas}
use Rattle.mx_schema.proofs.FirstStateLaws.{Each, agree, each_has, entries_after, entries_are, first_ids, first_indexes_have_spaces, first_rows_stand, has_number, indexes_keyed, keyed, no_entries, none_found, number_apart, others_after, put_all, schemas_numbered, schema_is, spaces_are, spaces_keyed, with_settings, with_spaces}
use Rattle.mx_key.proofs.KeyLaws.{key_cmp_total}
use Rattle.mx_schema.proofs.KeyedLaws.{number_ties, one_key}
use Rattle.mx_schema.proofs.StateLaws.{no_tuples}

-- ---- indexes of different numbers

abbrev differs_from : (id : ℕ) → List IndexDef → Bool
differs_from id [] = true
differs_from id (def ∷ defs) = not (def.id.0 == id) && differs_from id defs

abbrev are_apart : List IndexDef → Bool
are_apart [] = true
are_apart (def ∷ defs) = differs_from def.id.0 defs && are_apart defs

not_so : (b : Bool) → not b ≡ true → b ≡ false
not_so true e = absurd cc
not_so false e = refl

-- an index behind others is found behind them
found_behind : (id : ℕ) (defs all : List IndexDef) → differs_from id defs ≡ true → AllByRecursion (λ def. index_with def.id.0 all ≡ Some def) defs → (first : IndexDef) → first.id.0 ≡ id
    → AllByRecursion (λ def. index_with def.id.0 (first ∷ all) ≡ Some def) defs
found_behind id [] all differ found first is = tt
found_behind id (def ∷ defs) all differ (at, others) first is =
    let parts = both_of (not (def.id.0 == id)) (differs_from id defs) differ in
    let apart : (first.id.0 == def.id.0) ≡ false = turned first.id.0 def.id.0 (ap (λ n. def.id.0 == n) is ∙ not_so (def.id.0 == id) parts.0) in
    (ap (λ b. if b then Some first else index_with def.id.0 all) apart ∙ at, found_behind id defs all parts.1 others first is)
  where
    turned : (one other : ℕ) → (other == one) ≡ false → (one == other) ≡ false
    turned one other e = by_test (one == other) refl
      where
        by_test : (b : Bool) → (one == other) ≡ b → (one == other) ≡ false
        by_test true same = absurd (true≢false (sym (ap (λ n. n == one) (sym (eqb-true one other same)) ∙ itself one) ∙ e))
          where
            itself : (n : ℕ) → (n == n) ≡ true
            itself n = eq-eqb n n refl
        by_test false apart = apart

apart_found : (all : List IndexDef) → are_apart all ≡ true → AllByRecursion (λ def. index_with def.id.0 all ≡ Some def) all
apart_found [] e = tt
apart_found (def ∷ defs) e =
    let parts = both_of (differs_from def.id.0 defs) (are_apart defs) e in
    (ap (λ b. if b then Some def else index_with def.id.0 defs) (eq-eqb def.id.0 def.id.0 refl), found_behind def.id.0 defs defs parts.0 (apart_found defs parts.1) def refl)

-- ---- keys that tuples have alone

abbrev is_other : (key : Key) → Result Key NoKey → Bool
is_other key (Ok other) = not (is_eq (key_cmp key other))
is_other key (Err why) = false

abbrev no_other_has : IndexDef → (key : Key) → List Indexed → Bool
no_other_has def key [] = true
no_other_has def key (entry ∷ entries) = is_other key (key_in def.key entry.1) && no_other_has def key entries

abbrev has_it_alone : IndexDef → Result Key NoKey → List Indexed → Bool
has_it_alone def (Ok key) entries = no_other_has def key entries
has_it_alone def (Err why) entries = false

abbrev each_alone : IndexDef → List Indexed → Bool
each_alone def [] = true
each_alone def (entry ∷ entries) = has_it_alone def (key_in def.key entry.1) entries && each_alone def entries

each_has_key : (def : IndexDef) (entries : List Indexed) → each_alone def entries ≡ true → AllByRecursion (λ (entry : Indexed). (key : Key) × (key_in def.key entry.1 ≡ Ok key)) entries
each_has_key def [] e = tt
each_has_key def (entry ∷ entries) e =
    let parts = both_of (has_it_alone def (key_in def.key entry.1) entries) (each_alone def entries) e in
    (by_read (key_in def.key entry.1) refl parts.0, each_has_key def entries parts.1)
  where
    by_read : (read : Result Key NoKey) → key_in def.key entry.1 ≡ read → has_it_alone def read entries ≡ true → (key : Key) × (key_in def.key entry.1 ≡ Ok key)
    by_read (Ok key) is e = (key, is)
    by_read (Err why) is e = absurd cc

module _ (def : IndexDef) where
  same_key : (x y : Key) → ◌≡◌ {A = Result Key NoKey} (Ok x) (Ok y) → x ≡ y
  same_key x y e = cc

  same_tuple : (x y : List ℕ) → Some x ≡ Some y → x ≡ y
  same_tuple x y e = cc

  -- a later tuple has another key
  later_differs : (key : Key) (entries : List Indexed) → no_other_has def key entries ≡ true → (other : Key) (second : List ℕ) → find key_cmp other entries ≡ Some second
      → key_in def.key second ≡ Ok key → ⊥
  later_differs key [] e other second found has = absurd cc
  later_differs key (entry ∷ entries) e other second found has =
      let parts = both_of (is_other key (key_in def.key entry.1)) (no_other_has def key entries) e in
      by_tie (eq_by_cmp key_cmp other entry.0) found parts.0 (later_differs key entries parts.1 other second)
    where
      itself : is_eq (key_cmp key key) ≡ true
      itself = ap is_eq (tied_itself key_cmp_total key)

      by_tie : (b : Bool) → cond b (Some entry.1) (find key_cmp other entries) ≡ Some second → is_other key (key_in def.key entry.1) ≡ true
          → (find key_cmp other entries ≡ Some second → key_in def.key second ≡ Ok key → ⊥) → ⊥
      by_tie true here differs later =
          let same = same_tuple entry.1 second here in
          let no : not (is_eq (key_cmp key key)) ≡ true = ap (is_other key) (sym (ap (key_in def.key) same ∙ has)) ∙ differs in
          true≢false (sym itself ∙ not_so (is_eq (key_cmp key key)) no)
      by_tie false there differs later = later there has

  alone_in : (entries : List Indexed) → each_alone def entries ≡ true → (one other : Key) (first second : List ℕ) (key : Key) → find key_cmp one entries ≡ Some first
      → find key_cmp other entries ≡ Some second → key_in def.key first ≡ Ok key → key_in def.key second ≡ Ok key → one ≡ other
  alone_in [] e one other first second key here there has had = absurd cc
  alone_in (entry ∷ entries) e one other first second key here there has had =
      let parts = both_of (has_it_alone def (key_in def.key entry.1) entries) (each_alone def entries) e in
      by_ties (eq_by_cmp key_cmp one entry.0) refl (eq_by_cmp key_cmp other entry.0) refl here there parts.0 (alone_in entries parts.1 one other first second key)
    where
      its : (tuple : List ℕ) → entry.1 ≡ tuple → key_in def.key tuple ≡ Ok key → has_it_alone def (key_in def.key entry.1) entries ≡ true → no_other_has def key entries ≡ true
      its tuple same is e = ap (λ read. has_it_alone def read entries) (sym (ap (key_in def.key) same ∙ is)) ∙ e

      by_ties : (b : Bool) → eq_by_cmp key_cmp one entry.0 ≡ b → (c : Bool) → eq_by_cmp key_cmp other entry.0 ≡ c
          → cond b (Some entry.1) (find key_cmp one entries) ≡ Some first → cond c (Some entry.1) (find key_cmp other entries) ≡ Some second
          → has_it_alone def (key_in def.key entry.1) entries ≡ true
          → (find key_cmp one entries ≡ Some first → find key_cmp other entries ≡ Some second → key_in def.key first ≡ Ok key → key_in def.key second ≡ Ok key → one ≡ other)
          → one ≡ other
      by_ties true tied true also here there e later = tied_is one entry.0 tied ∙ sym (tied_is other entry.0 also)
      by_ties true tied false apart here there e later =
          absurd (later_differs key entries (its first (same_tuple entry.1 first here) has e) other second there had)
      by_ties false apart true also here there e later =
          absurd (later_differs key entries (its second (same_tuple entry.1 second there) had e) one first here has)
      by_ties false apart false other_apart here there e later = later here there has had

-- ---- a new database's spaces

abbrev settings_list : List Indexed
settings_list = put_all key_cmp [] (keyed (part_of_texts 0 ∷ []) first_settings)

-- the tuples of a space, in order
abbrev listed : (space : ℕ) → List Indexed
listed space =
    if space == index_rows then indexes_keyed
    else if space == space_rows then spaces_keyed
    else if space == settings then settings_list
    else []

listed_are : (space : ℕ) → finite.entries (tuples_in first_state space) ≡ listed space
unfolding first_state
listed_are space = by_indexes (space == index_rows) refl
  where
    by_settings : (b : Bool) → (space == settings) ≡ b → finite.entries (tuples_in with_settings space) ≡ (if b then settings_list else [])
    by_settings true e =
        ap (λ n. finite.entries (tuples_in with_settings n)) (eqb-true space settings e)
        ∙ entries_after settings (part_of_texts 0 ∷ []) empty (rows_of first_settings)
        ∙ ap (λ (es : List Indexed). put_all key_cmp es (keyed (part_of_texts 0 ∷ []) first_settings)) (ap (λ (t : Tuples). finite.entries t) (no_tuples settings) ∙ no_entries key_cmp)
    by_settings false e =
        ap (λ (t : Tuples). finite.entries t) (others_after settings (part_of_texts 0 ∷ []) empty (rows_of first_settings) space e ∙ no_tuples space) ∙ no_entries key_cmp

    by_spaces : (b : Bool) → (space == space_rows) ≡ b → (space == index_rows) ≡ false
        → finite.entries (tuples_in first_state space) ≡ (if b then spaces_keyed else if space == settings then settings_list else [])
    by_spaces true e apart = ap (λ n. finite.entries (tuples_in first_state n)) (eqb-true space space_rows e) ∙ spaces_are
    by_spaces false e apart =
        ap (λ (t : Tuples). finite.entries t)
        (others_after index_rows (part_of_numbers 0 ∷ part_of_numbers 1 ∷ []) with_spaces (rows_of first_indexes) space apart
        ∙ others_after space_rows (part_of_numbers 0 ∷ []) with_settings (rows_of first_spaces) space e)
        ∙ by_settings (space == settings) refl

    by_indexes : (b : Bool) → (space == index_rows) ≡ b
        → finite.entries (tuples_in first_state space) ≡ (if b then indexes_keyed else if space == space_rows then spaces_keyed else if space == settings then settings_list else [])
    by_indexes true e = ap (λ n. finite.entries (tuples_in first_state n)) (eqb-true space index_rows e) ∙ entries_are
    by_indexes false e = by_spaces (space == space_rows) refl e

-- each tuple has a key in each of these indexes alone
abbrev all_alone : List IndexDef → List Indexed → Bool
all_alone [] entries = true
all_alone (def ∷ defs) entries = each_alone def entries && all_alone defs entries

abbrev is_indexed : (space : ℕ) → Schema → Bool
is_indexed space schema = are_apart schema.indexes && all_alone schema.indexes (listed space)

abbrev all_indexed : List (ℕ × Schema) → Bool
all_indexed [] = true
all_indexed (entry ∷ entries) = is_indexed entry.0 entry.1 && all_indexed entries

first_indexed : all_indexed first_schemas ≡ true
unfolding space_in index_in array_of reading_of head_at after_first measured unsigned_at part_in shortest_unsigned str_head array_head map_head
first_indexed = refl

indexed_found : (space : ℕ) (schema : Schema) (schemas : List (ℕ × Schema)) → all_indexed schemas ≡ true → find nat_cmp space schemas ≡ Some schema → is_indexed space schema ≡ true
indexed_found space schema [] e found = absurd cc
indexed_found space schema (entry ∷ entries) e found =
    let parts = both_of (is_indexed entry.0 entry.1) (all_indexed entries) e in
    by_tie (eq_by_cmp nat_cmp space entry.0) refl found parts.0 (indexed_found space schema entries parts.1)
  where
    by_tie : (b : Bool) → eq_by_cmp nat_cmp space entry.0 ≡ b → cond b (Some entry.1) (find nat_cmp space entries) ≡ Some schema → is_indexed entry.0 entry.1 ≡ true
        → (find nat_cmp space entries ≡ Some schema → is_indexed space schema ≡ true) → is_indexed space schema ≡ true
    by_tie true tied found is later =
        let same_schema : entry.1 ≡ schema = cc in
        let same : space ≡ entry.0 = number_ties space entry.0 tied in
        subst (λ n. is_indexed n schema ≡ true) (sym same) (subst (λ s. is_indexed entry.0 s ≡ true) same_schema is)
    by_tie false apart found is later = later found

abbrev has_primary : Option Schema → Bool
has_primary None = false
has_primary (Some schema) = is_some (index_with 0 schema.indexes)

HasPrimary : ℕ → Type 0
HasPrimary space = has_primary (find nat_cmp space first_schemas) ≡ true

all_have_primary : Each HasPrimary first_ids
unfolding HasPrimary space_in index_in array_of reading_of head_at after_first measured unsigned_at part_in shortest_unsigned str_head array_head map_head
all_have_primary = (refl, (refl, (refl, (refl, (refl, (refl, (refl, tt)))))))

-- a space that is described has a primary index
primary_there : (space : ℕ) (schema : Schema) → find nat_cmp space first_schemas ≡ Some schema → is_some (index_with 0 schema.indexes) ≡ true
unfolding HasPrimary
primary_there space schema found = by_number (has_number space first_ids) refl
  where
    by_number : (b : Bool) → has_number space first_ids ≡ b → is_some (index_with 0 schema.indexes) ≡ true
    by_number true is = ap has_primary (sym found) ∙ each_has HasPrimary space first_ids all_have_primary is
    by_number false none =
        let no : Some schema ≡ None = sym found ∙ none_found nat_cmp nat_cmp-IsAntisymmetric space (λ k. has_number k first_ids) (number_apart space none) first_schemas schemas_numbered in
        absurd cc

module _ (space : ℕ) (tuples : Tuples) (are : finite.entries tuples ≡ listed space) where
  haves : (defs : List IndexDef) → all_alone defs (listed space) ≡ true → AllByRecursion (λ def. HaveKeys def tuples) defs
  haves [] e = tt
  haves (def ∷ defs) e =
      let parts = both_of (each_alone def (listed space)) (all_alone defs (listed space)) e in
      (subst (AllByRecursion (λ (entry : Indexed). (key : Key) × (key_in def.key entry.1 ≡ Ok key))) (sym are) (each_has_key def (listed space) parts.0), haves defs parts.1)

  alones : (defs : List IndexDef) → all_alone defs (listed space) ≡ true → AllByRecursion (Alone tuples) defs
  alones [] e = tt
  alones (def ∷ defs) e =
      let parts = both_of (each_alone def (listed space)) (all_alone defs (listed space)) e in (
        λ u one other first second key here there has had.
            alone_in def (listed space) parts.0 one other first second key (sym (get-entries tuples one ∙ ap (find key_cmp one) are) ∙ here)
            (sym (get-entries tuples other ∙ ap (find key_cmp other) are) ∙ there) has had,
        alones defs parts.1,
      )

pub first_state_indexed : (space : ℕ) (schema : Schema) → schema_of first_state space ≡ Some schema → AreIndexed schema (tuples_in first_state space)
first_state_indexed space schema is =
    let found = indexed_found space schema first_schemas first_indexed (agree space ∙ sym (schema_is space) ∙ is) in
    let parts = both_of (are_apart schema.indexes) (all_alone schema.indexes (listed space)) found in
    let primary = primary_there space schema (agree space ∙ sym (schema_is space) ∙ is) in
    record {
      apart = apart_found schema.indexes parts.0;
      have = haves space (tuples_in first_state space) (listed_are space) schema.indexes parts.1;
      unique = alones space (tuples_in first_state space) (listed_are space) schema.indexes parts.1;
      primary = λ none. absurd (true≢false (sym primary ∙ ap (λ (o : Option IndexDef). is_some o) none));
    }

-- a new database's spaces are there, with a primary index
pub first_there : (space : ℕ) → has_number space first_ids ≡ true → is_some (schema_of first_state space) ≡ true
unfolding HasPrimary
first_there space is = ap (λ (o : Option Schema). is_some o) (schema_is space ∙ sym (agree space)) ∙ by_found (find nat_cmp space first_schemas) (each_has HasPrimary space first_ids all_have_primary is)
  where
    by_found : (found : Option Schema) → has_primary found ≡ true → is_some found ≡ true
    by_found None e = absurd cc
    by_found (Some schema) e = refl

pub first_primary : (space : ℕ) (schema : Schema) → schema_of first_state space ≡ Some schema → is_some (index_with 0 schema.indexes) ≡ true
first_primary space schema is = primary_there space schema (agree space ∙ sym (schema_is space) ∙ is)

-- ---- the rows of a new database describe it

abbrev stands_there : Option SpaceDef → Key → Bool
stands_there None key = false
stands_there (Some def) key = is_eq (key_cmp key (one_key def.id.0))

abbrev all_stand_there : List Indexed → Bool
all_stand_there [] = true
all_stand_there (entry ∷ entries) = stands_there (space_in entry.1) entry.0 && all_stand_there entries

spaces_stand : all_stand_there spaces_keyed ≡ true
unfolding space_in index_in array_of reading_of head_at after_first measured unsigned_at part_in shortest_unsigned str_head array_head map_head
spaces_stand = refl

each_stands_there : (entries : List Indexed) → all_stand_there entries ≡ true → AllByRecursion SpaceRowStands entries
each_stands_there [] e = tt
each_stands_there (entry ∷ entries) e =
    let parts = both_of (stands_there (space_in entry.1) entry.0) (all_stand_there entries) e in
    (by_row (space_in entry.1) refl parts.0, each_stands_there entries parts.1)
  where
    by_row : (def : Option SpaceDef) → space_in entry.1 ≡ def → stands_there def entry.0 ≡ true → SpaceRowStands entry
    by_row None is stands = absurd cc
    by_row (Some def) is stands = (def, is, tied_is entry.0 (one_key def.id.0) stands)

pub first_state_described : IsDescribed first_state
first_state_described = record {
  own = λ space low. refl;
  spaces = subst (AllByRecursion SpaceRowStands) (sym spaces_are) (each_stands_there spaces_keyed spaces_stand);
  indexes = first_rows_stand;
  have = first_indexes_have_spaces;
}
