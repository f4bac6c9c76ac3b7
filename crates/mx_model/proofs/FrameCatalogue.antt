-- What two states that agree but for what was touched describe the same, where reads of their rows met nothing of it.
use Rattle.std.proofs.Common.{◌≡◌, ◌⊎◌, inl, inr, ℕ, ◌<◌, ◌≤◌, Bool, true, false, not, ◌&&◌, ◌||◌, List, [], ◌∷◌, Option, Some, None, refl, sym, ap, ◌∙◌, arith, true≢false}
use Rattle.std.specs.Prelude.{pos, ◌==◌, if◌then◌else◌}
use Rattle.std.specs.Cmp.{tied_itself}
use Rattle.std.specs.FinMap.{get}
use Rattle.std.specs.List.{Contains}
use Rattle.std.specs.Ordering.{is_eq, is_gt, is_lt, ordering_then}
use Rattle.mx_msgpack.specs.Readers.{◌>>=◌}
use Rattle.mx_key.specs.Keys.{Key, Integer, is_key_prefix, key_cmp, part_cmp}
use Rattle.mx_key.specs.Ranges.{Range, lies_in, prefix_range}
use Rattle.mx_key.proofs.KeyLaws.{key_cmp_total, part_cmp-IsAntisymmetric, part_cmp_total}
use Rattle.mx_schema.specs.declared.index_def.IndexDef.{IndexDef}
use Rattle.mx_schema.specs.declared.schema.Schema.{Schema}
use Rattle.mx_schema.specs.declared.space_def.SpaceDef.{SpaceDef}
use Rattle.mx_schema.specs.Catalogues.{index_defs, indexes_of, schema_by, schema_of, space_of}
use Rattle.mx_schema.specs.Picks.{entry_key}
use Rattle.mx_schema.specs.SchemaChecks.{first_user_space}
use Rattle.mx_schema.specs.Sound.{IsSound}
use Rattle.mx_schema.specs.SpaceRows.{space_in}
use Rattle.mx_schema.specs.State.{State, Tuples, index_rows, space_rows, tuples_in}
use Rattle.mx_schema.proofs.OrderLaws.{eq_is}
use Rattle.mx_write.specs.Reads.{index_read, schema_reads, space_read}
use Rattle.mx_write.specs.Touches.{Touched, index_by_state}
use Rattle.mx_model.specs.Frame.{AgreeAt, AgreeBut, IsIndexTouched}
use Rattle.mx_model.proofs.FrameTuples.{AreMissed, index_key, missed_key, missed_parts, AreAlike, passing_same, same_option}
use Rattle.mx_model.proofs.FrameSound.{indexes_first, spaces_first}

-- ---- keys with a prefix

-- a key lies among those that have it as a prefix
pub prefix_itself : (key : Key) → lies_in (prefix_range key) key ≡ true
prefix_itself key = ap (λ o. not (is_lt o) && (not (is_gt o) || is_key_prefix key key)) (tied_itself key_cmp_total key)

not_less : (prefix key : Key) → is_key_prefix prefix key ≡ true → is_lt (key_cmp key prefix) ≡ false
not_less [] [] is = refl
not_less [] (part ∷ key) is = refl
not_less (part ∷ prefix) [] is = absurd cc
not_less (part ∷ prefix) (first ∷ key) is = by_tests (is_eq (part_cmp part first)) refl (is_key_prefix prefix key) refl is (not_less prefix key)
  where
    by_tests : (tied : Bool) → is_eq (part_cmp part first) ≡ tied → (begins : Bool) → is_key_prefix prefix key ≡ begins → (tied && begins) ≡ true
        → (is_key_prefix prefix key ≡ true → is_lt (key_cmp key prefix) ≡ false) → is_lt (ordering_then (part_cmp first part) (key_cmp key prefix)) ≡ false
    by_tests true tied true begins is later =
        let same = part_cmp-IsAntisymmetric part first (eq_is (part_cmp part first) tied) in
        ap (λ p. is_lt (ordering_then (part_cmp first p) (key_cmp key prefix))) same
        ∙ ap (λ o. is_lt (ordering_then o (key_cmp key prefix))) (tied_itself part_cmp_total first) ∙ later begins
    by_tests true tied false begins is later = absurd cc
    by_tests false tied begins begin is later = absurd cc

pub prefix_lies : (prefix key : Key) → is_key_prefix prefix key ≡ true → lies_in (prefix_range prefix) key ≡ true
prefix_lies prefix key is = by_tests (is_gt (key_cmp key prefix)) (is_key_prefix prefix key) is (not_less prefix key is)
  where
    by_tests : (above begins : Bool) → begins ≡ true → is_lt (key_cmp key prefix) ≡ false → (not (is_lt (key_cmp key prefix)) && (not above || begins)) ≡ true
    by_tests true begins is less = ap (λ b. not b && begins) less ∙ is
    by_tests false begins is less = ap (λ b. not b && true) less

-- ---- tuples under primary keys

-- in the index of the number 0 a tuple has its primary key
pub first_key : (def : IndexDef) → (def.id.0 == 0) ≡ true → (key : Key) (tuple : List ℕ) → index_key def key tuple ≡ key
first_key def first key tuple = ap (λ b. if b then key else entry_key def key tuple) first

pub under_alike : (def : IndexDef) (range : Range) (one other : Tuples) → (def.id.0 == 0) ≡ true → AreAlike def range one other → (key : Key) → lies_in range key ≡ true
    → get one key ≡ get other key
under_alike def range one other first alike key lies =
    same_option (get one key) (get other key)
    (λ tuple. alike.there key tuple (ap (lies_in range) (first_key def first key tuple) ∙ lies))
    (λ tuple. alike.back key tuple (ap (lies_in range) (first_key def first key tuple) ∙ lies))

-- a space is described in both states or in none
abbrev pub BothThere : (one other : State) → (space : ℕ) → Type 0
BothThere one other space =
    ((schema_of one space ≡ None) × (schema_of other space ≡ None))
    ⊎ ((schema : Schema) × (new : Schema) × (schema_of one space ≡ Some schema) × (schema_of other space ≡ Some new))

module _ (touched : List Touched) (one other : State) where
  -- they have the same in a range of an index that was read
  pub alike_in : (space index : ℕ) (range : Range) (def : IndexDef) → ((key : Key) → AgreeAt touched one other space key) → index_by_state one space index ≡ Some def
      → AreMissed one touched (record { space = space; index = index; range = range } ∷ []) → AreAlike def range (tuples_in one space) (tuples_in other space)
  alike_in space index range def agree known missed = record {
    there = λ key tuple lies is. by_there key tuple lies is (agree key);
    back = λ key tuple lies is. by_back key tuple lies is (agree key);
  }
    where
      outside : (key : Key) (tuple : List ℕ) → lies_in range (index_key def key tuple) ≡ true → Contains touched (record { space = space; key = key; tuple = tuple }) → ⊥
      outside key tuple lies was = true≢false (sym lies ∙ missed_key one touched space index range def key tuple missed known was)

      by_there : (key : Key) (tuple : List ℕ) → lies_in range (index_key def key tuple) ≡ true → get (tuples_in one space) key ≡ Some tuple → AgreeAt touched one other space key
          → get (tuples_in other space) key ≡ Some tuple
      by_there key tuple lies is (inl same) = sym same ∙ is
      by_there key tuple lies is (inr (before, after)) = absurd (outside key tuple lies (before tuple is))

      by_back : (key : Key) (tuple : List ℕ) → lies_in range (index_key def key tuple) ≡ true → get (tuples_in other space) key ≡ Some tuple → AgreeAt touched one other space key
          → get (tuples_in one space) key ≡ Some tuple
      by_back key tuple lies is (inl same) = same ∙ is
      by_back key tuple lies is (inr (before, after)) = absurd (outside key tuple lies (after tuple is))

  module _ (agree : AgreeBut touched one other) (sound : IsSound one) where
    -- the database's own spaces keep their tuples
    pub own_agree : (space : ℕ) → space < first_user_space → (key : Key) → AgreeAt touched one other space key
    own_agree space own = by_case (agree space)
      where
        by_case : IsIndexTouched touched space ⊎ ((key : Key) → AgreeAt touched one other space key) → (key : Key) → AgreeAt touched one other space key
        by_case (inl (above, row, was)) = let less : first_user_space ≤ space = above in absurd (omega (arith, own, less))
        by_case (inr agrees) = agrees

    module _ (space : ℕ) where
      abbrev number : Key
      number = Integer (pos space) ∷ []

      -- ---- the space's own row

      pub space_same : AreMissed one touched (space_read space ∷ []) → space_of one space ≡ space_of other space
      space_same missed =
          let first = spaces_first one sound in
          ap (λ (row : Option (List ℕ)). row >>= space_in)
          (under_alike first.def (prefix_range number) (tuples_in one space_rows) (tuples_in other space_rows) first.first
          (alike_in space_rows 0 (prefix_range number) first.def (own_agree space_rows (omega arith)) first.known missed) number (prefix_itself number))

      -- the space is there in both or in none
      pub there_alike : AreMissed one touched (space_read space ∷ []) → BothThere one other space
      unfolding schema_of
      there_alike missed = by_row (space_of one space) refl (sym (space_same missed))
        where
          by_row : (def : Option SpaceDef) → space_of one space ≡ def → space_of other space ≡ space_of one space → BothThere one other space
          by_row None is same = inl (ap (schema_by one space) is, ap (schema_by other space) (same ∙ is))
          by_row (Some def) is same =
              inr (
                record { def = def; indexes = indexes_of one space },
                record { def = def; indexes = indexes_of other space },
                ap (schema_by one space) is,
                ap (schema_by other space) (same ∙ is),
              )

      -- ---- the rows of its indexes

      indexes_same : AreMissed one touched (index_read space ∷ []) → indexes_of one space ≡ indexes_of other space
      indexes_same missed =
          let first = indexes_first one sound in
          ap index_defs
          (passing_same (is_key_prefix number) (tuples_in one index_rows) (tuples_in other index_rows)
          (λ key begins. under_alike first.def (prefix_range number) (tuples_in one index_rows) (tuples_in other index_rows) first.first
          (alike_in index_rows 0 (prefix_range number) first.def (own_agree index_rows (omega arith)) first.known missed) key (prefix_lies number key begins)))

      pub schema_same : AreMissed one touched (schema_reads space) → schema_of one space ≡ schema_of other space
      unfolding schema_of
      schema_same missed =
          let parts = missed_parts one touched (space_read space ∷ []) (index_read space ∷ []) missed in
          ap (schema_by one space) (space_same parts.0) ∙ by_def (space_of other space) (indexes_same parts.1)
        where
          by_def : (def : Option SpaceDef) → indexes_of one space ≡ indexes_of other space → schema_by one space def ≡ schema_by other space def
          by_def None same = refl
          by_def (Some def) same = ap (λ (indexes : List IndexDef). Some (record { def = def; indexes = indexes })) same

      -- whose row of its primary index wasn't touched, keeps its tuples
      pub tuples_agree : AreMissed one touched (index_read space ∷ []) → (key : Key) → AgreeAt touched one other space key
      tuples_agree missed = by_case (agree space)
        where
          begins : is_key_prefix number (Integer (pos space) ∷ Integer (pos 0) ∷ []) ≡ true
          begins = ap (λ o. is_eq o && true) (tied_itself part_cmp_total (Integer (pos space)))

          by_case : IsIndexTouched touched space ⊎ ((key : Key) → AgreeAt touched one other space key) → (key : Key) → AgreeAt touched one other space key
          by_case (inl (above, row, was)) =
              let first = indexes_first one sound in
              let outside = missed_key one touched index_rows 0 (prefix_range number) first.def (Integer (pos space) ∷ Integer (pos 0) ∷ []) row missed first.known was in
              let lies = prefix_lies number (Integer (pos space) ∷ Integer (pos 0) ∷ []) begins in
              absurd (true≢false (sym lies ∙ ap (lies_in (prefix_range number)) (sym (first_key first.def first.first (Integer (pos space) ∷ Integer (pos 0) ∷ []) row)) ∙ outside))
          by_case (inr agrees) = agrees
