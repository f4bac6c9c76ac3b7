-- What memory has of a state after an edit of one of its spaces.
use Rattle.std.proofs.Common.{◌≡◌, ◌≢◌, ℕ, List, [], map, Option, Some, sym, ap, ◌∙◌, subst, Bool, true, false, cond, None, refl, arith, eqb-true, eq-eqb}
use Rattle.std.specs.FinMap.{empty, insert}
use Rattle.std.specs.List.{AllZip}
use Rattle.std.specs.Prelude.{◌==◌, if◌then◌else◌}
use Rattle.std.specs.BTreeMap.{is_at}
use Rattle.std.specs.Ordering.{nat_cmp}
use Rattle.std.proofs.lemmas.Bool.Decides.{nat_tests}
use Rattle.mx_schema.specs.declared.index_def.IndexDef.{IndexDef}
use Rattle.mx_schema.specs.declared.schema.Schema.{Schema}
use Rattle.mx_schema.specs.RowParts.{index_place}
use Rattle.mx_schema.specs.SchemaChecks.{indexes_with}
use Rattle.mx_schema.specs.SchemaChanges.{indexes_without, schema_with_index, schema_without_index, with_schema, without_index}
use Rattle.mx_schema.specs.State.{Tuples, State, tuples_in}
use Rattle.mx_schema.specs.Stored.{StandByPrimary, StoresTuples}
use Rattle.mx_space.specs.declared.space.Space.{Space}
use Rattle.mx_entries.specs.EntryChanges.{kept_without}
use Rattle.mx_entries.specs.Entries.{IndexEntry}
use Rattle.mx_entries.specs.KeptEntries.{StoresIndex}
use Rattle.mx_space.specs.Kept.{StoresIndexed}
use Rattle.mx_space.proofs.SpaceLaws.{new_space}
use Rattle.mx_entries.proofs.AlteredLaws.{zip_insert, zip_without, zip_cleared, stand_with, stand_without}
use Rattle.mx_msgpack.proofs.Options.{same_some}
use Rattle.mx_schema.proofs.StateLaws.{tuples_set}
use Rattle.mx_space.specs.declared.spaces.SpaceEntry.{SpaceEntry}
use Rattle.mx_space.specs.Spaces.{SetsSpace, space_under}
use Rattle.mx_space.specs.Stored.{HoldsBy, HoldsSpace, SpacesHold}
use Rattle.std.specs.List as list
use Rattle.mx_space.specs.declared.state.State as coded

-- ---- lists

module _ (was : Option Schema) (before after : Space) (all : Tuples) (stores : StoresIndexed was before all) where
  -- a space with an index more
  pub space_with_index : after.tuples.entries ≡ before.tuples.entries → (def : IndexDef) → (def.id.0 ≡ 0 → all ≡ empty) → after.schema ≡ schema_with_index def before.schema
      → (index : List IndexEntry) → StoresIndex all def index
      → (place : ℕ) → place ≡ index_place def.id.0 before.schema.indexes → after.indexes.items ≡ list.insert before.indexes.items place index
      → StoresIndexed (Some (schema_with_index def before.schema)) after all
  space_with_index tuples def none schema index keeps place at items = record {
    holds = record {
      is = ap (λ s. Some s) (sym schema);
      keeps = subst (λ kept. StoresTuples kept all) (sym tuples) stores.holds.keeps;
      stands = subst (λ s. StandByPrimary s all) (sym schema) (stand_with def before.schema all none stores.holds.stands);
    };
    indexes = subst (λ (s : Schema). AllZip (StoresIndex all) s.indexes after.indexes.items) (sym schema)
        (subst (AllZip (StoresIndex all) (indexes_with def before.schema.indexes)) (sym (items ∙ ap (λ p. list.insert before.indexes.items p index) at))
        (zip_insert (StoresIndex all) def index keeps before.schema.indexes before.indexes.items stores.indexes));
  }

  module _ (id : ℕ) (schema : after.schema ≡ schema_without_index id before.schema) where
    -- a space with an index less that isn't the primary one
    pub space_without_index : id ≢ 0 → after.tuples.entries ≡ before.tuples.entries → after.indexes.items ≡ kept_without id before.schema.indexes before.indexes.items
        → StoresIndexed (Some (schema_without_index id before.schema)) after all
    space_without_index apart tuples items = record {
      holds = record {
        is = ap (λ s. Some s) (sym schema);
        keeps = subst (λ kept. StoresTuples kept all) (sym tuples) stores.holds.keeps;
        stands = subst (λ s. StandByPrimary s all) (sym schema) (stand_without id before.schema all apart stores.holds.stands);
      };
      indexes = subst (λ (s : Schema). AllZip (StoresIndex all) s.indexes after.indexes.items) (sym schema)
          (subst (AllZip (StoresIndex all) (indexes_without id before.schema.indexes)) (sym items)
          (zip_without (StoresIndex all) id before.schema.indexes before.indexes.items stores.indexes));
    }

    -- a space without its primary index, which has no tuples
    pub space_without_primary : after.tuples.entries ≡ [] → after.indexes.items ≡ map (λ _. []) (kept_without id before.schema.indexes before.indexes.items)
        → StoresIndexed (Some (schema_without_index id before.schema)) after empty
    space_without_primary none items =
        new_space after (schema_without_index id before.schema) schema none
        (subst (AllZip (StoresIndex empty) (indexes_without id before.schema.indexes)) (sym items)
        (zip_cleared (StoresIndex all) (indexes_without id before.schema.indexes) (kept_without id before.schema.indexes before.indexes.items)
        (zip_without (StoresIndex all) id before.schema.indexes before.indexes.items stores.indexes)))

-- ---- what memory has of a state after an edit of one of its spaces

-- a space that is given tuples has them
own_tuples : (before : State) (id : ℕ) (all : Tuples) → tuples_in (insert before id all) id ≡ all
own_tuples before id all = tuples_set before id all id ∙ ap (λ b. if b then all else tuples_in before id) (eq-eqb id id refl)

module _ (id : ℕ) (old new : List SpaceEntry) (schemas : ℕ → Option Schema) (before : State) (holds : SpacesHold schemas old before) where
  -- one space is another, and the others are as before
  holds_at : (later : ℕ → Option Schema) (after : State) (space : Option Space)
      → ((q : ℕ) → (q == id) ≡ false → later q ≡ schemas q)
      → ((q : ℕ) → space_under q new ≡ (if q == id then space else space_under q old))
      → ((q : ℕ) → (q == id) ≡ false → tuples_in after q ≡ tuples_in before q)
      → HoldsSpace (later id) space (tuples_in after id) → SpacesHold later new after
  holds_at later after space described spaces tuples here q = by_test (q == id) refl
    where
      by_test : (b : Bool) → (q == id) ≡ b → HoldsSpace (later q) (space_under q new) (tuples_in after q)
      by_test true e =
          let found : space_under q new ≡ space = spaces q ∙ ap (λ b. if b then space else space_under q old) e in
          subst (λ o. HoldsSpace (later q) o (tuples_in after q)) (sym found)
          (subst (λ n. HoldsSpace (later n) space (tuples_in after n)) (sym (eqb-true q id e)) here)
      by_test false e =
          let found : space_under q new ≡ space_under q old = spaces q ∙ ap (λ b. if b then space else space_under q old) e in
          subst (λ s. HoldsSpace s (space_under q new) (tuples_in after q)) (sym (described q e))
          (subst (λ o. HoldsSpace (schemas q) o (tuples_in after q)) (sym found)
          (subst (λ t. HoldsSpace (schemas q) (space_under q old) t) (sym (tuples q e)) (holds q)))

  -- a space has other tuples
  pub tuples_changed : (all : Tuples) (space : Space) → SetsSpace old new id space → StoresIndexed (schemas id) space all → SpacesHold schemas new (insert before id all)
  tuples_changed all space sets stores =
      holds_at schemas (insert before id all) (Some space) (λ q other. refl) sets
      (λ q other. tuples_set before id all q ∙ ap (λ b. if b then all else tuples_in before q) other)
      (subst (StoresIndexed (schemas id) space) (sym (own_tuples before id all)) stores)

  -- and is as it was
  pub space_kept : (space : Space) → SetsSpace old new id space → StoresIndexed (schemas id) space (tuples_in before id) → SpacesHold schemas new before
  space_kept space sets stores = holds_at schemas before (Some space) (λ q other. refl) sets (λ q other. refl) stores

  -- and is described otherwise, or is gone
  pub description_changed : (schema : Option Schema) (space : Option Space) → ((q : ℕ) → space_under q new ≡ (if q == id then space else space_under q old))
      → HoldsSpace schema space (tuples_in before id) → SpacesHold (with_schema schemas id schema) new before
  description_changed schema space spaces here =
      holds_at (with_schema schemas id schema) before space (λ q other. ap (λ b. if b then schema else schemas q) other) spaces (λ q other. refl)
      (subst (λ s. HoldsSpace s space (tuples_in before id)) (sym (described id)) here)
    where
      described : (n : ℕ) → with_schema schemas id schema id ≡ schema
      described n = ap (λ b. if b then schema else schemas id) (eq-eqb id id refl)

  -- an index less, and with the primary one all tuples
  pub index_dropped : (schema : Option Schema) (space : Space) (index : ℕ) → SetsSpace old new id space
      → StoresIndexed schema space (if index == 0 then empty else tuples_in before id) → SpacesHold (with_schema schemas id schema) new (without_index before id index)
  index_dropped schema space index sets stores = by_test (index == 0) stores
    where
      described : with_schema schemas id schema id ≡ schema
      described = ap (λ b. if b then schema else schemas id) (eq-eqb id id refl)

      by_test : (b : Bool) → StoresIndexed schema space (if b then empty else tuples_in before id)
          → SpacesHold (with_schema schemas id schema) new (if b then insert before id empty else before)
      by_test true stores =
          holds_at (with_schema schemas id schema) (insert before id empty) (Some space) (λ q other. ap (λ b. if b then schema else schemas q) other) sets
          (λ q other. tuples_set before id empty q ∙ ap (λ b. if b then empty else tuples_in before q) other)
          (subst (λ (t : Tuples). HoldsSpace (with_schema schemas id schema id) (Some space) t) (sym (own_tuples before id empty))
          (subst (λ s. StoresIndexed s space empty) (sym described) stores))
      by_test false stores = description_changed schema (Some space) sets stores

-- ---- a space that is there

module _ (id : ℕ) (spaces : List SpaceEntry) (schemas : ℕ → Option Schema) (before : State) (holds : SpacesHold schemas spaces before) where
  -- it has its tuples
  pub space_there : (space : Space) → space_under id spaces ≡ Some space → StoresIndexed (schemas id) space (tuples_in before id)
  space_there space there = subst (λ o. HoldsSpace (schemas id) o (tuples_in before id)) there (holds id)

  -- what is there is described
  pub is_described : (space : Space) → space_under id spaces ≡ Some space → schemas id ≡ None → ⊥
  is_described space there none = let is : ◌≡◌ {A = Option Schema} None (Some space.schema) = sym none ∙ (space_there space there).holds.is in absurd cc

  -- what is described is there
  pub none_there : (schema : Schema) → schemas id ≡ Some schema → space_under id spaces ≡ None → ⊥
  none_there schema is none =
      let was : HoldsSpace (schemas id) None (tuples_in before id) = subst (λ o. HoldsSpace (schemas id) o (tuples_in before id)) none (holds id) in
      let no = was.none in
      let both : Some schema ≡ None = sym is ∙ no in
      absurd cc

  -- a space that isn't described has no tuples
  pub nothing_there : schemas id ≡ None → tuples_in before id ≡ empty
  nothing_there none = by_space (space_under id spaces) (holds id)
    where
      by_space : (space : Option Space) → HoldsSpace (schemas id) space (tuples_in before id) → tuples_in before id ≡ empty
      by_space None was = was.no_tuples
      by_space (Some space) was = let is = was.holds.is in absurd cc

-- so the same schema describes it
pub described_so : (schema : Option Schema) (described : Schema) (space : Space) (all : Tuples) → StoresIndexed schema space all → schema ≡ Some described → described ≡ space.schema
described_so schema described space all stores is = same_some described space.schema (sym is ∙ stores.holds.is)

-- memory has the same where each space is described as before
pub holds_described : (one other : ℕ → Option Schema) (memory : coded.State) (before : State) → ((id : ℕ) → one id ≡ other id) → HoldsBy one memory before → HoldsBy other memory before
holds_described one other memory before same holds id =
    subst (λ s. HoldsSpace s (space_under id memory.spaces.entries.items) (tuples_in before id)) (same id) (holds id)

-- what isn't described needn't be taken away
pub still_none : (schemas : ℕ → Option Schema) (id : ℕ) → schemas id ≡ None → (q : ℕ) → with_schema schemas id None q ≡ schemas q
still_none schemas id none q = by_test (q == id) refl
  where
    by_test : (b : Bool) → (q == id) ≡ b → (if b then None else schemas q) ≡ schemas q
    by_test true e = sym (ap schemas (eqb-true q id e) ∙ none)
    by_test false e = refl

-- ---- the spaces of a catalogue

-- a space is there, without tuples, or is still to come
abbrev pub PartMade : (whole : Option Schema) → Option Space → (left : Option Schema) → Type 0
PartMade whole None left = left ≡ whole
PartMade whole (Some space) left = StoresIndexed whole space empty × (left ≡ None)

at_same : (a b : ℕ) → is_at (nat_cmp a) b ≡ (b == a)
at_same a b = grind (arith, nat_tests)

-- a space more
pub part_more : (whole : Option Schema) (id q : ℕ) (space : Space) (was now : Option Space) (left rest : Option Schema) (schema : Schema) → StoresIndexed (Some schema) space empty
    → now ≡ (if q == id then Some space else was) → rest ≡ cond (is_at (nat_cmp id) q) None left → (q ≡ id → left ≡ Some schema) → PartMade whole was left
    → PartMade whole now rest
part_more whole id q space was now left rest schema stores spaces others first made = by_test (q == id) refl
  where
    by_was : (was : Option Space) → left ≡ Some schema → PartMade whole was left → whole ≡ Some schema
    by_was None there made = sym made ∙ there
    by_was (Some other) there (is, gone) = absurd cc

    by_test : (b : Bool) → (q == id) ≡ b → PartMade whole now rest
    by_test true e =
        let found : now ≡ Some space = spaces ∙ ap (λ b. if b then Some space else was) e in
        let over : rest ≡ None = others ∙ ap (λ b. cond b None left) (at_same id q ∙ e) in
        let described : whole ≡ Some schema = by_was was (first (eqb-true q id e)) made in
        subst (λ o. PartMade whole o rest) (sym found) (subst (λ s. StoresIndexed s space empty) (sym described) stores, over)
    by_test false e =
        let found : now ≡ was = spaces ∙ ap (λ b. if b then Some space else was) e in
        let over : rest ≡ left = others ∙ ap (λ b. cond b None left) (at_same id q ∙ e) in
        subst (λ o. PartMade whole o rest) (sym found) (subst (PartMade whole was) (sym over) made)

-- all are there
pub all_there : (whole : Option Schema) (space : Option Space) (left : Option Schema) → left ≡ None → PartMade whole space left → HoldsSpace whole space empty
all_there whole None left over made = record { none = sym made ∙ over; no_tuples = refl }
all_there whole (Some space) left over (stores, gone) = stores
