-- What a change of the rows of spaces or indexes was judged by.
use Rattle.std.proofs.Common.{◌≡◌, ◌⊎◌, inl, inr, ℕ, ◌≤◌, Bool, true, false, List, [], ◌∷◌, Option, Some, None, Ok, refl, sym, ap, ◌∙◌, subst, true≢false, eqb-true, ltb-false}
use Rattle.std.specs.Prelude.{◌≢◌, is_none, is_some, nat_lt, not, ◌&&◌, ◌==◌, if◌then◌else◌}
use Rattle.std.specs.FinMap.{empty, get, get-empty}
use Rattle.std.specs.Option.{option_map}
use Rattle.mx_base.specs.declared.refusal.Refusal.{Refusal}
use Rattle.mx_base.specs.declared.refusal.Refusal.TheVariants.{BadIndexRow, BadSpaceRow}
use Rattle.mx_key.specs.Keys.{Key, key_cmp}
use Rattle.mx_msgpack.specs.Items.{items_of}
use Rattle.mx_schema.specs.declared.index_def.IndexDef.{IndexDef}
use Rattle.mx_schema.specs.declared.index_def.IndexRow.{IndexRow}
use Rattle.mx_schema.specs.declared.schema.Schema.{Schema}
use Rattle.mx_schema.specs.declared.space_def.SpaceDef.{SpaceDef}
use Rattle.mx_schema.specs.Catalogues.{index_with, indexes_of, schema_of}
use Rattle.mx_schema.specs.IndexRows.{index_in}
use Rattle.mx_schema.specs.SchemaChecks.{fields_in, first_number, first_user_space}
use Rattle.mx_schema.specs.Sound.{AreKeyed, HaveKeys, IsSound}
use Rattle.mx_schema.specs.SpaceRows.{space_in}
use Rattle.mx_schema.specs.State.{State, Tuples, index_rows, key_in, space_rows, tuples_in}
use Rattle.mx_schema.proofs.AloneLaws.{Alone}
use Rattle.mx_schema.proofs.DescribedLaws.{BeginsWith, index_begins, index_row_found, index_rows_key, index_space, indexes_are, no_primary_no_tuples, no_space_there, space_begins, space_row_found, space_rows_key}
use Rattle.mx_schema.proofs.IndexListLaws.{has_indexes, no_index_there}
use Rattle.mx_schema.proofs.KeyedLaws.{one_key, two_key}
use Rattle.mx_schema.proofs.RowsOfStateLaws.{index_key, space_key}
use Rattle.mx_schema.proofs.StoredLaws.{each_none}
use Rattle.mx_entries.specs.declared.build_fault.BuildFault.{BuildFault}
use Rattle.mx_entries.specs.Builds.{build_fault}
use Rattle.mx_entries.proofs.BuildLaws.{built_has}
use Rattle.mx_write.specs.Descriptions.{build_fault_by, build_fault_on, build_refusal, description_fault, index_drop_fault, index_drop_on, index_fault_beside, index_fault_by, index_fault_on, lacks_primary, space_drop_fault, space_drop_on, unless_indexed, unless_others}
use Rattle.mx_write.specs.Installs.{Adds, AddsOrDrops, MayChange, Drops}
use Rattle.mx_write.specs.Lookup.{other_indexes}
use Rattle.mx_write.specs.Stages.{CanBeMade, CanBuild}
use Rattle.mx_write.specs.Writable.{begins_with_system_number, describes_schema}

-- ---- what descriptions say

is_there : {X : Type 0} (o : Option X) (why : Refusal) → (if is_some o then None else Some why) ≡ None → (x : X) × (o ≡ Some x)
is_there None why e = absurd cc
is_there (Some x) why e = (x, refl)

-- a row that a user may add names a user's space
user_number : (row : List ℕ) (number : ℕ) → BeginsWith row number → begins_with_system_number (items_of row) ≡ false → first_user_space ≤ number
user_number row number (first, others, items, is) e =
    ltb-false number first_user_space
    (sym (ap begins_with_system_number items ∙ ap (λ o. by_number o) is) ∙ e)
  where
    by_number : Option ℕ → Bool
    by_number None = false
    by_number (Some n) = nat_lt n first_user_space

no_indexes : (name : List ℕ) (defs : List IndexDef) → unless_indexed name defs ≡ None → defs ≡ []
no_indexes name [] e = refl
no_indexes name (def ∷ defs) e = absurd cc

no_others : (name : List ℕ) (defs : List IndexDef) → unless_others name defs ≡ None → defs ≡ []
no_others name [] e = refl
no_others name (def ∷ defs) e = absurd cc

same_number : (one other : ℕ) → Some one ≡ Some other → one ≡ other
same_number one other e = cc

-- an index that can be added: its space is there
pub record Addable (before : State) (row : List ℕ) : Type 0 where
  pub index : IndexRow
  pub schema : Schema
  pub is : index_in row ≡ Some index
  pub there : schema_of before index.space.0 ≡ Some schema
  pub beside : lacks_primary schema.indexes index.def ≡ false

pub addable : (before : State) (row : List ℕ) → index_fault_by before (index_in row) (first_number (fields_in row)) ≡ None → Addable before row
addable before row e = by_number (first_number (fields_in row)) refl e
  where
    by_test : (b : Bool) → (if b then Some BadIndexRow else None) ≡ None → b ≡ false
    by_test true e = absurd cc
    by_test false e = refl

    by_row : (space : ℕ) (schema : Schema) (index : Option IndexRow) → first_number (fields_in row) ≡ Some space → schema_of before space ≡ Some schema → index_in row ≡ index
        → index_fault_beside schema.indexes index ≡ None → Addable before row
    by_row space schema None first there is e = absurd cc
    by_row space schema (Some index) first there is e =
        let same : space ≡ index.space.0 = same_number space index.space.0 (sym first ∙ index_space row index is) in
        record { index = index; schema = schema; is = is; there = ap (schema_of before) (sym same) ∙ there; beside = by_test (lacks_primary schema.indexes index.def) e }

    by_schema : (space : ℕ) (schema : Option Schema) → first_number (fields_in row) ≡ Some space → schema_of before space ≡ schema → index_fault_on space schema (index_in row) ≡ None
        → Addable before row
    by_schema space None first there e = absurd cc
    by_schema space (Some schema) first there e = by_row space schema (index_in row) first there refl e

    by_number : (space : Option ℕ) → first_number (fields_in row) ≡ space → index_fault_by before (index_in row) space ≡ None → Addable before row
    by_number None first e = absurd cc
    by_number (Some space) first e = by_schema space (schema_of before space) first refl e

-- ---- what comes and what goes

-- a space that comes with its row
pub record AddedSpace (before : State) (key : Key) (row : List ℕ) (def : SpaceDef) : Type 0 where
  pub is : space_in row ≡ Some def
  pub same : key ≡ one_key def.id.0
  pub high : first_user_space ≤ def.id.0
  pub absent : schema_of before def.id.0 ≡ None
  pub no_tuples : tuples_in before def.id.0 ≡ empty

-- a space that goes with its row
pub record DroppedSpace (before : State) (key : Key) (row : List ℕ) (def : SpaceDef) : Type 0 where
  pub stands : get (tuples_in before space_rows) key ≡ Some row
  pub is : space_in row ≡ Some def
  pub same : key ≡ one_key def.id.0
  pub high : first_user_space ≤ def.id.0
  pub without : indexes_of before def.id.0 ≡ []
  pub no_tuples : tuples_in before def.id.0 ≡ empty

-- an index that comes with its row
pub record AddedIndex (before : State) (key : Key) (row : List ℕ) (index : IndexRow) : Type 0 where
  pub schema : Schema
  pub is : index_in row ≡ Some index
  pub same : key ≡ two_key index.space.0 index.def.id.0
  pub high : first_user_space ≤ index.space.0
  pub there : schema_of before index.space.0 ≡ Some schema
  pub beside : lacks_primary schema.indexes index.def ≡ false
  pub no_row : get (tuples_in before index_rows) (two_key index.space.0 index.def.id.0) ≡ None
  pub no_index : index_with index.def.id.0 schema.indexes ≡ None
  pub first : index.def.id.0 ≡ 0 → tuples_in before index.space.0 ≡ empty
  pub have : HaveKeys index.def (tuples_in before index.space.0)
  pub alone : Alone (tuples_in before index.space.0) index.def

-- an index that goes with its row
pub record DroppedIndex (before : State) (key : Key) (row : List ℕ) (index : IndexRow) : Type 0 where
  pub schema : Schema
  pub stands : get (tuples_in before index_rows) key ≡ Some row
  pub is : index_in row ≡ Some index
  pub same : key ≡ two_key index.space.0 index.def.id.0
  pub high : first_user_space ≤ index.space.0
  pub there : schema_of before index.space.0 ≡ Some schema
  pub last : index.def.id.0 ≡ 0 → other_indexes schema.indexes ≡ []

module _ (before : State) (sound : IsSound before) where
  pub added_space : (key : Key) (row : List ℕ) → MayChange before space_rows key (Some row) → (def : SpaceDef) × AddedSpace before key row def
  added_space key row changes = by_kind changes.kind
    where
      adds : Adds before space_rows key row → (def : SpaceDef) × AddedSpace before key row def
      adds new =
          let def = is_there (space_in row) BadSpaceRow new.described in
          let parts = space_rows_key before sound changes.schema changes.primary changes.described changes.there in
          let same : key ≡ one_key def.0.id.0 = space_key row key def.0 def.1 (ap (λ p. key_in p row) (sym parts) ∙ changes.fits.own) in
          let absent = no_space_there before def.0.id.0 (ap (get (tuples_in before space_rows)) (sym same) ∙ new.absent) in (
            def.0,
            record {
              is = def.1;
              same = same;
              high = user_number row def.0.id.0 (space_begins row def.0 def.1) new.of_user;
              absent = absent;
              no_tuples = subst (λ s. AreKeyed s (tuples_in before def.0.id.0)) absent (sound.keyed def.0.id.0);
            },
          )

      by_kind : (describes_schema space_rows ≡ false) ⊎ AddsOrDrops before space_rows key (Some row) → (def : SpaceDef) × AddedSpace before key row def
      by_kind (inl elsewhere) = absurd (true≢false elsewhere)
      by_kind (inr is) = adds is

  pub dropped_space : (key : Key) → MayChange before space_rows key None → (row : List ℕ) × (def : SpaceDef) × DroppedSpace before key row def
  dropped_space key changes = by_kind changes.kind
    where
      by_schema : (id : ℕ) (schema : Option Schema) → schema_of before id ≡ schema → space_drop_on schema ≡ None → (indexes_of before id ≡ []) × (tuples_in before id ≡ empty)
      by_schema id None is e = (sound.described.have id is, subst (λ s. AreKeyed s (tuples_in before id)) is (sound.keyed id))
      by_schema id (Some schema) is e =
          let none = no_indexes schema.def.name schema.indexes e in
          (sym (indexes_are before id schema is) ∙ none, no_primary_no_tuples before sound id schema is (ap (index_with 0) none))

      drops : Drops before space_rows key → (row : List ℕ) × (def : SpaceDef) × DroppedSpace before key row def
      drops old =
          let (def, is, same) = space_row_found before sound key old.row old.there in
          let (without, no_tuples) = by_schema def.id.0 (schema_of before def.id.0) refl (ap (space_drop_fault before) (sym is) ∙ old.may) in (
            old.row,
            def,
            record {
              stands = old.there;
              is = is;
              same = same;
              high = user_number old.row def.id.0 (space_begins old.row def is) old.of_user;
              without = without;
              no_tuples = no_tuples;
            },
          )

      by_kind : (describes_schema space_rows ≡ false) ⊎ AddsOrDrops before space_rows key None → (row : List ℕ) × (def : SpaceDef) × DroppedSpace before key row def
      by_kind (inl elsewhere) = absurd (true≢false elsewhere)
      by_kind (inr is) = drops is

  -- what an index that may be made takes of its space
  index_takes : (index : IndexRow) (schema : Schema) → schema_of before index.space.0 ≡ Some schema → index_with index.def.id.0 schema.indexes ≡ None
      → build_fault_on (tuples_in before index.space.0) index.def (schema_of before index.space.0) ≡ None
      → (index.def.id.0 ≡ 0 → tuples_in before index.space.0 ≡ empty) × HaveKeys index.def (tuples_in before index.space.0) × Alone (tuples_in before index.space.0) index.def
  index_takes index schema there absent e = by_test (index.def.id.0 == 0) refl
    where
      all : Tuples
      all = tuples_in before index.space.0

      no_fault : (fault : Option BuildFault) → option_map (build_refusal schema index.def) fault ≡ None → fault ≡ None
      no_fault None e = refl
      no_fault (Some why) e = absurd cc

      first_none : index.def.id.0 ≡ 0 → all ≡ empty
      first_none zero = no_primary_no_tuples before sound index.space.0 schema there (ap (λ n. index_with n schema.indexes) (sym zero) ∙ absent)

      none_alone : (tuples : Tuples) → tuples ≡ empty → Alone tuples index.def
      none_alone tuples none u one other first second k here = absurd (no first (sym here ∙ ap (λ (t : Tuples). get t one) none))
        where
          no : (first : List ℕ) → Some first ≡ get (empty {X = List ℕ} {R = key_cmp}) one → ⊥
          no first e = let none : Some first ≡ None = e ∙ get-empty key_cmp one in absurd cc

      by_test : (b : Bool) → (index.def.id.0 == 0) ≡ b → (index.def.id.0 ≡ 0 → all ≡ empty) × HaveKeys index.def all × Alone all index.def
      by_test true e =
          let none = first_none (eqb-true index.def.id.0 0 e) in
          (first_none, subst (HaveKeys index.def) (sym none) (each_none _), none_alone all none)
      by_test false other =
          let has = built_has index.def other all (no_fault (build_fault index.def all) (ap (build_fault_on all index.def) (sym there) ∙ e)) in
          (first_none, has.0, has.1)

  pub added_index : (key : Key) (row : List ℕ) → MayChange before index_rows key (Some row) → (index : IndexRow) × AddedIndex before key row index
  added_index key row changes = by_kind changes.kind
    where
      adds : Adds before index_rows key row → (index : IndexRow) × AddedIndex before key row index
      adds new =
          let may = addable before row new.described in
          let parts = index_rows_key before sound changes.schema changes.primary changes.described changes.there in
          let same : key ≡ two_key may.index.space.0 may.index.def.id.0 = index_key row key may.index may.is (ap (λ p. key_in p row) (sym parts) ∙ changes.fits.own) in
          let absent = ap (get (tuples_in before index_rows)) (sym same) ∙ new.absent in
          let no_index : index_with may.index.def.id.0 may.schema.indexes ≡ None =
          ap (index_with may.index.def.id.0) (indexes_are before may.index.space.0 may.schema may.there)
          ∙ no_index_there before may.index.space.0 may.index.def.id.0 sound.described.indexes absent in
          let (first, have, alone) = index_takes may.index may.schema may.there no_index (ap (build_fault_by before) (sym may.is) ∙ new.made) in (
            may.index,
            record {
              schema = may.schema;
              is = may.is;
              same = same;
              high = user_number row may.index.space.0 (index_begins row may.index may.is) new.of_user;
              there = may.there;
              beside = may.beside;
              no_row = absent;
              no_index = no_index;
              first = first;
              have = have;
              alone = alone;
            },
          )

      by_kind : (describes_schema index_rows ≡ false) ⊎ AddsOrDrops before index_rows key (Some row) → (index : IndexRow) × AddedIndex before key row index
      by_kind (inl elsewhere) = absurd (true≢false elsewhere)
      by_kind (inr is) = adds is

  pub dropped_index : (key : Key) → MayChange before index_rows key None → (row : List ℕ) × (index : IndexRow) × DroppedIndex before key row index
  dropped_index key changes = by_kind changes.kind
    where
      may_last : (index : IndexRow) (schema : Schema) → (if index.def.id.0 == 0 then unless_others schema.def.name (other_indexes schema.indexes) else None) ≡ None
          → index.def.id.0 ≡ 0 → other_indexes schema.indexes ≡ []
      may_last index schema may zero =
          no_others schema.def.name (other_indexes schema.indexes)
          (ap (λ n. if n == 0 then unless_others schema.def.name (other_indexes schema.indexes) else None) (sym zero) ∙ may)

      drops : Drops before index_rows key → (row : List ℕ) × (index : IndexRow) × DroppedIndex before key row index
      drops old =
          let (index, is, same) = index_row_found before sound key old.row old.there in
          by_schema index is same (schema_of before index.space.0) refl (ap (index_drop_fault before) (sym is) ∙ old.may)
        where
          by_schema : (index : IndexRow) → index_in old.row ≡ Some index → key ≡ two_key index.space.0 index.def.id.0 → (schema : Option Schema)
              → schema_of before index.space.0 ≡ schema → index_drop_on index.def.id.0 schema ≡ None
              → (row : List ℕ) × (index : IndexRow) × DroppedIndex before key row index
          by_schema index is same None there may =
              absurd (has_indexes before index.space.0 index.def.id.0 old.row sound.described.indexes (ap (get (tuples_in before index_rows)) (sym same) ∙ old.there)
              (sound.described.have index.space.0 there))
          by_schema index is same (Some schema) there may = (
            old.row,
            index,
            record {
              schema = schema;
              stands = old.there;
              is = is;
              same = same;
              high = user_number old.row index.space.0 (index_begins old.row index is) old.of_user;
              there = there;
              last = may_last index schema may;
            },
          )

      by_kind : (describes_schema index_rows ≡ false) ⊎ AddsOrDrops before index_rows key None → (row : List ℕ) × (index : IndexRow) × DroppedIndex before key row index
      by_kind (inl elsewhere) = absurd (true≢false elsewhere)
      by_kind (inr is) = drops is

  -- ---- the same of what the code read

  one_space : (one other : SpaceDef) → Some one ≡ Some other → one ≡ other
  one_space one other e = cc

  one_index : (one other : IndexRow) → Some one ≡ Some other → one ≡ other
  one_index one other e = cc

  one_row : (one other : List ℕ) → Some one ≡ Some other → one ≡ other
  one_row one other e = cc

  pub this_space_added : (key : Key) (row : List ℕ) (def : SpaceDef) → MayChange before space_rows key (Some row) → space_in row ≡ Some def → AddedSpace before key row def
  this_space_added key row def changes is =
      let (found, new) = added_space key row changes in subst (AddedSpace before key row) (one_space found def (sym new.is ∙ is)) new

  pub this_space_dropped : (key : Key) (row : List ℕ) (def : SpaceDef) → MayChange before space_rows key None → get (tuples_in before space_rows) key ≡ Some row → space_in row ≡ Some def
      → DroppedSpace before key row def
  this_space_dropped key row def changes stands is =
      let (old_row, found, old) = dropped_space key changes in
      let same : old_row ≡ row = one_row old_row row (sym old.stands ∙ stands) in
      let here = subst (λ r. DroppedSpace before key r found) same old in
      subst (DroppedSpace before key row) (one_space found def (sym here.is ∙ is)) here

  pub this_index_added : (key : Key) (row : List ℕ) (index : IndexRow) → MayChange before index_rows key (Some row) → index_in row ≡ Some index → AddedIndex before key row index
  this_index_added key row index changes is =
      let (found, new) = added_index key row changes in subst (AddedIndex before key row) (one_index found index (sym new.is ∙ is)) new

  pub this_index_dropped : (key : Key) (row : List ℕ) (index : IndexRow) → MayChange before index_rows key None → get (tuples_in before index_rows) key ≡ Some row → index_in row ≡ Some index
      → DroppedIndex before key row index
  this_index_dropped key row index changes stands is =
      let (old_row, found, old) = dropped_index key changes in
      let same : old_row ≡ row = one_row old_row row (sym old.stands ∙ stands) in
      let here = subst (λ r. DroppedIndex before key r found) same old in
      subst (DroppedIndex before key row) (one_index found index (sym here.is ∙ is)) here

  -- an index that isn't there yet may be made of its space's tuples
  pub can_build : (space : ℕ) (schema : Schema) (primary : IndexDef) (key : Key) (row : List ℕ) → schema_of before space ≡ Some schema → index_with 0 schema.indexes ≡ Some primary
      → key_in primary.key row ≡ Ok key → description_fault before space row ≡ None → get (tuples_in before space) key ≡ None → CanBuild before space row
  can_build space schema primary key row described there own may absent rows index is =
      let this = addable before row (ap (λ n. description_fault before n row) (sym rows) ∙ may) in
      let same : this.index ≡ index = one_index this.index index (sym this.is ∙ is) in
      let parts = index_rows_key before sound schema primary (ap (schema_of before) (sym rows) ∙ described) there in
      let key_is : key ≡ two_key this.index.space.0 this.index.def.id.0 = index_key row key this.index this.is (ap (λ p. key_in p row) (sym parts) ∙ own) in
      let no_row : get (tuples_in before index_rows) (two_key this.index.space.0 this.index.def.id.0) ≡ None =
      ap (get (tuples_in before index_rows)) (sym key_is) ∙ ap (λ n. get (tuples_in before n) key) (sym rows) ∙ absent in
      let no_index : index_with this.index.def.id.0 this.schema.indexes ≡ None =
      ap (index_with this.index.def.id.0) (indexes_are before this.index.space.0 this.schema this.there)
      ∙ no_index_there before this.index.space.0 this.index.def.id.0 sound.described.indexes no_row in
      subst (CanBeMade before) same (record {
        first = λ zero. no_primary_no_tuples before sound this.index.space.0 this.schema this.there (ap (λ n. index_with n this.schema.indexes) (sym zero) ∙ no_index);
        other = λ other found apart none. beside this.index.def (this.index.def.id.0 == 0) refl other.indexes apart none
            (ap (λ (s : Schema). lacks_primary s.indexes this.index.def) (one_schema other this.schema (sym found ∙ this.there)) ∙ this.beside);
      })
    where
      one_schema : (x y : Schema) → Some x ≡ Some y → x ≡ y
      one_schema x y e = cc

      beside : (def : IndexDef) (b : Bool) → (def.id.0 == 0) ≡ b → (indexes : List IndexDef) → def.id.0 ≢ 0 → index_with 0 indexes ≡ None → lacks_primary indexes def ≡ false → ⊥
      beside def true zero indexes apart none lacks = apart (eqb-true def.id.0 0 zero)
      beside def false other indexes apart none lacks = true≢false (sym (λ i. not (other i) && is_none (none i)) ∙ lacks)
