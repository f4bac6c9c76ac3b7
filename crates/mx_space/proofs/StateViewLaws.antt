-- What a view of a state shows of one space.
use Rattle.std.proofs.Common.{◌≡◌, ℕ, Bool, Bor, true, false, List, length, Option, Some, None, inl, inr, refl, sym, ap, ◌∙◌, subst, eq-eqb, true≢false}
use Rattle.std.specs.Prelude.{◌⊎◌, ◌==◌, IfSome, if◌then◌else◌}
use Rattle.std.specs.FinMap.{empty, entries}
use Rattle.std.specs.Option.{option_copied}
use Rattle.mx_schema.specs.declared.index_def.IndexDef.{IndexDef}
use Rattle.mx_schema.specs.declared.schema.Schema.{Schema}
use Rattle.mx_schema.specs.Catalogues.{StandByKey, index_with, schema_of}
use Rattle.mx_schema.specs.Sound.{AreKeyed, AreUnique, HaveKeys}
use Rattle.mx_schema.specs.State.{State, Tuples, index_rows, shown_index_rows, shown_space_rows, source_of, space_rows, tuples_in}
use Rattle.mx_schema.specs.Stored.{StandByPrimary, StoresNone}
use Rattle.mx_schema.proofs.PartLaws.{stand_whole}
use Rattle.mx_schema.proofs.StoredLaws.{each_none}
use Rattle.mx_space.specs.declared.own_changes.Overlay.{Overlay}
use Rattle.mx_space.specs.declared.state_view.StateView.{StateView}
use Rattle.mx_space.specs.declared.view.SpaceView.{SpaceView}
use Rattle.mx_entries.specs.Built.{AreLong}
use Rattle.mx_entries.specs.KeptEntries.{HoldsOneEach}
use Rattle.mx_space.specs.Kept.{StoresIndexed}
use Rattle.mx_space.specs.Overlays.{StoresOver}
use Rattle.mx_entries.specs.OwnWrites.{under}
use Rattle.mx_space.specs.OwnChanges.{HoldsOwnIn, HoldsView, ShowsTuples, overlaid_in}
use Rattle.mx_entries.specs.OwnStates.{written_by}
use Rattle.mx_entries.specs.PlainChanges.{PlainChange}
use Rattle.mx_space.specs.Spaces.{space_under}
use Rattle.mx_space.specs.Stored.{HoldsSpace}
use Rattle.mx_entries.proofs.OwnStateLaws.{index_rows_kept, space_rows_kept}
use Rattle.mx_space.proofs.OwnHeldLaws.{schema_seen, tuples_seen}
use Rattle.mx_space.proofs.SpaceLaws.{index_has}

-- nothing is lent of none
pub none_lent : {X : Type 0} (lent : Option (Bor X)) → option_copied lent ≡ None → lent ≡ None
none_lent None none = refl
none_lent (Some x) none = absurd cc

-- the own writes in a space, where there may be no overlay
stores_over : (schemas : ℕ → Option Schema) (overlay : Option Overlay) (own : List PlainChange) (space : ℕ) → HoldsOwnIn schemas overlay own
    → StoresOver (schemas space) (overlaid_in space overlay) (written_by space own)
stores_over schemas None own space none = ap (written_by space) none
stores_over schemas (Some overlay) own space holds = holds.each space

module _ (view : StateView) (seen : State) (holds : HoldsView view seen) (id : ℕ) where
  -- a space that is there is shown under its own writes
  pub shows_space : (space : SpaceView) → Some space.space.now ≡ space_under id view.state.now.spaces.entries.items → option_copied space.over ≡ overlaid_in id (option_copied view.over)
      → ShowsTuples (schema_of seen id) space (tuples_in seen id)
  shows_space space there over = record {
    all = tuples_in holds.base id;
    written = written_by id holds.own;
    sees = record {
      state = subst (λ s. StoresIndexed s space.space.now (tuples_in holds.base id)) (sym (schema_seen view seen holds id))
          (subst (λ o. HoldsSpace (schema_of holds.base id) o (tuples_in holds.base id)) (sym there) (holds.holds.spaces id));
      over = subst (λ s. StoresOver s (option_copied space.over) (written_by id holds.own)) (sym (schema_seen view seen holds id))
          (subst (λ o. StoresOver (schema_of holds.base id) o (written_by id holds.own)) (sym over) (stores_over (schema_of holds.base) (option_copied view.over) holds.own id holds.over));
    };
    is = tuples_seen view seen holds id;
    stored = subst (λ s. AreKeyed s (tuples_in holds.base id)) (sym (schema_seen view seen holds id)) (holds.holds.sound.keyed id);
    shown = holds.sound.keyed id;
  }

  -- none is shown where there is none
  pub shows_none : None ≡ space_under id view.state.now.spaces.entries.items → StoresNone (schema_of seen id) (tuples_in seen id)
  shows_none none = record { none = no_schema; no_tuples = subst (λ s. AreKeyed s (tuples_in seen id)) no_schema (holds.sound.keyed id) }
    where
      stored : StoresNone (schema_of holds.base id) (tuples_in holds.base id)
      stored = subst (λ o. HoldsSpace (schema_of holds.base id) o (tuples_in holds.base id)) (sym none) (holds.holds.spaces id)

      no_schema : schema_of seen id ≡ None
      no_schema = schema_seen view seen holds id ∙ stored.none

-- the primary keys of what is stored and of what is shown have one number of parts
pub shown_long : (schema : Schema) (all tuples : Tuples) → AreKeyed (Some schema) all → AreKeyed (Some schema) tuples → (long : ℕ) × AreLong long all × AreLong long tuples
shown_long schema all tuples stored shown = by_index (index_with 0 schema.indexes) refl
  where
    none_long : (some : Tuples) → some ≡ empty → AreLong 0 some
    none_long some none = subst (AreLong 0) (sym none) (each_none (λ entry. length entry.0 ≡ 0))

    by_index : (o : Option IndexDef) → index_with 0 schema.indexes ≡ o → (long : ℕ) × AreLong long all × AreLong long tuples
    by_index None none = (0, none_long all (stored.2.primary none), none_long tuples (shown.2.primary none))
    by_index (Some primary) is = (length primary.key, whole all stored.0, whole tuples shown.0)
      where
        whole : (some : Tuples) → StandByPrimary schema some → AreLong (length primary.key) some
        whole some stands = stand_whole primary.key (entries some) (subst (λ o. IfSome o (λ def. StandByKey def.key some)) is stands)

-- what a SELECT by an index of a space needs of what is stored and what is shown
module _ (schema : Option Schema) (view : SpaceView) (tuples : Tuples) (shows : ShowsTuples schema view tuples) where
  keyed : (some : Tuples) → AreKeyed schema some → AreKeyed (Some view.space.now.schema) some
  keyed some are = subst (λ s. AreKeyed s some) shows.sees.state.holds.is are

  pub long_both : (long : ℕ) × AreLong long shows.all × AreLong long (under shows.written shows.all)
  long_both =
      let long = shown_long view.space.now.schema shows.all tuples (keyed shows.all shows.stored) (keyed tuples shows.shown) in
      (long.0, long.1, subst (AreLong long.0) shows.is long.2)

  module _ (def : IndexDef) (there : index_with def.id.0 view.space.now.schema.indexes ≡ Some def) where
    pub have_shown : HaveKeys def (under shows.written shows.all)
    have_shown = subst (HaveKeys def) shows.is (index_has (λ one. HaveKeys one tuples) def.id.0 view.space.now.schema.indexes def there (keyed tuples shows.shown).2.have)

    pub unique_shown : def.unique ≡ true → AreUnique def (under shows.written shows.all)
    unique_shown unique =
        subst (AreUnique def) shows.is (index_has (λ one. one.unique ≡ true → AreUnique one tuples) def.id.0 view.space.now.schema.indexes def there (keyed tuples shows.shown).2.unique unique)

    one_each : (some : Tuples) → AreKeyed schema some → (def.id.0 ≡ 0) ⊎ (def.unique ≡ true) → HoldsOneEach def some
    one_each some are (inl first) = inl first
    one_each some are (inr unique) = inr (
      unique,
      index_has (λ one. one.unique ≡ true → AreUnique one some) def.id.0 view.space.now.schema.indexes def there (keyed some are).2.unique unique,
      index_has (λ one. HaveKeys one some) def.id.0 view.space.now.schema.indexes def there (keyed some are).2.have,
    )

    -- in a unique index each tuple has its key alone, of those that are stored and of those that are shown
    pub one_each_stored : (def.id.0 ≡ 0) ⊎ (def.unique ≡ true) → HoldsOneEach def shows.all
    one_each_stored = one_each shows.all shows.stored

    pub one_each_shown : (def.id.0 ≡ 0) ⊎ (def.unique ≡ true) → HoldsOneEach def (under shows.written shows.all)
    one_each_shown unique = subst (HoldsOneEach def) shows.is (one_each tuples shows.shown unique)

-- a space that shows another's tuples shows rows that describe spaces or indexes
source_describes : (id : ℕ) → (source_of id == id) ≡ false → (source_of id ≡ space_rows) ⊎ (source_of id ≡ index_rows)
source_describes id apart = by_first (id == shown_space_rows) refl
  where
    by_second : (b : Bool) → (id == shown_index_rows) ≡ b → (id == shown_space_rows) ≡ false → (source_of id ≡ space_rows) ⊎ (source_of id ≡ index_rows)
    by_second true is other =
        inr (ap (λ b. if b then space_rows else if id == shown_index_rows then index_rows else id) other ∙ ap (λ b. if b then index_rows else id) is)
    by_second false is other =
        let same : source_of id ≡ id = ap (λ b. if b then space_rows else if id == shown_index_rows then index_rows else id) other ∙ ap (λ b. if b then index_rows else id) is in
        absurd (true≢false (sym (eq-eqb (source_of id) id same) ∙ apart))

    by_first : (b : Bool) → (id == shown_space_rows) ≡ b → (source_of id ≡ space_rows) ⊎ (source_of id ≡ index_rows)
    by_first true is = inl (ap (λ b. if b then space_rows else if id == shown_index_rows then index_rows else id) is)
    by_first false is = by_second (id == shown_index_rows) refl is

-- which are those under no own writes
pub source_kept : (view : StateView) (seen : State) (holds : HoldsView view seen) (id : ℕ) → (source_of id == id) ≡ false → tuples_in seen (source_of id) ≡ tuples_in holds.base (source_of id)
source_kept view seen holds id apart = by_case (source_describes id apart)
  where
    by_case : (source_of id ≡ space_rows) ⊎ (source_of id ≡ index_rows) → tuples_in seen (source_of id) ≡ tuples_in holds.base (source_of id)
    by_case (inl is) =
        subst (λ n. tuples_in seen n ≡ tuples_in holds.base n) (sym is) (ap (λ s. tuples_in s space_rows) holds.is ∙ space_rows_kept holds.base holds.own holds.plain)
    by_case (inr is) =
        subst (λ n. tuples_in seen n ≡ tuples_in holds.base n) (sym is) (ap (λ s. tuples_in s index_rows) holds.is ∙ index_rows_kept holds.base holds.own holds.plain)
