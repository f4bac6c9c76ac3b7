-- The tuple that holds a key, where own writes stand over a space.
use Rattle.std.proofs.Common.{◌≡◌, ◌≢◌, ℕ, true, false, List, [], ◌∷◌, Option, Some, None, Ok, inl, inr, refl, sym, ap, ◌∙◌, true≢false}
use Rattle.std.specs.Prelude.{◌⊎◌, is_some}
use Rattle.std.specs.FinMap.{empty, entries, get, get-empty}
use Rattle.std.specs.List.{AllByRecursion}
use Rattle.std.specs.Option.{unwrap_or}
use Rattle.mx_key.specs.Keys.{Key, key_cmp}
use Rattle.mx_schema.specs.declared.index_def.IndexDef.{IndexDef}
use Rattle.mx_schema.specs.Picks.{Indexed, entry_key, tuples_by_index}
use Rattle.mx_schema.specs.Sound.{AreUnique, HaveKeys}
use Rattle.mx_schema.specs.State.{Tuples, key_in}
use Rattle.mx_schema.proofs.StoredLaws.{other_index}
use Rattle.mx_schema.proofs.TakenLaws.{each_found}
use Rattle.mx_entries.specs.KeptEntries.{HoldsOneEach}
use Rattle.mx_entries.specs.OwnWrites.{IsHolder, OwnWrites, under}
use Rattle.mx_entries.proofs.HolderKeyLaws.{one_holder, unique_apart}
use Rattle.mx_entries.proofs.IndexedLaws.{held_is, held_there, each_is_found}
use Rattle.mx_entries.proofs.UnderLaws.{get-under}

some_none : {A : Type 0} (x : A) → ◌≡◌ {A = Option A} None (Some x) → ⊥
some_none x e = absurd cc

pub not_some : {A : Type 0} (o : Option A) → is_some o ≡ false → o ≡ None
not_some None e = refl
not_some (Some x) e = absurd (true≢false e)

abbrev pub no_tuple : Key → Option (List ℕ)
no_tuple key = get (empty {X = List ℕ} {R = key_cmp}) key

module _ (written : OwnWrites) (all : Tuples) (key : Key) where
  -- a key that wasn't written has its tuple
  pub not_written : get written key ≡ None → get (under written all) key ≡ get all key
  not_written none = get-under written all key ∙ ap (λ o. unwrap_or o (get all key)) none

  -- one that was has what was written, whatever is under it
  pub was_written : is_some (get written key) ≡ true → get (under written empty) key ≡ get (under written all) key
  was_written some = get-under written empty key ∙ by_write (get written key) some ∙ sym (get-under written all key)
    where
      by_write : (o : Option (Option (List ℕ))) → is_some o ≡ true → unwrap_or o (no_tuple key) ≡ unwrap_or o (get all key)
      by_write None e = absurd (true≢false (sym e))
      by_write (Some write) e = refl

  -- a tuple that was put is seen
  pub own_is_seen : (tuple : List ℕ) → get (under written empty) key ≡ Some tuple → get (under written all) key ≡ Some tuple
  own_is_seen tuple own = get-under written all key ∙ by_write (get written key) (sym (get-under written empty key) ∙ own)
    where
      by_write : (o : Option (Option (List ℕ))) → unwrap_or o (no_tuple key) ≡ Some tuple → unwrap_or o (get all key) ≡ Some tuple
      by_write None is = absurd (some_none tuple (sym (get-empty key_cmp key) ∙ is))
      by_write (Some write) is = is

  -- a tuple that is seen was put, or is one of those under the writes
  pub seen_from : (tuple : List ℕ) → get (under written all) key ≡ Some tuple
      → (get (under written empty) key ≡ Some tuple) ⊎ ((get written key ≡ None) × (get all key ≡ Some tuple))
  seen_from tuple seen = by_write (get written key) refl (sym (get-under written all key) ∙ seen)
    where
      by_write : (o : Option (Option (List ℕ))) → get written key ≡ o → unwrap_or o (get all key) ≡ Some tuple
          → (get (under written (empty {X = List ℕ} {R = key_cmp})) key ≡ Some tuple) ⊎ ((get written key ≡ None) × (get all key ≡ Some tuple))
      by_write None none is = inr (none, is)
      by_write (Some write) some is = inl (get-under written empty key ∙ ap (λ o. unwrap_or o (no_tuple key)) some ∙ is)

-- what each tuple that is seen has, each own one has
pub each_own : (P : Indexed → Type 0) (written : OwnWrites) (all : Tuples) → AllByRecursion P (entries (under written all)) → AllByRecursion P (entries (under written empty))
each_own P written all have = through (entries (under written empty)) (each_is_found (under written empty))
  where
    through : (some : List Indexed) → AllByRecursion (λ (entry : Indexed). get (under written empty) entry.0 ≡ Some entry.1) some → AllByRecursion P some
    through [] found = tt
    through (entry ∷ some) found =
        (each_found entry.0 P (under written all) entry.1 (own_is_seen written all entry.0 entry.1 found.0) have, through some found.1)

-- ---- the tuple that has a key in a unique index

-- own tuples are unique and have keys where all that are seen do
pub own_one_each : (def : IndexDef) (written : OwnWrites) (all : Tuples) → HoldsOneEach def (under written all) → HoldsOneEach def (under written empty)
own_one_each def written all (inl first) = inl first
own_one_each def written all (inr (unique, one_each, have)) = inr (
  unique,
  (λ one other first second key here there. one_each one other first second key (own_is_seen written all one first here) (own_is_seen written all other second there)),
  each_own (λ entry. (key : Key) × (key_in def.key entry.1 ≡ Ok key)) written all have,
)

pub unique_of : (def : IndexDef) (all : Tuples) → def.id.0 ≢ 0 → HoldsOneEach def all → (def.unique ≡ true) × AreUnique def all × HaveKeys def all
unique_of def all apart (inl first) = absurd (apart first)
unique_of def all apart (inr each) = each

-- the tuple that has a key is that of a primary key
module _ (def : IndexDef) (apart : def.id.0 ≢ 0) (tuples : Tuples) (each : HoldsOneEach def tuples) (wanted : Key) where
  pub unique : (def.unique ≡ true) × AreUnique def tuples × HaveKeys def tuples
  unique = unique_of def tuples apart each

  pub holder_of : (tuple : List ℕ) → get (tuples_by_index def tuples) wanted ≡ Some tuple → (primary : Key) × (get tuples primary ≡ Some tuple) × (entry_key def primary tuple ≡ wanted)
  holder_of tuple is =
      held_there def tuples (unique_apart def unique.0 tuples unique.1 unique.2) wanted tuple (sym (ap (λ t. get t wanted) (other_index def tuples apart)) ∙ is)

  holds_key : (primary : Key) (tuple : List ℕ) → get tuples primary ≡ Some tuple → entry_key def primary tuple ≡ wanted → get (tuples_by_index def tuples) wanted ≡ Some tuple
  holds_key primary tuple there is =
      ap (λ t. get t wanted) (other_index def tuples apart) ∙ held_is def tuples (unique_apart def unique.0 tuples unique.1 unique.2) wanted primary tuple there is

  same_holder : (one other : Key) (tuple : List ℕ) → get tuples one ≡ Some tuple → get tuples other ≡ Some tuple → one ≡ other
  same_holder one other tuple here there = one_holder def unique.0 tuples unique.1 unique.2 one other tuple tuple here there refl

module _ (def : IndexDef) (apart : def.id.0 ≢ 0) (written : OwnWrites) (all : Tuples) (each : HoldsOneEach def all) (each_seen : HoldsOneEach def (under written all)) (wanted : Key) where
  -- an own tuple has it
  pub own_holds : (tuple : List ℕ) → get (tuples_by_index def (under written empty)) wanted ≡ Some tuple → Some tuple ≡ get (tuples_by_index def (under written all)) wanted
  own_holds tuple is =
      let own = holder_of def apart (under written empty) (own_one_each def written all each_seen) wanted tuple is in
      sym (holds_key def apart (under written all) each_seen wanted own.0 tuple (own_is_seen written all own.0 tuple own.1) own.2)

  module _ (none_own : get (tuples_by_index def (under written empty)) wanted ≡ None) where
    -- else one of the others that are seen
    seen_holder : (tuple : List ℕ) → get (tuples_by_index def (under written all)) wanted ≡ Some tuple
        → (primary : Key) × (get written primary ≡ None) × (get all primary ≡ Some tuple) × (entry_key def primary tuple ≡ wanted)
    seen_holder tuple is =
        let seen = holder_of def apart (under written all) each_seen wanted tuple is in
        by_case seen.0 seen.2 (seen_from written all seen.0 tuple seen.1)
      where
        by_case : (primary : Key) → entry_key def primary tuple ≡ wanted
            → (get (under written empty) primary ≡ Some tuple) ⊎ ((get written primary ≡ None) × (get all primary ≡ Some tuple))
            → (primary : Key) × (get written primary ≡ None) × (get all primary ≡ Some tuple) × (entry_key def primary tuple ≡ wanted)
        by_case primary key (inl own) =
            absurd (some_none tuple (sym none_own ∙ holds_key def apart (under written empty) (own_one_each def written all each_seen) wanted primary tuple own key))
        by_case primary key (inr (none, there)) = (primary, none, there, key)

    none_unless : ((tuple : List ℕ) → get (tuples_by_index def (under written all)) wanted ≡ Some tuple → ⊥) → None ≡ get (tuples_by_index def (under written all)) wanted
    none_unless never = by_found (get (tuples_by_index def (under written all)) wanted) refl
      where
        by_found : (o : Option (List ℕ)) → get (tuples_by_index def (under written all)) wanted ≡ o → None ≡ o
        by_found None is = refl
        by_found (Some tuple) is = absurd (never tuple is)

    -- none has it
    pub none_seen : None ≡ get (tuples_by_index def all) wanted → None ≡ get (tuples_by_index def (under written all)) wanted
    none_seen none = none_unless (λ tuple is.
        let seen = seen_holder tuple is in some_none tuple (none ∙ holds_key def apart all each wanted seen.0 tuple seen.2 seen.3))

    module _ (bytes : List ℕ) (holder : IsHolder def all wanted bytes) where
      -- the one that has it is hidden
      pub hidden_holder : is_some (get written holder.own) ≡ true → None ≡ get (tuples_by_index def (under written all)) wanted
      hidden_holder hidden = none_unless (λ tuple is.
          let seen = seen_holder tuple is in
          let found : get all holder.own ≡ Some tuple = holder.holds ∙ holds_key def apart all each wanted seen.0 tuple seen.2 seen.3 in
          let same : holder.own ≡ seen.0 = same_holder def apart all each wanted holder.own seen.0 tuple found seen.2 in
          true≢false (sym hidden ∙ ap (λ k. is_some (get written k)) same ∙ ap is_some seen.1))

      -- it isn't
      pub shown_holder : is_some (get written holder.own) ≡ false → get all holder.own ≡ get (tuples_by_index def (under written all)) wanted
      shown_holder shown = by_found (get all holder.own) refl
        where
          by_found : (o : Option (List ℕ)) → get all holder.own ≡ o → o ≡ get (tuples_by_index def (under written all)) wanted
          by_found None is = none_seen (sym is ∙ holder.holds)
          by_found (Some tuple) is =
              let base = holder_of def apart all each wanted tuple (sym holder.holds ∙ is) in
              let same : base.0 ≡ holder.own = same_holder def apart all each wanted base.0 holder.own tuple base.1 is in
              sym (holds_key def apart (under written all) each_seen wanted holder.own tuple
              (not_written written all holder.own (not_some (get written holder.own) shown) ∙ is)
              (ap (λ k. entry_key def k tuple) (sym same) ∙ base.2))
