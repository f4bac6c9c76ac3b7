-- What memory holds after the change that a write came to.
use Rattle.std.proofs.Common.{◌≡◌, ◌⊎◌, inl, inr, ℕ, List, [], ◌∷◌, Option, Some, None, Result, Ok, Err, refl, sym, ap, ◌∙◌, subst}
use Rattle.std.specs.Prelude.{MatchResult, OnOk, OnErr}
use Rattle.std.specs.FinMap.{get}
use Rattle.std.specs.Option.{IfNone}
use Rattle.mx_key.specs.Keys.{Key, AreFit}
use Rattle.mx_schema.specs.Catalogues.{schema_of}
use Rattle.mx_schema.specs.State.{State, tuples_in}
use Rattle.mx_space.specs.declared.state.State as coded
use Rattle.mx_space.specs.Spaces.{space_under}
use Rattle.mx_space.specs.Stored.{Holds, HoldsBy, HoldsSpace}
use Rattle.mx_judge.specs.declared.made.Effect.TheVariants.{Removed}
use Rattle.mx_judge.specs.declared.made.Made as code
use Rattle.mx_write.specs.declared.writable.Writer.{Writer}
use Rattle.mx_key.specs.Arrays.{key_array}
use Rattle.mx_write.specs.Change.{Change, state_after_change, state_after_changed}
use Rattle.mx_write.specs.Installs.{MayChange}
use Rattle.mx_write.specs.Judge.{judged_write}
use Rattle.mx_write.specs.Lookup.{tuple_under}
use Rattle.mx_write.specs.Made.{Made, nothing, row_with}
use Rattle.mx_judge.specs.Makes.{MakesWrite, tuple_after, tuples_shown}
use Rattle.mx_write.specs.Writes.{Write}
use Rattle.mx_write.proofs.EachSpaceLaws.{OfSpace, change_of}
use Rattle.mx_write.proofs.SoundLaws.{change_sound}
use Rattle.mx_write.proofs.WrittenLaws.{Wrote, makes as makes_so, wrote}

-- what a call tells at Ok and at Err
pub both_ends : {X E : Type 0} (P Q : Type 0) (result : Result X E) → OnOk result P → OnErr result Q → MatchResult result (λ _. P) (λ _. Q)
both_ends P Q (Ok x) ok err = ok
both_ends P Q (Err e) ok err = err

-- what either end of a call tells
pub at_either : {X E P Q R S : Type 0} (result : Result X E) → MatchResult result (λ _. P) (λ _. Q) → (P → R) → (Q → S) → MatchResult result (λ _. R) (λ _. S)
at_either (Ok x) told ok err = ok told
at_either (Err e) told ok err = err told

-- what memory has of each space
abbrev pub held : coded.State → OfSpace
held memory = λ space schema tuples. HoldsSpace schema (space_under space memory.spaces.entries.items) tuples

module _ (before : State) (memory : coded.State) (holds : Holds memory before) (space : ℕ) (key : Key) (fit : AreFit key) (tuple : Option (List ℕ)) (changes : MayChange before space key tuple) where
  -- memory has what comes after a change, where it has the tuples of that state by its descriptions
  pub held_after : (new : coded.State) → HoldsBy (schema_of (state_after_change before (change_of space key tuple))) new (state_after_change before (change_of space key tuple))
      → Holds new (state_after_change before (change_of space key tuple))
  held_after new has = record { spaces = has; sound = change_sound before holds.sound space key tuple fit changes }

pub held_before : (before : State) (memory new : coded.State) → Holds memory before → HoldsBy (schema_of before) new before → Holds new before
held_before before memory new holds has = record { spaces = has; sound = holds.sound }

-- ---- what a write came to

module _ (before : State) (space : ℕ) (write : Write) (one : code.Made) (made : Made) (makes : MakesWrite before space write one made) (writer : Writer)
    (outcome : (judged_write writer before space write).outcome ≡ Ok made) where
  wrote_so : Wrote before space write made
  wrote_so = by_case (wrote writer before space made write outcome)
    where
      by_case : (made ≡ nothing) ⊎ Wrote before space write made → Wrote before space write made
      by_case (inl none) = let change = makes.change in let same = ap (λ (m : Made). m.change) none in absurd cc
      by_case (inr so) = so

  its_made : made ≡ record { row = Some (row_with space write (key_array wrote_so.key)); change = Some (change_of space wrote_so.key wrote_so.tuple); shown = wrote_so.shown }
  its_made = (makes_so space write wrote_so.key wrote_so.tuple wrote_so.shown made wrote_so.made).1

  same_change : change_of space wrote_so.key wrote_so.tuple ≡ change_of space makes.key (tuple_after one.effect)
  same_change = one_change _ _ (sym (ap (λ (m : Made). m.change) its_made) ∙ makes.change)
    where
      one_change : (x y : Change) → Some x ≡ Some y → x ≡ y
      one_change x y e = cc

  -- it was judged by what it changes
  pub judged_so : MayChange before space makes.key (tuple_after one.effect)
  judged_so = subst (λ (change : Change). MayChange before space change.key change.tuple) same_change wrote_so.changes

  pub changed_so : (P : State → Type 0) → P (state_after_change before (change_of space makes.key (tuple_after one.effect))) → P (state_after_changed before made.change)
  changed_so P = subst (λ change. P (state_after_changed before change)) (sym makes.change)

  -- what it removes stood there
  pub stood_so : (tuple : List ℕ) → one.effect ≡ Removed tuple → get (tuples_in before space) makes.key ≡ Some tuple
  stood_so tuple removed = by_tuple wrote_so.tuple refl wrote_so.shows
    where
      key_same : wrote_so.key ≡ makes.key
      key_same = ap (λ (change : Change). change.key) same_change

      shown_same : wrote_so.shown ≡ tuple ∷ []
      shown_same = sym (ap (λ (m : Made). m.shown) its_made) ∙ makes.shown ∙ ap tuples_shown removed

      one_tuple : (x y : List ℕ) → x ∷ [] ≡ y ∷ [] → x ≡ y
      one_tuple x y e = cc

      by_tuple : (put : Option (List ℕ)) → wrote_so.tuple ≡ put → IfNone put ((old : List ℕ) × (tuple_under before space wrote_so.key ≡ Some old) × (wrote_so.shown ≡ old ∷ []))
          → get (tuples_in before space) makes.key ≡ Some tuple
      by_tuple (Some put) is shows =
          let no : Some put ≡ None = sym is ∙ ap (λ (change : Change). change.tuple) same_change ∙ ap tuple_after removed in absurd cc
      by_tuple None is (old, stands, shown) =
          ap (get (tuples_in before space)) (sym key_same) ∙ stands ∙ ap (λ t. Some t) (one_tuple old tuple (sym shown ∙ shown_same))
