-- Whether a tuple is another one, and whether an index is free, as the code tests it.
use Rattle.std.proofs.Common.{◌≡◌, ℕ, Bool, true, false, not, List, [], ◌∷◌, Option, Some, None, Result, Ok, Err, refl, sym, ap, ◌∙◌, subst}
use Rattle.std.specs.Prelude.{◌==◌, ◌||◌, if◌then◌else◌}
use Rattle.std.specs.FinMap.{get}
use Rattle.std.specs.Ordering.{is_eq}
use Rattle.std.specs.Str.{bytes_eq}
use Rattle.std.proofs.lemmas.Map.Text.{is_eq-slice_cmp}
use Rattle.std.proofs.lemmas.Bool.{eqb-true}
use Rattle.mx_base.specs.declared.refusal.Refusal.{Refusal}
use Rattle.mx_key.specs.Comparable.{comparable_of}
use Rattle.mx_key.specs.Keys.{Key, AreFit}
use Rattle.mx_key.proofs.EncodingLaws.{bytes_order}
use Rattle.mx_schema.specs.declared.index_def.IndexDef.{IndexDef}
use Rattle.mx_schema.specs.declared.schema.Schema.{Schema}
use Rattle.mx_schema.specs.Catalogues.{index_with}
use Rattle.mx_schema.specs.State.{State, tuples_in}
use Rattle.mx_schema.proofs.StoredLaws.{primary_index}
use Rattle.mx_write.specs.Judged.{Judged, next_stage, unless}
use Rattle.mx_write.specs.Lookup.{holder_of, own_key}
use Rattle.mx_write.specs.Stages.{IsReplaced, refusal_of}
use Rattle.mx_write.specs.Unique.{are_free, duplicate, duplicate_refusal, held_refusal, is_another, is_free, is_free_if_unique, is_same_key}

-- two keys are one where their bytes are
pub same_by_bytes : (one other : Key) → AreFit one → AreFit other → is_same_key one other ≡ bytes_eq (comparable_of one) (comparable_of other)
same_by_bytes one other fits fit = ap is_eq (sym (bytes_order one other fits fit)) ∙ is_eq-slice_cmp (comparable_of one) (comparable_of other)

-- the tuple that was found is another one, by the bytes of its primary key
pub another_is : (primary : IndexDef) (holder : Option (List ℕ)) (tuple : List ℕ) (replaced : Option (List ℕ)) (bytes own : List ℕ) (key : Option Key) (is : Bool)
    → holder ≡ Some tuple → replaced ≡ Some bytes → IsReplaced replaced key → own ≡ comparable_of (own_key primary tuple) → AreFit (own_key primary tuple)
    → is ≡ not (bytes_eq own bytes) → is ≡ is_another primary key holder
another_is primary holder tuple replaced bytes own key is there given are own_is fit test =
    by_key key (subst (λ r. IsReplaced r key) given are) ∙ ap (is_another primary key) (sym there)
  where
    by_key : (key : Option Key) → IsReplaced (Some bytes) key → is ≡ is_another primary key (Some tuple)
    by_key None are = absurd are
    by_key (Some key) (fits, bytes_are) =
        test ∙ (λ i. not (bytes_eq (own_is i) (bytes_are i))) ∙ ap not (sym (same_by_bytes (own_key primary tuple) key fit fits))

pub no_other : (primary : IndexDef) (holder : Option (List ℕ)) (key : Option Key) → holder ≡ None → false ≡ is_another primary key holder
no_other primary holder key none = by_key key ∙ ap (is_another primary key) (sym none)
  where
    by_key : (key : Option Key) → false ≡ is_another primary key None
    by_key None = refl
    by_key (Some key) = refl

-- ---- the primary index

-- the index of a number has that number
pub number_is : (id : ℕ) (defs : List IndexDef) (def : IndexDef) → index_with id defs ≡ Some def → (def.id.0 == id) ≡ true
number_is id [] def e = absurd cc
number_is id (other ∷ others) def e = by_test (number_is id others def) (other.id.0 == id) refl e
  where
    by_test : (index_with id others ≡ Some def → (def.id.0 == id) ≡ true) → (b : Bool) → (other.id.0 == id) ≡ b
        → (if b then Some other else index_with id others) ≡ Some def → (def.id.0 == id) ≡ true
    by_test later true test e = let same : other ≡ def = cc in ap (λ (d : IndexDef). d.id.0 == id) (sym same) ∙ test
    by_test later false test e = later e

module _ (before : State) (space : ℕ) (schema : Schema) (primary : IndexDef) (tuple : List ℕ) (is : index_with 0 schema.indexes ≡ Some primary) where
  abbrev first : ℕ
  first = primary.id.0

  -- the tuple under the primary key
  pub holder_is : (key : Key) → holder_of before space primary key ≡ get (tuples_in before space) key
  holder_is key = ap (λ tuples. get tuples key) (primary_index primary (tuples_in before space) (eqb-true first 0 (number_is 0 schema.indexes primary is)))

  abbrev by_unique : Bool → Judged (Unit {0})
  by_unique unique = if unique then is_free before space schema primary None tuple primary else record { reads = []; outcome = Ok tt }

  -- an INSERT tests it first
  pub tested_first : (is_free_if_unique before space schema primary None tuple primary).outcome ≡ (is_free before space schema primary None tuple primary).outcome
  tested_first = ap (λ b. (by_unique (b || primary.unique)).outcome) (number_is 0 schema.indexes primary is)

  abbrev by_holder : (holder : Option (List ℕ)) → Result (Unit {0}) Refusal
  by_holder holder = (unless (held_refusal before space schema primary None tuple primary holder)).outcome

  pub key_is_taken : (why : Refusal) (old : List ℕ) → get (tuples_in before space) (own_key primary tuple) ≡ Some old → why ≡ duplicate_refusal space schema primary (Some old)
      → (others : List IndexDef) → Some why ≡ refusal_of (are_free before space schema primary None tuple (primary ∷ others)).outcome
  key_is_taken why old there told others =
      let refuses : (is_free_if_unique before space schema primary None tuple primary).outcome ≡ Err why =
      tested_first ∙ ap by_holder (holder_is (own_key primary tuple) ∙ there) ∙ ap (λ r. Err r) (sym told) in
      ap (λ outcome. refusal_of (next_stage (is_free_if_unique before space schema primary None tuple primary).reads outcome (λ _. are_free before space schema primary None tuple others)).outcome) (sym refuses)

  pub key_is_free : get (tuples_in before space) (own_key primary tuple) ≡ None → (others : List IndexDef)
      → refusal_of (are_free before space schema primary None tuple (primary ∷ others)).outcome ≡ refusal_of (are_free before space schema primary None tuple others).outcome
  key_is_free none others =
      let passes : (is_free_if_unique before space schema primary None tuple primary).outcome ≡ Ok tt =
      tested_first ∙ ap by_holder (holder_is (own_key primary tuple) ∙ none) in
      ap (λ outcome. refusal_of (next_stage (is_free_if_unique before space schema primary None tuple primary).reads outcome (λ _. are_free before space schema primary None tuple others)).outcome) passes

-- ---- another index

-- the code's answer is what the definition says, by the tuple that was found
module _ (before : State) (space : ℕ) (schema : Schema) (primary : IndexDef) (key : Option Key) (tuple : List ℕ) (def : IndexDef) where
  unless_is : (fault : Option Refusal) → fault ≡ refusal_of (unless fault).outcome
  unless_is None = refl
  unless_is (Some why) = refl

  pub free_by : (told : Option Refusal) (holder : Option (List ℕ)) → holder ≡ holder_of before space def (own_key def tuple)
      → told ≡ held_refusal before space schema primary key tuple def holder → told ≡ refusal_of (is_free before space schema primary key tuple def).outcome
  free_by told holder is same =
      same ∙ ap (held_refusal before space schema primary key tuple def) is ∙ unless_is (held_refusal before space schema primary key tuple def (holder_of before space def (own_key def tuple)))

  pub none_held : None ≡ held_refusal before space schema primary key tuple def None
  none_held = ap (duplicate space schema def None) (no_other primary None key refl)

  pub held_by_same : (held : List ℕ) (is : Bool) → is ≡ is_another primary key (Some held) → is ≡ false → None ≡ held_refusal before space schema primary key tuple def (Some held)
  held_by_same held is told same = ap (duplicate space schema def (Some held)) (sym same ∙ told)

  pub held_by_another : (held : List ℕ) (is : Bool) (why : Refusal) → is ≡ is_another primary key (Some held) → is ≡ true → why ≡ duplicate_refusal space schema def (Some held)
      → Some why ≡ held_refusal before space schema primary key tuple def (Some held)
  held_by_another held is why told yes_is refused = ap (λ w. Some w) refused ∙ ap (duplicate space schema def (Some held)) (sym yes_is ∙ told)
