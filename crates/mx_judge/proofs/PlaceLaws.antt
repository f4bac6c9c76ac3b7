-- The stages that put a tuple in the place of the one with its primary key.
use Rattle.std.proofs.Common.{◌≡◌, inl, ℕ, Bool, true, false, not, List, Option, Some, None, Ok, refl, sym, ap, ◌∙◌}
use Rattle.std.specs.Prelude.{if◌then◌else◌}
use Rattle.std.specs.declared.cmp.Ordering.{Ordering}
use Rattle.std.specs.declared.cmp.Ordering.TheVariants.{Less, Equal, Greater}
use Rattle.std.specs.Ordering.{is_eq}
use Rattle.std.specs.Str.{bytes_eq}
use Rattle.mx_base.specs.declared.refusal.Refusal.{Refusal}
use Rattle.mx_base.specs.declared.refusal.Refusal.TheVariants.{PrimaryKeyChanged}
use Rattle.mx_key.specs.Comparable.{comparable_of}
use Rattle.mx_key.specs.Keys.{Key, AreFit, key_cmp}
use Rattle.mx_key.proofs.KeyLaws.{key_cmp-IsAntisymmetric}
use Rattle.mx_schema.specs.declared.index_def.IndexDef.{IndexDef}
use Rattle.mx_schema.specs.declared.schema.Schema.{Schema}
use Rattle.mx_schema.specs.State.{State, key_in}
use Rattle.mx_write.specs.Checks.{tuple_fault}
use Rattle.mx_write.specs.Judged.{Judged, unless, ◌>>=◌}
use Rattle.mx_write.specs.Lookup.{other_indexes, own_key}
use Rattle.mx_write.specs.Made.{Made, made}
use Rattle.mx_write.specs.Stages.{IsRefusedBy, HasOwnKey, Refuses}
use Rattle.mx_write.specs.Unique.{are_free, is_same_key}
use Rattle.mx_write.specs.Update.{key_change, put_in_place}
use Rattle.mx_write.specs.Writes.{Write}
use Rattle.mx_write.proofs.StageLaws.{goes_on, none_refuses, refused_here, refused_later, refuses_so}
use Rattle.mx_judge.proofs.TargetLaws.{own_bytes, own_fits, own_has}
use Rattle.mx_write.proofs.UniqueLaws.{same_by_bytes}

module _ (before : State) (space : ℕ) (schema : Schema) (primary : IndexDef) (write : Write) (own : Key) (tuple : List ℕ) (shown : List (List ℕ)) where
  abbrev free : Judged (Unit {0})
  free = are_free before space schema primary (Some own) tuple (other_indexes schema.indexes)

  abbrev to_made : Judged Made
  to_made = made space write own (Some tuple) shown

  abbrev to_free : Judged Made
  to_free = free >>= λ _. to_made

  abbrev to_same : Judged Made
  to_same = unless (key_change schema (own_key primary tuple) own) >>= λ _. to_free

  abbrev pub whole : Judged Made
  whole = put_in_place before space schema primary write own tuple shown

  pub not_taken : (why : Refusal) → Refuses why (tuple_fault schema primary tuple) → IsRefusedBy why whole
  not_taken why refuses = refused_here (unless (tuple_fault schema primary tuple)) (λ _. to_same) why (refuses_so _ why refuses)

  module _ (takes : tuple_fault schema primary tuple ≡ None) where
    after_taken : (why : Refusal) → IsRefusedBy why to_same → IsRefusedBy why whole
    after_taken why = refused_later (unless (tuple_fault schema primary tuple)) (λ _. to_same) tt why (none_refuses _ takes)

    pub not_same : (why : Refusal) → key_change schema (own_key primary tuple) own ≡ Some why → IsRefusedBy why whole
    not_same why changes = after_taken why (refused_here (unless (key_change schema (own_key primary tuple) own)) (λ _. to_free) why (refuses_so _ why (inl changes)))

    module _ (same : key_change schema (own_key primary tuple) own ≡ None) where
      pub not_free : (why : Refusal) → IsRefusedBy why free → IsRefusedBy why whole
      not_free why refused =
          after_taken why (refused_later (unless (key_change schema (own_key primary tuple) own)) (λ _. to_free) tt why (none_refuses _ same)
          (refused_here free (λ _. to_made) why refused))

      pub reaches : free.outcome ≡ Ok tt → whole.outcome ≡ to_made.outcome
      reaches is =
          goes_on (unless (tuple_fault schema primary tuple)) (λ _. to_same) tt (none_refuses _ takes)
          ∙ goes_on (unless (key_change schema (own_key primary tuple) own)) (λ _. to_free) tt (none_refuses _ same)
          ∙ goes_on free (λ _. to_made) tt is

-- ---- whether the key changes, by its bytes

module _ (schema : Schema) (primary : IndexDef) (tuple new bytes : List ℕ) (own : Key) (has : HasOwnKey primary tuple new) (fit : AreFit own) (is : bytes ≡ comparable_of own) where
  by_bytes : is_same_key (own_key primary tuple) own ≡ bytes_eq new bytes
  by_bytes =
      same_by_bytes (own_key primary tuple) own (own_fits primary tuple new has) fit
      ∙ (λ i. bytes_eq (sym (own_bytes primary tuple new has) i) (sym is i))

  abbrev by_test : Bool → Option Refusal
  by_test same = if same then None else Some (PrimaryKeyChanged schema.def.name)

  pub key_changes : not (bytes_eq new bytes) ≡ true → key_change schema (own_key primary tuple) own ≡ Some (PrimaryKeyChanged schema.def.name)
  key_changes other = ap by_test by_bytes ∙ by_other (bytes_eq new bytes) other
    where
      by_other : (b : Bool) → not b ≡ true → by_test b ≡ Some (PrimaryKeyChanged schema.def.name)
      by_other true e = absurd cc
      by_other false e = refl

  pub key_stays : not (bytes_eq new bytes) ≡ false → key_change schema (own_key primary tuple) own ≡ None
  key_stays same = ap by_test by_bytes ∙ by_same (bytes_eq new bytes) same
    where
      by_same : (b : Bool) → not b ≡ false → by_test b ≡ None
      by_same true e = refl
      by_same false e = absurd cc

  pub key_is : not (bytes_eq new bytes) ≡ false → key_in primary.key tuple ≡ Ok own
  key_is same =
      own_has primary tuple new has
      ∙ ap (λ k. Ok k) (key_cmp-IsAntisymmetric (own_key primary tuple) own (ties (key_cmp (own_key primary tuple) own) (ap not by_bytes ∙ same)))
    where
      ties : (o : Ordering) → not (is_eq o) ≡ false → o ≡ Equal
      ties Less e = absurd cc
      ties Equal e = refl
      ties Greater e = absurd cc
