-- A format's entries against a tuple's fields, one after the other.
use Rattle.std.proofs.Common.{◌≡◌, ℕ, zero, suc, ◌+◌, ◌<◌, Bool, true, false, cond, List, [], ◌∷◌, length, drop, get_or, Option, Some, None, Result, Ok, Err, refl, sym, ap, ◌∙◌, arith}
use Rattle.std.specs.List.{slice_get}
use Rattle.std.proofs.Math.Seq.{drop-nil}
use Rattle.std.proofs.lemmas.List.{drop_more, drop_all}
use Rattle.std.proofs.lemmas.Option.{slice_get_within, get_or_from_slice_get}
use Rattle.mx_tuple.specs.declared.formats.FormatEntry.{FormatEntry}
use Rattle.mx_tuple.specs.declared.checking.FieldFault.{FieldFault}
use Rattle.mx_tuple.specs.declared.checking.FieldFault.TheVariants.{Missing, Wrong}
use Rattle.mx_tuple.specs.Formats.{meets, may_be_absent, fields_checked}
use Rattle.mx_tuple.specs.Steps.{field_checked}

abbrev Answer : Type 0
Answer = Result Unit FieldFault

-- a test that let pass, and one that didn't
passed : (test : Bool) (fault : FieldFault) (others : Answer) → Ok tt ≡ cond {A = Answer} test (Ok tt) (Err fault) → cond test others (Err fault) ≡ others
passed true fault others e = refl
passed false fault others e = absurd cc

refused : (test : Bool) (fault told : FieldFault) (others : Answer) → Err told ≡ cond {A = Answer} test (Ok tt) (Err fault) → cond test others (Err fault) ≡ Err told
refused true fault told others e = absurd cc
refused false fault told others e = sym e

-- the fields from a place on, where there is one and where there is none
rest_none : (fields : List (List ℕ)) (n : ℕ) → slice_get fields n ≡ None → (drop n fields ≡ []) × (drop (n + 1) fields ≡ [])
rest_none [] n e = (drop-nil n, drop-nil (n + 1))
rest_none (field ∷ fields) zero e = absurd cc
rest_none (field ∷ fields) (suc n) e =
    let none = rest_none fields n e in
    (none.0, ap (λ (k : ℕ). drop k (field ∷ fields)) (next n) ∙ none.1)
  where
    next : (n : ℕ) → suc n + 1 ≡ suc (n + 1)
    next n = omega arith

rest_some : (fields : List (List ℕ)) (n : ℕ) (field : List ℕ) → slice_get fields n ≡ Some field → drop n fields ≡ field ∷ drop (n + 1) fields
rest_some fields n field e =
    drop_more fields n field (slice_get_within fields n field e)
    ∙ ap (λ (f : List ℕ). f ∷ drop (n + 1) fields) (get_or_from_slice_get fields n field field e)

one_more : (n : ℕ) → suc n ≡ n + 1
one_more n = omega arith

module _ (place : ℕ) (entry : FormatEntry) (entries : List FormatEntry) (fields : List (List ℕ)) (within : place < length entries) (is : entry ≡ get_or entries place entry) where
  -- the entries from this one on
  begun : drop place entries ≡ entry ∷ drop (place + 1) entries
  begun = drop_more entries place entry within ∙ ap (λ (e : FormatEntry). e ∷ drop (place + 1) entries) (sym is)

  pub field_passes : (found : Option (List ℕ)) → found ≡ slice_get fields place → Ok tt ≡ field_checked place entry found
      → fields_checked place (drop place entries) (drop place fields) ≡ fields_checked (place + 1) (drop (place + 1) entries) (drop (place + 1) fields)
  field_passes None same e =
      let none = rest_none fields place (sym same) in
      rw (begun, none.0, none.1, ← one_more place) (passed (may_be_absent entry) (Missing place) _ e)
  field_passes (Some field) same e =
      rw (begun, rest_some fields place field (sym same), ← one_more place) (passed (meets entry field) (Wrong place entry.kind) _ e)

  pub field_fails : (found : Option (List ℕ)) (told : FieldFault) → found ≡ slice_get fields place → Err told ≡ field_checked place entry found
      → fields_checked place (drop place entries) (drop place fields) ≡ Err told
  field_fails None told same e =
      let none = rest_none fields place (sym same) in
      rw (begun, none.0) (refused (may_be_absent entry) (Missing place) told _ e)
  field_fails (Some field) told same e =
      rw (begun, rest_some fields place field (sym same)) (refused (meets entry field) (Wrong place entry.kind) told _ e)

-- no entry remains
pub none_left : (place : ℕ) (entries : List FormatEntry) (fields : List (List ℕ)) → length entries ≡ place → fields_checked place (drop place entries) fields ≡ Ok tt
none_left place entries fields e = rw (drop_all place entries (omega arith)) refl
