-- Rows that make a catalogue, one after the other.
use Rattle.std.proofs.Common.{◌≡◌, ◌⊎◌, ◌↔◌, ℕ, suc, ◌<◌, Bool, true, List, [], length, drop, get_or, Option, Some, None, Result, Ok, Err, IsTrue, inl, inr, refl, sym, ap, ◌∙◌, subst}
use Rattle.std.specs.Option.{ok_or, unwrap_or}
use Rattle.std.proofs.Math.Seq.{drop-cons}
use Rattle.mx_base.specs.declared.refusal.Refusal.{Refusal}
use Rattle.mx_base.specs.declared.refusal.Refusal.TheVariants.{BadIndexRow, BadSpaceRow}
use Rattle.mx_msgpack.specs.Items.{items_of}
use Rattle.mx_msgpack.specs.Readers.{◌>>=◌}
use Rattle.mx_schema.specs.declared.fault.SchemaFault.{SchemaFault}
use Rattle.mx_schema.specs.declared.fault.SchemaFault.TheVariants as fault
use Rattle.mx_schema.specs.declared.index_def.IndexRow.{IndexRow}
use Rattle.mx_schema.specs.declared.space_def.SpaceDef.{SpaceDef}
use Rattle.mx_schema.specs.Bootstrap.{first_indexes, first_spaces}
use Rattle.mx_schema.specs.Catalogues.{Catalogue}
use Rattle.mx_schema.specs.IndexRows.{index_in, index_of_fields}
use Rattle.mx_schema.specs.SpaceRows.{space_in, space_of_fields}
use Rattle.mx_schema.specs.SchemaChecks.{IsOneOf, JudgesIndex, JudgesSpace, RowFault, RowsMake, first_number, new_space, user_index}

module _ {D : Type 0} (Judges : Catalogue → List ℕ → Result D Refusal → Type 0) (add : Catalogue → D → Catalogue) where
  -- a row was added, so that what the remaining rows make is what those from it on make
  pub one_more : (at : ℕ) (place : ℕ) (rows : List (List ℕ)) (catalogue after : Catalogue) (row : List ℕ) (def : D) (Whole : Result Catalogue RowFault → Type 0) → place < length rows
      → row ≡ get_or rows place [] → Judges catalogue row (Ok def) → after ≡ add catalogue def
      → ((made : Result Catalogue RowFault) → RowsMake Judges add at (drop place rows) catalogue made → Whole made)
      → (made : Result Catalogue RowFault) → RowsMake Judges add (suc at) (drop (suc place) rows) after made → Whole made
  one_more at place rows catalogue after row def Whole in_range stands judged is before made rest =
      let here = subst (λ (r : List ℕ). Judges catalogue r (Ok def)) stands judged in
      let others = subst (λ (c : Catalogue). RowsMake Judges add (suc at) (drop (suc place) rows) c made) is rest in
      before made (subst (λ (l : List (List ℕ)). RowsMake Judges add at l catalogue made) (sym (drop-cons rows place [] in_range)) (inr (def, here, others)))

  -- a row was refused
  pub one_refused : (at : ℕ) (place : ℕ) (rows : List (List ℕ)) (catalogue : Catalogue) (row : List ℕ) (refusal : Refusal) (Whole : Result Catalogue RowFault → Type 0) → place < length rows
      → row ≡ get_or rows place [] → Judges catalogue row (Err refusal)
      → ((made : Result Catalogue RowFault) → RowsMake Judges add at (drop place rows) catalogue made → Whole made) → Whole (Err (record { place = at; refusal = refusal }))
  one_refused at place rows catalogue row refusal Whole in_range stands judged before =
      let here = subst (λ (r : List ℕ). Judges catalogue r (Err refusal)) stands judged in
      let fault : Result Catalogue RowFault = Err (record { place = at; refusal = refusal }) in
      before fault (subst (λ (l : List (List ℕ)). RowsMake Judges add at l catalogue fault) (sym (drop-cons rows place [] in_range)) (inl (refusal, here, refl)))

  -- so a call ends that adds them
  pub ends_refused : (at : ℕ) (place : ℕ) (rows : List (List ℕ)) (catalogue : Catalogue) (row : List ℕ) (why : SchemaFault) (Whole : Result Catalogue RowFault → Type 0) → place < length rows
      → row ≡ get_or rows place [] → ((refusal : Refusal) × Judges catalogue row (Err refusal) × (why ≡ fault.Row at refusal)) ⊎ (why ≡ fault.NoMemory)
      → ((made : Result Catalogue RowFault) → RowsMake Judges add at (drop place rows) catalogue made → Whole made)
      → ((found : RowFault) × (why ≡ fault.Row found.place found.refusal) × Whole (Err found)) ⊎ (why ≡ fault.NoMemory)
  ends_refused at place rows catalogue row why Whole in_range stands (inl (refusal, judged, is)) before =
      inl (record { place = at; refusal = refusal }, is, one_refused at place rows catalogue row refusal Whole in_range stands judged before)
  ends_refused at place rows catalogue row why Whole in_range stands (inr none) before = inr none

-- ---- one row

space_read : (row : List ℕ) (fields : Option (List (List ℕ))) → fields ≡ items_of row → space_in row ≡ (fields >>= space_of_fields)
unfolding space_in
space_read row fields is = ap (λ (o : Option (List (List ℕ))). o >>= space_of_fields) (sym is)

index_read : (row : List ℕ) (fields : Option (List (List ℕ))) → fields ≡ items_of row → index_in row ≡ (fields >>= index_of_fields)
unfolding index_in
index_read row fields is = ap (λ (o : Option (List (List ℕ))). o >>= index_of_fields) (sym is)

module _ (catalogue : Catalogue) (row : List ℕ) where
  -- the row is none
  pub no_space_row : (IsOneOf first_spaces row → ⊥) → None ≡ items_of row → JudgesSpace catalogue row (Err BadSpaceRow)
  no_space_row other none = inr (other, ap (λ (o : Option (List (List ℕ))). new_space catalogue (unwrap_or o [])) none)

  pub no_index_row : (IsOneOf first_indexes row → ⊥) → None ≡ items_of row → JudgesIndex catalogue row (Err BadIndexRow)
  no_index_row other none = inr (other, ap (λ (o : Option (List (List ℕ))). user_index catalogue (unwrap_or o []) (first_number (unwrap_or o []))) none)

  -- it is one of a new database's own
  pub first_space : (is : Bool) → (IsTrue is ↔ IsOneOf first_spaces row) → is ≡ true → (fields : List (List ℕ)) → Some fields ≡ items_of row → (found : Option SpaceDef) → found ≡ space_of_fields fields
      → JudgesSpace catalogue row (ok_or found BadSpaceRow)
  first_space is tells holds fields read found described =
      inl (tells.0 holds, ap (λ (o : Option SpaceDef). ok_or o BadSpaceRow) (described ∙ sym (space_read row (Some fields) read)))

  pub first_index : (is : Bool) → (IsTrue is ↔ IsOneOf first_indexes row) → is ≡ true → (fields : List (List ℕ)) → Some fields ≡ items_of row → (found : Option IndexRow) → found ≡ index_of_fields fields
      → JudgesIndex catalogue row (ok_or found BadIndexRow)
  first_index is tells holds fields read found described =
      inl (tells.0 holds, ap (λ (o : Option IndexRow). ok_or o BadIndexRow) (described ∙ sym (index_read row (Some fields) read)))
