-- Rows make one catalogue at most.
use Rattle.std.proofs.Common.{◌≡◌, ℕ, suc, List, [], ◌∷◌, length, Result, Ok, Err, inl, inr, sym, ap, ◌∙◌, subst}
use Rattle.std.specs.FinMap.{empty}
use Rattle.mx_base.specs.declared.refusal.Refusal.{Refusal}
use Rattle.mx_schema.specs.Bootstrap.{first_indexes, first_spaces}
use Rattle.mx_schema.specs.Catalogues.{Catalogue}
use Rattle.mx_schema.specs.declared.index_def.IndexRow.{IndexRow}
use Rattle.mx_schema.specs.declared.space_def.SpaceDef.{SpaceDef}
use Rattle.mx_schema.specs.SchemaChecks.{IfElse, IndexesMake, IsMade, IsOneOf, JudgesIndex, JudgesSpace, RowFault, RowsMake, with_index_row, with_space}

one_way : {X : Type 0} (P : Type 0) (this other : X) (x y : X) → IfElse P (x ≡ this) (x ≡ other) → IfElse P (y ≡ this) (y ≡ other) → x ≡ y
one_way P this other x y (inl (p, e)) (inl (q, f)) = e ∙ sym f
one_way P this other x y (inl (p, e)) (inr (none, f)) = absurd (none p)
one_way P this other x y (inr (none, e)) (inl (q, f)) = absurd (none q)
one_way P this other x y (inr (none, e)) (inr (also, f)) = e ∙ sym f

pub space_once : (catalogue : Catalogue) (row : List ℕ) (one other : Result SpaceDef Refusal) → JudgesSpace catalogue row one → JudgesSpace catalogue row other → one ≡ other
space_once catalogue row one other = one_way (IsOneOf first_spaces row) _ _ one other

pub index_once : (catalogue : Catalogue) (row : List ℕ) (one other : Result IndexRow Refusal) → JudgesIndex catalogue row one → JudgesIndex catalogue row other → one ≡ other
index_once catalogue row one other = one_way (IsOneOf first_indexes row) _ _ one other

module _ {D : Type 0} (Judges : Catalogue → List ℕ → Result D Refusal → Type 0) (add : Catalogue → D → Catalogue)
    (once : (catalogue : Catalogue) (row : List ℕ) (one other : Result D Refusal) → Judges catalogue row one → Judges catalogue row other → one ≡ other) where
  same_def : (x y : D) → ◌≡◌ {A = Result D Refusal} (Ok x) (Ok y) → x ≡ y
  same_def x y e = cc

  same_refusal : (x y : Refusal) → ◌≡◌ {A = Result D Refusal} (Err x) (Err y) → x ≡ y
  same_refusal x y e = cc

  never_both : (x : D) (y : Refusal) → ◌≡◌ {A = Result D Refusal} (Err y) (Ok x) → ⊥
  never_both x y e = cc

  pub rows_once : (place : ℕ) (rows : List (List ℕ)) (before : Catalogue) (one other : Result Catalogue RowFault)
      → RowsMake Judges add place rows before one → RowsMake Judges add place rows before other → one ≡ other
  rows_once place [] before one other e f = e ∙ sym f
  rows_once place (row ∷ others) before one other (inl (refusal, judged, e)) (inl (also, again, f)) =
      let same = same_refusal refusal also (once before row (Err refusal) (Err also) judged again) in
      e ∙ ap (λ (r : Refusal). Err (record { place = place; refusal = r })) same ∙ sym f
  rows_once place (row ∷ others) before one other (inl (refusal, judged, e)) (inr (def, again, made)) =
      absurd (never_both def refusal (once before row (Err refusal) (Ok def) judged again))
  rows_once place (row ∷ others) before one other (inr (def, judged, made)) (inl (refusal, again, e)) =
      absurd (never_both def refusal (once before row (Err refusal) (Ok def) again judged))
  rows_once place (row ∷ others) before one other (inr (def, judged, made)) (inr (also, again, more)) =
      let same = same_def also def (once before row (Ok also) (Ok def) again judged) in
      rows_once (suc place) others (add before def) one other made (subst (λ (d : D). RowsMake Judges add (suc place) others (add before d) other) same more)

pub made_once : (spaces indexes : List (List ℕ)) (one other : Result Catalogue RowFault) → IsMade spaces indexes one → IsMade spaces indexes other → one ≡ other
made_once spaces indexes one other (after, made, rest) (later, again, more) =
    let same = rows_once JudgesSpace with_space space_once 0 spaces empty later after again made in
    by_after after rest (subst (λ (a : Result Catalogue RowFault). IndexesMake (length spaces) indexes a other) same more)
  where
    by_after : (a : Result Catalogue RowFault) → IndexesMake (length spaces) indexes a one → IndexesMake (length spaces) indexes a other → one ≡ other
    by_after (Ok catalogue) made again = rows_once JudgesIndex with_index_row index_once (length spaces) indexes catalogue one other made again
    by_after (Err fault) e f = e ∙ sym f
