-- Rows and arrays as their first fields.
use Rattle.std.proofs.Common.{◌≡◌, ℕ, suc, ◌-◌, ◌≤◌, List, [], ◌∷◌, length, drop, Some, ap, ◌∙◌, arith}
use Rattle.std.specs.List.{slice_get}
use Rattle.std.proofs.lemmas.List.{drop_all}
use Rattle.mx_msgpack.specs.Items.{first_value, after_value, values_from}
use Rattle.mx_schema.proofs.ListLaws.{at_place}

-- the first two of at least two values in a row
pub two_first : (count : ℕ) (bytes : List ℕ) → 2 ≤ count
    → values_from count bytes ≡ first_value bytes ∷ first_value (after_value bytes) ∷ values_from (count - 2) (after_value (after_value bytes))
two_first count bytes enough =
    let more : count ≡ suc (suc (count - 2)) = omega arith in
    ap (λ (n : ℕ). values_from n bytes) more

module _ (fields : List (List ℕ)) (a b c d e f : List ℕ) (first : Some a ≡ slice_get fields 0) (second : Some b ≡ slice_get fields 1) (third : Some c ≡ slice_get fields 2)
    (fourth : Some d ≡ slice_get fields 3) (fifth : Some e ≡ slice_get fields 4) (sixth : Some f ≡ slice_get fields 5) where
  six_first : fields ≡ a ∷ b ∷ c ∷ d ∷ e ∷ f ∷ drop 6 fields
  six_first =
      at_place fields 0 a first
      ∙ ap (λ l. a ∷ l) (at_place fields 1 b second
      ∙ ap (λ l. b ∷ l) (at_place fields 2 c third
      ∙ ap (λ l. c ∷ l) (at_place fields 3 d fourth
      ∙ ap (λ l. d ∷ l) (at_place fields 4 e fifth ∙ ap (λ l. e ∷ l) (at_place fields 5 f sixth)))))

  pub six_fields : length fields ≡ 6 → fields ≡ a ∷ b ∷ c ∷ d ∷ e ∷ f ∷ []
  six_fields long = six_first ∙ ap (λ l. a ∷ b ∷ c ∷ d ∷ e ∷ f ∷ l) (drop_all 6 fields (omega arith))

  pub seven_fields : (g : List ℕ) → Some g ≡ slice_get fields 6 → length fields ≡ 7 → fields ≡ a ∷ b ∷ c ∷ d ∷ e ∷ f ∷ g ∷ []
  seven_fields g seventh long =
      six_first ∙ ap (λ l. a ∷ b ∷ c ∷ d ∷ e ∷ f ∷ l) (at_place fields 6 g seventh ∙ ap (λ l. g ∷ l) (drop_all 7 fields (omega arith)))
