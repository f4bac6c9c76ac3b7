-- Gathering what spellings in a row describe, one after the other.
use Rattle.std.proofs.Common.{◌≡◌, ℕ, suc, ◌-◌, ◌<◌, ◌≤◌, List, [], ◌∷◌, ◌++◌, length, MatchOption, Option, Some, None, refl, sym, ap, ◌∙◌, arith, append_assoc}
use Rattle.std.specs.Option.{option_map}
use Rattle.std.proofs.lemmas.List.{append-nil}
use Rattle.mx_msgpack.specs.Items.{first_value, after_value, values_from}
use Rattle.mx_msgpack.specs.Readers.{◌>>=◌}
use Rattle.mx_msgpack.proofs.Options.{bind_some, same_some}

-- what is there already, before what is gathered
abbrev pub behind : {X : Type 0} → List X → Option (List X) → Option (List X)
behind so_far others = option_map (λ more. so_far ++ more) others

one_more : {X : Type 0} (so_far : List X) (x : X) (o : Option (List X)) → behind so_far (o >>= λ xs. Some (x ∷ xs)) ≡ behind (so_far ++ x ∷ []) o
one_more so_far x None = refl
one_more so_far x (Some xs) = ap Some (sym (append_assoc so_far (x ∷ []) xs))

-- A gathering reads the first spelling and then the others, and finds nothing where one describes nothing.
module _ {X : Type 0} (read : List ℕ → Option X) (gather : List (List ℕ) → Option (List X))
    (gathers : (spelling : List ℕ) (others : List (List ℕ)) → gather (spelling ∷ others) ≡ (read spelling >>= λ x. gather others >>= λ xs. Some (x ∷ xs))) where
  parted_one : (left : ℕ) (bytes : List ℕ) → 0 < left → values_from left bytes ≡ first_value bytes ∷ values_from (left - 1) (after_value bytes)
  parted_one left bytes some =
      let more : left ≡ suc (left - 1) = omega arith in
      ap (λ (n : ℕ). values_from n bytes) more

  -- one more was read
  pub gathered : (left : ℕ) (bytes spelling rest : List ℕ) (so_far : List X) (x : X) (whole : Option (List X)) → 0 < left
      → spelling ≡ first_value bytes → rest ≡ after_value bytes → Some x ≡ read spelling
      → behind so_far (gather (values_from left bytes)) ≡ whole → behind (so_far ++ x ∷ []) (gather (values_from (left - 1) rest)) ≡ whole
  gathered left bytes spelling rest so_far x whole some first after found before =
      sym (one_more so_far x (gather (values_from (left - 1) rest)))
      ∙ ap (behind so_far) (ap (λ o. o >>= λ y. gather (values_from (left - 1) rest) >>= λ xs. Some (y ∷ xs)) found
      ∙ sym (gathers spelling (values_from (left - 1) rest))
      ∙ ap gather ((λ i. first i ∷ values_from (left - 1) (after i)) ∙ sym (parted_one left bytes some)))
      ∙ before

-- the last one was read
pub gathered_all : {X : Type 0} (gather : List (List ℕ) → Option (List X)) (left : ℕ) (bytes : List ℕ) (so_far : List X) (whole : Option (List X)) → gather [] ≡ Some [] → left ≤ 0
    → behind so_far (gather (values_from left bytes)) ≡ whole → Some so_far ≡ whole
gathered_all gather left bytes so_far whole empty none before =
    let over : left ≡ 0 = omega arith in
    sym (ap (λ (n : ℕ). behind so_far (gather (values_from n bytes))) over ∙ ap (behind so_far) empty ∙ ap Some (append-nil so_far)) ∙ before

-- as many were gathered as there are spellings
pub gathered_count : {X : Type 0} (read : List ℕ → Option X) (gather : List (List ℕ) → Option (List X))
    → ((spelling : List ℕ) (others : List (List ℕ)) → gather (spelling ∷ others) ≡ (read spelling >>= λ x. gather others >>= λ xs. Some (x ∷ xs)))
    → gather [] ≡ Some [] → (spellings : List (List ℕ)) (xs : List X) → gather spellings ≡ Some xs → length xs ≡ length spellings
gathered_count {X} read gather gathers empty [] xs e = ap length (same_some xs [] (sym e ∙ empty))
gathered_count {X} read gather gathers empty (spelling ∷ others) xs e =
    let first = bind_some (read spelling) _ xs (sym (gathers spelling others) ∙ e) in
    let rest = bind_some (gather others) (λ ys. Some (first.0 ∷ ys)) xs first.2 in
    ap length (sym (same_some (first.0 ∷ rest.0) xs rest.2)) ∙ ap suc (gathered_count read gather gathers empty others rest.0 rest.1)

-- a vector of no more than may be is taken
pub taken_whole : {X : Type 0} (result : Option (List X)) (items : List X) (maximum : ℕ) → MatchOption result (maximum < length items) (λ found. found ≡ items) → length items ≤ maximum
    → result ≡ Some items
taken_whole None items maximum long within = absurd (omega arith)
taken_whole (Some found) items maximum same within = ap Some same
