-- What follows a replica id in a vclock's text.
use Rattle.std.proofs.Common.{◌≡◌, ℕ, zero, suc, ◌+◌, cond, List, [], ◌∷◌, ◌++◌, length, replicate, refl, ap, ◌∙◌, append_assoc, ◌⊎◌, inl, inr, arith}
use Rattle.std.specs.Prelude.{codes}
use Rattle.std.specs.Fmt.{decimal}
use Rattle.std.proofs.Math.Dec.{eqb-suc-zero}
use Rattle.mx_vclock.specs.Text.{component_texts, join_with, vclock_text}

-- a component, the end of its id, a blank, its lsn, and then these bytes
abbrev pub named : ℕ → ℕ → List ℕ → List ℕ
named id lsn rest = decimal id ++ 58 ∷ 32 ∷ (decimal lsn ++ rest)

-- the text after a component, where these are the lsns from this id on
abbrev pub more : ℕ → List ℕ → List ℕ
more id [] = 125 ∷ []
more id (zero ∷ lsns) = more (suc id) lsns
more id (suc lsn ∷ lsns) = 44 ∷ 32 ∷ named id (suc lsn) (more (suc id) lsns)

-- the same where no component comes before
abbrev pub first : ℕ → List ℕ → List ℕ
first id [] = 125 ∷ []
first id (zero ∷ lsns) = first (suc id) lsns
first id (suc lsn ∷ lsns) = named id (suc lsn) (more (suc id) lsns)

-- these parts after another one, and the end
behind : List (List ℕ) → List ℕ
behind [] = 125 ∷ []
behind (part ∷ parts) = 44 ∷ 32 ∷ (part ++ behind parts)

separated-behind : (part : List ℕ) (parts : List (List ℕ)) → join_with (codes ", ") (part ∷ parts) ++ 125 ∷ [] ≡ part ++ behind parts
unfolding behind
separated-behind part [] = refl
separated-behind part (next ∷ parts) =
    let others = join_with (codes ", ") (next ∷ parts) in
    append_assoc (part ++ codes ", ") others (125 ∷ [])
    ∙ append_assoc part (codes ", ") (others ++ 125 ∷ [])
    ∙ ap (λ l. part ++ 44 ∷ 32 ∷ l) (separated-behind next parts)

component : ℕ → ℕ → List ℕ
component id lsn = decimal id ++ codes ": " ++ decimal lsn

component_then : (id lsn : ℕ) (rest : List ℕ) → component id lsn ++ rest ≡ named id lsn rest
unfolding component
component_then id lsn rest = append_assoc (decimal id ++ codes ": ") (decimal lsn) rest ∙ append_assoc (decimal id) (codes ": ") (decimal lsn ++ rest)

behind_is_more : (id : ℕ) (lsns : List ℕ) → behind (component_texts id lsns) ≡ more id lsns
unfolding behind component
behind_is_more id [] = refl
behind_is_more id (zero ∷ lsns) = behind_is_more (suc id) lsns
behind_is_more id (suc lsn ∷ lsns) =
    ap (λ t. behind (cond t (component_texts (suc id) lsns) (component id (suc lsn) ∷ component_texts (suc id) lsns))) (eqb-suc-zero lsn)
    ∙ ap (λ l. 44 ∷ 32 ∷ l) (ap (λ l. component id (suc lsn) ++ l) (behind_is_more (suc id) lsns) ∙ component_then id (suc lsn) (more (suc id) lsns))

separated_is_first : (id : ℕ) (lsns : List ℕ) → join_with (codes ", ") (component_texts id lsns) ++ 125 ∷ [] ≡ first id lsns
unfolding behind component
separated_is_first id [] = refl
separated_is_first id (zero ∷ lsns) = separated_is_first (suc id) lsns
separated_is_first id (suc lsn ∷ lsns) =
    ap (λ t. join_with (codes ", ") (cond t (component_texts (suc id) lsns) (component id (suc lsn) ∷ component_texts (suc id) lsns)) ++ 125 ∷ []) (eqb-suc-zero lsn)
    ∙ separated-behind (component id (suc lsn)) (component_texts (suc id) lsns)
    ∙ ap (λ l. component id (suc lsn) ++ l) (behind_is_more (suc id) lsns)
    ∙ component_then id (suc lsn) (more (suc id) lsns)

pub text_is_first : (clock : List ℕ) → vclock_text clock ≡ 123 ∷ first 0 clock
text_is_first clock = ap (λ l. 123 ∷ l) (separated_is_first 0 clock)

-- the zeros and the first component of these lsns, from this id on
pub record Split (id : ℕ) (lsns : List ℕ) : Type 0 where
  pub zeros : ℕ
  pub lsn : ℕ
  pub others : List ℕ
  pub is : lsns ≡ replicate zeros 0 ++ suc lsn ∷ others
  pub as_first : first id lsns ≡ named (id + zeros) (suc lsn) (more (suc (id + zeros)) others)
  pub as_more : more id lsns ≡ 44 ∷ 32 ∷ named (id + zeros) (suc lsn) (more (suc (id + zeros)) others)

-- there is no component
pub record Blank (id : ℕ) (lsns : List ℕ) : Type 0 where
  pub is : lsns ≡ replicate (length lsns) 0
  pub as_first : first id lsns ≡ 125 ∷ []
  pub as_more : more id lsns ≡ 125 ∷ []

pub split : (id : ℕ) (lsns : List ℕ) → Blank id lsns ⊎ Split id lsns
split id [] = inl (record { is = refl; as_first = refl; as_more = refl })
split id (suc lsn ∷ lsns) =
    let e : id ≡ id + 0 = omega arith in
    inr (record {
      zeros = 0;
      lsn = lsn;
      others = lsns;
      is = refl;
      as_first = ap (λ n. named n (suc lsn) (more (suc n) lsns)) e;
      as_more = ap (λ n. 44 ∷ 32 ∷ named n (suc lsn) (more (suc n) lsns)) e;
    })
split id (zero ∷ lsns) = later (split (suc id) lsns)
  where
    later : Blank (suc id) lsns ⊎ Split (suc id) lsns → Blank id (zero ∷ lsns) ⊎ Split id (zero ∷ lsns)
    later (inl b) = inl (record { is = ap (λ l. 0 ∷ l) b.is; as_first = b.as_first; as_more = b.as_more })
    later (inr s) =
        let e : suc id + s.zeros ≡ id + suc s.zeros = omega arith in
        inr (record {
          zeros = suc s.zeros;
          lsn = s.lsn;
          others = s.others;
          is = ap (λ l. 0 ∷ l) s.is;
          as_first = s.as_first ∙ ap (λ n. named n (suc s.lsn) (more (suc n) s.others)) e;
          as_more = s.as_more ∙ ap (λ n. 44 ∷ 32 ∷ named n (suc s.lsn) (more (suc n) s.others)) e;
        })

-- zeros are skipped
pub first-zeros : (zeros id : ℕ) (lsns : List ℕ) → first id (replicate zeros 0 ++ lsns) ≡ first (id + zeros) lsns
first-zeros zero id lsns = let e : id ≡ id + 0 = omega arith in ap (λ n. first n lsns) e
first-zeros (suc zeros) id lsns = let e : suc id + zeros ≡ id + suc zeros = omega arith in first-zeros zeros (suc id) lsns ∙ ap (λ n. first n lsns) e

pub more-zeros : (zeros id : ℕ) (lsns : List ℕ) → more id (replicate zeros 0 ++ lsns) ≡ more (id + zeros) lsns
more-zeros zero id lsns = let e : id ≡ id + 0 = omega arith in ap (λ n. more n lsns) e
more-zeros (suc zeros) id lsns = let e : suc id + zeros ≡ id + suc zeros = omega arith in more-zeros zeros (suc id) lsns ∙ ap (λ n. more n lsns) e
