-- The text of a vclock, component by component.
use Rattle.std.proofs.Common.{◌≡◌, ℕ, ◌+◌, ◌<◌, ◌≤◌, List, [], ◌∷◌, ◌++◌, length, drop, get_or, refl, ap, ◌∙◌, add-one, Bool, true, false, eqb, sym, append_assoc}
use Rattle.std.specs.Prelude.{codes, decimal, if◌then◌else◌}
use Rattle.std.proofs.lemmas.List.{append-nil, at_drop_more, drop_all}
use Rattle.std.proofs.lemmas.Bool.{ne_eqb}
use Rattle.mx_vclock.specs.Text.{component_texts, join_with}

-- the parts one after the other, with this before the first one and `, ` before each other one
abbrev pub goes_on : List ℕ → List (List ℕ) → List ℕ
goes_on before [] = []
goes_on before (part ∷ parts) = before ++ (part ++ goes_on (codes ", ") parts)

goes_on-after : (before part : List ℕ) (parts : List (List ℕ)) → goes_on before (part ∷ parts) ≡ before ++ join_with (codes ", ") (part ∷ parts)
goes_on-after before part [] = ap (λ shown. before ++ shown) (append-nil part)
goes_on-after before part (next ∷ parts) =
    ap (λ rest. before ++ (part ++ rest)) (goes_on-after (codes ", ") next parts) ∙ ap (λ shown. before ++ shown) (sym (append_assoc part (codes ", ") (join_with (codes ", ") (next ∷ parts))))

pub goes_on-separated : (parts : List (List ℕ)) → goes_on [] parts ≡ join_with (codes ", ") parts
goes_on-separated [] = refl
goes_on-separated (part ∷ parts) = goes_on-after [] part parts

-- one lsn and the others
pub components-more : (id lsn : ℕ) (lsns : List ℕ) (test : Bool) → eqb lsn 0 ≡ test → component_texts id (lsn ∷ lsns) ≡ if test then component_texts (id + 1) lsns else (decimal id ++ codes ": " ++ decimal lsn) ∷ component_texts (id + 1) lsns
components-more id lsn lsns test e = rw (e, add-one id) refl

-- a component that is 0 is omitted
pub components-skipped : (lsns : List ℕ) (id lsn : ℕ) → id < length lsns → lsn ≡ get_or lsns id 0 → lsn ≡ 0 → component_texts id (drop id lsns) ≡ component_texts (id + 1) (drop (id + 1) lsns)
components-skipped lsns id lsn below is none =
    at_drop_more (component_texts id) lsns id 0 below ∙ components-more id (get_or lsns id 0) (drop (id + 1) lsns) true (rw (← is, none) refl)

-- another one is written
components-shown : (lsns : List ℕ) (id lsn : ℕ) → id < length lsns → lsn ≡ get_or lsns id 0 → (lsn ≡ 0 → ⊥) → component_texts id (drop id lsns) ≡ ((decimal id ++ codes ": ") ++ decimal lsn) ∷ component_texts (id + 1) (drop (id + 1) lsns)
components-shown lsns id lsn below is some =
    rw is (at_drop_more (component_texts id) lsns id 0 below ∙ components-more id (get_or lsns id 0) (drop (id + 1) lsns) false (rw (← is) (ne_eqb lsn 0 some)))

-- what is written and what is still to come, one component on
pub goes_on-shown : (text before whole lsns : List ℕ) (id lsn : ℕ) → id < length lsns → lsn ≡ get_or lsns id 0 → (lsn ≡ 0 → ⊥) → text ++ goes_on before (component_texts id (drop id lsns)) ≡ whole → (text ++ (before ++ (decimal id ++ (codes ": " ++ decimal lsn)))) ++ goes_on (codes ", ") (component_texts (id + 1) (drop (id + 1) lsns)) ≡ whole
goes_on-shown text before whole lsns id lsn below is some e =
    let shown = rw (components-shown lsns id lsn below is some) at e in
    simp append_assoc (simp append_assoc at shown)

-- nothing follows the last lsn
pub goes_on-end : (text before whole lsns : List ℕ) (id : ℕ) → length lsns ≤ id → text ++ goes_on before (component_texts id (drop id lsns)) ≡ whole → text ≡ whole
goes_on-end text before whole lsns id end e = sym (append-nil text) ∙ (rw (drop_all id lsns end) at e)
