-- The pairs of a vclock's map, lsn by lsn.
use Rattle.std.proofs.Common.{◌≡◌, ℕ, suc, ◌+◌, ◌<◌, List, [], ◌∷◌, ◌++◌, length, map, take, get_or, Bool, true, false, not, eqb, refl, sym, ap, ◌∙◌, append_assoc, arith}
use Rattle.std.proofs.lemmas.List.{length-take, take_more}
use Rattle.std.specs.List.{concat, filter}
use Rattle.mx_vclock.specs.Spelling.{component_bytes, components_from}

-- what is written of the pairs of these lsns
abbrev pub pairs_text : ℕ → List ℕ → List ℕ
pairs_text id lsns = concat (map component_bytes (components_from id lsns))

-- the pairs are as many as the lsns that aren't 0
pub pairs_counted : (id : ℕ) (lsns : List ℕ) → length (filter (λ lsn. not (eqb lsn 0)) lsns) ≡ length (components_from id lsns)
pairs_counted id [] = refl
pairs_counted id (lsn ∷ lsns) = by_test (eqb lsn 0) refl (pairs_counted (suc id) lsns)
  where
    by_test : (test : Bool) → eqb lsn 0 ≡ test → length (filter (λ lsn. not (eqb lsn 0)) lsns) ≡ length (components_from (suc id) lsns)
        → length (filter (λ lsn. not (eqb lsn 0)) (lsn ∷ lsns)) ≡ length (components_from id (lsn ∷ lsns))
    by_test true e rest = rw e rest
    by_test false e rest = rw e (ap suc rest)

-- the pairs of some lsns, and then those of the others
pairs_text-append : (id : ℕ) (lsns others : List ℕ) → pairs_text id (lsns ++ others) ≡ pairs_text id lsns ++ pairs_text (id + length lsns) others
pairs_text-append id [] others =
    let same : id ≡ id + 0 = omega arith in
    ap (λ (n : ℕ). pairs_text n others) same
pairs_text-append id (lsn ∷ lsns) others = by_test (eqb lsn 0) refl (pairs_text-append (suc id) lsns others ∙ ap (λ (n : ℕ). pairs_text (suc id) lsns ++ pairs_text n others) moved)
  where
    moved : suc id + length lsns ≡ id + suc (length lsns)
    moved = omega arith

    later : List ℕ
    later = pairs_text (id + suc (length lsns)) others

    by_test : (test : Bool) → eqb lsn 0 ≡ test → pairs_text (suc id) (lsns ++ others) ≡ pairs_text (suc id) lsns ++ later
        → pairs_text id (lsn ∷ (lsns ++ others)) ≡ pairs_text id (lsn ∷ lsns) ++ later
    by_test true e rest = rw e rest
    by_test false e rest = rw e (
        ap (λ (l : List ℕ). component_bytes (id, lsn) ++ l) rest
        ∙ sym (append_assoc (component_bytes (id, lsn)) (pairs_text (suc id) lsns) later)
        )

-- one lsn more, after the ones before
pub pairs_more : (before now new : List ℕ) (lsns : List ℕ) (i lsn : ℕ) → i < length lsns → lsn ≡ get_or lsns i 0
    → now ≡ before ++ pairs_text 1 (take i lsns) → new ≡ now ++ pairs_text (i + 1) (lsn ∷ [])
    → new ≡ before ++ pairs_text 1 (take (i + 1) lsns)
pairs_more before now new lsns i lsn below is e f =
    let front = take i lsns in
    let place : i + 1 ≡ 1 + length front = omega (arith, length-take i lsns) in
    f ∙ ap (λ (l : List ℕ). l ++ pairs_text (i + 1) (lsn ∷ [])) e
    ∙ append_assoc before (pairs_text 1 front) (pairs_text (i + 1) (lsn ∷ []))
    ∙ ap (λ (n : ℕ). before ++ (pairs_text 1 front ++ pairs_text n (lsn ∷ []))) place
    ∙ ap (λ (n : ℕ). before ++ (pairs_text 1 front ++ pairs_text (1 + length front) (n ∷ []))) is
    ∙ ap (λ (l : List ℕ). before ++ l) (sym (pairs_text-append 1 front (get_or lsns i 0 ∷ [])))
    ∙ ap (λ (l : List ℕ). before ++ pairs_text 1 l) (sym (take_more lsns i 0 below))
