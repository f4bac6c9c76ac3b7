-- The spellings of fields one after the other.
use Rattle.std.proofs.Common.{◌≡◌, ℕ, zero, suc, ◌+◌, ◌<◌, ◌≤◌, List, [], ◌∷◌, ◌++◌, length, take, get_or, sym, ap, ◌∙◌, append_assoc, arith}
use Rattle.std.specs.Prelude.{map}
use Rattle.std.specs.List.{concat}
use Rattle.std.proofs.lemmas.List.{append-nil, length-append}

module _ {X Y : Type 0} (view : X → Y) (spelling : Y → List ℕ) where
  abbrev pub spelled : List X → List ℕ
  spelled fields = concat (map spelling (map view fields))

  spelled_later : (fields : List X) (i : ℕ) (d : X) → i < length fields → spelled (take (suc i) fields) ≡ spelled (take i fields) ++ spelling (view (get_or fields i d))
  spelled_later [] i d below = absurd (omega arith)
  spelled_later (field ∷ fields) zero d below = append-nil (spelling (view field))
  spelled_later (field ∷ fields) (suc i) d below =
      ap (λ (l : List ℕ). spelling (view field) ++ l) (spelled_later fields i d (omega arith))
      ∙ sym (append_assoc (spelling (view field)) (spelled (take i fields)) (spelling (view (get_or fields i d))))

  -- one field more, after what was there before
  pub one_spelled : (before now new : List ℕ) (fields : List X) (i : ℕ) (field : X) → i < length fields → field ≡ get_or fields i field
      → now ≡ before ++ spelled (take i fields) → new ≡ now ++ spelling (view field) → new ≡ before ++ spelled (take (i + 1) fields)
  one_spelled before now new fields i field below is e f =
      let next : suc i ≡ i + 1 = omega arith in
      f
      ∙ (λ j. e j ++ spelling (view (is j)))
      ∙ append_assoc before (spelled (take i fields)) (spelling (view (get_or fields i field)))
      ∙ ap (λ (l : List ℕ). before ++ l) (sym (spelled_later fields i field below))
      ∙ ap (λ (k : ℕ). before ++ spelled (take k fields)) next

  -- and its size
  pub one_counted : (fields : List X) (i size count before : ℕ) (field : X) → i < length fields → field ≡ get_or fields i field → count ≡ length (spelling (view field))
      → size ≡ before + length (spelled (take i fields)) → size + count ≡ before + length (spelled (take (i + 1) fields))
  one_counted fields i size count before field below is counted e =
      let next : suc i ≡ i + 1 = omega arith in
      let more =
      ap (λ (k : ℕ). length (spelled (take k fields))) (sym next) ∙ ap length (spelled_later fields i field below)
      ∙ length-append (spelled (take i fields)) (spelling (view (get_or fields i field))) in
      let same = ap (λ (x : X). length (spelling (view x))) is in
      omega arith

  -- each is within all
  pub one_within : (fields : List X) (i : ℕ) (field : X) → i < length fields → field ≡ get_or fields i field → length (spelling (view field)) ≤ length (spelled fields)
  one_within fields i field below is = let same = ap (λ (x : X). length (spelling (view x))) is in omega (arith, at_place fields i field below)
    where
      at_place : (fields : List X) (i : ℕ) (d : X) → i < length fields → length (spelling (view (get_or fields i d))) ≤ length (spelled fields)
      at_place [] i d below = absurd (omega arith)
      at_place (field ∷ fields) zero d below = let l = length-append (spelling (view field)) (spelled fields) in omega arith
      at_place (field ∷ fields) (suc i) d below =
          let l = length-append (spelling (view field)) (spelled fields) in
          let m : length (spelling (view (get_or fields i d))) ≤ length (spelled fields) = at_place fields i d (omega arith) in
          omega arith
