-- A prefix of a list copied over the start of another.
use Rattle.std.proofs.Common.{◌≡◌, ℕ, ◌+◌, ◌<◌, ◌≤◌, min, max, List, [], ◌++◌, length, take, drop, sym, ap, ◌∙◌, arith}
use Rattle.std.proofs.Math.Seq.{take-add, take-append_seam}
use Rattle.std.proofs.lemmas.List.{drop-drop, take-append-drop, length-take, length-drop, nil_from_length, length-append}

-- as much of rest as there is room for stands first in `into`: it is a prefix of rest, and empty only at the end
pub prefix_copied : (rest into new : List ℕ) (n : ℕ) → n ≡ min (length rest) (length into) → new ≡ take n rest
    → (rest ≡ take n (new ++ drop n into) ++ drop n rest) × (n ≡ 0 → 0 < length (new ++ drop n into) → drop n rest ≡ [])
prefix_copied rest into new n least copied =
    let long : length new ≡ n = ap length copied ∙ length-take n rest ∙ omega arith in
    let seam : take n (new ++ drop n into) ≡ new = ap (λ k. take k (new ++ drop n into)) (sym long) ∙ take-append_seam new (drop n into) in
    let whole : take n (new ++ drop n into) ++ drop n rest ≡ rest = ap (λ front. front ++ drop n rest) (seam ∙ copied) ∙ take-append-drop n rest in (
      sym whole,
      λ none room.
          let wide = length-append new (drop n into) in
          let short = length-drop n into in
          let left = length-drop n rest in
          nil_from_length (drop n rest) (omega arith),
    )

-- so many of a rest that has them stand first in `into`
prefix_kept : (rest into new : List ℕ) (n : ℕ) → n ≤ length rest → new ≡ take n rest → take n (new ++ drop n into) ≡ take n rest
prefix_kept rest into new n fits copied =
    let long : length new ≡ n = ap length copied ∙ length-take n rest ∙ omega arith in
    ap (λ k. take k (new ++ drop n into)) (sym long) ∙ take-append_seam new (drop n into) ∙ copied

-- a piece of the bytes from a place on, of at most so many, stands first in `into`: it goes from what is left to what came,
-- and is empty only at the end
pub piece_copied : (bytes rest into new : List ℕ) (at n most : ℕ) → rest ≡ drop at bytes → n ≡ min (min (length rest) (length into)) (max most 1)
    → new ≡ take n rest
    → (drop at bytes ≡ take n (new ++ drop n into) ++ drop (at + n) bytes)
    × (n ≡ 0 → 0 < length (new ++ drop n into) → drop (at + n) bytes ≡ [])
    × (take (at + n) bytes ≡ take at bytes ++ take n (new ++ drop n into))
piece_copied bytes rest into new at n most is size copied =
    let kept : take n (new ++ drop n into) ≡ take n (drop at bytes) =
    prefix_kept rest into new n (omega arith) copied ∙ ap (take n) is in
    let moved : drop n (drop at bytes) ≡ drop (at + n) bytes = drop-drop n at bytes in (
      sym (take-append-drop n (drop at bytes)) ∙ ap (λ front. front ++ drop n (drop at bytes)) (sym kept)
          ∙ ap (λ back. take n (new ++ drop n into) ++ back) moved,
      λ none room.
          let wide = length-append new (drop n into) in
          let short = length-drop n into in
          let long : length new ≡ n = ap length copied ∙ length-take n rest ∙ omega arith in
          let from = ap length is in
          let left = length-drop (at + n) bytes in
          let gone = length-drop at bytes in
          nil_from_length (drop (at + n) bytes) (omega arith),
      take-add at n bytes ∙ ap (λ more. take at bytes ++ more) (sym kept),
    )
