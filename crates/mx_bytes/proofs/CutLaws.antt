-- Bytes in pieces: one more at the end, all together, and how many there are.
use Rattle.std.proofs.Common.{◌≡◌, ℕ, suc, ◌+◌, ◌≤◌, List, [], ◌∷◌, ◌++◌, length, take, drop, refl, sym, ap, ◌∙◌, arith}
use Rattle.std.specs.List.{concat, sum}
use Rattle.std.proofs.lemmas.List.{length-drop, nil_from_length, take-append-drop, take-append-le, drop-append-le, take_all}
use Rattle.std.proofs.lemmas.List.Sums.{sum_by-cons}
use Rattle.mx_bytes.specs.Pieces.{pieces}

pub pieces-length : (sizes bytes : List ℕ) → length (pieces sizes bytes) ≡ length sizes
pieces-length [] bytes = refl
pieces-length (size ∷ sizes) bytes = ap suc (pieces-length sizes (drop size bytes))

first_and_others : (size : ℕ) (sizes : List ℕ) → sum (size ∷ sizes) ≡ size + sum sizes
first_and_others size sizes = sum_by-cons (λ n. n) size sizes

-- the others are pieces of what is left
others_whole : (size : ℕ) (sizes bytes : List ℕ) → sum (size ∷ sizes) ≡ length bytes → sum sizes ≡ length (drop size bytes)
others_whole size sizes bytes whole = omega (arith, whole, first_and_others size sizes, length-drop size bytes)

first_within : (size : ℕ) (sizes bytes : List ℕ) → sum (size ∷ sizes) ≡ length bytes → size ≤ length bytes
first_within size sizes bytes whole = omega (arith, whole, first_and_others size sizes)

-- all of them together are the bytes
pub pieces-concat : (sizes bytes : List ℕ) → sum sizes ≡ length bytes → concat (pieces sizes bytes) ≡ bytes
pieces-concat [] bytes whole = sym (nil_from_length bytes (sym whole))
pieces-concat (size ∷ sizes) bytes whole =
    ap (λ rest. take size bytes ++ rest) (pieces-concat sizes (drop size bytes) (others_whole size sizes bytes whole))
    ∙ take-append-drop size bytes

-- bytes that are added are a piece more
pub pieces-more : (sizes bytes more : List ℕ) → sum sizes ≡ length bytes
    → pieces (sizes ++ length more ∷ []) (bytes ++ more) ≡ pieces sizes bytes ++ more ∷ []
pieces-more [] bytes more whole =
    let none : bytes ≡ [] = nil_from_length bytes (sym whole) in
    ap (λ piece. piece ∷ []) (ap (λ b. take (length more) (b ++ more)) none ∙ take_all (length more) more (omega arith))
pieces-more (size ∷ sizes) bytes more whole =
    let within = first_within size sizes bytes whole in
    ap (λ piece. piece ∷ pieces (sizes ++ length more ∷ []) (drop size (bytes ++ more))) (take-append-le size bytes more within)
    ∙ ap (λ rest. take size bytes ∷ pieces (sizes ++ length more ∷ []) rest) (drop-append-le size bytes more within)
    ∙ ap (λ rest. take size bytes ∷ rest) (pieces-more sizes (drop size bytes) more (others_whole size sizes bytes whole))
