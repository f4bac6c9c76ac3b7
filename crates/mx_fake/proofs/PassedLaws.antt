-- What a sink passed on is a prefix of what it passed on once it holds more, and of all that it holds.
use Rattle.std.proofs.Common.{◌≡◌, ℕ, zero, suc, List, [], ◌∷◌, ◌++◌, length, take, drop, refl, sym, ap, ◌∙◌, arith}
use Rattle.std.proofs.lemmas.List.{take_all, take-append-drop}

pub goes_on : (count : ℕ) (bytes more : List ℕ) → (rest : List ℕ) × (take count (bytes ++ more) ≡ take count bytes ++ rest)
goes_on zero bytes more = ([], refl)
goes_on (suc count) [] more = (take (suc count) more, refl)
goes_on (suc count) (byte ∷ bytes) more = let others = goes_on count bytes more in (others.0, ap (λ bytes. byte ∷ bytes) others.1)

pub goes_to_end : (count long : ℕ) (bytes : List ℕ) → long ≡ length bytes → (rest : List ℕ) × (take long bytes ≡ take count bytes ++ rest)
goes_to_end count long bytes all = (drop count bytes, take_all long bytes (omega arith) ∙ sym (take-append-drop count bytes))
