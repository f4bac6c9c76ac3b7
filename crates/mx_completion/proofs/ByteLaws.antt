-- Rows of bytes: how they are joined, and what stands first in them once others follow.
use Rattle.std.proofs.Common.{◌≡◌, ℕ, zero, suc, ◌^◌, ◌<◌, ◌≤◌, List, [], ◌∷◌, ◌++◌, length, take, drop, refl, sym, ap, ◌∙◌, arith}
use Rattle.std.proofs.lemmas.List.{take_at, drop_at, take-append-drop, take-append-le, drop-append-le}
use Rattle.mx_msgpack.specs.Spelling.{AreBytes}
use Rattle.mx_msgpack.proofs.ShortestLaws.{front_of, rest_of}

pub one_byte : (byte : ℕ) → byte < 2 ^ 8 → AreBytes (byte ∷ [])
one_byte byte fits zero = fits
one_byte byte fits (suc i) = omega arith

pub bytes-append : (front rest : List ℕ) → AreBytes front → AreBytes rest → AreBytes (front ++ rest)
bytes-append [] rest each others i = others i
bytes-append (byte ∷ front) rest each others zero = each zero
bytes-append (byte ∷ front) rest each others (suc i) = bytes-append front rest (λ k. each (suc k)) others i

-- ---- what stands first

module _ (bytes more front rest : List ℕ) (both : bytes ++ more ≡ front ++ rest) where
  pub ends_within : length front ≤ length bytes → front ≡ take (length front) bytes
  ends_within few =
      let size = length front in
      sym (take_at front rest size refl) ∙ ap (take size) (sym both) ∙ take-append-le size bytes more few

  pub ends_beyond : length bytes ≤ length front → (missing : List ℕ) × (front ≡ bytes ++ missing) × (more ≡ missing ++ rest)
  ends_beyond many =
      let size = length bytes in
      let start : take size front ≡ bytes = sym (take-append-le size front rest many) ∙ ap (take size) (sym both) ∙ take_at bytes more size refl in (
        drop size front,
        sym (take-append-drop size front) ∙ ap (λ (l : List ℕ). l ++ drop size front) start,
        sym (drop_at bytes more size refl) ∙ ap (drop size) both ∙ drop-append-le size front rest many,
      )

-- what stands behind a part that the bytes don't go beyond is made of the bytes that follow them
pub behind_bytes : (bytes missing front back rest : List ℕ) → bytes ++ missing ≡ front ++ (back ++ rest) → length bytes ≤ length front → AreBytes missing → AreBytes back
behind_bytes bytes missing front back rest e few each =
    let size = length bytes in
    let parts : missing ≡ drop size front ++ (back ++ rest) =
    sym (drop_at bytes missing size refl) ∙ ap (drop size) e ∙ drop-append-le size front (back ++ rest) few in
    front_of (back ++ rest) back rest refl (rest_of missing (drop size front) (back ++ rest) parts each)
