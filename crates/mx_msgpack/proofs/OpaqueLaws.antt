-- Floats and extensions: a head, and so many bytes after it.
use Rattle.std.proofs.Common.{◌≡◌, ℕ, suc, ◌≤◌, List, [], ◌∷◌, ◌++◌, length, refl, ap, ◌∙◌, inl, inr, ◌⊎◌, arith}
use Rattle.mx_msgpack.specs.Grammar.{SpellsNumber, IsFixed, IsExtension, IsOpaque, max_length}
use Rattle.mx_msgpack.specs.Faults.{SpellsFixed, FixedHead, ExtensionHead}

-- what is spelled by a head and its bytes is one

fixed_one : (leading wanted size : ℕ) (front content : List ℕ) → SpellsFixed leading wanted size front → length content ≡ size → IsFixed leading wanted (front ++ content)
fixed_one leading wanted size front content (n, e) len = (content, len ∙ n, ap (λ (l : List ℕ). l ++ content) e)

pub fixed_whole : (size : ℕ) (front content : List ℕ) → FixedHead size front → length content ≡ size → IsOpaque (front ++ content)
fixed_whole size front content s len =
    elim s [
      | inl s ↦ inl (fixed_one 0xca 4 size front content s len)
      | inr (inl s) ↦ inr (inl (fixed_one 0xcb 8 size front content s len))
      | inr (inr (inl s)) ↦ inr (inr (inl (fixed_one 0xd4 2 size front content s len)))
      | inr (inr (inr (inl s))) ↦ inr (inr (inr (inl (fixed_one 0xd5 3 size front content s len))))
      | inr (inr (inr (inr (inl s)))) ↦ inr (inr (inr (inr (inl (fixed_one 0xd6 5 size front content s len)))))
      | inr (inr (inr (inr (inr (inl s))))) ↦ inr (inr (inr (inr (inr (inl (fixed_one 0xd7 9 size front content s len))))))
      | inr (inr (inr (inr (inr (inr s))))) ↦ inr (inr (inr (inr (inr (inr (inl (fixed_one 0xd8 17 size front content s len)))))))
    ]

pub extension_whole : (size : ℕ) (front content : List ℕ) → ExtensionHead size front → size ≤ max_length → length content ≡ suc size → IsOpaque (front ++ content)
extension_whole size front content s few len =
    elim s [
      | inl s ↦ inr (inr (inr (inr (inr (inr (inr (inl (size, front, content, s, few, len, refl))))))))
      | inr (inl s) ↦ inr (inr (inr (inr (inr (inr (inr (inr (inl (size, front, content, s, few, len, refl)))))))))
      | inr (inr s) ↦ inr (inr (inr (inr (inr (inr (inr (inr (inr (size, front, content, s, few, len, refl)))))))))
    ]

-- ---- one is a head and its bytes

pub record FixedParts (bytes : List ℕ) : Type 0 where
  pub size : ℕ
  pub front : List ℕ
  pub content : List ℕ
  pub parts : bytes ≡ front ++ content
  pub head : FixedHead size front
  pub many : length content ≡ size
  pub few : size ≤ max_length

pub record ExtensionParts (bytes : List ℕ) : Type 0 where
  pub size : ℕ
  pub front : List ℕ
  pub content : List ℕ
  pub parts : bytes ≡ front ++ content
  pub head : ExtensionHead size front
  pub many : length content ≡ suc size
  pub few : size ≤ max_length

fixed_parts : (leading wanted : ℕ) (bytes : List ℕ) → FixedHead wanted (leading ∷ []) → wanted ≤ 17 → IsFixed leading wanted bytes → FixedParts bytes ⊎ ExtensionParts bytes
fixed_parts leading wanted bytes row low (content, len, e) =
    inl (record { size = wanted; front = leading ∷ []; content = content; parts = e; head = row; many = len; few = omega arith })

extension_parts : (leading width : ℕ) (bytes : List ℕ) → ((size : ℕ) (front : List ℕ) → SpellsNumber leading width size front → ExtensionHead size front)
    → IsExtension leading width bytes → FixedParts bytes ⊎ ExtensionParts bytes
extension_parts leading width bytes row (size, front, content, s, few, len, e) =
    inr (record { size = size; front = front; content = content; parts = e; head = row size front s; many = len; few = few })

pub opaque_parts : (bytes : List ℕ) → IsOpaque bytes → FixedParts bytes ⊎ ExtensionParts bytes
opaque_parts bytes s =
    elim s [
      | inl s ↦ fixed_parts 0xca 4 bytes (inl (refl, refl)) (omega arith) s
      | inr (inl s) ↦ fixed_parts 0xcb 8 bytes (inr (inl (refl, refl))) (omega arith) s
      | inr (inr (inl s)) ↦ fixed_parts 0xd4 2 bytes (inr (inr (inl (refl, refl)))) (omega arith) s
      | inr (inr (inr (inl s))) ↦ fixed_parts 0xd5 3 bytes (inr (inr (inr (inl (refl, refl))))) (omega arith) s
      | inr (inr (inr (inr (inl s)))) ↦ fixed_parts 0xd6 5 bytes (inr (inr (inr (inr (inl (refl, refl)))))) (omega arith) s
      | inr (inr (inr (inr (inr (inl s))))) ↦ fixed_parts 0xd7 9 bytes (inr (inr (inr (inr (inr (inl (refl, refl))))))) (omega arith) s
      | inr (inr (inr (inr (inr (inr (inl s)))))) ↦ fixed_parts 0xd8 17 bytes (inr (inr (inr (inr (inr (inr (refl, refl))))))) (omega arith) s
      | inr (inr (inr (inr (inr (inr (inr (inl s))))))) ↦ extension_parts 0xc7 1 bytes (λ size front h. inl h) s
      | inr (inr (inr (inr (inr (inr (inr (inr (inl s)))))))) ↦ extension_parts 0xc8 2 bytes (λ size front h. inr (inl h)) s
      | inr (inr (inr (inr (inr (inr (inr (inr (inr s)))))))) ↦ extension_parts 0xc9 4 bytes (λ size front h. inr (inr h)) s
    ]
