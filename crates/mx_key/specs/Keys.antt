-- Keys: lists of parts, and their order.
use Rattle.std.specs.Prelude.{ℕ, ℤ, Bool, true, false, ◌&&◌, List, [], ◌∷◌}
use Rattle.std.specs.declared.cmp.Ordering.{Ordering}
use Rattle.std.specs.declared.cmp.Ordering.TheVariants.{Equal}
use Rattle.std.specs.Ordering.{bool_cmp, int_cmp, nat_cmp, ordering_then, is_eq}
use Rattle.std.specs.Cmp.Lexicographic.{slice_cmp}
use Rattle.mx_msgpack.specs.Writing.{Fits64}

pub data KeyPart : Type 0 where
  Boolean : Bool → KeyPart
  Integer : ℤ → KeyPart
  Text : List ℕ → KeyPart
  Binary : List ℕ → KeyPart

abbrev pub Key : Type 0
Key = List KeyPart

-- Booleans come before numbers, numbers before texts, and texts before other bytes
abbrev pub rank : KeyPart → ℕ
rank (Boolean truth) = 0
rank (Integer number) = 1
rank (Text text) = 2
rank (Binary content) = 3

-- the order within a rank: false first, numbers by value, texts and other bytes by their bytes
abbrev pub within : KeyPart → KeyPart → Ordering
within (Boolean x) (Boolean y) = bool_cmp x y
within (Integer x) (Integer y) = int_cmp x y
within (Text x) (Text y) = slice_cmp nat_cmp x y
within (Binary x) (Binary y) = slice_cmp nat_cmp x y
within _ _ = Equal

-- by rank, and within one rank by value
abbrev pub part_cmp : KeyPart → KeyPart → Ordering
part_cmp x y = ordering_then (nat_cmp (rank x) (rank y)) (within x y)

-- part by part, a proper prefix first
abbrev pub key_cmp : Key → Key → Ordering
key_cmp = slice_cmp part_cmp

-- one list is a prefix of another, where its elements are compared so
abbrev pub is_prefix : {A : Type 0} → (A → A → Ordering) → List A → List A → Bool
is_prefix cmp [] ys = true
is_prefix cmp (x ∷ xs) [] = false
is_prefix cmp (x ∷ xs) (y ∷ ys) = is_eq (cmp x y) && is_prefix cmp xs ys

-- the first key is a prefix of the second one
abbrev pub is_key_prefix : Key → Key → Bool
is_key_prefix = is_prefix part_cmp

-- a number has 64 bits
abbrev pub IsFit : KeyPart → Type 0
IsFit (Integer number) = Fits64 number
IsFit _ = Unit {0}

abbrev pub AreFit : Key → Type 0
AreFit [] = Unit {0}
AreFit (part ∷ parts) = IsFit part × AreFit parts
