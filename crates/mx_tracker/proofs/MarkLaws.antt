-- Marks and lists that are all alike.
use Rattle.std.proofs.Common.{◌≡◌, ℕ, get_or, replicate, inl, inr, arith}
use Rattle.std.proofs.lemmas.Bool.{cases_lt}
use Rattle.std.proofs.lemmas.List.{get_or-replicate, get_or_past, length-replicate}

-- past its end too, a list of copies has that value as its default
pub copy_at : {X : Type 0} (count slot : ℕ) (x : X) → get_or (replicate count x) slot x ≡ x
copy_at count slot x = elim (cases_lt slot count) [
  | inl below ↦ get_or-replicate count slot x x below
  | inr past ↦ get_or_past (replicate count x) slot x (omega (arith, length-replicate count x))
]
