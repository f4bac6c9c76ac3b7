-- The vclock after transactions, one list after another.
use Rattle.std.proofs.Common.{◌≡◌, ℕ, List, [], ◌∷◌, ◌++◌, refl}
use Rattle.mx_row.specs.declared.tx.Tx.{Tx}
use Rattle.mx_row.specs.Clocks.{clock_after, clock_after_one}

pub clock_after-append : (base : List ℕ) (xs ys : List Tx)
    → clock_after base (xs ++ ys) ≡ clock_after (clock_after base xs) ys
clock_after-append base [] ys = refl
clock_after-append base (x ∷ xs) ys = clock_after-append (clock_after_one base x) xs ys
