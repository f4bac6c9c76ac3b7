-- The state after the transactions of a journal, and then of others.
use Rattle.std.proofs.Common.{◌≡◌, List, [], ◌∷◌, ◌++◌, refl}
use Rattle.mx_row.specs.declared.tx.Tx.{Tx}
use Rattle.mx_schema.specs.State.{State}
use Rattle.mx_model.specs.Answers.{state_after_rows}
use Rattle.mx_model.specs.Transactions.{state_after}

pub state_after-append : (base : State) (xs ys : List Tx)
    → state_after base (xs ++ ys) ≡ state_after (state_after base xs) ys
state_after-append base [] ys = refl
state_after-append base (x ∷ xs) ys = state_after-append (state_after_rows base x.rows) xs ys
