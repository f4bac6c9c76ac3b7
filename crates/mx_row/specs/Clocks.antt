-- The vclock after transactions, and which transaction follows a vclock.
use Rattle.std.specs.Prelude.{ℕ, ◌+◌, ◌-◌, List, [], ◌∷◌, length, slice_set, suc, Bool, ◌&&◌, slice_index, nat_le, ◌==◌}
use Rattle.mx_row.specs.declared.tx.Tx.{Tx}
use Rattle.mx_vclock.specs.Vclocks.{max_lsn}

-- the lsn of a transaction's last row
abbrev pub last_lsn : Tx → ℕ
last_lsn transaction = (transaction.first.0 + length transaction.rows) - 1

-- the vclock after one transaction
abbrev pub clock_after_one : List ℕ → Tx → List ℕ
clock_after_one clock transaction = slice_set clock transaction.replica.0 (last_lsn transaction)

-- the vclock after the transactions of a journal
abbrev pub clock_after : List ℕ → List Tx → List ℕ
clock_after clock [] = clock
clock_after clock (transaction ∷ others) = clock_after (clock_after_one clock transaction) others

-- the transaction has the next lsns of its replica
abbrev pub follows : List ℕ → Tx → Bool
follows clock transaction =
    (transaction.first.0 == suc (slice_index clock transaction.replica.0)) && nat_le (last_lsn transaction) max_lsn
