-- The rows of a transaction as bytes: a row more, and how many bytes they are.
use Rattle.std.proofs.Common.{◌≡◌, ℕ, suc, ◌+◌, ◌≤◌, List, [], ◌∷◌, ◌++◌, length, sym, ap, ◌∙◌, append_assoc, arith}
use Rattle.std.specs.Prelude.{map}
use Rattle.std.proofs.lemmas.List.{append-nil, length-append}
use Rattle.std.proofs.lemmas.List.Sums.{sum_by-cons}
use Rattle.mx_row.specs.declared.row.Row.{Row}
use Rattle.mx_row.specs.declared.tx.Tx.{Tx}
use Rattle.mx_row.specs.Limits.{max_transaction_size, row_size, rows_size}
use Rattle.mx_row.specs.Rows.{IsTransaction, place_among, placed_text, row_text, transaction_text}
use Rattle.mx_row.proofs.RowLaws.{row_length}

-- a row more
pub placed_text-push : (count replica lsn number : ℕ) (rows : List Row) (row : Row)
    → placed_text count replica lsn number (rows ++ row ∷ [])
    ≡ placed_text count replica lsn number rows ++ row_text replica (lsn + length rows) (place_among count (number + length rows)) row
placed_text-push count replica lsn number [] row =
    let e : lsn ≡ lsn + 0 = omega arith in
    let f : number ≡ number + 0 = omega arith in
    append-nil (row_text replica lsn (place_among count number) row) ∙ (λ i. row_text replica (e i) (place_among count (f i)) row)
placed_text-push count replica lsn number (other ∷ rows) row =
    let text = row_text replica lsn (place_among count number) other in
    let others = placed_text count replica (suc lsn) (suc number) rows in
    let e : suc lsn + length rows ≡ lsn + suc (length rows) = omega arith in
    let f : suc number + length rows ≡ number + suc (length rows) = omega arith in
    ap (λ (l : List ℕ). text ++ l) (placed_text-push count replica (suc lsn) (suc number) rows row)
    ∙ sym (append_assoc text others (row_text replica (suc lsn + length rows) (place_among count (suc number + length rows)) row))
    ∙ (λ i. (text ++ others) ++ row_text replica (e i) (place_among count (f i)) row)

placed_length : (count replica lsn number : ℕ) (rows : List Row) → length (placed_text count replica lsn number rows) ≤ rows_size rows
placed_length count replica lsn number [] = omega arith
placed_length count replica lsn number (row ∷ rows) =
    let text = row_text replica lsn (place_among count number) row in
    let others = placed_text count replica (suc lsn) (suc number) rows in
    let size : rows_size (row ∷ rows) ≡ row_size row + rows_size rows = sum_by-cons (λ (n : ℕ). n) (row_size row) (map row_size rows) in
    let short = (row_length replica lsn (place_among count number) row).1 in
    let rest = placed_length count replica (suc lsn) (suc number) rows in
    omega (arith, length-append text others)

-- a transaction has a byte at least, and no more than it may
pub transaction_length : (transaction : Tx) → IsTransaction transaction
    → (1 ≤ length (transaction_text transaction)) × (length (transaction_text transaction) ≤ max_transaction_size)
transaction_length transaction is =
    let all = placed_length (length transaction.rows) transaction.replica.0 transaction.first.0 0 transaction.rows in
    (some transaction.rows is.some, omega (arith, all, is.short))
  where
    some : (rows : List Row) → 1 ≤ length rows → 1 ≤ length (placed_text (length transaction.rows) transaction.replica.0 transaction.first.0 0 rows)
    some [] one = absurd (omega arith)
    some (row ∷ rows) one =
        let count = length transaction.rows in
        let replica = transaction.replica.0 in
        let first = transaction.first.0 in
        let long = (row_length replica first (place_among count 0) row).0 in
        omega (arith, length-append (row_text replica first (place_among count 0) row) (placed_text count replica (suc first) 1 rows))
