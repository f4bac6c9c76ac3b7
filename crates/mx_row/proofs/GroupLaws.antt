-- Groups of transactions, and the rows of several transactions.
use Rattle.std.proofs.Common.{◌≡◌, List, [], ◌∷◌, ◌++◌, map, Some, refl, sym, ap, ◌∙◌}
use Rattle.std.proofs.lemmas.List.{append_assoc, map-append}
use Rattle.std.proofs.lemmas.List.Folds.{concat-append}
use Rattle.std.specs.List.{concat, AllByRecursion}
use Rattle.mx_msgpack.specs.Readers.{all_from, in_front}
use Rattle.mx_msgpack.proofs.ReaderLaws.{all_from_some}
use Rattle.mx_row.specs.declared.tx.Tx.{Tx}
use Rattle.mx_row.specs.Rows.{IsTransaction, transaction_text, transactions_text, transactions_of, transaction_at, only_whole, transactions_in}
use Rattle.mx_row.proofs.BehindLaws.{transaction_at-Advances}
use Rattle.mx_row.proofs.GrammarLaws.{transaction_again}

pub transactions_text-append : (xs ys : List Tx) → transactions_text (xs ++ ys) ≡ transactions_text xs ++ transactions_text ys
transactions_text-append xs ys =
    ap concat (map-append transaction_text xs ys) ∙ concat-append (map transaction_text xs) (map transaction_text ys)

pub transactions_of-append : (xs ys : List (List Tx)) → transactions_of (xs ++ ys) ≡ transactions_of xs ++ transactions_of ys
transactions_of-append [] ys = refl
transactions_of-append (x ∷ xs) ys =
    ap (λ (l : List Tx). x ++ l) (transactions_of-append xs ys) ∙ sym (append_assoc x (transactions_of xs) (transactions_of ys))

-- the rows of groups are those of all their transactions
pub groups_joined : (groups : List (List Tx)) → concat (map transactions_text groups) ≡ transactions_text (transactions_of groups)
groups_joined [] = refl
groups_joined (group ∷ groups) =
    ap (λ text. transactions_text group ++ text) (groups_joined groups) ∙ sym (transactions_text-append group (transactions_of groups))

each_again : (transactions : List Tx) → AllByRecursion IsTransaction transactions → all_from transaction_at (transactions_text transactions) ≡ (transactions, [])
each_again [] each = refl
each_again (transaction ∷ others) (is, each) =
    let rest = transactions_text others in
    all_from_some transaction_at transaction_at-Advances (transaction_text transaction ++ rest) (transaction, rest) (transaction_again transaction rest is)
    ∙ ap (in_front transaction) (each_again others each)

-- what is written is read again
pub transactions_again : (transactions : List Tx) → AllByRecursion IsTransaction transactions → transactions_in (transactions_text transactions) ≡ Some transactions
unfolding transactions_in
transactions_again transactions each = ap only_whole (each_again transactions each)
