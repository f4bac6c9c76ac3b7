use Rattle.mx_transactions.proofs.open.remove_unread.Goals as goal
