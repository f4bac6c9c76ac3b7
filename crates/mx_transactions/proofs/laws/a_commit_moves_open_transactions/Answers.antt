use Rattle.mx_transactions.proofs.CommitLaws.{all_moved}
use Rattle.mx_transactions.proofs.laws.a_commit_moves_open_transactions.Goals as goal

pub returns : goal.returns
returns c = λ streams commit old new marks keys is_schema all bytes schema spells are moves.
    all_moved streams commit all bytes old new marks keys is_schema schema spells are moves
