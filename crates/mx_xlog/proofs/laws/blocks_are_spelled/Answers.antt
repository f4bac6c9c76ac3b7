use Rattle.mx_xlog.proofs.SplitLaws.{blocks_split, split_once}
use Rattle.mx_xlog.proofs.laws.blocks_are_spelled.Goals as goal

pub returns-clause-split : goal.returns-clause-split
returns-clause-split c = blocks_split

pub returns-clause-once : goal.returns-clause-once
returns-clause-once c = split_once
