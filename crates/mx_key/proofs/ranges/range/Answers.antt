use Rattle.mx_key.proofs.ranges.range.Goals as goal

pub returns-clause-picked : goal.returns-clause-picked
returns-clause-picked c fitting e = c.range_from.ensures.picked fitting (c.in_ok-bytes.ensures fitting e)
