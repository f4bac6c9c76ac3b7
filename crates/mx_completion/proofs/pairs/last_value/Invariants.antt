use Rattle.std.proofs.Common.{◌≡◌, ◌-◌}
use Rattle.std.specs.Option.{option_copied, option_or}
use Rattle.mx_msgpack.specs.Maps.{pairs_from, value_under}
use Rattle.mx_completion.proofs.pairs.last_value.Given as goal

-- what the remaining pairs give, or else what was found so far, is what all pairs give
abbrev pub invariant-loop : goal.invariant-loop
invariant-loop l =
    option_or (value_under l.key (pairs_from (l.count - l.counter) l.rest)) (option_copied l.found) ≡ value_under l.key (pairs_from l.count l.pairs)
