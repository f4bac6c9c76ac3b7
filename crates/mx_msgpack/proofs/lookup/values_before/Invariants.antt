use Rattle.std.proofs.Common.{◌≡◌, ◌*◌, map}
use Rattle.std.specs.Option.{option_copied}
use Rattle.mx_msgpack.specs.Maps.{pairs_from, value_under}
use Rattle.mx_msgpack.specs.Steps.{after_inners}
use Rattle.mx_msgpack.proofs.LookupLaws.{followed}
use Rattle.mx_msgpack.proofs.lookup.values_before.Given as goal

-- the remaining pairs end where all end, and what was found so far and what they give are together what all pairs give
abbrev pub invariant-loop-left : goal.invariant-loop-left
invariant-loop-left l = record {
  ends : after_inners (2 * l.left) l.rest ≡ after_inners (2 * l.count) l.initial.rest;
  found : followed l.keys (map option_copied l.values) (pairs_from l.left l.rest) ≡ map (λ key. value_under key (pairs_from l.count l.initial.rest)) l.keys;
}

abbrev pub decreases-loop-left : goal.decreases-loop-left
decreases-loop-left l = l.left
