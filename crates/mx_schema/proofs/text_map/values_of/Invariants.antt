use Rattle.std.proofs.Common.{◌≡◌, map}
use Rattle.std.specs.Option.{option_copied}
use Rattle.mx_schema.specs.TextMaps.{text_pairs_from, value_of_key}
use Rattle.mx_schema.proofs.TextLaws.{followed}
use Rattle.mx_schema.proofs.text_map.values_of.Given as goal

-- what was found so far and what the remaining pairs give are together what all pairs give
abbrev pub invariant-loop-left : goal.invariant-loop-left
invariant-loop-left l =
    followed (map (λ key. key.now) l.keys) (map option_copied l.values) (text_pairs_from l.left l.rest)
    ≡ map (λ key. value_of_key key (text_pairs_from l.pairs.count l.pairs.bytes.now)) (map (λ key. key.now) l.keys)

abbrev pub decreases-loop-left : goal.decreases-loop-left
decreases-loop-left l = l.left
