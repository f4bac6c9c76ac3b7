use Rattle.std.proofs.Common.{refl, sym, ◌∙◌}
use Rattle.mx_key.proofs.ArrayLaws.{range_of_nothing, range_of_some}
use Rattle.mx_key.proofs.ranges.range_from.Goals as goal

pub returns-then-is_empty-clause-picked : goal.returns-then-is_empty-clause-picked
returns-then-is_empty-clause-picked c fitting bytes =
    let none = c.if-is_empty.ensures.0 refl in
    sym (range_of_nothing c.args.iterator fitting (sym bytes ∙ none))

pub returns-clause-picked : goal.returns-clause-picked
returns-clause-picked c fitting bytes =
    let some = range_of_some c.args.iterator fitting (λ none. absurd (cc (c.if-is_empty.ensures.1 (bytes ∙ none)))) in
    rw some (c.range_by.ensures.picked fitting bytes)
