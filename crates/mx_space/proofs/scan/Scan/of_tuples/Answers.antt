use Rattle.std.proofs.Common.{◌∙◌}
use Rattle.std.specs.BTreeMap.Range.{entries_between}
use Rattle.std.specs.Cmp.Lexicographic.{slice_cmp}
use Rattle.std.specs.Ordering.{nat_cmp}
use Rattle.mx_entries.proofs.PickLaws.{entries_held}
use Rattle.mx_space.proofs.scan.Scan.of_tuples.Goals as goal

pub returns : goal.returns
returns c =
    c.range.ensures.between tt
    ∙ (λ i. entries_between (slice_cmp nat_cmp) (c.low_bound.ensures i) (c.high_bound.ensures i) c.args.tuples.now.entries) ∙ entries_held c.args.range.now c.args.tuples.now.entries
