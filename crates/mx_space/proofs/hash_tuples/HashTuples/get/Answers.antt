use Rattle.std.proofs.Common.{ap, ◌∙◌}
use Rattle.std.specs.BTreeMap.{is_at}
use Rattle.std.specs.Cmp.Lexicographic.{slice_cmp}
use Rattle.std.specs.Map.{lookup}
use Rattle.std.specs.Ordering.{nat_cmp}
use Rattle.mx_space.proofs.FirstTupleLaws.{looked_up}
use Rattle.mx_space.proofs.hash_tuples.HashTuples.get.Goals as goal

pub returns : goal.returns
returns c =
    let key = c.args.key.now in
    c.get.ensures.value ∙ looked_up c.self.inside.tuples.entries key ∙ ap (λ t. lookup (is_at (slice_cmp nat_cmp key)) t.entries) c.self.view_is
