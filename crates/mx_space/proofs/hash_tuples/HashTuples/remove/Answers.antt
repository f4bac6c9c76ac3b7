use Rattle.std.proofs.Common.{ap, ◌∙◌}
use Rattle.std.specs.BTreeMap.{is_at}
use Rattle.std.specs.Cmp.Lexicographic.{slice_cmp}
use Rattle.std.specs.Map.{remove_entry}
use Rattle.std.specs.Ordering.{nat_cmp}
use Rattle.mx_space.proofs.FirstTupleLaws.{taken_out}
use Rattle.mx_space.proofs.hash_tuples.HashTuples.remove.Goals as goal

pub returns : goal.returns
returns c =
    let key = c.args.key.now in
    taken_out c.self.inside.tuples c.remove.new.self key c.remove.ensures.updates
    ∙ ap (λ t. remove_entry (is_at (slice_cmp nat_cmp key)) t.entries) c.self.view_is
