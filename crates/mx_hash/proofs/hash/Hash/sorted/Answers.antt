use Rattle.std.proofs.Common.{ap, ◌∙◌}
use Rattle.std.specs.FinMap as finite
use Rattle.mx_hash.proofs.OrderLaws.{keys_sorted}
use Rattle.mx_hash.proofs.hash.Hash.sorted.Goals as goal

pub returns : goal.returns
returns c =
    let permuted = rw c.in_ok-keys.ensures.keys at c.sort_unstable.ensures.permutation in
    c.from_vec.ensures
    ∙ keys_sorted c.self.inside.numbers c.sort_unstable.new.self.items c.in_ok-keys.ensures.unique permuted c.sort_unstable.ensures.sorted
    ∙ ap (λ t. finite.keys t.map) c.self.view_is
