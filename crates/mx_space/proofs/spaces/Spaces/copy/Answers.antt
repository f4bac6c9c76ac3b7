use Rattle.std.proofs.Common.{ap, map, ◌∙◌}
use Rattle.mx_space.specs.Reserved.{entry_content}
use Rattle.mx_space.proofs.PlaceLaws.{ascend_too, same_under}
use Rattle.mx_space.proofs.spaces.Spaces.copy.Goals as goal

pub invariant_of-result : goal.invariant_of-result
invariant_of-result c =
    let same = c.in_ok-copies_of.ensures ∙ ap (map entry_content) c.as_slice.ensures.value in
    record { ascending = ascend_too _ c.args.self.now.entries.items same c.args.self.now.ascending }

pub returns : goal.returns
returns c = same_under _ _ (c.in_ok-copies_of.ensures ∙ ap (map entry_content) c.as_slice.ensures.value)
