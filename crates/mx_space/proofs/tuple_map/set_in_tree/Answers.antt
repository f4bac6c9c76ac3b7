use Rattle.std.proofs.Common.{sym, ap, ◌∙◌}
use Rattle.std.specs.Option.{option_copied_mut}
use Rattle.mx_space.proofs.ChangeLaws.{not_set}
use Rattle.mx_space.proofs.tuple_map.set_in_tree.Goals as goal

pub returns-in_default : goal.returns-in_default
returns-in_default c =
    let kept = c.args.tuples.now.entries in
    ap (λ m. m.entries) c.get_mut.follows.holds-at-none ∙ not_set kept c.args.key.now c.args.tuple (sym c.get_mut.ensures.value ∙ ap option_copied_mut c.in_default.is)
