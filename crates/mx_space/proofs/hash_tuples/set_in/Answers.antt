use Rattle.std.proofs.Common.{is_some, refl, sym, ap, ◌∙◌}
use Rattle.std.specs.Option.{option_copied_mut}
use Rattle.mx_space.specs.HashViews.{hash_entries}
use Rattle.mx_space.proofs.FirstTupleLaws.{looked_up, set_there}
use Rattle.mx_space.proofs.ChangeLaws.{not_set}
use Rattle.mx_space.proofs.hash_tuples.set_in.Goals as goal

pub returns-in_default : goal.returns-in_default
returns-in_default c =
    let kept = c.args.tuples.now.entries in
    let key = c.args.key.now in
    ap (λ m. hash_entries m.entries) c.get_mut.follows.holds-at-none
    ∙ not_set (hash_entries kept) key c.args.tuple (sym (looked_up kept key) ∙ sym c.get_mut.ensures.value ∙ ap option_copied_mut c.in_default.is)

pub returns-in-Some : goal.returns-in-Some
returns-in-Some c =
    let updates = (c.get_mut.follows.holds c.args.tuple).3 (ap is_some (sym c.in-Some.ensures.value)) in
    set_there c.args.tuples.now (c.get_mut.follows.lender c.args.tuple) c.args.key.now _ c.args.tuple c.in-Some.ensures.value refl updates
