use Rattle.std.proofs.Common.{◌≡◌, List, [], ◌++◌, sym, ap, ◌∙◌, subst}
use Rattle.std.specs.List.{AllByRecursion, flat_map}
use Rattle.std.proofs.lemmas.List.{append-nil}
use Rattle.mx_space.specs.OwnCommit.{AreOrdered, changes_in}
use Rattle.mx_space.proofs.OwnApartLaws.{commit_made}
use Rattle.mx_space.proofs.OwnCommitLaws.{OwnEntry}
use Rattle.mx_space.proofs.own_changes.Overlay.changes.Goals as goal

pub returns : goal.returns
returns c = λ schemas own holds.
    let loop = c.loop-space in
    let over : loop.space-iterator ≡ [] = c.in-None.ensures.steps.0 in
    commit_made schemas c.args.self.now own holds loop.invariant.rises
    (loop.invariant.ordered (subst (λ (left : List OwnEntry). AllByRecursion (λ (entry : OwnEntry). AreOrdered entry.1) left) (sym over) tt))
    loop.changes
    (sym (append-nil loop.changes) ∙ ap (λ left. loop.changes ++ flat_map changes_in left) (sym over) ∙ loop.invariant.together)
