use Rattle.std.proofs.Common.{sym, ◌∙◌}
use Rattle.mx_outside.specs.Disks.{removed}
use Rattle.mx_files.specs.Names.{is_draft}
use Rattle.mx_recover.proofs.PassingLaws.{may_made, left}
use Rattle.mx_images.proofs.MomentLaws.{may_make_steps, steps_none}
use Rattle.mx_recover.specs.Turns.{OnlyCleans}
use Rattle.mx_recover.proofs.LeavingLaws.{removed_cleans}
use Rattle.mx_recover.proofs.durability.remove_if_draft.Goals as goal

pub returns-then-not-is_draft-clause-removed : goal.returns-then-not-is_draft-clause-removed
returns-then-not-is_draft-clause-removed g c =
    left is_draft removed c.args.name.now (g.D.Dir.states c.args.dir.now) (sym c.is_draft.ensures ∙ c.if-not-is_draft.true)

pub returns-clause-removed : goal.returns-clause-removed
returns-clause-removed g c =
    may_made is_draft removed c.args.name.now _ _ c.remove.result (sym c.is_draft.ensures ∙ c.if-not-is_draft.false) c.remove.ensures.removed

pub returns-then-not-is_draft-clause-moments : goal.returns-then-not-is_draft-clause-moments
returns-then-not-is_draft-clause-moments g c = steps_none OnlyCleans (g.D.Dir.states c.args.dir.now)

pub returns-clause-moments : goal.returns-clause-moments
returns-clause-moments g c =
    let draft = sym c.is_draft.ensures ∙ c.if-not-is_draft.false in
    may_make_steps OnlyCleans (removed c.args.name.now) (λ disk. removed_cleans c.args.name.now disk draft) _ _ c.remove.result c.remove.ensures.removed
