use Rattle.std.proofs.Common.{sym, ap, ◌∙◌, subst}
use Rattle.mx_space.specs.Reserved.{all_released, content_under}
use Rattle.mx_space.proofs.ReserveLaws.{PartReady, part_all, part_more, part_none}
use Rattle.mx_space.proofs.reserve_all.reserve_all.Goals as goal

pub loop-change-init : goal.loop-change-init
loop-change-init c =
    let entries = c.args.spaces.now.entries.items in (
      λ q. ap (λ steps. all_released q steps (content_under q entries)) c.in_ok-prepared.ensures,
      λ schemas state all holds spell stand apart.
          subst (λ steps. PartReady schemas entries state steps c.args.changes all) (sym c.in_ok-prepared.ensures) (part_none schemas state all entries c.args.changes holds spell),
    )

pub loop-change-preserved : goal.loop-change-preserved
loop-change-preserved c = (
  λ q. c.in-Ok.ensures.undo q ∙ c.loop-change.invariant.0 q,
  λ schemas state all holds spell stand apart.
      part_more schemas state all c.loop-change.spaces.entries.items c.reserve_one.new.spaces.entries.items c.loop-change.prepared c.reserve_one.new.prepared c.loop-change.left c.pop.new.self
      c.in-Some.change c.in-Some.ensures stand apart (λ one last. c.in-Ok.ensures.ok schemas state one last) (c.loop-change.invariant.1 schemas state all holds spell stand apart),
)

pub returns-clause-ok : goal.returns-clause-ok
returns-clause-ok c = λ schemas state all holds spell stand apart.
    part_all schemas state all c.loop-change.spaces.entries.items c.loop-change.prepared c.loop-change.left c.in_default.ensures.0
    (c.loop-change.invariant.1 schemas state all holds spell stand apart)
