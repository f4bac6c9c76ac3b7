use Rattle.mx_node.specs.Views.{unit_view}
use Rattle.mx_node.proofs.BreakLaws.{unit_untouched}
use Rattle.mx_node.proofs.LastingLaws.{where_err}
use Rattle.mx_node.proofs.single.Single.unit.Goals as goal

pub returns-in_err-close-in-Close-clause-breaks : goal.returns-in_err-close-in-Close-clause-breaks
returns-in_err-close-in-Close-clause-breaks g c = λ start units history serves.
    where_err c.from_residual.result
    (unit_untouched start c.args.self.now units history (unit_view c.args.unit) (g.D.Dir.states c.args.dir.now) serves)

pub returns-in_ok-close-in-Close-clause-serves : goal.returns-in_ok-close-in-Close-clause-serves
returns-in_ok-close-in-Close-clause-serves g c = c.in_ok-close-in-Close.ensures.serves (g.D.Dir.states c.args.dir.now) c.requires.serves
