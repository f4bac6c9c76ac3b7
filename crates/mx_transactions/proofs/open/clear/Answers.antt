use Rattle.std.proofs.Common.{ap}
use Rattle.std.specs.Prelude.{slice_set}
use Rattle.mx_transactions.proofs.open.clear.Goals as goal

pub returns-clause-work : goal.returns-clause-work
returns-clause-work c = (c.new.result, c.new.ensures, ap (λ n. slice_set c.args.works.now.items n c.new.result) c.number-2.ensures.value)
