use Rattle.std.proofs.Common.{rules, tests}
use Rattle.std.specs.Prelude.{◌==◌}
use Rattle.std.proofs.lemmas.Iterator.{YieldsList-from_slice}
use Rattle.std.proofs.lemmas.Iterator.Consumers.{count_from_yields_List, YieldsList-from_filter}
use Rattle.mx_slow.proofs.slow.transactions.count_of.Goals as goal

pub returns : goal.returns
returns c =
    count_from_yields_List c.filter.result _ c.count.ensures.ran
    (YieldsList-from_filter _ (λ one. one.name.conn.0 == c.args.connection.0) (YieldsList-from_slice c.args.all.now cc) c.filter.ensures.closure (λ x b q k. search (rules, tests)))
