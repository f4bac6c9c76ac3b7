use Rattle.std.proofs.Common.{rules, tests, not, eqb, ◌∙◌}
use Rattle.std.proofs.lemmas.Iterator.{YieldsList-from_slice}
use Rattle.std.proofs.lemmas.Iterator.Consumers.{count_from_yields_List, YieldsList-from_filter}
use Rattle.mx_vclock.proofs.PairLaws.{pairs_counted}
use Rattle.mx_vclock.proofs.spelling.pair_count.Goals as goal

pub returns-clause-exact : goal.returns-clause-exact
returns-clause-exact c =
    λ id.
    count_from_yields_List c.filter.result _ c.count.ensures.ran
    (YieldsList-from_filter _ (λ lsn. not (eqb lsn 0)) (YieldsList-from_slice c.args.lsns.now cc) c.filter.ensures.closure (λ x b q k. search (rules, tests)))
    ∙ pairs_counted id c.args.lsns.now
