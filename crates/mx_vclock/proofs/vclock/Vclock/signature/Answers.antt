use Rattle.std.proofs.lemmas.Iterator.{YieldsList-from_slice}
use Rattle.std.proofs.lemmas.Iterator.Consumers.{fits_from_yields_list}
use Rattle.mx_vclock.proofs.Sums.{sum_fits}
use Rattle.mx_vclock.proofs.vclock.Vclock.signature.Goals as goal

pub sum-requires-clause-fits : goal.sum-requires-clause-fits
sum-requires-clause-fits c =
    fits_from_yields_list c.iter.result _ (YieldsList-from_slice c.self.inside.lsns cc) (sum_fits c.self.inside.lsns c.self.invariant)
