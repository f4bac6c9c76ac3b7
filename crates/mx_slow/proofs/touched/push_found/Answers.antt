use Rattle.mx_slow.proofs.SlowTouchLaws.{none_touched}
use Rattle.mx_slow.proofs.touched.push_found.Goals as goal

pub returns-in-None : goal.returns-in-None
returns-in-None c = λ primary fit bytes own reads fits. rw c.in-None.is (none_touched c.args.out.now c.args.schema.now.indexes reads)
