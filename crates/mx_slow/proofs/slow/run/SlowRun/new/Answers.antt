use Rattle.std.proofs.Common.{refl}
use Rattle.mx_slow.proofs.SlowRunLaws.{none_run}
use Rattle.mx_slow.proofs.slow.run.SlowRun.new.Goals as goal

pub returns : goal.returns
returns c = λ ids before is.
    none_run ids before c.args.state (record { state = c.args.state; rows = c.new.result; size = 0; touched = c.new-2.result }) refl c.new.ensures refl c.new-2.ensures is
