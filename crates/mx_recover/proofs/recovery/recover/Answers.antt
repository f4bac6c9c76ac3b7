use Rattle.std.proofs.Common.{Ok, subst}
use Rattle.std.specs.Prelude.{IfOk}
use Rattle.mx_outside.specs.Disks.{IfKnown}
use Rattle.mx_directory.specs.Directories.{Reached, IsDirectoryState}
use Rattle.mx_recover.specs.Recovered.{StandsFor}
use Rattle.mx_recover.proofs.recovery.recover.Goals as goal

pub returns-clause-stands : goal.returns-clause-stands
returns-clause-stands g c =
    subst (λ states. IfOk c.replay.result (λ memory. (reached : Reached) × StandsFor memory reached × IfKnown states (λ disk past. IsDirectoryState disk.now (Ok reached))))
    c.list.ensures.states c.replay.ensures.stands
