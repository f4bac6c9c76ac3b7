use Rattle.std.proofs.Common.{refl}
use mathlib.Core.Path.{subst}
use Rattle.mx_outside.specs.Disks.{Makes}
use Rattle.mx_fake.specs.MemoryCrashes.{crash_disk}
use Rattle.mx_fake.specs.Dirs.{dir_states}
use Rattle.mx_fake.proofs.CrashLaws.{crash_is_image}
use Rattle.mx_fake.proofs.DirLaws.{crashes, known_alike}
use Rattle.mx_fake.proofs.dir.MemoryDirDir.restart.Goals as goal

pub returns-clause-told : goal.returns-clause-told
returns-clause-told c = known_alike c.args.self.now.changes.items c.make.new.self.changes.items

pub returns-clause-crashed : goal.returns-clause-crashed
returns-clause-crashed c =
    let change = crash_disk c.args.choice in
    crashes (dir_states c.args.self.now) (dir_states c.make.new.self) _ change (crash_is_image c.args.choice)
    (subst (λ states. Makes change states (dir_states c.make.new.self) c.make.result) c.reopen.ensures.states (c.make.ensures.made change refl))
