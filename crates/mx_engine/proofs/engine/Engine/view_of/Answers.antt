use Rattle.std.proofs.Common.{refl}
use Rattle.mx_engine.proofs.ViewLaws.{newest_shown}
use Rattle.mx_engine.proofs.engine.Engine.view_of.Goals as goal

pub returns : goal.returns
returns c = λ streams name one active all. newest_shown c.args.self.now streams name c.args.slot one all active _ c.work.ensures _ refl refl
