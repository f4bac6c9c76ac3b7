use Rattle.std.proofs.Common.{◌∷◌, sym, subst}
use Rattle.mx_model.specs.declared.reply.Reply.{Reply}
use Rattle.mx_request.specs.declared.request.Ask.TheVariants as ask
use Rattle.mx_model.specs.Histories.{Asked}
use Rattle.mx_engine.specs.Standing.{EngineStandsFor}
use Rattle.mx_engine.proofs.engine.Engine.request.Goals as goal

pub returns-in-Ok : goal.returns-in-Ok
returns-in-Ok c = λ base history stands can.
    subst (λ (reply : Reply). EngineStandsFor c.request_into.new.self base (Asked c.args.name (ask.Request c.args.request.now) reply ∷ history))
    (sym c.with.ensures) (c.in-Ok.ensures base history stands can)
