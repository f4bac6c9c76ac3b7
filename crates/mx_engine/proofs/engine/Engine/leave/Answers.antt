use Rattle.mx_model.specs.Histories.{ledger_of}
use Rattle.mx_engine.proofs.StandingLaws.{stands_left}
use Rattle.mx_engine.proofs.engine.Engine.leave.Goals as goal

pub returns : goal.returns
returns c = λ base history stands.
    stands_left c.args.self.now c.leave.new.self base history c.args.conn.0 stands
    (c.leave.ensures.left (ledger_of base history).streams stands.matches.has.transactions)
