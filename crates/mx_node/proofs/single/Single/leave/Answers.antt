use Rattle.std.proofs.Common.{refl}
use Rattle.mx_node.proofs.LinkedLaws.{serves_left}
use Rattle.mx_node.proofs.single.Single.leave.Goals as goal

pub returns-clause-serves : goal.returns-clause-serves
returns-clause-serves c = λ states serves.
    serves_left c.args.self.now _ states c.args.conn.0 (record { sessions = refl; journal = refl; greeting = refl }) c.in_ok-leave.ensures serves
