use Rattle.std.proofs.Common.{refl}
use Rattle.mx_node.proofs.LinkedLaws.{serves_turned}
use Rattle.mx_node.proofs.single.Single.turn.Goals as goal

pub write_out-requires : goal.write_out-requires
write_out-requires g c = (c.requires.base, c.requires.history, c.requires.behind)

pub returns-clause-serves : goal.returns-clause-serves
returns-clause-serves g c =
    let serves = c.requires in
    serves_turned c.args.self.now _ (g.D.Dir.states c.args.dir.now) (g.D.Dir.states c.write_out.new.dir) serves
    (c.in_ok-write_out.ensures.ready serves.base serves.history serves.behind) refl
