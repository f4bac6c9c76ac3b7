use Rattle.mx_engine.proofs.WriteLaws.{write_told}
use Rattle.mx_engine.proofs.engine.Engine.put.Goals as goal

pub returns-in-Ok-clause-answers : goal.returns-in-Ok-clause-answers
returns-in-Ok-clause-answers c = λ streams name is.
    write_told c.args.self.now c.commit_alone.new.self streams name c.next_lsn.new.clock c.in-Some.lsn c.args.space c.args.write.now c.args.made c.commit_alone.new.shown is
    c.in-Some.ensures.0 c.in-Ok.ensures.shown (c.in-Ok.ensures.stores streams is) c.in-Some.ensures.1 c.commit_alone.ensures.keeps.count
