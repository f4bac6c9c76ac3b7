use Rattle.std.specs.Option.{option_map}
use Rattle.mx_write.specs.declared.writable.Writer.TheVariants.{Client}
use Rattle.mx_write.specs.Views.{write_view}
use Rattle.mx_transactions.specs.Open.{newest_state}
use Rattle.mx_engine.proofs.WriteLaws.{given_back, readied_holds, stored}
use Rattle.mx_engine.proofs.engine.Engine.commit_alone.Goals as goal

pub returns-in-Ok-clause-stores : goal.returns-in-Ok-clause-stores
returns-in-Ok-clause-stores c = λ streams is.
    stored streams c.args.space c.args.write.now c.args.made c.args.self.now is c.args.lsn c.ready.new.self c.count_commit.new.self c.install.new.state (option_map (λ b. b.value) c.in_ok-marks.marks)
    (c.in_ok-marks.ensures.readies streams is) (c.in-Ok.ensures (newest_state streams) Client (write_view c.args.write.now) is.to (readied_holds c.args.self.now c.ready.new.self streams _ _ (option_map (λ b. b.value) c.in_ok-marks.marks) is.has (c.in_ok-marks.ensures.readies streams is)) is.judged is.makes) c.count_commit.ensures.counts

pub returns-clause-stores : goal.returns-clause-stores
returns-clause-stores c = λ streams is.
    given_back streams c.args.space c.args.write.now c.args.made c.args.self.now is c.args.lsn c.ready.new.self c.install.new.state c.pop.new.self (option_map (λ b. b.value) c.in_ok-marks.marks)
    (c.in_ok-marks.ensures.readies streams is) (c.in-Err.ensures (newest_state streams) Client (write_view c.args.write.now) is.to (readied_holds c.args.self.now c.ready.new.self streams _ _ (option_map (λ b. b.value) c.in_ok-marks.marks) is.has (c.in_ok-marks.ensures.readies streams is)) is.judged is.makes)
    (λ prefix last e. (c.pop.ensures prefix last e).1)
