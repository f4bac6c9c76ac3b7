use Rattle.mx_slow_state.proofs.SlowAnswerLaws.{slow_changes}
use Rattle.mx_slow_state.proofs.slow_state.SlowState.make.Goals as goal

pub returns : goal.returns
returns c = λ before row makes is made.
    slow_changes c.args.self.now (record { alloc = c.args.self.now.alloc; spaces = c.change.new.spaces }) before c.args.space.0 row c.args.made makes c.change.result is made
    (c.change.ensures before made.write made.made is.keeps is.sound made.outcome made.makes)
