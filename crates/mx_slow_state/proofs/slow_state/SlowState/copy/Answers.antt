use Rattle.mx_slow_state.proofs.SlowCopyLaws.{keeps_copied}
use Rattle.mx_slow_state.proofs.slow_state.SlowState.copy.Goals as goal

pub returns : goal.returns
returns c = λ before is. keeps_copied (record { alloc = c.args.self.now.alloc; spaces = c.in_ok-copy_spaces.field-0 }) c.args.self.now before c.in_ok-copy_spaces.ensures is
