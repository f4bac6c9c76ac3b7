use Rattle.mx_slow_state.proofs.SlowCopyLaws.{IsCopied}
use Rattle.mx_slow_state.proofs.slow_state.copies.copy_spaces.Given as goal

abbrev pub invariant-loop-id : goal.invariant-loop-id
invariant-loop-id l = IsCopied l.copy.entries l.id-iterator l.spaces.entries
