use Rattle.mx_completion.specs.Choices.{IsPassed}
use Rattle.mx_completion.proofs.pairs.begun_pairs.Given as goal

abbrev pub invariant-loop-passed : goal.invariant-loop-passed
invariant-loop-passed l = IsPassed l.pairs l.passed l.rest
