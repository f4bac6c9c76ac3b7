use Rattle.std.proofs.Common.{◌≡◌, drop}
use Rattle.mx_write.specs.Lookup.{other_indexes}
use Rattle.mx_write.specs.Stages.{has_one}
use Rattle.mx_judge.proofs.descriptions.has_others.Given as goal

-- none of the indexes so far is another one
abbrev pub invariant-loop-def : goal.invariant-loop-def
invariant-loop-def l = has_one (other_indexes (drop l.def-index l.def-items)) ≡ has_one (other_indexes l.indexes)
