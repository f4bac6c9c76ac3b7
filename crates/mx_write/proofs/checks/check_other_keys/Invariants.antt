use Rattle.std.proofs.Common.{◌≡◌, drop}
use Rattle.mx_write.specs.Checks.{keys_fault}
use Rattle.mx_write.specs.Lookup.{other_indexes}
use Rattle.mx_write.proofs.checks.check_other_keys.Given as goal

-- the indexes so far have a key of the tuple
abbrev pub invariant-loop-def : goal.invariant-loop-def
invariant-loop-def l = keys_fault (other_indexes (drop l.def-index l.def-items)) l.tuple ≡ keys_fault (other_indexes l.indexes) l.tuple
