use Rattle.std.proofs.Common.{◌≡◌, map, take, None}
use Rattle.std.specs.Option.{option_copied}
use Rattle.mx_msgpack.proofs.lookup.clear.Given as goal

abbrev pub invariant-loop-place : goal.invariant-loop-place
invariant-loop-place l = map option_copied (take l.place l.values) ≡ map (λ value. None) (take l.place l.initial.values)
