use Rattle.std.proofs.Common.{◌≡◌, map, take}
use Rattle.std.specs.Option.{option_copied}
use Rattle.mx_msgpack.specs.Lookups.{noted}
use Rattle.mx_msgpack.proofs.lookup.note.Given as goal

abbrev pub invariant-loop-place : goal.invariant-loop-place
invariant-loop-place l = map option_copied l.values ≡ noted l.key l.value (take l.place l.keys) (map option_copied l.initial.values)
