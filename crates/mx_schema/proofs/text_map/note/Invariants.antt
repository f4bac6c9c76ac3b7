use Rattle.std.proofs.Common.{◌≡◌, map, take}
use Rattle.std.specs.Option.{option_copied}
use Rattle.mx_schema.specs.Lookups.{noted_text}
use Rattle.mx_schema.proofs.text_map.note.Given as goal

abbrev pub invariant-loop-place : goal.invariant-loop-place
invariant-loop-place l = map option_copied l.values ≡ noted_text l.key l.value (take l.place (map (λ wanted. wanted.now) l.keys)) (map option_copied l.initial.values)
