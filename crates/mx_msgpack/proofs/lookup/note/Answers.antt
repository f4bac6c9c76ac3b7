use Rattle.std.proofs.Common.{◌∙◌, ap, map, Some}
use Rattle.std.specs.Option.{option_copied}
use Rattle.std.proofs.lemmas.List.{map-set}
use Rattle.mx_msgpack.proofs.LookupLaws.{turn_here, turn_other}
use Rattle.mx_msgpack.proofs.lookup.note.Goals as goal
use Rattle.mx_msgpack.proofs.lookup.note.Goals.{then-key-from, else-key-from}

pub loop-place-preserved : goal.loop-place-preserved
loop-place-preserved c =
    elim c.if-key-from.branch [
      | then-key-from w ↦
          turn_here c.args.key c.args.value.now c.args.keys.now _ _ _ c.loop-place.place c.loop-place-test.true (w.if-key-from.true ∙ c.from.ensures) c.loop-place.invariant
          (ap (map option_copied) w.values-is ∙ map-set option_copied c.loop-place.values c.loop-place.place (Some c.args.value))
      | else-key-from w ↦
          turn_other c.args.key c.args.value.now c.args.keys.now _ _ _ c.loop-place.place (λ e. w.if-key-from.false (cc (e, c.from.ensures))) c.loop-place.invariant
          (ap (map option_copied) w.values-is)
    ]
