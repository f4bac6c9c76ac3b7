use Rattle.std.proofs.Common.{◌∙◌, [], ap, sym, map, Some}
use Rattle.std.specs.Option.{option_copied}
use Rattle.std.proofs.lemmas.List.{get_or-map, length-map, map-set}
use Rattle.mx_schema.proofs.TextLaws.{turn_here, turn_other}
use Rattle.mx_schema.proofs.text_map.note.Goals as goal
use Rattle.mx_schema.proofs.text_map.note.Goals.{then-is_text, else-is_text}

pub loop-place-preserved : goal.loop-place-preserved
loop-place-preserved c =
    let keys = map (λ key. key.now) c.args.keys.now in
    let stands = sym (get_or-map (λ key. key.now) c.args.keys.now c.loop-place.place _ [] c.loop-place-test.true) in
    elim c.if-is_text.branch [
      | then-is_text w ↦
          turn_here c.args.key.now c.args.value.now _ keys _ _ _ c.loop-place.place (simp length-map c.loop-place-test.true) stands (sym c.is_text.ensures ∙ w.if-is_text.true) c.loop-place.invariant
          (ap (map option_copied) w.values-is ∙ map-set option_copied c.loop-place.values c.loop-place.place (Some c.args.value))
      | else-is_text w ↦
          turn_other c.args.key.now c.args.value.now _ keys _ _ _ c.loop-place.place stands (sym c.is_text.ensures ∙ w.if-is_text.false) c.loop-place.invariant
          (ap (map option_copied) w.values-is)
    ]
