use Rattle.std.proofs.Common.{◌∙◌, ap, map, length, arith}
use Rattle.std.specs.Option.{option_copied}
use Rattle.std.proofs.lemmas.List.{length-map}
use Rattle.mx_schema.proofs.TextLaws.{followed_none, none_each, pairs_over, pair_with_key, pair_with_none}
use Rattle.mx_schema.proofs.text_map.values_of.Goals as goal
use Rattle.mx_schema.proofs.text_map.values_of.Goals.{in-Some, in_default}

pub loop-left-init : goal.loop-left-init
loop-left-init c = followed_none (map (λ key. key.now) c.args.keys.now) _ _ (c.requires ∙ none_each (λ key. key.now) c.args.keys.now)

pub loop-left-preserved : goal.loop-left-preserved
loop-left-preserved c =
    elim c.match-pair.branch [
      | in-Some w ↦
          pair_with_key (map (λ key. key.now) c.args.keys.now) _ _ _ c.loop-left.left c.loop-left.rest.now c.first_pair.result.1.now w.in-Some.key.now c.first_pair.result.0.value.now
          c.loop-left-test.true (rw w.in-Some.is at c.first_pair.ensures) (ap (map option_copied) w.values-is ∙ w.note.ensures) c.loop-left.invariant
      | in_default w ↦
          pair_with_none (map (λ key. key.now) c.args.keys.now) _ _ _ c.loop-left.left c.loop-left.rest.now c.first_pair.result.1.now c.first_pair.result.0.value.now
          c.loop-left-test.true (rw w.in_default.is at c.first_pair.ensures) (ap (map option_copied) w.values-is) c.loop-left.invariant
    ]

pub returns : goal.returns
returns c =
    pairs_over (map (λ key. key.now) c.args.keys.now) _ _ c.loop-left.left c.loop-left.rest.now c.loop-left-test.false
    (simp length-map (omega (arith, c.loop-left.auto.values, simp length-map at (ap length c.requires)))) c.loop-left.invariant
