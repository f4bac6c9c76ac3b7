use Rattle.std.proofs.Common.{◌≡◌, Some, eqb, ap, ◌∙◌}
use Rattle.std.specs.Option.{option_copied, option_eq}
use Rattle.mx_msgpack.specs.Maps.{is_key}
use Rattle.mx_completion.proofs.LookupLaws.{is_key_eq, value_turn}
use Rattle.mx_completion.proofs.pairs.last_value.Goals as goal
use Rattle.mx_completion.proofs.pairs.last_value.Goals.{then-eq, else-eq}

pub loop-preserved : goal.loop-preserved
loop-preserved c =
    let here : c.eq.result ≡ is_key c.args.key c.first_pair.result.0.key = c.eq.ensures ∙ ap (λ k. option_eq eqb c.first_pair.result.0.key (Some k)) c.from.ensures ∙ is_key_eq c.args.key c.first_pair.result.0.key in
    value_turn c.args.key c.args.count c.loop.counter c.loop.rest.now c.first_pair.result.1.now c.first_pair.result.0.value.now c.first_pair.result.0.key
    (option_copied c.loop.found) (option_copied c.if-eq.found) _ c.loop-test.true c.first_pair.ensures
    (elim c.if-eq.branch [
      | then-eq w ↦ rw (← here, w.if-eq.true) (ap option_copied w.found-is)
      | else-eq w ↦ rw (← here, w.if-eq.false) (ap option_copied w.found-is)
    ])
    c.loop.invariant
