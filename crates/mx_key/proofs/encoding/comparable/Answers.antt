use Rattle.std.proofs.Common.{◌+◌, ◌∷◌, List, drop, ap, sym, ◌∙◌}
use Rattle.std.proofs.lemmas.List.{at_drop_more}
use Rattle.mx_msgpack.specs.declared.value.Value.{Value}
use Rattle.mx_key.proofs.MakingLaws.{written_more}
use Rattle.mx_key.proofs.encoding.comparable.Goals as goal

pub loop-value-preserved : goal.loop-value-preserved
loop-value-preserved c key parts fit =
    let values = c.as_slice-value-items.result.now in
    let others = drop (c.loop-value.value-index + 1) values in
    let next =
    at_drop_more (λ (l : List Value). l) values c.loop-value.value-index c.value-item.result c.loop-value-test.true
    ∙ ap (λ (v : Value). v ∷ others) (sym c.value-item.is) in
    written_more (drop c.loop-value.value-index values) others c.value-item.result c.loop-value.key c.write_value.new.out key
    (c.loop-value.invariant key parts fit) next c.in_ok-write_value.ensures
