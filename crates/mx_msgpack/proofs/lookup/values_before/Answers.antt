use Rattle.std.proofs.Common.{◌∙◌, ap, map, length, refl, arith}
use Rattle.std.specs.Option.{option_copied}
use Rattle.std.proofs.lemmas.List.{length-map}
use Rattle.mx_msgpack.specs.Maps.{value_under}
use Rattle.mx_msgpack.proofs.LookupLaws.{followed_none, pairs_over, pair_with_key, pair_with_none}
use Rattle.mx_msgpack.proofs.PassLaws.{map_missing, map_passed, pair_missing, pair_passed, pairs_missing, pairs_passed}
use Rattle.mx_msgpack.proofs.lookup.values_before.Goals as goal
use Rattle.mx_msgpack.proofs.lookup.values_before.Goals.{in-Some, in_default}

pub loop-left-init : goal.loop-left-init
loop-left-init c = record { ends = refl; found = followed_none c.args.keys.now _ _ c.requires }

pub returns-in_err-count-clause-rest : goal.returns-in_err-count-clause-rest
returns-in_err-count-clause-rest c = rw c.from_residual.ensures (map_missing c.args.bytes.now c.in_err-count.ensures)

pub returns-in_err-pair-clause-rest : goal.returns-in_err-pair-clause-rest
returns-in_err-pair-clause-rest c =
    rw c.from_residual-in_err-pair.ensures
    (pairs_missing c.args.bytes.now c.in_ok-count.count c.in_ok-count.behind.now c.in_ok-count.ensures
    (pair_missing c.loop-left.left c.loop-left.rest.now _ c.loop-left-test.true c.in_err-pair.ensures.after c.loop-left.invariant.ends))

pub loop-left-preserved : goal.loop-left-preserved
loop-left-preserved c = record {
  ends = pair_passed c.loop-left.left c.loop-left.rest.now c.in_ok-pair.others.now _ c.loop-left-test.true c.in_ok-pair.ensures.after c.loop-left.invariant.ends;
  found =
      elim c.match-pair.branch [
        | in-Some w ↦
            pair_with_key c.args.keys.now _ _ _ c.loop-left.left c.loop-left.rest.now c.in_ok-pair.others.now w.in-Some.key c.in_ok-pair.pair.value.now c.loop-left-test.true
            (rw w.in-Some.is at c.in_ok-pair.ensures.pair) (ap (map option_copied) w.values-is ∙ w.note.ensures) c.loop-left.invariant.found
        | in_default w ↦
            pair_with_none c.args.keys.now _ _ _ c.loop-left.left c.loop-left.rest.now c.in_ok-pair.others.now c.in_ok-pair.pair.value.now c.loop-left-test.true
            (rw w.in_default.is at c.in_ok-pair.ensures.pair) (ap (map option_copied) w.values-is) c.loop-left.invariant.found
      ];
}

pub returns : goal.returns
returns c =
    let p = map_passed c.args.bytes.now c.in_ok-count.count c.in_ok-count.behind.now c.loop-left.rest.now c.in_ok-count.ensures
    (pairs_passed c.loop-left.left c.loop-left.rest.now _ c.loop-left-test.false c.loop-left.invariant.ends) in
    record {
      rest = p.after;
      values =
          pairs_over c.args.keys.now _ _ c.loop-left.left c.loop-left.rest.now c.loop-left-test.false
          (simp length-map (omega (arith, c.loop-left.auto.values, simp length-map at (ap length c.requires)))) c.loop-left.invariant.found
          ∙ ap (λ pairs. map (λ key. value_under key pairs) c.args.keys.now) p.pairs;
    }
