use Rattle.std.proofs.Common.{refl}
use Rattle.mx_vclock.proofs.PairLaws.{pairs_more}
use Rattle.mx_vclock.proofs.spelling.write_pairs.Goals as goal

pub loop-place-preserved : goal.loop-place-preserved
loop-place-preserved c =
    pairs_more c.args.out.now c.loop-place.out _ c.args.lsns.now c.loop-place.place _ c.loop-place-test.true refl
    c.loop-place.invariant c.in_ok-write_component.ensures
