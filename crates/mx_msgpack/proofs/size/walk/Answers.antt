use Rattle.std.proofs.Common.{◌-◌, length, arith}
use Rattle.mx_msgpack.proofs.FlatLaws.{top, values_few, flat_begins, flat_ends, flat_steps, flat_pushes}
use Rattle.mx_msgpack.proofs.InnerSteps.{found_inner}
use Rattle.mx_msgpack.proofs.size.walk.Goals as goal

pub loop-left-init : goal.loop-left-init
loop-left-init c = record {
  some = omega arith;
  few = omega arith;
  bound = omega arith;
  within = omega arith;
  same = flat_begins (length c.args.bytes.now) c.args.bytes.now;
}

pub loop-left-preserved-in-Some : goal.loop-left-preserved-in-Some
loop-left-preserved-in-Some c =
    let t = top (length c.args.bytes.now) c.loop-left.rest.now _ c.loop-left.left c.loop-left.opened (omega arith) c.loop-left.invariant.same in
    record {
      some = c.loop-left.invariant.some;
      few = c.loop-left.invariant.few;
      bound = omega (arith, c.loop-left.invariant.bound);
      within = omega (arith, c.in-Some.ensures.shorter, c.loop-left.invariant.within);
      same =
          flat_steps (length c.args.bytes.now) c.loop-left.rest.now _ (c.loop-left.left - 1) c.loop-left.opened t c.in-Some.after.now
          (c.in-Some.ensures.plain (length c.args.bytes.now - length c.loop-left.rest.now));
    }

pub loop-left-preserved-in-Some-inside : goal.loop-left-preserved-in-Some-inside
loop-left-preserved-in-Some-inside c =
    let t = top (length c.args.bytes.now) c.loop-left.rest.now _ c.loop-left.left c.loop-left.opened (omega arith) c.loop-left.invariant.same in
    record {
      some = omega arith;
      few = omega (arith, c.loop-left.invariant.few);
      bound = omega (arith, c.loop-left.invariant.bound, values_few c.in-Some-inside.inside (rw c.in-Some-inside.is at c.in-Ok.ensures.each) (omega arith));
      within = omega (arith, c.in-Ok.ensures.shorter, c.loop-left.invariant.within);
      same =
          flat_pushes (length c.args.bytes.now) c.loop-left.rest.now _ (c.loop-left.left - 1) c.loop-left.opened t c.in-Some-inside.inside c.in-Ok.after.now
          (omega (arith, c.loop-left.invariant.few)) (rw c.in-Some-inside.is at c.in-Ok.ensures.exact) (omega arith);
    }

pub loop-left-preserved : goal.loop-left-preserved
loop-left-preserved c =
    let t = top (length c.args.bytes.now) c.loop-left.rest.now _ c.loop-left.left c.loop-left.opened (omega arith) c.loop-left.invariant.same in
    record {
      some = c.loop-left.invariant.some;
      few = c.loop-left.invariant.few;
      bound = omega (arith, c.loop-left.invariant.bound);
      within = omega (arith, c.in-Ok.ensures.shorter, c.loop-left.invariant.within);
      same =
          flat_steps (length c.args.bytes.now) c.loop-left.rest.now _ (c.loop-left.left - 1) c.loop-left.opened t c.in-Ok.after.now
          (rw c.in_default-inside.is at c.in-Ok.ensures.exact);
    }

pub returns-clause-inner : goal.returns-clause-inner
returns-clause-inner c =
    found_inner (length c.args.bytes.now) c.args.bytes.now c.loop-left.rest.now
    (flat_ends (length c.args.bytes.now) c.loop-left.rest.now _ c.loop-left.left c.loop-left.opened (omega arith) c.loop-left.invariant.same)
