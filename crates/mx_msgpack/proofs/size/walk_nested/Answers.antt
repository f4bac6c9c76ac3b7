use Rattle.std.proofs.Common.{◌≡◌, ◌-◌, ℕ, length, sym, ◌∙◌, arith, length-set}
use Rattle.std.proofs.lemmas.Result.{err_from_is_err_and}
use Rattle.mx_msgpack.proofs.Stack.{nested_begins, stack_ends, walk_pops, walk_fails, walk_steps, walk_deep, walk_long, walk_pushes}
use Rattle.mx_msgpack.proofs.size.walk_nested.Goals as goal

pub loop-depth-init : goal.loop-depth-init
loop-depth-init c = record {
  shallow = omega arith;
  whole = omega (arith, length-set {A = ℕ});
  within = omega arith;
  same = nested_begins (length c.args.bytes.now) c.args.around c.args.bytes.now c.requires;
}

pub loop-depth-preserved-then-left-depth-eq0 : goal.loop-depth-preserved-then-left-depth-eq0
loop-depth-preserved-then-left-depth-eq0 c = record {
  shallow = omega arith;
  whole = c.loop-depth.invariant.whole;
  within = c.loop-depth.invariant.within;
  same =
      sym (walk_pops (length c.args.bytes.now) c.loop-depth.depth c.loop-depth.left c.loop-depth.rest.now c.loop-depth-test.true c.loop-depth.invariant.shallow c.if-left-depth-eq0.true)
      ∙ c.loop-depth.invariant.same;
}

pub returns-in_err-inside-clause-exact : goal.returns-in_err-inside-clause-exact
returns-in_err-inside-clause-exact c =
    let p = err_from_is_err_and c.from_residual.result c.from_residual.ensures.1 in
    rw (p.1, p.2)
    (sym c.loop-depth.invariant.same
    ∙ walk_fails (length c.args.bytes.now) c.loop-depth.depth c.loop-depth.left c.loop-depth.rest.now c.loop-depth-test.true c.if-left-depth-eq0.false _ _
    c.in_err-inside.ensures.exact)

pub returns-then-depth-gt-MAX_NESTING-clause-exact : goal.returns-then-depth-gt-MAX_NESTING-clause-exact
returns-then-depth-gt-MAX_NESTING-clause-exact c =
    (sym c.loop-depth.invariant.same
    ∙ walk_deep (length c.args.bytes.now) c.loop-depth.depth c.loop-depth.left c.loop-depth.rest.now c.loop-depth-test.true c.if-left-depth-eq0.false
    c.in-Some.inside c.in_ok-inside.after.now (omega arith) (rw c.in-Some.is at c.in_ok-inside.ensures.exact))

pub returns-then-inside-gt-MAX_LENGTH-clause-exact : goal.returns-then-inside-gt-MAX_LENGTH-clause-exact
returns-then-inside-gt-MAX_LENGTH-clause-exact c =
    (sym c.loop-depth.invariant.same
    ∙ walk_long (length c.args.bytes.now) c.loop-depth.depth c.loop-depth.left c.loop-depth.rest.now c.loop-depth-test.true c.if-left-depth-eq0.false
    c.in-Some.inside c.in_ok-inside.after.now (omega arith) (omega arith) (rw c.in-Some.is at c.in_ok-inside.ensures.exact))

pub loop-depth-preserved-in-Some : goal.loop-depth-preserved-in-Some
loop-depth-preserved-in-Some c = record {
  shallow = omega arith;
  whole = omega (arith, length-set {A = ℕ});
  within = omega (arith, c.in_ok-inside.ensures.shorter);
  same =
      sym (walk_pushes (length c.args.bytes.now) c.loop-depth.depth c.loop-depth.left c.loop-depth.rest.now c.loop-depth-test.true c.if-left-depth-eq0.false
      c.in-Some.inside c.in_ok-inside.after.now (omega arith) c.loop-depth.invariant.whole (omega arith)
      (rw c.in-Some.is at c.in_ok-inside.ensures.exact))
      ∙ c.loop-depth.invariant.same;
}

pub loop-depth-preserved : goal.loop-depth-preserved
loop-depth-preserved c = record {
  shallow = c.loop-depth.invariant.shallow;
  whole = omega (arith, length-set {A = ℕ});
  within = omega (arith, c.in_ok-inside.ensures.shorter);
  same =
      sym (walk_steps (length c.args.bytes.now) c.loop-depth.depth c.loop-depth.left c.loop-depth.rest.now c.loop-depth-test.true c.if-left-depth-eq0.false
      (65 - c.loop-depth.depth) c.in_ok-inside.after.now (omega arith) (rw c.in_default.is at c.in_ok-inside.ensures.exact))
      ∙ c.loop-depth.invariant.same;
}

pub returns-clause-exact : goal.returns-clause-exact
returns-clause-exact c =
    let none : c.loop-depth.depth ≡ 0 = omega arith in
    let same = rw none at c.loop-depth.invariant.same in
    sym same ∙ stack_ends (length c.args.bytes.now) 65 c.loop-depth.left c.loop-depth.rest.now
