use Rattle.std.proofs.Common.{length, ◌∙◌, arith}
use Rattle.std.proofs.lemmas.Result.{err_from_is_err_and}
use Rattle.mx_top.proofs.UnitLaws.{all-kept, all-read, waiting-longer}
use Rattle.mx_top.proofs.intake.Intake.fill.Goals as goal

pub returns-in_err-count-clause-told : goal.returns-in_err-count-clause-told
returns-in_err-count-clause-told g c =
    λ left known.
    let earlier = c.loop-self.invariant.told left known in
    let now = c.in_err-count.ensures.told earlier.0 earlier.1 in
    let failed = err_from_is_err_and c.from_residual-in_err-count.result c.from_residual-in_err-count.ensures.1 in
    (now.0, now.1, all-kept _ _ _ _ _ _ _ c.read_into.ensures.kept earlier.2 now.2, rw failed.1 tt)

pub returns-in_err-count-clause-longer : goal.returns-in_err-count-clause-longer
returns-in_err-count-clause-longer g c =
    waiting-longer c.loop-self.self-inside.start c.loop-self.self-inside.end (length c.args.self.now) c.read_into.new.buffer.items
    c.loop-self.invariant.order (omega (arith, c.loop-self.invariant.within, c.read_into.ensures.size)) c.loop-self.invariant.longer

pub returns-then-count-eq0-clause-longer : goal.returns-then-count-eq0-clause-longer
returns-then-count-eq0-clause-longer g c =
    waiting-longer c.loop-self.self-inside.start c.loop-self.self-inside.end (length c.args.self.now) c.read_into.new.buffer.items
    c.loop-self.invariant.order (omega (arith, c.loop-self.invariant.within, c.read_into.ensures.size)) c.loop-self.invariant.longer

pub returns-clause-longer : goal.returns-clause-longer
returns-clause-longer g c =
    waiting-longer c.loop-self.self-inside.start c.loop-self.self-inside.end (length c.args.self.now) c.loop-self.self-inside.buffer.items
    c.loop-self.invariant.order (omega (arith, c.loop-self.invariant.within)) c.loop-self.invariant.longer

pub returns-then-count-eq0-clause-told : goal.returns-then-count-eq0-clause-told
returns-then-count-eq0-clause-told g c =
    λ left known.
    let earlier = c.loop-self.invariant.told left known in
    let now = c.in_ok-count.ensures.told earlier.0 earlier.1 in
    (now.0, now.1, all-kept _ _ _ _ _ _ _ c.read_into.ensures.kept earlier.2 (rw c.if-count-eq0.true at now.2), λ _. now.3 c.if-count-eq0.true)

pub loop-self-preserved : goal.loop-self-preserved
loop-self-preserved g c = record {
  order = omega arith;
  within = c.in_ok-count.ensures.bound;
  room = omega arith;
  longer = omega arith;
  quiet = c.in_ok-count.ensures.cause.done ∙ c.loop-self.invariant.quiet;
  told = λ left known.
      let earlier = c.loop-self.invariant.told left known in
      let now = c.in_ok-count.ensures.told earlier.0 earlier.1 in
      (now.0, now.1, all-read _ _ _ _ _ _ _ _ c.loop-self.invariant.order c.read_into.ensures.kept earlier.2 now.2);
}
