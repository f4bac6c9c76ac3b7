use Rattle.std.proofs.Common.{Ok, Err, refl, ◌∙◌, arith}
use Rattle.std.proofs.lemmas.Result.{err_from_is_err_and}
use Rattle.mx_images.specs.Changes.{KeepsOthers}
use Rattle.mx_images.proofs.MomentLaws.{steps_none, steps_then}
use Rattle.mx_top.specs.Runs.{held}
use Rattle.mx_top.proofs.Told.{nothing_so_far, more_so_far, begins_nothing, last_by, where_ok}
use Rattle.mx_top.proofs.trace.answer_units.Goals as goal

pub returns-in_err-intake-clause-units : goal.returns-in_err-intake-clause-units
returns-in_err-intake-clause-units g c = λ start bytes serves told.
    let p = err_from_is_err_and c.from_residual.result c.from_residual.ensures.1 in
    rw (p.1, p.2) (begins_nothing start bytes (g.S.Source.left c.args.input.now) c.args.node.now
    (held (g.K.Sink.contents c.args.output.now) (g.K.Sink.passed c.args.output.now)) (g.D.Dir.states c.args.dir.now) told serves)

pub returns-in_err-intake-clause-others : goal.returns-in_err-intake-clause-others
returns-in_err-intake-clause-others g c = steps_none KeepsOthers (g.D.Dir.states c.args.dir.now)

pub returns-in_err-next-clause-others : goal.returns-in_err-next-clause-others
returns-in_err-next-clause-others g c = steps_then KeepsOthers _ _ _ c.units.invariant.others c.step.ensures.others

pub returns-clause-others : goal.returns-clause-others
returns-clause-others g c = steps_then KeepsOthers _ _ _ c.units.invariant.others c.step.ensures.others

pub units-init : goal.units-init
units-init g c = record {
  told = λ bytes told. nothing_so_far bytes c.in_ok-intake.intake (g.S.Source.left c.args.input.now) c.args.node.now
      (held (g.K.Sink.contents c.args.output.now) (g.K.Sink.passed c.args.output.now)) (g.D.Dir.states c.args.dir.now) told c.in_ok-intake.ensures;
  serves = c.requires;
  reads = refl;
  writes = refl;
  disks = refl;
  others = steps_none KeepsOthers (g.D.Dir.states c.args.dir.now);
  passed = λ all. all;
  within = omega arith;
}

pub returns-in_err-next-clause-place : goal.returns-in_err-next-clause-place
returns-in_err-next-clause-place g c = λ bytes told.
    let p = err_from_is_err_and c.from_residual-in_err-next.result c.from_residual-in_err-next.ensures.1 in
    let so_far = c.units.invariant.told bytes told in
    let t = c.in_err-next.ensures.told bytes so_far.rest so_far.units so_far.left_is so_far.consumed in
    let last = last_by (Err c.in_err-next.field-0.0) bytes t.0 (g.S.Source.left c.step.new.input) c.units.node c.step.new.node so_far.units
    (held (g.K.Sink.contents c.units.output) (g.K.Sink.passed c.units.output)) (held (g.K.Sink.contents c.step.new.output) (g.K.Sink.passed c.step.new.output))
    (g.D.Dir.states c.units.dir) (g.D.Dir.states c.step.new.dir) t.1 t.2 in
    rw (p.1, p.2) last.place

pub returns-in_err-next-clause-units : goal.returns-in_err-next-clause-units
returns-in_err-next-clause-units g c = λ start bytes serves told.
    let p = err_from_is_err_and c.from_residual-in_err-next.result c.from_residual-in_err-next.ensures.1 in
    let so_far = c.units.invariant.told bytes told in
    let t = c.in_err-next.ensures.told bytes so_far.rest so_far.units so_far.left_is so_far.consumed in
    let last = last_by (Err c.in_err-next.field-0.0) bytes t.0 (g.S.Source.left c.step.new.input) c.units.node c.step.new.node so_far.units
    (held (g.K.Sink.contents c.units.output) (g.K.Sink.passed c.units.output)) (held (g.K.Sink.contents c.step.new.output) (g.K.Sink.passed c.step.new.output))
    (g.D.Dir.states c.units.dir) (g.D.Dir.states c.step.new.dir) t.1 t.2 in
    rw (p.1, p.2) (last.output start (held (g.K.Sink.contents c.args.output.now) (g.K.Sink.passed c.args.output.now)) (g.D.Dir.states c.args.dir.now) (so_far.wrote start serves))

pub units-preserved : goal.units-preserved
units-preserved g c = record {
  told = λ bytes told.
      let so_far = c.units.invariant.told bytes told in
      let t = c.in_ok-next.ensures.told bytes so_far.rest so_far.units so_far.left_is so_far.consumed in
      let on = rw c.in-Some.is at t.2 in
      more_so_far bytes c.step.new.intake t.0 (g.S.Source.left c.step.new.input) c.in-Some.next c.args.node.now c.units.node c.step.new.node
      so_far.units (held (g.K.Sink.contents c.args.output.now) (g.K.Sink.passed c.args.output.now)) (held (g.K.Sink.contents c.units.output) (g.K.Sink.passed c.units.output)) (held (g.K.Sink.contents c.step.new.output) (g.K.Sink.passed c.step.new.output))
      (g.D.Dir.states c.args.dir.now) (g.D.Dir.states c.units.dir) (g.D.Dir.states c.step.new.dir) t.1 on so_far.wrote;
  serves = c.in_ok-next.ensures.serves;
  reads = where_ok c.in_ok-next.ensures.causes.read_quiet ∙ c.units.invariant.reads;
  writes = where_ok c.in_ok-next.ensures.causes.write_quiet ∙ c.units.invariant.writes;
  disks = where_ok c.in_ok-next.ensures.causes.disk_quiet ∙ c.units.invariant.disks;
  others = steps_then KeepsOthers _ _ _ c.units.invariant.others c.step.ensures.others;
  passed = λ all. where_ok c.in_ok-next.ensures.passed (c.units.invariant.passed all);
  within = let ahead = rw c.in-Some.is at c.in_ok-next.ensures.ahead in ahead.1;
}

pub returns-clause-place : goal.returns-clause-place
returns-clause-place g c = λ bytes told.
    let so_far = c.units.invariant.told bytes told in
    let t = c.in_ok-next.ensures.told bytes so_far.rest so_far.units so_far.left_is so_far.consumed in
    let ends = rw c.in_default.is at t.2 in
    (ends.place.0, t.1 ∙ ends.place.1)

pub returns-clause-units : goal.returns-clause-units
returns-clause-units g c = λ start bytes serves told.
    let so_far = c.units.invariant.told bytes told in
    let t = c.in_ok-next.ensures.told bytes so_far.rest so_far.units so_far.left_is so_far.consumed in
    let ends = rw c.in_default.is at t.2 in
    let last = last_by (Ok tt) bytes t.0 (g.S.Source.left c.step.new.input) c.units.node c.step.new.node so_far.units
    (held (g.K.Sink.contents c.units.output) (g.K.Sink.passed c.units.output)) (held (g.K.Sink.contents c.step.new.output) (g.K.Sink.passed c.step.new.output))
    (g.D.Dir.states c.units.dir) (g.D.Dir.states c.step.new.dir) t.1 ends in
    last.output start (held (g.K.Sink.contents c.args.output.now) (g.K.Sink.passed c.args.output.now)) (g.D.Dir.states c.args.dir.now) (so_far.wrote start serves)
