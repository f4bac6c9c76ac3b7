use Rattle.std.proofs.Common.{[], Err, ap, ◌∙◌, subst, inl, inr}
use Rattle.mx_images.specs.Changes.{KeepsOthers}
use Rattle.mx_images.proofs.MomentLaws.{steps_then}
use Rattle.mx_node.specs.Starts.{IsStart}
use Rattle.mx_node.proofs.LinkedLaws.{can_serve}
use Rattle.mx_top.specs.Runs.{held}
use Rattle.mx_top.proofs.RunLaws.{served_seen, not_opened, left_alone, opened_is_of, opened_survive, passed_by}
use Rattle.mx_top.proofs.trace.trace.Goals as goal

pub run_units-requires : goal.run_units-requires
run_units-requires g c =
    let (start, begins, serves) = c.in-Ok.ensures.serves in
    can_serve start c.in-Ok.node [] (g.D.Dir.states c.start.new.dir) serves

pub returns-in-Ok-clause-history : goal.returns-in-Ok-clause-history
returns-in-Ok-clause-history g c = λ bytes told.
    let (start, begins, serves) = c.in-Ok.ensures.serves in
    let began = subst (λ ids. IsStart start ids c.args.seed.now (g.D.Dir.states c.args.dir.now)) c.first_ids-ids.ensures begins in
    rw c.status_of.ensures (served_seen c.run_units.result start c.args.seed.now bytes (g.S.Source.left c.run_units.new.input) (held (g.K.Sink.contents c.args.output.now) (g.K.Sink.passed c.args.output.now))
    (held (g.K.Sink.contents c.run_units.new.output) (g.K.Sink.passed c.run_units.new.output)) (g.D.Dir.states c.args.dir.now) (g.D.Dir.states c.start.new.dir) (g.D.Dir.states c.run_units.new.dir)
    began c.start.ensures.told (λ origin earlier recovers transactions front follow.
    (c.start.ensures.moments origin earlier transactions recovers front follow, c.start.ensures.reads origin earlier transactions recovers front follow))
    (opened_survive start c.in-Ok.node c.args.seed.now (g.D.Dir.states c.args.dir.now) (g.D.Dir.states c.start.new.dir) began c.start.ensures.told serves)
    (opened_is_of start c.in-Ok.node (g.D.Dir.states c.start.new.dir) serves)
    (c.run_units.ensures.units start bytes serves told))

pub returns-in-Err-Damaged-clause-history : goal.returns-in-Err-Damaged-clause-history
returns-in-Err-Damaged-clause-history g c = λ bytes told.
    left_alone (held (g.K.Sink.contents c.args.output.now) (g.K.Sink.passed c.args.output.now)) (g.D.Dir.states c.args.dir.now) (g.D.Dir.states c.start.new.dir)
    (c.start.ensures.damaged c.in-Err-Damaged.damage (c.in-Err-Damaged.is ∙ ap (λ e. Err e) c.in-Err-Damaged.field-0-is)).1

pub returns-in-Err-Failed-clause-history : goal.returns-in-Err-Failed-clause-history
returns-in-Err-Failed-clause-history g c = λ bytes told.
    inl (not_opened bytes (g.S.Source.left c.args.input.now) (held (g.K.Sink.contents c.args.output.now) (g.K.Sink.passed c.args.output.now)) (g.D.Dir.states c.args.dir.now) (g.D.Dir.states c.start.new.dir) told c.start.ensures.told
    (λ origin earlier recovers transactions front follow.
    (c.start.ensures.moments origin earlier transactions recovers front follow, c.start.ensures.reads origin earlier transactions recovers front follow)))

pub returns-in-Err-NoMemory-clause-history : goal.returns-in-Err-NoMemory-clause-history
returns-in-Err-NoMemory-clause-history g c = λ bytes told.
    inl (not_opened bytes (g.S.Source.left c.args.input.now) (held (g.K.Sink.contents c.args.output.now) (g.K.Sink.passed c.args.output.now)) (g.D.Dir.states c.args.dir.now) (g.D.Dir.states c.start.new.dir) told c.start.ensures.told
    (λ origin earlier recovers transactions front follow.
    (c.start.ensures.moments origin earlier transactions recovers front follow, c.start.ensures.reads origin earlier transactions recovers front follow)))

pub returns-in-Ok-clause-others : goal.returns-in-Ok-clause-others
returns-in-Ok-clause-others g c = steps_then KeepsOthers _ _ _ c.start.ensures.others c.run_units.ensures.others

pub returns-in-Ok-clause-passed : goal.returns-in-Ok-clause-passed
returns-in-Ok-clause-passed g c =
    passed_by c.run_units.result c.status_of.result (g.K.Sink.passed c.args.output.now) (g.K.Sink.contents c.args.output.now)
    (g.K.Sink.passed c.run_units.new.output) (g.K.Sink.contents c.run_units.new.output) c.status_of.ensures c.run_units.ensures.passed

pub returns-in-Err-Failed-clause-passed : goal.returns-in-Err-Failed-clause-passed
returns-in-Err-Failed-clause-passed g c = inr (λ all. all)
