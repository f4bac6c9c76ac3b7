use Rattle.std.proofs.Common.{ap, inr}
use Rattle.mx_images.specs.Changes.{KeepsOthers}
use Rattle.mx_images.proofs.MomentLaws.{steps_same}
use Rattle.mx_top.specs.Runs.{held}
use Rattle.mx_top.proofs.RunLaws.{left_alone}
use Rattle.mx_top.proofs.Told.{completes, only_one, same_one}
use Rattle.mx_top.proofs.top_call.run.Goals as goal

pub returns-clause-complete : goal.returns-clause-complete
returns-clause-complete g c = λ bytes before after told command was is reads writes disks.
    let one = only_one c.args.dirs.now.items before after c.index_mut.result.now c.trace.new.dir was c.index_mut.ensures.value is in
    completes c.trace.result bytes _ (c.trace.ensures.place bytes told) c.trace.ensures.words
    (λ e. reads (c.trace.ensures.causes.read_fault e)) (λ e. writes (c.trace.ensures.causes.write_fault e))
    (λ e. let fault = c.trace.ensures.causes.disk_fault e in disks (rw (← one.0, ← one.1) fault))

pub returns-then-not-is_command-clause-disks : goal.returns-then-not-is_command-clause-disks
returns-then-not-is_command-clause-disks g c = λ before after was is.
    inr (ap g.D.Dir.faults (same_one c.args.dirs.now.items after before is was))

pub returns-clause-disks : goal.returns-clause-disks
returns-clause-disks g c = λ before after was is.
    let one = only_one c.args.dirs.now.items before after c.index_mut.result.now c.trace.new.dir was c.index_mut.ensures.value is in
    rw (← one.0, ← one.1) c.trace.ensures.causes.disk_quiet

pub returns-then-not-is_command-clause-history : goal.returns-then-not-is_command-clause-history
returns-then-not-is_command-clause-history g c = λ bytes old new told was is.
    left_alone (held (g.K.Sink.contents c.args.output.now) (g.K.Sink.passed c.args.output.now)) (g.D.Dir.states old) (g.D.Dir.states new)
    (ap g.D.Dir.states (same_one c.args.dirs.now.items new old is was))

pub returns-clause-history : goal.returns-clause-history
returns-clause-history g c = λ bytes old new told had has.
    let one = only_one c.args.dirs.now.items old new c.index_mut.result.now c.trace.new.dir had c.index_mut.ensures.value has in
    rw (← one.0, ← one.1) (c.trace.ensures.history bytes told)

pub returns-then-not-is_command-clause-others : goal.returns-then-not-is_command-clause-others
returns-then-not-is_command-clause-others g c = λ before after was is.
    steps_same KeepsOthers (g.D.Dir.states before) (g.D.Dir.states after)
    (ap g.D.Dir.states (same_one c.args.dirs.now.items after before is was))

pub returns-clause-others : goal.returns-clause-others
returns-clause-others g c = λ before after was is.
    let one = only_one c.args.dirs.now.items before after c.index_mut.result.now c.trace.new.dir was c.index_mut.ensures.value is in
    rw (← one.0, ← one.1) c.trace.ensures.others
