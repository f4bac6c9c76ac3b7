use Rattle.std.proofs.Common.{sym, ◌∙◌}
use Rattle.mx_recover.specs.Recovered.{StandsFor}
use Rattle.mx_recover.proofs.FileLaws.{passed_by, file_passes, took, read_given}
use Rattle.mx_recover.proofs.recovery.replay_name.Goals as goal

pub returns-then-not-is_journal-clause-passed : goal.returns-then-not-is_journal-clause-passed
returns-then-not-is_journal-clause-passed g c = λ before stands.
    (before, stands, passed_by (g.D.Dir.states c.args.dir.now) c.args.name.now before (sym c.is_journal.ensures ∙ c.if-not-is_journal.true))

pub returns-clause-passed : goal.returns-clause-passed
returns-clause-passed g c = λ before stands.
    took (g.D.Dir.states c.args.dir.now) c.args.name.now c.in_ok-bytes.bytes.items _ before (λ after. StandsFor c.take_file.new.self after) c.take_file.result
    (sym c.is_journal.ensures ∙ c.if-not-is_journal.false) c.in_ok-bytes.ensures.bytes c.deref.ensures.value (c.take_file.ensures.taken before stands)

pub returns-clause-damaged : goal.returns-clause-damaged
returns-clause-damaged g c = λ before damage stands is.
    let read = c.take_file.ensures.damaged before damage stands is in
    file_passes (g.D.Dir.states c.args.dir.now) c.args.name.now c.in_ok-bytes.bytes.items read.0 before _ (sym c.is_journal.ensures ∙ c.if-not-is_journal.false)
    c.in_ok-bytes.ensures.bytes (read_given c.deref.ensures.value read.0 read.1) read.2
