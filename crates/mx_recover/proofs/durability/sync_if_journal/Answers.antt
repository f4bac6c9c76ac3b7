use Rattle.std.proofs.Common.{sym, ◌∙◌}
use Rattle.mx_outside.specs.Disks.{file_synced}
use Rattle.mx_files.specs.Names.{is_journal}
use Rattle.mx_recover.proofs.PassingLaws.{made, left}
use Rattle.mx_images.proofs.MomentLaws.{makes_steps, steps_none}
use Rattle.mx_recover.specs.Turns.{OnlyCleans}
use Rattle.mx_recover.proofs.LeavingLaws.{synced_cleans}
use Rattle.mx_recover.proofs.durability.sync_if_journal.Goals as goal

pub returns-then-not-is_journal-clause-synced : goal.returns-then-not-is_journal-clause-synced
returns-then-not-is_journal-clause-synced g c =
    left is_journal file_synced c.args.name.now (g.D.Dir.states c.args.dir.now) (sym c.is_journal.ensures ∙ c.if-not-is_journal.true)

pub returns-clause-synced : goal.returns-clause-synced
returns-clause-synced g c =
    made is_journal file_synced c.args.name.now _ _ c.sync.result (sym c.is_journal.ensures ∙ c.if-not-is_journal.false) c.sync.ensures.synced

pub returns-then-not-is_journal-clause-moments : goal.returns-then-not-is_journal-clause-moments
returns-then-not-is_journal-clause-moments g c = steps_none OnlyCleans (g.D.Dir.states c.args.dir.now)

pub returns-clause-moments : goal.returns-clause-moments
returns-clause-moments g c =
    let journal = sym c.is_journal.ensures ∙ c.if-not-is_journal.false in
    makes_steps OnlyCleans (file_synced c.args.name.now) (λ disk. synced_cleans c.args.name.now disk journal) _ _ c.sync.result c.sync.ensures.synced
