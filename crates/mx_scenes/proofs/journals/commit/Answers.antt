use Rattle.std.proofs.Common.{[], ◌∷◌}
use Rattle.mx_fake.specs.Dirs.{dir_states}
use Rattle.mx_journal.proofs.BlockLaws.{none_waits}
use Rattle.mx_scenes.proofs.JournalLaws.{still_written, wrote_newest}
use Rattle.mx_scenes.proofs.journals.commit.Goals as goal

pub write_out-requires : goal.write_out-requires
write_out-requires c = still_written (dir_states c.args.dir.now) c.args.journal.now c.push.new.self c.push.ensures.written c.requires.written

pub returns-clause-written : goal.returns-clause-written
returns-clause-written c =
    wrote_newest (dir_states c.args.dir.now) (dir_states c.write_out.new.dir) c.args.journal.now c.push.new.self (c.in_ok-tx.tx ∷ [])
    c.push.ensures.written c.requires.written (c.in_ok-push.ensures.waits [] c.requires.waits) c.write_out.new.self
    (c.in_ok-count.ensures.written [] (c.in_ok-tx.tx ∷ []))

pub returns-clause-none : goal.returns-clause-none
returns-clause-none c = none_waits c.write_out.new.self c.in_ok-count.ensures.none.0
