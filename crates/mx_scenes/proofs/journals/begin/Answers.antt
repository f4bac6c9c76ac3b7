use Rattle.mx_fake.specs.Dirs.{dir_states}
use Rattle.mx_journal.specs.Written.{name_of}
use Rattle.mx_scenes.proofs.JournalLaws.{none_newer, created_written}
use Rattle.mx_scenes.proofs.journals.begin.Goals as goal

pub create-requires-clause-newest : goal.create-requires-clause-newest
create-requires-clause-newest c = none_newer (dir_states c.args.dir.now) (name_of c.first_head.result) c.requires

pub returns-clause-written : goal.returns-clause-written
returns-clause-written c = created_written (dir_states c.args.dir.now) (dir_states c.create.new.dir) c.first_head.result c.create.result c.requires c.create.ensures.created
