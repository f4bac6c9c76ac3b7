use Rattle.mx_outside.specs.Disks.{renamed, names_synced}
use Rattle.mx_images.proofs.ToldLaws.{became_changed, then_changed}
use Rattle.mx_journal.proofs.making.rename_durably.Goals as goal

pub returns-clause-made : goal.returns-clause-made
returns-clause-made g c =
    let change = renamed c.args.from.now c.args.to.now in
    then_changed change names_synced (g.D.Dir.states c.args.dir.now) (g.D.Dir.states c.rename.new.self) (g.D.Dir.states c.sync_names.new.self)
    (became_changed change _ _ c.in_ok-rename.ensures.renamed) (became_changed names_synced _ _ c.in_ok-sync_names.ensures.synced)
