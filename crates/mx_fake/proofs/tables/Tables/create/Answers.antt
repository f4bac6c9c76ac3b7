use Rattle.std.proofs.Common.{ap, ◌∙◌, refl, []}
use Rattle.std.specs.FinMap as map
use Rattle.mx_outside.specs.Disks.{unsynced, synced_file}
use Rattle.mx_fake.proofs.TableLaws.{changed}
use Rattle.mx_fake.proofs.tables.Tables.create.Goals as goal

pub returns : goal.returns
returns c disk is =
    let name = c.args.name.now in
    let files = c.save.new.self.files in
    changed (λ files. map.insert files name (synced_file [])) (unsynced name disk) c.save.new.self
    (record { files = c.insert.new.self; before = c.save.new.self.before }) (c.in_ok-save.ensures disk is)
    (c.in_ok-insert.ensures ∙ ap (λ k. map.insert files k c.new.result) c.in_ok-from_str.ensures.ok ∙ ap (map.insert files name) c.new.ensures) refl
