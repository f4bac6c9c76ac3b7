use Rattle.std.proofs.Common.{ap, ◌∙◌, refl, string_bytes}
use Rattle.mx_outside.specs.Disks.{File, change_file, synced_file}
use Rattle.mx_fake.proofs.TableLaws.{changed, nothing_saved}
use Rattle.mx_fake.proofs.tables.Tables.apply.Goals as goal

pub returns-in-Sync : goal.returns-in-Sync
returns-in-Sync c disk is =
    let files = c.args.self.now.files in
    let sync : File → File = λ file. synced_file file.bytes in
    rw c.in-Sync.is (changed (change_file sync (string_bytes c.in-Sync.name)) disk c.args.self.now
    (record { files = c.sync.new.self; before = c.args.self.now.before }) is
    (c.sync.ensures ∙ ap (λ k. change_file sync k files) c.deref-in-Sync.ensures) refl)

pub returns-in-SyncNames : goal.returns-in-SyncNames
returns-in-SyncNames c disk is =
    rw c.in-SyncNames.is (nothing_saved disk.now (record { files = c.args.self.now.files; before = c.clear.new.self }) is.now c.clear.ensures.empty c.clear.ensures.ordered)
