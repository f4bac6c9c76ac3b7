use Rattle.std.proofs.Common.{ap, sym, ◌∙◌, refl, string_bytes}
use Rattle.std.specs.FinMap as map
use Rattle.mx_outside.specs.Disks.{unsynced, moved}
use Rattle.mx_fake.proofs.TableLaws.{changed, moved_there, moved_none}
use Rattle.mx_fake.proofs.tables.Tables.rename.Goals as goal

pub returns-in_ok-insert : goal.returns-in_ok-insert
returns-in_ok-insert c disk is =
    let from = c.args.from.now in
    let to = c.args.to.now in
    let files = c.save-2.new.self.files in
    let file = c.in-Some.file in
    changed (moved from to) (unsynced to (unsynced from disk)) c.save-2.new.self
    (record { files = c.insert.new.self; before = c.save-2.new.self.before }) (c.in_ok-save-2.ensures _ (c.in_ok-save.ensures disk is))
    (c.in_ok-insert.ensures ∙ ap (λ files. map.insert files (string_bytes c.in_ok-from_str.field-0) file) c.in-Some.ensures.rest
    ∙ ap (λ k. map.insert (map.remove files from) k file) c.in_ok-from_str.ensures.ok
    ∙ sym (moved_there from to files file (sym c.in-Some.ensures.file))) refl

pub returns-in_default : goal.returns-in_default
returns-in_default c disk is =
    let from = c.args.from.now in
    let to = c.args.to.now in
    changed (moved from to) (unsynced to (unsynced from disk)) c.save-2.new.self
    (record { files = c.remove.new.self; before = c.save-2.new.self.before }) (c.in_ok-save-2.ensures _ (c.in_ok-save.ensures disk is))
    (c.in_default.ensures.rest ∙ sym (moved_none from to c.save-2.new.self.files (sym c.in_default.ensures.file))) refl
