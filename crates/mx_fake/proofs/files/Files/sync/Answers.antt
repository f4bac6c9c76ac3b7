use Rattle.std.proofs.Common.{ap, sym, ◌∙◌}
use Rattle.std.specs.Option.{option_copied_mut}
use Rattle.mx_outside.specs.Disks.{File, synced_file}
use Rattle.mx_fake.specs.FileMaps.{map_of}
use Rattle.mx_fake.proofs.FileLaws.{changed_there, changed_none}
use Rattle.mx_fake.proofs.files.Files.sync.Goals as goal
use Rattle.mx_fake.proofs.files.Files.sync.Goals.{in-Some, in_default}

pub returns : goal.returns
returns c =
    let changes : File → File = λ file. synced_file file.bytes in
    let stored = c.self.inside.stored in
    let name = c.args.name.now in
    elim c.match-get_mut.branch [
      | in-Some w ↦
          ap (λ inside. map_of inside.stored.entries) w.self-inside-is
          ∙ changed_there changes stored (c.get_mut.follows.lender w.sync.new.self) name c.args.self.now w.in-Some.file.now w.sync.new.self c.self.view_is
          (sym c.get_mut.ensures.value ∙ ap option_copied_mut w.in-Some.is) w.sync.ensures (c.get_mut.follows.holds w.sync.new.self).3
      | in_default w ↦
          ap (λ inside. map_of inside.stored.entries) w.self-inside-is
          ∙ changed_none changes stored c.get_mut.follows.lender-at-none name c.args.self.now c.self.view_is
          (sym c.get_mut.ensures.value ∙ ap option_copied_mut w.in_default.is) (c.get_mut.follows.holds-at-none)
    ]
