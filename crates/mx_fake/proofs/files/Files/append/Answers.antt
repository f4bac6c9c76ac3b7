use Rattle.std.proofs.Common.{ap, sym, ◌∙◌}
use Rattle.std.specs.Option.{option_copied_mut}
use Rattle.mx_outside.specs.Disks.{longer_by}
use Rattle.mx_fake.specs.FileMaps.{map_of}
use Rattle.mx_fake.proofs.FileLaws.{changed_there, changed_none}
use Rattle.mx_fake.proofs.files.Files.append.Goals as goal
use Rattle.mx_fake.proofs.files.Files.append.Goals.{in-Some+in_ok-append, in_default}

pub returns : goal.returns
returns c =
    let changes = (longer_by c.args.more.now) in
    let stored = c.self.inside.stored in
    let name = c.args.name.now in
    elim c.match-get_mut.branch [
      | in-Some+in_ok-append w ↦
          ap (λ inside. map_of inside.stored.entries) w.self-inside-is
          ∙ changed_there changes stored (c.get_mut.follows.lender w.append.new.self) name c.args.self.now w.in-Some.file.now w.append.new.self c.self.view_is
          (sym c.get_mut.ensures.value ∙ ap option_copied_mut w.in-Some.is) w.in_ok-append.ensures (c.get_mut.follows.holds w.append.new.self).3
      | in_default w ↦
          ap (λ inside. map_of inside.stored.entries) w.self-inside-is
          ∙ changed_none changes stored c.get_mut.follows.lender-at-none name c.args.self.now c.self.view_is
          (sym c.get_mut.ensures.value ∙ ap option_copied_mut w.in_default.is) (c.get_mut.follows.holds-at-none)
    ]
