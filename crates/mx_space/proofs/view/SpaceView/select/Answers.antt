use Rattle.std.proofs.Common.{sym, ap, subst}
use Rattle.std.specs.Option.{option_copied}
use Rattle.mx_space.specs.Kept.{StoresIndexed}
use Rattle.mx_space.specs.Overlays.{StoresOver, StoresWritten}
use Rattle.mx_entries.specs.OwnWrites.{under}
use Rattle.mx_space.proofs.OverlayLaws.{no_writes}
use Rattle.mx_space.proofs.view.SpaceView.select.Goals as goal

pub returns-in-Some : goal.returns-in-Some
returns-in-Some c = λ schema all written long sees whole whole_seen there have one_each each.
    let writes : StoresWritten schema c.in-Some.over.now written = subst (λ o. StoresOver schema o written) (ap option_copied c.in-Some.is) sees.over in
    c.select_shown.ensures schema all written long sees.state writes whole whole_seen there have one_each each

pub returns-in-None : goal.returns-in-None
returns-in-None c = λ schema all written long sees whole whole_seen there have one_each each.
    let same = no_writes all written (option_copied c.args.self.over) schema sees.over (ap option_copied c.in-None.is) in
    c.select_stored.ensures schema (under written all) long (subst (StoresIndexed schema c.args.self.space.now) (sym same) sees.state) whole_seen there have one_each
