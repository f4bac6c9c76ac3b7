use Rattle.std.proofs.Common.{sym, ap, ◌∙◌, subst}
use Rattle.std.specs.FinMap as finite
use Rattle.std.specs.Option.{option_copied}
use Rattle.mx_schema.specs.Stored.{StoresTuples}
use Rattle.mx_space.specs.Overlays.{StoresOver, StoresWritten}
use Rattle.mx_entries.specs.OwnWrites.{under}
use Rattle.mx_space.proofs.OverlayLaws.{hides_written, no_writes}
use Rattle.mx_entries.proofs.SeenLaws.{not_some, not_written, was_written}
use Rattle.mx_space.proofs.view.SpaceView.tuple.Goals as goal

pub returns-in_default-clause-sees : goal.returns-in_default-clause-sees
returns-in_default-clause-sees c = λ schema all written wanted sees fit is.
    c.tuple.ensures all wanted sees.state.holds.keeps fit is
    ∙ ap (λ t. finite.get t wanted) (sym (no_writes all written (option_copied c.args.self.over) schema sees.over (ap option_copied c.in_default.is)))

pub returns-then-hides-clause-sees : goal.returns-then-hides-clause-sees
returns-then-hides-clause-sees c = λ schema all written wanted sees fit is.
    let over : StoresWritten schema c.in-Some.over.now written = subst (λ o. StoresOver schema o written) (ap option_copied c.in-Some.is) sees.over in
    let hidden = sym (hides_written schema c.in-Some.over.now written wanted c.args.key.now over fit is) ∙ sym c.hides.ensures ∙ c.if-hides.true in
    c.tuple-then-hides.ensures (under written finite.empty) wanted
    (subst (λ s. StoresTuples s.tuples.entries (under written finite.empty)) (sym c.own.ensures) over.own.holds.keeps) fit is
    ∙ was_written written all wanted hidden

pub returns-clause-sees : goal.returns-clause-sees
returns-clause-sees c = λ schema all written wanted sees fit is.
    let over : StoresWritten schema c.in-Some.over.now written = subst (λ o. StoresOver schema o written) (ap option_copied c.in-Some.is) sees.over in
    let shown = sym (hides_written schema c.in-Some.over.now written wanted c.args.key.now over fit is) ∙ sym c.hides.ensures ∙ c.if-hides.false in
    c.tuple-2.ensures all wanted sees.state.holds.keeps fit is ∙ sym (not_written written all wanted (not_some (finite.get written wanted) shown))

pub returns-in_default-clause-shown : goal.returns-in_default-clause-shown
returns-in_default-clause-shown c = λ schema tuples wanted shows fit is.
    returns-in_default-clause-sees c schema shows.all shows.written wanted shows.sees fit is ∙ ap (λ t. finite.get t wanted) (sym shows.is)

pub returns-then-hides-clause-shown : goal.returns-then-hides-clause-shown
returns-then-hides-clause-shown c = λ schema tuples wanted shows fit is.
    returns-then-hides-clause-sees c schema shows.all shows.written wanted shows.sees fit is ∙ ap (λ t. finite.get t wanted) (sym shows.is)

pub returns-clause-shown : goal.returns-clause-shown
returns-clause-shown c = λ schema tuples wanted shows fit is.
    returns-clause-sees c schema shows.all shows.written wanted shows.sees fit is ∙ ap (λ t. finite.get t wanted) (sym shows.is)
