use Rattle.std.proofs.Common.{◌≡◌, length, sym, ap, ◌∙◌, subst}
use Rattle.std.specs.Prelude.{IfOk}
use Rattle.std.specs.FinMap as finite
use Rattle.std.specs.Option.{option_copied}
use Rattle.mx_schema.specs.Picks.{tuples_by_index}
use Rattle.mx_schema.specs.State.{Tuples}
use Rattle.mx_space.specs.Overlays.{StoresOver, StoresWritten}
use Rattle.mx_space.proofs.SpaceLaws.{space_long}
use Rattle.mx_space.proofs.StateViewLaws.{long_both, one_each_shown, one_each_stored}
use Rattle.mx_entries.proofs.SeenLaws.{each_own}
use Rattle.mx_space.proofs.OverlayLaws.{no_writes, own_long}
use Rattle.mx_space.proofs.view.SpaceView.holder.Goals as goal

pub returns-in-None-clause-sees : goal.returns-in-None-clause-sees
returns-in-None-clause-sees c = λ schema all written primary wanted sees first there each each_seen fit is.
    subst (λ (t : Tuples). IfOk c.unique_holder.result (λ found. option_copied found ≡ finite.get (tuples_by_index c.args.def.now t) wanted))
    (sym (no_writes all written (option_copied c.args.self.over) schema sees.over (ap option_copied c.in-None.is)))
    (c.unique_holder.ensures schema all (length primary.key) wanted sees.state (space_long schema c.args.self.space.now all primary sees.state first) there each c.if-def-eq0.false fit is)

pub returns-in-None-clause-shown : goal.returns-in-None-clause-shown
returns-in-None-clause-shown c = λ schema tuples wanted shows there unique fit is.
    let view = c.args.self in
    let def = c.args.def.now in
    let long = long_both schema view tuples shows in
    subst (λ (t : Tuples). IfOk c.unique_holder.result (λ found. option_copied found ≡ finite.get (tuples_by_index def t) wanted))
    (sym (shows.is ∙ no_writes shows.all shows.written (option_copied view.over) schema shows.sees.over (ap option_copied c.in-None.is)))
    (c.unique_holder.ensures schema shows.all long.0 wanted shows.sees.state long.1 there (one_each_stored schema view tuples shows def there unique) c.if-def-eq0.false fit is)

pub returns-in-Some-clause-sees : goal.returns-in-Some-clause-sees
returns-in-Some-clause-sees c = λ schema all written primary wanted sees first there each each_seen fit is.
    let space = c.args.self.space.now in
    let writes : StoresWritten schema c.in-Some.over.now written = subst (λ o. StoresOver schema o written) (ap option_copied c.in-Some.is) sees.over in
    c.holder_under.ensures schema all written (length primary.key) wanted sees.state writes (space_long schema space all primary sees.state first)
    (own_long schema space c.in-Some.over.now all written primary sees.state writes first) there each each_seen c.if-def-eq0.false fit is

pub returns-in-Some-clause-shown : goal.returns-in-Some-clause-shown
returns-in-Some-clause-shown c = λ schema tuples wanted shows there unique fit is.
    let view = c.args.self in
    let def = c.args.def.now in
    let long = long_both schema view tuples shows in
    let writes : StoresWritten schema c.in-Some.over.now shows.written = subst (λ o. StoresOver schema o shows.written) (ap option_copied c.in-Some.is) shows.sees.over in
    subst (λ (t : Tuples). IfOk c.holder_under.result (λ found. option_copied found ≡ finite.get (tuples_by_index def t) wanted)) (sym shows.is)
    (c.holder_under.ensures schema shows.all shows.written long.0 wanted shows.sees.state writes long.1 (each_own (λ entry. length entry.0 ≡ long.0) shows.written shows.all long.2) there
    (one_each_stored schema view tuples shows def there unique) (one_each_shown schema view tuples shows def there unique) c.if-def-eq0.false fit is)
