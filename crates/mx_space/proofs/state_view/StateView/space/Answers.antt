use Rattle.std.proofs.Common.{sym, ap, ◌∙◌, subst}
use Rattle.std.specs.Option.{option_copied}
use Rattle.mx_schema.specs.Catalogues.{schema_of}
use Rattle.mx_schema.specs.State.{tuples_in}
use Rattle.mx_space.specs.OwnChanges.{ShowsSpace, overlaid_in}
use Rattle.mx_space.proofs.StateViewLaws.{none_lent, shows_none, shows_space}
use Rattle.mx_space.proofs.state_view.StateView.space.Goals as goal

pub returns-in_err-space-clause-shown : goal.returns-in_err-space-clause-shown
returns-in_err-space-clause-shown c = λ seen holds.
    subst (λ r. ShowsSpace (schema_of seen c.args.id.0) r (tuples_in seen c.args.id.0)) (sym c.from_residual.ensures)
    (shows_none c.args.self seen holds c.args.id.0 (sym (ap option_copied c.in_err-space.was) ∙ c.space.ensures))

pub returns-clause-shown : goal.returns-clause-shown
returns-clause-shown c = λ seen holds.
    shows_space c.args.self seen holds c.args.id.0 _ (sym (ap option_copied c.in_ok-space.was) ∙ c.space.ensures) c.writes_in-over.ensures

pub returns-clause-no_writes : goal.returns-clause-no_writes
returns-clause-no_writes c = λ none.
    none_lent c.writes_in-over.result (c.writes_in-over.ensures ∙ ap (λ o. overlaid_in c.args.id.0 (option_copied o)) none)
