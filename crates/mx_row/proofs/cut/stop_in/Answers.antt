use Rattle.std.proofs.Common.{◌∙◌, ℕ, List, ap, sym, subst}
use Rattle.std.specs.Option.{option_map}
use Rattle.mx_row.specs.declared.header.Header.{Header}
use Rattle.mx_row.specs.declared.row.Row.{Row}
use Rattle.mx_row.specs.Cuts.{AreSoFar, none_yet, one_more}
use Rattle.mx_row.specs.Views.{row_value}
use Rattle.mx_row.proofs.BehindLaws.{whole_row_at-Advances}
use Rattle.mx_row.proofs.ProgressLaws.{so_far_numbered}
use Rattle.mx_row.proofs.ReadLaws.{whole_row_is}
use Rattle.mx_row.proofs.StopLaws.{apart, inside, rest_within, stops}
use Rattle.mx_row.proofs.cut.stop_in.Goals as goal

abbrev next : Header → Row → List ℕ → (Header × Row) × List ℕ
next header row others = ((header, row), others)

pub loop-header-init : goal.loop-header-init
loop-header-init c = subst (λ rows. AreSoFar c.args.bytes.now rows c.args.bytes.now) (sym c.none-rows.ensures) none_yet

pub leads_on-requires-clause-short : goal.leads_on-requires-clause-short
leads_on-requires-clause-short c =
    (whole_row_is c.loop-header.rest.now (next c.in-Some.header (row_value c.in-Some.row) c.in-Some.others.now)
    (sym c.whole_row_at.ensures ∙ ap (option_map (λ x. ((x.0, row_value x.1), x.2.now))) c.in-Some.is)).row_is.short

pub returns-then-not-leads_on-clause-within : goal.returns-then-not-leads_on-clause-within
returns-then-not-leads_on-clause-within c = rest_within c.loop-header.invariant

pub returns-then-not-leads_on-clause-stop : goal.returns-then-not-leads_on-clause-stop
returns-then-not-leads_on-clause-stop c =
    stops c.loop-header.invariant (apart c.loop-header.invariant (next c.in-Some.header (row_value c.in-Some.row) c.in-Some.others.now) c.requires
    (sym c.whole_row_at.ensures ∙ ap (option_map (λ x. ((x.0, row_value x.1), x.2.now))) c.in-Some.is) (sym c.leads_on.ensures ∙ c.if-not-leads_on.true))

pub with_row-rows-requires-clause-short : goal.with_row-rows-requires-clause-short
with_row-rows-requires-clause-short c =
    (whole_row_is c.loop-header.rest.now (next c.in-Some.header (row_value c.in-Some.row) c.in-Some.others.now)
    (sym c.whole_row_at.ensures ∙ ap (option_map (λ x. ((x.0, row_value x.1), x.2.now))) c.in-Some.is)).row_is.short

pub loop-header-smaller : goal.loop-header-smaller
loop-header-smaller c =
    whole_row_at-Advances c.loop-header.rest.now (next c.in-Some.header (row_value c.in-Some.row) c.in-Some.others.now)
    (sym c.whole_row_at.ensures ∙ ap (option_map (λ x. ((x.0, row_value x.1), x.2.now))) c.in-Some.is)

pub loop-header-preserved : goal.loop-header-preserved
loop-header-preserved c =
    subst (λ rows. AreSoFar c.args.bytes.now rows c.in-Some.others.now) (sym c.with_row-rows.ensures)
    (one_more c.in-Some.header (row_value c.in-Some.row) c.loop-header.invariant
    (sym c.whole_row_at.ensures ∙ ap (option_map (λ x. ((x.0, row_value x.1), x.2.now))) c.in-Some.is) (sym c.leads_on.ensures ∙ c.if-not-leads_on.false))

pub can_fit-requires-clause-numbered : goal.can_fit-requires-clause-numbered
can_fit-requires-clause-numbered c = so_far_numbered c.loop-header.invariant

pub returns-then-can_fit-clause-inside : goal.returns-then-can_fit-clause-inside
returns-then-can_fit-clause-inside c = λ e.
    inside c.loop-header.invariant (sym c.whole_row_at.ensures ∙ ap (option_map (λ x. ((x.0, row_value x.1), x.2.now))) c.in_default.is) (c.can_fit.ensures.0 c.if-can_fit.true)

pub returns-else-can_fit-clause-within : goal.returns-else-can_fit-clause-within
returns-else-can_fit-clause-within c = rest_within c.loop-header.invariant

pub returns-else-can_fit-clause-stop : goal.returns-else-can_fit-clause-stop
returns-else-can_fit-clause-stop c = stops c.loop-header.invariant (c.can_fit.ensures.1 c.if-can_fit.false)
