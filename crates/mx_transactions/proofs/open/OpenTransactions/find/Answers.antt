use Rattle.std.proofs.Common.{rules, ◌≡◌, None, sym, ◌∙◌, subst}
use Rattle.mx_transactions.specs.Open.{HaveOwnSlots, HoldsOpen, Open, slot_named}
use Rattle.mx_transactions.specs.OpenSteps.{FindsIn}
use Rattle.mx_transactions.proofs.BeginLaws.{found_in}
use Rattle.mx_transactions.proofs.OpenLaws.{found_live, none_found}
use Rattle.mx_transactions.proofs.open.OpenTransactions.find.Goals as goal

pub returns-in_err-slot-clause-found : goal.returns-in_err-slot-clause-found
returns-in_err-slot-clause-found c = λ streams holds.
    let none : c.from_residual.result ≡ None = search rules in
    let there : slot_named c.args.name c.self.inside.names ≡ None = sym c.find.ensures ∙ c.in_err-slot.was in
    let kept = subst (HoldsOpen streams) (sym c.self.view_is) holds in
    rw none (none_found streams _ c.args.name c.self.inside.names streams.transactions kept.each there)

pub state-requires : goal.state-requires
state-requires c = found_live c.self.inside.slots c.args.name c.self.inside.names c.self.invariant.live c.in_ok-slot.slot (sym c.find.ensures ∙ c.in_ok-slot.was)

pub returns-clause-found : goal.returns-clause-found
returns-clause-found c = λ streams holds.
    subst (λ all. FindsIn streams all c.args.name c.in_ok-slot.slot c.state.result) c.self.view_is
    (found_in streams _ c.args.name c.in_ok-slot.slot c.state.result (subst (HoldsOpen streams) (sym c.self.view_is) holds) (sym c.find.ensures ∙ c.in_ok-slot.was) c.state.ensures)

pub returns-clause-apart : goal.returns-clause-apart
returns-clause-apart c = subst (λ (all : Open). HaveOwnSlots all.names) c.self.view_is c.self.invariant.apart
