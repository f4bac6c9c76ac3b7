use Rattle.std.proofs.Common.{rules, ◌≡◌, ◌<◌, Some, sym, ap, ◌∙◌, subst}
use Rattle.std.specs.FinMap.{remove}
use Rattle.mx_txn.specs.Slots.{max_open}
use Rattle.mx_transactions.specs.Open.{HoldsOpen, Open, slot_named}
use Rattle.mx_transactions.specs.OpenSteps.{KeepsNoOthers}
use Rattle.mx_transactions.proofs.EndLaws.{ended_open}
use Rattle.mx_transactions.proofs.OpenLaws.{found_live}
use Rattle.mx_transactions.proofs.MoveLaws.{some_same}
use Rattle.mx_transactions.proofs.TableLaws.{ended_table, is_trimmed_read, keeps_read, none_added}
use Rattle.mx_transactions.proofs.open.OpenTransactions.end.Goals as goal

pub state-left-requires : goal.state-left-requires
state-left-requires c =
    found_live c.self.inside.slots c.args.name c.self.inside.names c.self.invariant.live c.args.slot
    (subst (λ (all : Open). slot_named c.args.name all.names ≡ Some c.args.slot) (sym c.self.view_is) c.requires)

pub end-requires : goal.end-requires
end-requires c =
    found_live c.self.inside.slots c.args.name c.self.inside.names c.self.invariant.live c.args.slot
    (subst (λ (all : Open). slot_named c.args.name all.names ≡ Some c.args.slot) (sym c.self.view_is) c.requires)

pub invariant_of-self : goal.invariant_of-self
invariant_of-self c =
    let within : c.args.slot < max_open = search rules in
    ended_table _ _ c.args.name c.args.slot c.self.invariant within
    (subst (λ (all : Open). slot_named c.args.name all.names ≡ Some c.args.slot) (sym c.self.view_is) c.requires) c.remove.ensures (record {
      slots = c.end.ensures;
      tracks = c.clear.ensures.reads;
      work = c.clear.ensures.work;
      keeps = keeps_read _ _ c.trim.new.self c.oldest_view.result c.oldest_view.ensures c.trim.ensures c.remove_unread.ensures.drops;
    })

pub returns-clause-left : goal.returns-clause-left
returns-clause-left c = λ streams holds.
    ended_open streams _ _ c.args.name c.args.slot c.self.invariant
    (subst (λ (all : Open). slot_named c.args.name all.names ≡ Some c.args.slot) (sym c.self.view_is) c.requires) c.remove.ensures (record {
      slots = c.end.ensures;
      tracks = c.clear.ensures.reads;
      work = c.clear.ensures.work;
      keeps = keeps_read _ _ c.trim.new.self c.oldest_view.result c.oldest_view.ensures c.trim.ensures c.remove_unread.ensures.drops;
    }) (subst (HoldsOpen streams) (sym c.self.view_is) holds)

pub returns-clause-slots : goal.returns-clause-slots
returns-clause-slots c = c.end.ensures ∙ ap (λ (all : Open). remove all.slots c.args.slot) c.self.view_is

pub returns-clause-kept : goal.returns-clause-kept
returns-clause-kept c =
    subst (λ (all : Open). KeepsNoOthers all.kept c.remove_unread.new.kept) c.self.view_is
    (none_added _ c.self.inside.kept c.trim.new.self c.remove_unread.new.kept c.oldest_view.result c.trim.ensures c.remove_unread.ensures.drops)

pub returns-clause-trimmed : goal.returns-clause-trimmed
returns-clause-trimmed c = is_trimmed_read _ c.self.inside.kept c.trim.new.self c.oldest_view.result c.oldest_view.ensures c.trim.ensures c.remove_unread.ensures.drops

pub returns-clause-unread : goal.returns-clause-unread
returns-clause-unread c = λ at view none.
    let here = rw (sym c.self.view_is) at view in
    c.remove_unread.ensures.unread at (some_same (sym c.state-left.ensures ∙ here)) none
