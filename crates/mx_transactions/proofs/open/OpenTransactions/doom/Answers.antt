use Rattle.std.proofs.Common.{rules, ◌<◌, refl, sym, ◌∙◌, subst}
use Rattle.mx_txn.specs.declared.state.TxnState.TheVariants.{Aborted}
use Rattle.mx_txn.specs.Slots.{IsLive, max_open}
use Rattle.mx_transactions.specs.Open.{Open}
use Rattle.mx_transactions.proofs.MoveLaws.{some_same}
use Rattle.mx_transactions.proofs.TableLaws.{doomed_slot, doomed_table, keeps_read, is_trimmed_read}
use Rattle.mx_transactions.proofs.open.OpenTransactions.doom.Goals as goal

pub invariant_of-self : goal.invariant_of-self
invariant_of-self c =
    doomed_table _ _ c.args.slot (Aborted c.args.by) c.self.invariant (subst (λ (all : Open). IsLive all.slots c.args.slot) (sym c.self.view_is) c.requires) refl (record {
      slots = c.abort.ensures;
      tracks = c.clear.ensures.reads;
      work = c.clear.ensures.work;
      keeps = keeps_read _ _ c.trim.new.self c.oldest_view.result c.oldest_view.ensures c.trim.ensures c.remove_unread.ensures.drops;
    })

pub returns-clause-dooms : goal.returns-clause-dooms
returns-clause-dooms c =
    let within : c.args.slot < max_open = search rules in
    rw (← c.self.view_is) (doomed_slot _ _ c.args.slot (Aborted c.args.by) c.self.invariant within refl (record {
      slots = c.abort.ensures;
      tracks = c.clear.ensures.reads;
      work = c.clear.ensures.work;
      keeps = keeps_read _ _ c.trim.new.self c.oldest_view.result c.oldest_view.ensures c.trim.ensures c.remove_unread.ensures.drops;
    }))

pub returns-clause-trimmed : goal.returns-clause-trimmed
returns-clause-trimmed c = is_trimmed_read _ c.self.inside.kept c.trim.new.self c.oldest_view.result c.oldest_view.ensures c.trim.ensures c.remove_unread.ensures.drops

pub returns-clause-unread : goal.returns-clause-unread
returns-clause-unread c = λ at view none.
    let here = rw (sym c.self.view_is) at view in
    c.remove_unread.ensures.unread at (some_same (sym c.state-left.ensures ∙ here)) none
