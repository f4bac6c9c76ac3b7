use Rattle.std.proofs.Common.{[], Some, refl, sym, ap, ◌∙◌}
use Rattle.std.specs.Prelude.{if◌then◌else◌}
use Rattle.std.proofs.lemmas.Option.{slice_get_within}
use Rattle.mx_txn.specs.declared.state.TxnState.TheVariants.{Aborted, View}
use Rattle.mx_transactions.specs.Open.{SlotHas}
use Rattle.mx_transactions.proofs.MoveLaws.{set_changes, set_table, sets_state}
use Rattle.mx_transactions.proofs.open.OpenTransactions.move_active.Goals as goal

pub invariant_of-self : goal.invariant_of-self
invariant_of-self c =
    let live = rw (sym c.self.view_is) at c.requires.live in
    let (work, idle, works) = c.clear.ensures.work in
    let now : SlotHas = record { state = Some (Aborted c.args.commits); work = work; reads = [] } in
    set_table _ _ c.args.slot now (sets_state _ _ c.args.slot now (Aborted c.args.commits) live refl refl refl c.abort.ensures works c.clear.ensures.reads) c.self.invariant refl

pub invariant_of-self-else-is_doomed : goal.invariant_of-self-else-is_doomed
invariant_of-self-else-is_doomed c =
    let live = rw (sym c.self.view_is) at c.requires.live in
    let (work, idle, works) = c.clear.ensures.work in
    let now : SlotHas = record { state = Some (View c.args.commits); work = work; reads = [] } in
    set_table _ _ c.args.slot now (sets_state _ _ c.args.slot now (View c.args.commits) live refl refl refl c.to_view.ensures works c.clear.ensures.reads) c.self.invariant refl

pub returns-then-is_doomed-clause-moves : goal.returns-then-is_doomed-clause-moves
returns-then-is_doomed-clause-moves c = λ has is.
    let live = rw (sym c.self.view_is) at c.requires.live in
    let here = rw (sym c.self.view_is) at is in
    let within = slice_get_within _ _ _ here.work in
    let (work, idle, works) = c.clear.ensures.work in
    let now : SlotHas = record { state = Some (Aborted c.args.commits); work = work; reads = [] } in
    let test = sym (c.is_doomed-is_doomed.ensures has.work is.work) ∙ c.if-is_doomed.true in (
      now,
      ap (λ b. Some (if b then Aborted c.args.commits else View c.args.commits)) (sym test),
      rw (sym c.self.view_is) (set_changes _ _ c.args.slot now (sets_state _ _ c.args.slot now (Aborted c.args.commits) live refl refl refl c.abort.ensures works c.clear.ensures.reads) within),
    )

pub returns-else-is_doomed-clause-moves : goal.returns-else-is_doomed-clause-moves
returns-else-is_doomed-clause-moves c = λ has is.
    let live = rw (sym c.self.view_is) at c.requires.live in
    let here = rw (sym c.self.view_is) at is in
    let within = slice_get_within _ _ _ here.work in
    let (work, idle, works) = c.clear.ensures.work in
    let now : SlotHas = record { state = Some (View c.args.commits); work = work; reads = [] } in
    let test = sym (c.is_doomed-is_doomed.ensures has.work is.work) ∙ c.if-is_doomed.false in (
      now,
      ap (λ b. Some (if b then Aborted c.args.commits else View c.args.commits)) (sym test),
      rw (sym c.self.view_is) (set_changes _ _ c.args.slot now (sets_state _ _ c.args.slot now (View c.args.commits) live refl refl refl c.to_view.ensures works c.clear.ensures.reads) within),
    )
