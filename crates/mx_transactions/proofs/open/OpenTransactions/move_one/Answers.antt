use Rattle.std.proofs.Common.{Bool, Some, refl, sym, ap, ◌∙◌, subst}
use Rattle.std.proofs.lemmas.Option.{slice_get_within}
use Rattle.mx_tracker.specs.Tracks.{ChangesReads}
use Rattle.mx_txn.specs.declared.state.TxnState.TheVariants.{Aborted, Active, View}
use Rattle.mx_transactions.specs.Open.{SlotHas}
use Rattle.mx_transactions.specs.OpenSteps.{has_rows, moved_state}
use Rattle.mx_transactions.proofs.MoveLaws.{active_moved, reads_stay, set_again, set_changes, sets_state, state_table, stays_moved, view_doomed}
use Rattle.mx_transactions.proofs.open.OpenTransactions.move_one.Goals as goal

pub invariant_of-self : goal.invariant_of-self
invariant_of-self c =
    let live = rw (sym c.self.view_is) at c.requires.live in
    state_table _ _ c.args.slot (Aborted c.in-View.at) c.self.invariant live c.abort.ensures

pub returns-then-is_marked-clause-moves : goal.returns-then-is_marked-clause-moves
returns-then-is_marked-clause-moves c = λ has is.
    let here = rw (sym c.self.view_is) at is in
    active_moved c.args.is_schema c.args.is_marked c.args.commits _ _ c.args.slot c.in-Active.since has (here.state ∙ c.state.ensures ∙ ap Some c.in-Active.is) c.if-is_marked.true
    (c.move_active.ensures.moves has is)

pub returns-else-is_marked-clause-moves : goal.returns-else-is_marked-clause-moves
returns-else-is_marked-clause-moves c = λ has is.
    let here = rw (sym c.self.view_is) at is in
    rw (sym c.self.view_is) (stays_moved c.args.is_schema c.args.is_marked c.args.commits _ c.args.slot (Active c.in-Active.since) has here (here.state ∙ c.state.ensures ∙ ap Some c.in-Active.is)
    (ap (λ (m : Bool). moved_state c.args.is_schema m (has_rows has.work) c.args.commits (Active c.in-Active.since)) c.if-is_marked.false))

pub returns-then-is_schema-clause-moves : goal.returns-then-is_schema-clause-moves
returns-then-is_schema-clause-moves c = λ has is.
    let live = rw (sym c.self.view_is) at c.requires.live in
    let here = rw (sym c.self.view_is) at is in
    let now : SlotHas = record has { state = Some (Aborted c.in-View.at) } in
    let reads = subst (ChangesReads c.self.inside.tracker c.self.inside.tracker c.args.slot) (sym here.reads) (reads_stay c.self.inside.tracker c.args.slot) in
    rw (sym c.self.view_is) (view_doomed c.args.is_schema c.args.is_marked c.args.commits _ _ c.args.slot c.in-View.at has (here.state ∙ c.state.ensures ∙ ap Some c.in-View.is) c.if-is_schema.true
    (set_changes _ _ c.args.slot now
    (sets_state _ _ c.args.slot now (Aborted c.in-View.at) live refl refl refl c.abort.ensures (sym (set_again c.self.inside.works.items c.args.slot has.work here.work)) reads)
    (slice_get_within _ _ _ here.work)))

pub returns-else-is_schema-clause-moves : goal.returns-else-is_schema-clause-moves
returns-else-is_schema-clause-moves c = λ has is.
    let here = rw (sym c.self.view_is) at is in
    rw (sym c.self.view_is) (stays_moved c.args.is_schema c.args.is_marked c.args.commits _ c.args.slot (View c.in-View.at) has here (here.state ∙ c.state.ensures ∙ ap Some c.in-View.is)
    (ap (λ (s : Bool). moved_state s c.args.is_marked (has_rows has.work) c.args.commits (View c.in-View.at)) c.if-is_schema.false))

pub returns-in-Aborted-clause-moves : goal.returns-in-Aborted-clause-moves
returns-in-Aborted-clause-moves c = λ has is.
    let here = rw (sym c.self.view_is) at is in
    rw (sym c.self.view_is) (stays_moved c.args.is_schema c.args.is_marked c.args.commits _ c.args.slot (Aborted c.in-Aborted.by) has here (here.state ∙ c.state.ensures ∙ ap Some c.in-Aborted.is) refl)
