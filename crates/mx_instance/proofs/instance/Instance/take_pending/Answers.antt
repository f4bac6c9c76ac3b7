use Rattle.std.proofs.Common.{◌∷◌, sym, subst}
use Rattle.mx_model.specs.Histories.{Took}
use Rattle.mx_engine.specs.Standing.{EngineStandsFor}
use Rattle.mx_instance.proofs.StandsLaws.{room_for, stands_more}
use Rattle.mx_instance.proofs.instance.Instance.take_pending.Goals as goal

pub take_pending-pending-requires : goal.take_pending-pending-requires
take_pending-pending-requires g c =
    let taken = c.take-held.ensures.taken in
    room_for _ c.take-held.result.value _ taken.stands c.deref_mut.result.now c.deref_mut.ensures.value taken.room

pub give-requires-clause-stands : goal.give-requires-clause-stands
give-requires-clause-stands g c =
    let taken = c.take-held.ensures.taken in
    let pending = c.take_pending-pending.result in
    stands_more _ c.take-held.result.value _ taken.stands (Took c.of.result.value pending.upto) c.deref_mut.result.now _ c.deref_mut.ensures.value
    (λ base history stands.
    subst (λ txs. EngineStandsFor c.take_pending-pending.new.self base (Took txs pending.upto ∷ history)) (sym c.of.ensures)
    (c.take_pending-pending.ensures base history stands))
