use Rattle.mx_model.specs.Histories.{Looked}
use Rattle.mx_instance.proofs.StandsLaws.{room_for, stands_more}
use Rattle.mx_instance.proofs.instance.Instance.look.Goals as goal

pub look-requires : goal.look-requires
look-requires g c =
    let taken = c.take-held.ensures.taken in
    room_for _ c.take-held.result.value _ taken.stands c.deref_mut.result.now c.deref_mut.ensures.value taken.room

pub give-requires-clause-stands : goal.give-requires-clause-stands
give-requires-clause-stands g c =
    let taken = c.take-held.ensures.taken in
    stands_more _ c.take-held.result.value _ taken.stands Looked c.deref_mut.result.now _ c.deref_mut.ensures.value c.look.ensures.looked
