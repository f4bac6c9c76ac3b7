use Rattle.std.proofs.Common.{ap}
use Rattle.mx_instance.proofs.StandsLaws.{room_for}
use Rattle.mx_instance.proofs.JournalLaws.{adds_confirmed, stands_confirmed}
use Rattle.mx_instance.proofs.instance.Instance.confirm.Goals as goal

pub confirm-requires : goal.confirm-requires
confirm-requires g c =
    let taken = c.take-held.ensures.taken in
    room_for _ c.take-held.result.value _ taken.stands c.deref_mut.result.now c.deref_mut.ensures.value taken.room

pub give-requires-clause-stands : goal.give-requires-clause-stands
give-requires-clause-stands g c =
    stands_confirmed c.args.pass.now.seat.me c.take-held.new.seat.me c.take-held.result.value c.args.upto c.requires.first c.requires.taken
    c.take-held.ensures.taken c.deref_mut.result.now _ c.deref_mut.ensures.value c.confirm.ensures

pub returns-clause-confirmed : goal.returns-clause-confirmed
returns-clause-confirmed g c =
    adds_confirmed c.args.pass.now.seat.me c.take-held.new.seat.me c.take-held.result.value c.args.upto c.requires.first c.requires.taken
    c.take-held.ensures.taken c.give.new.seat.me.0 (ap (λ m. m.0) c.give.ensures.view)
