use Rattle.std.proofs.Common.{◌∷◌, sym, subst}
use Rattle.mx_engine.specs.Standing.{EngineStandsFor}
use Rattle.mx_link.specs.Links.{step_of}
use Rattle.mx_instance.proofs.StandsLaws.{room_for, stands_more}
use Rattle.mx_instance.proofs.instance.Instance.ask.Goals as goal

pub reply_to-reply-requires-clause-room : goal.reply_to-reply-requires-clause-room
reply_to-reply-requires-clause-room c =
    room_for _ c.args.held.value _ c.requires.stands c.deref_mut.result.now c.deref_mut.ensures.value c.requires.room

pub give-front-requires-clause-stands : goal.give-front-requires-clause-stands
give-front-requires-clause-stands c =
    stands_more _ c.args.held.value _ c.requires.stands (step_of c.of-told.result.value c.of.result.value) c.deref_mut.result.now _ c.deref_mut.ensures.value
    (λ base history stands.
    subst (λ job. EngineStandsFor c.reply_to-reply.new.engine base (step_of job c.of.result.value ∷ history)) (sym c.of-told.ensures)
    (subst (λ reply. EngineStandsFor c.reply_to-reply.new.engine base (step_of c.args.job reply ∷ history)) (sym c.of.ensures)
    (c.reply_to-reply.ensures base history stands)))
