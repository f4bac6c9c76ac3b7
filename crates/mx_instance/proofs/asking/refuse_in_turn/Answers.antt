use Rattle.std.proofs.Common.{◌∷◌, sym, ap, subst}
use Rattle.mx_engine.specs.Standing.{EngineStandsFor}
use Rattle.mx_instance.specs.Entries.{next_refused}
use Rattle.mx_session.specs.Sessions.{next_of}
use Rattle.std.specs.Box.{with_value}
use Rattle.mx_instance.specs.declared.recorded.Recorded.{Recorded}
use Rattle.mx_instance.specs.Passes.{AddsStep}
use Rattle.mx_instance.proofs.AskingLaws.{refused_entry}
use Rattle.mx_instance.proofs.StandsLaws.{adds_given, room_for, stands_given, stands_more}
use Rattle.mx_model.specs.Histories.{Asked}
use Rattle.mx_model.specs.declared.reply.Reply.TheVariants.{Refused}
use Rattle.mx_instance.proofs.asking.refuse_in_turn.Goals as goal

pub look-requires : goal.look-requires
look-requires g c =
    let taken = c.take-held.ensures.taken in
    room_for _ c.take-held.result.value _ taken.stands c.deref_mut.result.now c.deref_mut.ensures.value taken.room

pub give-front-requires-clause-stands : goal.give-front-requires-clause-stands
give-front-requires-clause-stands g c =
    let taken = c.take-held.ensures.taken in
    let (name, refusal, next) = c.requires.next in
    let engine = c.look.new.self in
    let told = refused_entry c.args.session.now c.of.result.value next.job next.rest next.ends refusal c.of.ensures next.next next.asks in
    stands_more _ c.take-held.result.value _ taken.stands (next_refused (next_of c.of.result.value)) c.deref_mut.result.now _ c.deref_mut.ensures.value
    (λ base history stands.
    subst (λ entry. EngineStandsFor engine base (entry ∷ history)) (sym told)
    (subst (λ asked. EngineStandsFor engine base (Asked next.job.name asked (Refused refusal) ∷ history)) (sym next.asks)
    (c.look.ensures.refused base history next.job.name refusal stands)))

pub returns-clause-made : goal.returns-clause-made
returns-clause-made g c = λ job rest ends told_refusal seen asked.
    let old = c.args.pass.now.seat.me in
    let middle = c.take-held.new.seat.me in
    let value = c.take-held.result.value in
    let taken = c.take-held.ensures.taken in
    let (name, refusal, next) = c.requires.next in
    let engine = c.look.new.self in
    let after : Recorded = record { engine = with_value value.engine engine } in
    let entry = next_refused (next_of c.of.result.value) in
    let told = refused_entry c.args.session.now c.of.result.value next.job next.rest next.ends refusal c.of.ensures next.next next.asks in
    let now = stands_more _ value _ taken.stands entry c.deref_mut.result.now after c.deref_mut.ensures.value
    (λ base history stands.
    subst (λ e. EngineStandsFor engine base (e ∷ history)) (sym told)
    (subst (λ asked. EngineStandsFor engine base (Asked next.job.name asked (Refused refusal) ∷ history)) (sym next.asks)
    (c.look.ensures.refused base history next.job.name refusal stands))) in
    let given = ap (λ m. m.0) c.give-front.ensures.view in
    record {
      adds = subst (λ e. AddsStep e old.0 c.give-front.new.seat.me.0)
          (refused_entry c.args.session.now c.of.result.value job rest ends told_refusal c.of.ensures seen asked)
          (adds_given old middle value taken entry after now c.give-front.new.seat.me.0 given);
      counts = c.give-front.ensures.count;
      version = λ base begins.
          c.schema-schema.ensures base _
          (subst (λ e. EngineStandsFor e base c.give-front.new.seat.me.0.seen) (sym c.deref.ensures)
          (stands_given old middle value taken entry after now c.give-front.new.seat.me.0 given base begins));
    }
