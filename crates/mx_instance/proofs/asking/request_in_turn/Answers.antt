use Rattle.std.proofs.Common.{◌∷◌, sym, ap, subst}
use Rattle.mx_model.specs.Histories.{Asked}
use Rattle.mx_engine.specs.Standing.{EngineStandsFor}
use Rattle.mx_engine.specs.Views.{reply_of}
use Rattle.mx_instance.specs.Entries.{next_answered}
use Rattle.mx_session.specs.Sessions.{next_of}
use Rattle.std.specs.Box.{with_value}
use Rattle.mx_instance.specs.declared.recorded.Recorded.{Recorded}
use Rattle.mx_instance.specs.Passes.{AddsStep}
use Rattle.mx_instance.proofs.AskingLaws.{answered_entry}
use Rattle.mx_instance.proofs.StandsLaws.{adds_given, room_for, stands_given, stands_more}
use Rattle.mx_instance.proofs.asking.request_in_turn.Goals as goal

pub request_in_place-answered-requires-clause-room : goal.request_in_place-answered-requires-clause-room
request_in_place-answered-requires-clause-room g c =
    let taken = c.take-held.ensures.taken in
    room_for _ c.take-held.result.value _ taken.stands c.deref_mut.result.now c.deref_mut.ensures.value taken.room

pub give-front-requires-clause-stands : goal.give-front-requires-clause-stands
give-front-requires-clause-stands g c =
    let taken = c.take-held.ensures.taken in
    let next = c.requires.next in
    let engine = c.request_in_place-answered.new.self in
    let answered = c.request_in_place-answered.result in
    let found = c.request_in_place-answered.new.found in
    let reply = reply_of answered found in
    let told = answered_entry c.args.session.now c.of.result.value next.job next.rest next.ends answered c.of-2.result.value found c.of-3.result.value
    c.of.ensures next.next c.of-2.ensures c.of-3.ensures in
    stands_more _ c.take-held.result.value _ taken.stands (next_answered (next_of c.of.result.value) c.of-2.result.value c.of-3.result.value)
    c.deref_mut.result.now _ c.deref_mut.ensures.value
    (λ base history stands.
    subst (λ entry. EngineStandsFor engine base (entry ∷ history)) (sym told)
    (subst (λ name. EngineStandsFor engine base (Asked name next.job.ask reply ∷ history)) (sym next.named)
    (subst (λ asked. EngineStandsFor engine base (Asked c.args.name asked reply ∷ history)) (sym next.asks)
    (c.request_in_place-answered.ensures base history stands))))

pub returns-clause-made : goal.returns-clause-made
returns-clause-made g c = λ job rest ends seen.
    let old = c.args.pass.now.seat.me in
    let middle = c.take-held.new.seat.me in
    let value = c.take-held.result.value in
    let taken = c.take-held.ensures.taken in
    let next = c.requires.next in
    let engine = c.request_in_place-answered.new.self in
    let after : Recorded = record { engine = with_value value.engine engine } in
    let answered = c.request_in_place-answered.result in
    let found = c.request_in_place-answered.new.found in
    let entry = next_answered (next_of c.of.result.value) c.of-2.result.value c.of-3.result.value in
    let told = answered_entry c.args.session.now c.of.result.value next.job next.rest next.ends answered c.of-2.result.value found c.of-3.result.value
    c.of.ensures next.next c.of-2.ensures c.of-3.ensures in
    let now = stands_more _ value _ taken.stands entry c.deref_mut.result.now after c.deref_mut.ensures.value
    (λ base history stands.
    subst (λ e. EngineStandsFor engine base (e ∷ history)) (sym told)
    (subst (λ name. EngineStandsFor engine base (Asked name next.job.ask (reply_of answered found) ∷ history)) (sym next.named)
    (subst (λ asked. EngineStandsFor engine base (Asked c.args.name asked (reply_of answered found) ∷ history)) (sym next.asks)
    (c.request_in_place-answered.ensures base history stands)))) in
    let given = ap (λ m. m.0) c.give-front.ensures.view in
    record {
      adds = subst (λ e. AddsStep e old.0 c.give-front.new.seat.me.0)
          (answered_entry c.args.session.now c.of.result.value job rest ends answered c.of-2.result.value found c.of-3.result.value c.of.ensures seen
          c.of-2.ensures c.of-3.ensures)
          (adds_given old middle value taken entry after now c.give-front.new.seat.me.0 given);
      counts = c.give-front.ensures.count;
      version = λ base begins.
          c.schema-schema.ensures base _
          (subst (λ e. EngineStandsFor e base c.give-front.new.seat.me.0.seen) (sym c.deref.ensures)
          (stands_given old middle value taken entry after now c.give-front.new.seat.me.0 given base begins));
    }
