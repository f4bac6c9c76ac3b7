use Rattle.std.proofs.Common.{◌∙◌, ◌<◌, length, drop, refl, sym, ap, arith}
use Rattle.mx_session.specs.Outboxes.{after_release}
use Rattle.mx_session.proofs.OutboxLaws.{held_length-first, release_first, release_none, release_not}
use Rattle.mx_session.proofs.outbox.Outbox.release.Goals as goal

pub loop-first-init : goal.loop-first-init
loop-first-init c = record {
  order = c.self.invariant.0;
  whole = c.self.invariant.1;
  same = ap (after_release c.args.durable) c.self.view_is;
}

pub returns-then-first-durable : goal.returns-then-first-durable
returns-then-first-durable c =
    let i = c.loop-first.self-inside in
    let some : 0 < length i.queue.items = omega (arith, c.in-Some.ensures.variant.0 refl) in
    sym (release_not i.queue.items (drop 1 i.queue.items) c.in-Some.first.now some c.in-Some.ensures.lookup refl c.args.durable i.start i.released i.buffer.items c.if-first-durable.true)
    ∙ c.loop-first.invariant.same

pub overflow_add-self : goal.overflow_add-self
overflow_add-self c =
    let i = c.loop-first.self-inside in
    let some : 0 < length i.queue.items = omega (arith, c.in-Some.ensures.variant.0 refl) in
    let size = held_length-first i.queue.items (drop 1 i.queue.items) c.in-Some.first.now some c.in-Some.ensures.lookup refl in
    omega (arith, c.loop-first.invariant.whole)

pub loop-first-preserved : goal.loop-first-preserved
loop-first-preserved c =
    let i = c.loop-first.self-inside in
    let some : 0 < length i.queue.items = omega (arith, c.in-Some.ensures.variant.0 refl) in
    let size = held_length-first i.queue.items c.pop_front.new.self.items c.in-Some.first.now some c.in-Some.ensures.lookup c.pop_front.ensures.rest in
    record {
      order = omega (arith, c.loop-first.invariant.order);
      whole = omega (arith, c.loop-first.invariant.whole);
      same = release_first i.queue.items c.pop_front.new.self.items c.in-Some.first.now some c.in-Some.ensures.lookup c.pop_front.ensures.rest c.args.durable i.start i.released i.buffer.items
          c.loop-first.invariant.order (omega (arith, c.loop-first.invariant.whole)) c.if-first-durable.false
          ∙ c.loop-first.invariant.same;
    }

pub returns : goal.returns
returns c =
    let i = c.loop-first.self-inside in
    sym (release_none c.args.durable i.start i.released i.buffer.items i.queue.items
    (λ some. let wrong = c.in_default.ensures.variant.1 (omega arith) in cc))
    ∙ c.loop-first.invariant.same
