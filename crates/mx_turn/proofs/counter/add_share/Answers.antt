use Rattle.std.proofs.Common.{rules, ◌+◌, true, sym, refl, ap, ◌∙◌, subst}
use Rattle.mx_turn.specs.declared.counter.Added.{Added}
use Rattle.mx_turn.specs.Views.{after_give}
use Rattle.mx_turn.specs.Counting.{HasCounted}
use Rattle.mx_turn.proofs.CountingLaws.{adds_one}
use Rattle.mx_turn.proofs.counter.add_share.Goals as goal

pub loop-round-preserved : goal.loop-round-preserved
loop-round-preserved g c = let t = c.take-held.ensures.taken in let e : Added = record { amount = c.args.share.amount } in
    let is = ap (λ m. m.0) c.give.ensures.view ∙ ap (λ m. after_give (λ _. true) e m.0) t.view in record {
      table = search rules;
      idle = c.give.ensures.idle;
      added = subst (λ v. HasCounted c.args.share.amount (c.loop-round._round + 1) c.args.seat.me.0 v) (sym is)
          (adds_one c.args.share.amount c.loop-round._round c.args.seat.me.0 c.loop-round.seat.me.0 t.since e c.requires.idle.0 refl c.loop-round.invariant.added);
    }

pub returns-clause-parts : goal.returns-clause-parts
returns-clause-parts g c = let same = c.loop-round.invariant.added.same in (ap (λ v. v.parts) same, ap (λ v. v.seats) same)
