use Rattle.std.proofs.Common.{arith, ◌≡◌, ◌<◌, Bool, List, length, sym, ap, ◌∙◌, subst}
use Rattle.std.specs.FinMap.{get}
use Rattle.mx_space.specs.KeptStates.{kept_at, needed_from}
use Rattle.mx_tracker.specs.Marks.{is_marked}
use Rattle.mx_txn.specs.Slots.{max_open}
use Rattle.mx_transactions.specs.Open.{HasSlot, Open, SlotHas}
use Rattle.mx_transactions.proofs.TableLaws.{is_trimmed}
use Rattle.mx_transactions.proofs.MoveLaws.{MovesTo, moves_all, kept_table, one_moved}
use Rattle.mx_transactions.proofs.open.OpenTransactions.move_overlapped.Goals as goal

pub loop-slot-preserved : goal.loop-slot-preserved
loop-slot-preserved c =
    let marks : List Bool = c.args.marks.now in
    let next = c.in-Some.slot in
    let mid : Open = c.loop-slot.self in
    let (above, live, vacant) = rw c.in-Some.is at c.next_live.ensures in
    let bounded : next < max_open = rw c.number.ensures.value at c.number.ensures.bounded in
    let whole : length mid.works ≡ max_open = subst (λ (o : Open). length o.works ≡ max_open) c.self.view_is c.self.invariant.whole in
    let within : next < length mid.works = subst (λ n. next < n) (sym whole) bounded in
    let moves = subst (λ m. (has : SlotHas) → HasSlot mid next has → MovesTo c.args.is_schema m c.args.commits mid c.move_one.new.self next has)
    (c.has.ensures ∙ ap (is_marked marks) c.number.ensures.value) c.move_one.ensures.moves in
    record {
      within = omega (arith, c.number-from.ensures.bounded);
      below = rw c.number-from.ensures.value
          (one_moved marks c.args.is_schema c.args.commits c.args.self.now mid c.move_one.new.self c.loop-slot.from next c.loop-slot.invariant.below above within
          (λ slot later before. ap (λ (o : Open). get o.slots slot) (sym c.self.view_is) ∙ vacant slot later before) c.move_one.ensures.kept moves);
    }

pub invariant_of-self : goal.invariant_of-self
invariant_of-self c = kept_table _ c.trim.new.self c.self-2.invariant

pub returns-clause-moves : goal.returns-clause-moves
returns-clause-moves c =
    let vacant = rw c.in_default.is at c.next_live.ensures in
    moves_all c.args.marks.now c.args.is_schema c.args.commits c.args.self.now c.loop-slot.self _ c.loop-slot.from c.loop-slot.invariant.below
    (λ slot later. ap (λ (o : Open). get o.slots slot) (sym c.self.view_is) ∙ vacant slot later)
    (ap (λ (o : Open). o.names) c.self-2.view_is) (ap (λ (o : Open). o.slots) c.self-2.view_is) (ap (λ (o : Open). o.works) c.self-2.view_is) (ap (λ (o : Open). o.tracks) c.self-2.view_is)
    (record {
      oldest = c.oldest_view.result;
      is = c.oldest_view.ensures;
      kept = λ commits. c.trim.ensures commits ∙ ap (λ (o : Open). needed_from c.oldest_view.result commits (kept_at commits o.kept)) c.self-2.view_is;
    })

pub returns-clause-trimmed : goal.returns-clause-trimmed
returns-clause-trimmed c = is_trimmed _ _ c.oldest_view.result c.oldest_view.ensures c.trim.ensures
