use Rattle.std.proofs.Common.{◌++◌, take, subst, ◌∙◌}
use Rattle.mx_journal.specs.Written.{Waits}
use Rattle.mx_store.proofs.TakingLaws.{come_next_more, waiting_more}
use Rattle.mx_store.proofs.writing.push_all.Goals as goal

pub loop-tx-preserved : goal.loop-tx-preserved
loop-tx-preserved c =
    let so_far = c.loop-tx.invariant in
    let index = c.loop-tx.tx-index in
    let txs = c.args.txs.now in
    let tx = c.tx-item.result in
    let within = c.loop-tx-test.true in
    let pushed = c.in_ok-push.ensures in
    record {
      rest = come_next_more c.loop-tx.journal.next c.push.new.self.next txs index tx within c.tx-item.is so_far.rest pushed.next;
      waits = λ waits was. subst (Waits c.push.new.self) (waiting_more waits txs index tx within c.tx-item.is)
          (pushed.waits (waits ++ take index txs) (so_far.waits waits was));
      written = λ disk done was. pushed.written disk done (so_far.written disk done was);
      head = pushed.head ∙ so_far.head;
      clock = pushed.clock ∙ so_far.clock;
    }
