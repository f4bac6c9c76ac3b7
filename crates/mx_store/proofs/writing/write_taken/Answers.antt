use Rattle.std.proofs.Common.{[]}
use Rattle.mx_images.proofs.ToldLaws.{told_weaker}
use Rattle.mx_store.proofs.TakingLaws.{has_after_take, pending_come_next}
use Rattle.mx_store.proofs.StoreLaws.{lasts_none, write_out_lasts}
use Rattle.mx_store.proofs.writing.write_taken.Goals as goal

pub push_all-requires : goal.push_all-requires
push_all-requires g c =
    let (base, history, upto, has, legal) = c.requires.has in
    pending_come_next base history c.args.journal.now (g.D.Dir.states c.args.dir.now) c.args.txs.now upto has legal

pub write_out-requires : goal.write_out-requires
write_out-requires g c =
    let (base, history, upto, has, legal) = c.requires.has in
    told_weaker (g.D.Dir.states c.args.dir.now) (λ disk past was. (_, c.push_all.ensures.written disk _ was.0)) has.written

pub returns-clause-has : goal.returns-clause-has
returns-clause-has g c = λ base history upto has legal.
    let pushed = c.in_ok-push_all.ensures in
    let written = c.in_ok-write_out.ensures in
    has_after_take base history c.args.journal.now c.push_all.new.journal c.write_out.new.self (g.D.Dir.states c.args.dir.now)
    (g.D.Dir.states c.write_out.new.dir) c.args.txs.now upto has legal (record {
      waits = pushed.waits [] has.waits;
      keeps = pushed.written;
      pushed_head = pushed.head;
      pushed_clock = pushed.clock;
      head = written.head;
      clock = written.none.2;
      none = written.none.0;
      alike = written.told;
      wrote = written.written;
    })

pub returns-in_err-push_all-clause-lasts : goal.returns-in_err-push_all-clause-lasts
returns-in_err-push_all-clause-lasts g c = λ base history upto has legal. lasts_none base history (g.D.Dir.states c.args.dir.now)

pub returns-in_err-write_out-clause-lasts : goal.returns-in_err-write_out-clause-lasts
returns-in_err-write_out-clause-lasts g c = λ base history upto has legal.
    let pushed = c.in_ok-push_all.ensures in
    write_out_lasts base history c.args.journal.now c.push_all.new.journal (g.D.Dir.states c.args.dir.now) (g.D.Dir.states c.write_out.new.dir)
    c.args.txs.now upto has c.write_out.ensures.told legal (pushed.waits [] has.waits) pushed.written pushed.head c.write_out.ensures.moments
    c.write_out.ensures.reads

pub returns-clause-lasts : goal.returns-clause-lasts
returns-clause-lasts g c = λ base history upto has legal.
    let pushed = c.in_ok-push_all.ensures in
    write_out_lasts base history c.args.journal.now c.push_all.new.journal (g.D.Dir.states c.args.dir.now) (g.D.Dir.states c.write_out.new.dir)
    c.args.txs.now upto has c.write_out.ensures.told legal (pushed.waits [] has.waits) pushed.written pushed.head c.write_out.ensures.moments
    c.write_out.ensures.reads
