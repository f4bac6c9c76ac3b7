use Rattle.std.proofs.Common.{◌≡◌, ◌+◌, arith}
use Rattle.mx_journal.proofs.BlockLaws.{waits_pushed}
use Rattle.mx_journal.proofs.WrittenLaws.{pushed_written}
use Rattle.mx_journal.proofs.journal.Journal.push.Goals as goal

pub returns-clause-waits : goal.returns-clause-waits
returns-clause-waits c = λ waits waiting.
    let noted = c.note_pushed.ensures in
    let more : c.note_pushed.new.self.pushed ≡ c.args.self.now.pushed + 1 = omega (arith, c.in-Some.ensures) in
    waits_pushed c.args.self.now c.note_pushed.new.self waits c.args.tx.now waiting c.requires.sound
    (rw noted.others.waiting (c.in_ok-push.ensures.packs waits waiting.packs)) noted.next more noted.others.clock noted.others.synced

pub returns-clause-written : goal.returns-clause-written
returns-clause-written c = λ disk txs. pushed_written c.args.self.now c.note_pushed.new.self c.push.new.self disk txs c.note_pushed.ensures.others
