use Rattle.std.proofs.Common.{◌≡◌, ◌+◌, length, ap, ◌∙◌, arith}
use Rattle.mx_journal.specs.Groups.{whole_text}
use Rattle.mx_journal.proofs.CrashLaws.{caught_up_synced, put_others, wrote_moments, wrote_reads, wrote_synced}
use Rattle.mx_journal.proofs.WrittenLaws.{caught_up_now, nothing_packed_now, packed_now, wrote_now}
use Rattle.mx_journal.proofs.journal.Journal.write_out.Goals as goal

pub returns-then-is_empty-clause-written : goal.returns-then-is_empty-clause-written
returns-then-is_empty-clause-written g c = λ txs waits.
    caught_up_now c.args.self.now c.note_written.new.self c.args.self.now.waiting (g.D.Dir.states c.args.dir.now) txs waits
    c.note_written.ensures.journal (c.is_empty.ensures.0 c.if-is_empty.true)

pub returns-clause-written : goal.returns-clause-written
returns-clause-written g c = λ txs waits.
    let long = c.in-Some.length in
    let blocks = c.take_blocks-blocks.ensures.blocks in
    let sum : long ≡ c.args.self.now.length + length (whole_text c.args.self.now.waiting) =
    omega (arith, c.in-Some.ensures, c.len.ensures, ap length blocks) in
    wrote_now c.args.self.now c.note_written-2.new.self long c.reuse.new.self c.as_str.result.now c.as_slice.result.now
    (g.D.Dir.states c.args.dir.now) (g.D.Dir.states c.append_synced.new.dir) txs waits c.note_written-2.ensures.journal
    sum c.as_str.ensures.value (c.as_slice.ensures ∙ blocks) c.in_ok-append_synced.ensures.made

pub returns-then-is_empty-clause-packed : goal.returns-then-is_empty-clause-packed
returns-then-is_empty-clause-packed g c = λ txs waits.
    nothing_packed_now c.args.self.now (g.D.Dir.states c.args.dir.now) txs waits
    (c.is_empty.ensures.0 c.if-is_empty.true)

pub returns-clause-packed : goal.returns-clause-packed
returns-clause-packed g c = λ txs waits.
    packed_now c.args.self.now c.as_str.result.now c.as_slice.result.now (g.D.Dir.states c.args.dir.now) (g.D.Dir.states c.append_synced.new.dir)
    txs waits c.as_str.ensures.value (c.as_slice.ensures ∙ c.take_blocks-blocks.ensures.blocks) c.in_ok-append_synced.ensures.made

pub returns-then-is_empty-clause-synced : goal.returns-then-is_empty-clause-synced
returns-then-is_empty-clause-synced g c = λ txs waits.
    caught_up_synced c.args.self.now (g.D.Dir.states c.args.dir.now) c.note_written.result txs waits
    (c.is_empty.ensures.0 c.if-is_empty.true) c.note_written.ensures.count

pub returns-in_err-append_synced-clause-moments : goal.returns-in_err-append_synced-clause-moments
returns-in_err-append_synced-clause-moments g c = λ txs waits.
    wrote_moments c.args.self.now c.as_str.result.now c.as_slice.result.now (g.D.Dir.states c.args.dir.now) (g.D.Dir.states c.append_synced.new.dir)
    c.append_synced.result txs waits c.as_str.ensures.value (c.as_slice.ensures ∙ c.take_blocks-blocks.ensures.blocks) c.append_synced.ensures.states

pub returns-clause-moments : goal.returns-clause-moments
returns-clause-moments g c = λ txs waits.
    wrote_moments c.args.self.now c.as_str.result.now c.as_slice.result.now (g.D.Dir.states c.args.dir.now) (g.D.Dir.states c.append_synced.new.dir)
    c.append_synced.result txs waits c.as_str.ensures.value (c.as_slice.ensures ∙ c.take_blocks-blocks.ensures.blocks) c.append_synced.ensures.states

pub returns-clause-synced : goal.returns-clause-synced
returns-clause-synced g c = λ txs waits.
    wrote_synced c.args.self.now c.as_str.result.now c.as_slice.result.now (g.D.Dir.states c.args.dir.now) (g.D.Dir.states c.append_synced.new.dir)
    c.note_written-2.result txs waits c.as_str.ensures.value (c.as_slice.ensures ∙ c.take_blocks-blocks.ensures.blocks)
    c.note_written-2.ensures.count c.in_ok-append_synced.ensures.made

pub returns-in_err-append_synced-clause-others : goal.returns-in_err-append_synced-clause-others
returns-in_err-append_synced-clause-others g c =
    put_others c.args.self.now c.as_str.result.now c.as_slice.result.now _ _ c.append_synced.result c.as_str.ensures.value c.requires c.append_synced.ensures.states

pub returns-clause-others : goal.returns-clause-others
returns-clause-others g c =
    put_others c.args.self.now c.as_str.result.now c.as_slice.result.now _ _ c.append_synced.result c.as_str.ensures.value c.requires c.append_synced.ensures.states

pub returns-in_err-append_synced-clause-reads : goal.returns-in_err-append_synced-clause-reads
returns-in_err-append_synced-clause-reads g c = λ txs waits.
    wrote_reads c.args.self.now c.as_str.result.now c.as_slice.result.now (g.D.Dir.states c.args.dir.now) (g.D.Dir.states c.append_synced.new.dir)
    c.append_synced.result txs waits c.as_str.ensures.value (c.as_slice.ensures ∙ c.take_blocks-blocks.ensures.blocks) c.append_synced.ensures.states

pub returns-clause-reads : goal.returns-clause-reads
returns-clause-reads g c = λ txs waits.
    wrote_reads c.args.self.now c.as_str.result.now c.as_slice.result.now (g.D.Dir.states c.args.dir.now) (g.D.Dir.states c.append_synced.new.dir)
    c.append_synced.result txs waits c.as_str.ensures.value (c.as_slice.ensures ∙ c.take_blocks-blocks.ensures.blocks) c.append_synced.ensures.states
