use Rattle.std.proofs.Common.{◌++◌, ap, ◌∙◌}
use Rattle.mx_xlog.specs.Blocks.{end_marker}
use Rattle.mx_journal.proofs.CrashLaws.{ended_moments, ended_reads, put_others}
use Rattle.mx_journal.proofs.WrittenLaws.{ended_now}
use Rattle.mx_journal.proofs.journal.Journal.end.Goals as goal

pub returns-clause-ended : goal.returns-clause-ended
returns-clause-ended g c = λ txs.
    let marker = c.as_slice.ensures ∙ c.in_ok-write_end.ensures ∙ ap (λ front. front ++ end_marker) c.new-marker.ensures in
    ended_now c.args.self c.as_str.result.now c.as_slice.result.now (g.D.Dir.states c.args.dir.now) (g.D.Dir.states c.append_synced.new.dir) txs
    c.as_str.ensures.value marker c.in_ok-append_synced.ensures.made

pub returns-in_err-append_synced-clause-moments : goal.returns-in_err-append_synced-clause-moments
returns-in_err-append_synced-clause-moments g c = λ txs.
    let marker = c.as_slice.ensures ∙ c.in_ok-write_end.ensures ∙ ap (λ front. front ++ end_marker) c.new-marker.ensures in
    ended_moments c.args.self c.as_str.result.now c.as_slice.result.now (g.D.Dir.states c.args.dir.now) (g.D.Dir.states c.append_synced.new.dir)
    c.append_synced.result txs c.as_str.ensures.value marker c.append_synced.ensures.states

pub returns-clause-moments : goal.returns-clause-moments
returns-clause-moments g c = λ txs.
    let marker = c.as_slice.ensures ∙ c.in_ok-write_end.ensures ∙ ap (λ front. front ++ end_marker) c.new-marker.ensures in
    ended_moments c.args.self c.as_str.result.now c.as_slice.result.now (g.D.Dir.states c.args.dir.now) (g.D.Dir.states c.append_synced.new.dir)
    c.append_synced.result txs c.as_str.ensures.value marker c.append_synced.ensures.states

pub returns-in_err-append_synced-clause-others : goal.returns-in_err-append_synced-clause-others
returns-in_err-append_synced-clause-others g c =
    put_others c.args.self c.as_str.result.now c.as_slice.result.now _ _ c.append_synced.result c.as_str.ensures.value c.requires.written
    c.append_synced.ensures.states

pub returns-clause-others : goal.returns-clause-others
returns-clause-others g c =
    put_others c.args.self c.as_str.result.now c.as_slice.result.now _ _ c.append_synced.result c.as_str.ensures.value c.requires.written
    c.append_synced.ensures.states

pub returns-in_err-append_synced-clause-reads : goal.returns-in_err-append_synced-clause-reads
returns-in_err-append_synced-clause-reads g c = λ txs.
    let marker = c.as_slice.ensures ∙ c.in_ok-write_end.ensures ∙ ap (λ front. front ++ end_marker) c.new-marker.ensures in
    ended_reads c.args.self c.as_str.result.now c.as_slice.result.now (g.D.Dir.states c.args.dir.now) (g.D.Dir.states c.append_synced.new.dir)
    c.append_synced.result txs c.as_str.ensures.value marker c.append_synced.ensures.states

pub returns-clause-reads : goal.returns-clause-reads
returns-clause-reads g c = λ txs.
    let marker = c.as_slice.ensures ∙ c.in_ok-write_end.ensures ∙ ap (λ front. front ++ end_marker) c.new-marker.ensures in
    ended_reads c.args.self c.as_str.result.now c.as_slice.result.now (g.D.Dir.states c.args.dir.now) (g.D.Dir.states c.append_synced.new.dir)
    c.append_synced.result txs c.as_str.ensures.value marker c.append_synced.ensures.states
