use Rattle.std.proofs.Common.{rules, ◌≡◌, ◌≢◌, ◌<◌, length, ap, ◌∙◌}
use Rattle.mx_key.specs.Comparable.{edges_of}
use Rattle.mx_key.specs.Ranges.{range_of, range_until}
use Rattle.mx_entries.specs.Windows.{found_in}
use Rattle.mx_schema.specs.Stored.{stored_list}
use Rattle.mx_slow.proofs.SlowReadLaws.{is_too_long, reads_all, reads_to_its_end, reads_up_to_last}
use Rattle.mx_slow.proofs.reads.scan.Goals as goal

pub returns-in-Err-TooLong : goal.returns-in-Err-TooLong
returns-in-Err-TooLong c = λ all key stores fit edges.
    reads_all all c.args.pick.now key (stored_list c.args.kept.now) c.args.range stores fit edges
    (is_too_long c.in-Err-TooLong.field-0 (found_in (stored_list c.args.kept.now) c.args.range c.args.pick.now.iterator c.args.pick.now.offset c.args.pick.now.limit) c.in-Err-TooLong.field-0-is c.in-Err-TooLong.ensures)

pub returns-then-len-pick : goal.returns-then-len-pick
returns-then-len-pick c = λ all key stores fit edges.
    let more : 0 < c.args.pick.now.limit = search rules in
    let fewer : length c.in-Ok.tuples ≢ c.args.pick.now.limit = search rules in
    reads_to_its_end all c.args.pick.now key (stored_list c.args.kept.now) c.args.range stores fit edges c.in-Ok.tuples c.in-Ok.ensures.0 c.in-Ok.ensures.1 more fewer

pub returns : goal.returns
returns c = λ all key stores fit edges.
    let more : 0 < c.args.pick.now.limit = search rules in
    let full : length c.in-Ok.tuples ≡ c.args.pick.now.limit = search rules in
    reads_up_to_last all c.args.pick.now key (stored_list c.args.kept.now) c.args.range stores fit edges c.in-Ok.tuples c.in-Ok.ensures.0 c.in-Ok.ensures.1 more full
    c.in-Some.last.now.key c.in-Some.ensures c.end_with.new.self
    (λ last bytes. c.in_ok-end_with.ensures.ended (range_of c.args.pick.now.iterator key) last edges (c.as_slice.ensures ∙ bytes)
    ∙ ap (λ d. edges_of (range_until d last (range_of c.args.pick.now.iterator key))) c.descends.ensures)
