use Rattle.std.proofs.Common.{rules, ◌≡◌, ◌∷◌, ◌<◌, true, false}
use Rattle.std.specs.Option.{option_copied, option_map}
use Rattle.mx_key.specs.Comparable.{holds}
use Rattle.mx_schema.specs.declared.keyed.Keyed.{Keyed}
use Rattle.mx_schema.specs.Picks.{directed}
use Rattle.mx_schema.specs.Stored.{stored_list, stored_view}
use Rattle.mx_entries.proofs.WindowLaws.{next_seen}
use Rattle.mx_slow.proofs.SlowReadLaws.{last_on, last_outside, last_past}
use Rattle.mx_slow.proofs.reads.last_found.Goals as goal

pub loop-left-preserved-then-not-holds : goal.loop-left-preserved-then-not-holds
loop-left-preserved-then-not-holds c =
    let missed : holds c.args.range.now c.in-Some.one.now.key ≡ false = search rules in
    let next : directed c.descends-down.result (stored_list c.loop-left.rest.now) ≡ stored_view c.in-Some.one.now ∷ directed c.descends-down.result (stored_list c.in-Some.others.now) =
    next_seen stored_view c.descends-down.result c.in-Some.one.now c.loop-left.rest.now c.in-Some.others.now c.in-Some.ensures in
    last_outside (λ entry. holds c.args.range.now entry.0) c.descends-down.result (stored_view c.in-Some.one.now) (stored_list c.loop-left.rest.now) (stored_list c.in-Some.others.now) next _
    (option_map (λ (one : Keyed). one.key) (option_copied c.loop-left.last)) c.loop-left.offset c.loop-left.left c.loop-left.invariant missed

pub loop-left-preserved-then-offset-gt0 : goal.loop-left-preserved-then-offset-gt0
loop-left-preserved-then-offset-gt0 c =
    let held : holds c.args.range.now c.in-Some.one.now.key ≡ true = search rules in
    let more : 0 < c.loop-left.offset = search rules in
    let next : directed c.descends-down.result (stored_list c.loop-left.rest.now) ≡ stored_view c.in-Some.one.now ∷ directed c.descends-down.result (stored_list c.in-Some.others.now) =
    next_seen stored_view c.descends-down.result c.in-Some.one.now c.loop-left.rest.now c.in-Some.others.now c.in-Some.ensures in
    last_past (λ entry. holds c.args.range.now entry.0) c.descends-down.result (stored_view c.in-Some.one.now) (stored_list c.loop-left.rest.now) (stored_list c.in-Some.others.now) next _
    (option_map (λ (one : Keyed). one.key) (option_copied c.loop-left.last)) c.loop-left.offset c.loop-left.left c.loop-left.invariant held more

pub loop-left-preserved : goal.loop-left-preserved
loop-left-preserved c =
    let held : holds c.args.range.now c.in-Some.one.now.key ≡ true = search rules in
    let none : c.loop-left.offset ≡ 0 = search rules in
    let more : 0 < c.loop-left.left = search rules in
    let next : directed c.descends-down.result (stored_list c.loop-left.rest.now) ≡ stored_view c.in-Some.one.now ∷ directed c.descends-down.result (stored_list c.in-Some.others.now) =
    next_seen stored_view c.descends-down.result c.in-Some.one.now c.loop-left.rest.now c.in-Some.others.now c.in-Some.ensures in
    last_on (λ entry. holds c.args.range.now entry.0) c.descends-down.result (stored_view c.in-Some.one.now) (stored_list c.loop-left.rest.now) (stored_list c.in-Some.others.now) next _
    (option_map (λ (one : Keyed). one.key) (option_copied c.loop-left.last)) c.loop-left.offset c.loop-left.left c.loop-left.invariant held none more
