use Rattle.std.proofs.Common.{rules, ◌≡◌, ◌++◌, ◌∷◌, [], ◌<◌, true, false, length, inl, refl}
use Rattle.mx_key.specs.Comparable.{holds}
use Rattle.mx_schema.specs.Picks.{directed}
use Rattle.mx_schema.specs.Stored.{stored_list, stored_view}
use Rattle.mx_entries.proofs.WindowLaws.{next_seen, went_outside, went_past, went_on, went_too_far, took_bytes}
use Rattle.mx_slow_state.proofs.slow_state.gather.Goals as goal

pub loop-left-preserved-then-not-holds : goal.loop-left-preserved-then-not-holds
loop-left-preserved-then-not-holds c =
    let is = c.loop-left.invariant in
    let missed : holds c.args.range.now c.in-Some.one.now.key ≡ false = search rules in
    let next : directed c.descends-down.result (stored_list c.loop-left.rest.now) ≡ stored_view c.in-Some.one.now ∷ directed c.descends-down.result (stored_list c.in-Some.others.now) =
    next_seen stored_view c.descends-down.result c.in-Some.one.now c.loop-left.rest.now c.in-Some.others.now c.in-Some.ensures in
    (went_outside (λ entry. holds c.args.range.now entry.0) c.descends-down.result (stored_view c.in-Some.one.now) (stored_list c.loop-left.rest.now) (stored_list c.in-Some.others.now) next _ c.loop-left.tuples c.loop-left.offset c.loop-left.left is.0 missed, is.1, is.2)

pub loop-left-preserved-then-offset-gt0 : goal.loop-left-preserved-then-offset-gt0
loop-left-preserved-then-offset-gt0 c =
    let is = c.loop-left.invariant in
    let held : holds c.args.range.now c.in-Some.one.now.key ≡ true = search rules in
    let more : 0 < c.loop-left.offset = search rules in
    let next : directed c.descends-down.result (stored_list c.loop-left.rest.now) ≡ stored_view c.in-Some.one.now ∷ directed c.descends-down.result (stored_list c.in-Some.others.now) =
    next_seen stored_view c.descends-down.result c.in-Some.one.now c.loop-left.rest.now c.in-Some.others.now c.in-Some.ensures in
    (went_past (λ entry. holds c.args.range.now entry.0) c.descends-down.result (stored_view c.in-Some.one.now) (stored_list c.loop-left.rest.now) (stored_list c.in-Some.others.now) next _ c.loop-left.tuples c.loop-left.offset c.loop-left.left is.0 held more, is.1, is.2)

pub returns-then-len-bytes : goal.returns-then-len-bytes
returns-then-len-bytes c =
    let is = c.loop-left.invariant in
    let held : holds c.args.range.now c.in-Some.one.now.key ≡ true = search rules in
    let none : c.loop-left.offset ≡ 0 = search rules in
    let more : 0 < c.loop-left.left = search rules in
    let next : directed c.descends-down.result (stored_list c.loop-left.rest.now) ≡ stored_view c.in-Some.one.now ∷ directed c.descends-down.result (stored_list c.in-Some.others.now) =
    next_seen stored_view c.descends-down.result c.in-Some.one.now c.loop-left.rest.now c.in-Some.others.now c.in-Some.ensures in
    inl (refl, went_too_far (λ entry. holds c.args.range.now entry.0) c.descends-down.result (stored_view c.in-Some.one.now) (stored_list c.loop-left.rest.now) (stored_list c.in-Some.others.now) next _ c.loop-left.tuples c.loop-left.offset c.loop-left.left is.0 c.loop-left.bytes held none more is.1 is.2 (search rules))

pub loop-left-preserved : goal.loop-left-preserved
loop-left-preserved c =
    let is = c.loop-left.invariant in
    let held : holds c.args.range.now c.in-Some.one.now.key ≡ true = search rules in
    let none : c.loop-left.offset ≡ 0 = search rules in
    let more : 0 < c.loop-left.left = search rules in
    let pushed : c.push.new.self ≡ c.loop-left.tuples ++ c.in-Some.one.now.tuple ∷ [] = search rules in
    let long : c.len-bytes.result ≡ length c.in-Some.one.now.tuple = search rules in
    let next : directed c.descends-down.result (stored_list c.loop-left.rest.now) ≡ stored_view c.in-Some.one.now ∷ directed c.descends-down.result (stored_list c.in-Some.others.now) =
    next_seen stored_view c.descends-down.result c.in-Some.one.now c.loop-left.rest.now c.in-Some.others.now c.in-Some.ensures in
    rw (pushed, long) (
      went_on (λ entry. holds c.args.range.now entry.0) c.descends-down.result (stored_view c.in-Some.one.now) (stored_list c.loop-left.rest.now) (stored_list c.in-Some.others.now) next _ c.loop-left.tuples c.loop-left.offset c.loop-left.left is.0 held none more,
      took_bytes c.loop-left.tuples c.in-Some.one.now.tuple c.loop-left.bytes is.1,
      search rules,
    )
