use Rattle.std.proofs.Common.{rules, ◌≡◌, ◌++◌, ◌∷◌, [], ◌<◌}
use Rattle.mx_entries.proofs.WindowLaws.{took_tuple, took_last, took_bytes}
use Rattle.mx_space.proofs.shown_select.collect_shown.Goals as goal

pub loop-left-preserved : goal.loop-left-preserved
loop-left-preserved c =
    let is = c.loop-left.invariant in
    let more : 0 < c.loop-left.left = search rules in
    let next = (rw c.in-Some.is at c.in_ok-key.ensures) in
    let pushed : c.push.new.self ≡ c.loop-left.tuples ++ c.in-Some.tuple.now ∷ [] = search rules in
    let size = c.in_ok-bytes.ensures in
    rw (pushed, size.0) (
      took_tuple _ _ _ (c.in-Some.key.now, c.in-Some.tuple.now) _ _ more next is.0,
      took_last _ _ _ (c.in-Some.key.now, c.in-Some.tuple.now) _ _ more next is.1,
      took_bytes c.loop-left.tuples c.in-Some.tuple.now c.loop-left.bytes is.2,
      search rules,
    )
