use Rattle.std.proofs.Common.{rules, ◌≡◌, ◌-◌, ◌++◌, ◌∷◌, [], ◌<◌, length, map, inl, sym, ap, ◌∙◌, arith}
use Rattle.std.proofs.lemmas.Result.{err_from_is_err_and}
use Rattle.mx_schema.specs.Picks.{directed, max_result_size}
use Rattle.mx_space.specs.Selecting.{row_of}
use Rattle.mx_entries.proofs.WindowLaws.{took_tuple, took_last, took_bytes, too_long}
use Rattle.mx_space.proofs.pick.collect.Goals as goal

pub returns-in_err-bytes : goal.returns-in_err-bytes
returns-in_err-bytes c =
    let is = c.loop-left.invariant in
    let p = err_from_is_err_and c.from_residual-in_err-bytes.result c.from_residual-in_err-bytes.ensures.1 in
    let rows = map (row_of c.args.source) in
    let next = ap rows c.in-Some.ensures ∙ ap (λ one. one ∷ rows (directed c.args.down c.next.new.self)) (sym c.in_ok-key.ensures) in
    let stop = c.in_err-bytes.ensures in
    let over = stop.1 in
    let beyond : max_result_size - c.loop-left.bytes < length c.in_ok-key.tuple.now = omega (arith, over, is.3) in
    rw (p.1, p.2) (inl (stop.0, too_long _ _ _ _ (c.in_ok-key.key.now, c.in_ok-key.tuple.now) _ _ (search rules) next is.0 is.2 is.3 beyond))

pub loop-left-preserved : goal.loop-left-preserved
loop-left-preserved c =
    let is = c.loop-left.invariant in
    let more : 0 < c.loop-left.left = search rules in
    let rows = map (row_of c.args.source) in
    let next = ap rows c.in-Some.ensures ∙ ap (λ one. one ∷ rows (directed c.args.down c.next.new.self)) (sym c.in_ok-key.ensures) in
    let pushed : c.push.new.self ≡ c.loop-left.tuples ++ c.in_ok-key.tuple.now ∷ [] = search rules in
    let size = c.in_ok-bytes.ensures in
    rw (pushed, size.0) (
      took_tuple _ _ _ (c.in_ok-key.key.now, c.in_ok-key.tuple.now) _ _ more next is.0,
      took_last _ _ _ (c.in_ok-key.key.now, c.in_ok-key.tuple.now) _ _ more next is.1,
      took_bytes c.loop-left.tuples c.in_ok-key.tuple.now c.loop-left.bytes is.2,
      search rules,
    )
