use Rattle.std.proofs.Common.{◌≡◌, ◌+◌, ◌∙◌, arith}
use Rattle.mx_recover.proofs.ReplayLaws.{of_both, one_more}
use Rattle.mx_recover.proofs.load.load.Goals as goal

pub loop-at-preserved : goal.loop-at-preserved
loop-at-preserved g c =
    let from = c.len-from.ensures in
    let room = c.in-Ok.ensures.len in
    let piece = c.min-piece.ensures in
    let long = c.loop-at.invariant.long in
    let cut = c.truncate.ensures.len in
    let begins : c.len-from.result ≡ c.loop-at.at = from ∙ long in
    record {
      later = omega (arith, c.in_ok-count.ensures.cause.later);
      quiet = c.in_ok-count.ensures.cause.done ∙ c.loop-at.invariant.quiet;
      states = c.in_ok-count.ensures.states ∙ c.loop-at.invariant.states;
      within = omega (arith, c.in_ok-count.ensures.bound, c.in_ok-count.ensures.size);
      long = omega (arith, c.in_ok-count.ensures.bound, c.in_ok-count.ensures.size);
      bytes = of_both _ _ _ _ _ _ c.loop-at.invariant.states c.loop-at.invariant.bytes c.in_ok-count.ensures.read (λ file loaded reads.
          one_more file c.loop-at.at c.len-from.result c.in_ok-count.count c.in_ok-size.size (c.len-from.result + c.min-piece.result) c.loop-at.bytes.items _ _ _ _
          begins (omega (arith, c.loop-at.bytes.ok.0)) (omega arith) c.in-Ok.ensures.items c.in_ok-count.ensures.kept c.truncate.ensures.items loaded reads);
    }
