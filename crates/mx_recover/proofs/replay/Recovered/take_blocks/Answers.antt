use Rattle.std.proofs.Common.{◌-◌, length, take, sym, ap, ◌∙◌, arith}
use Rattle.std.specs.Prelude.{Err}
use Rattle.std.proofs.lemmas.List.{length-drop}
use Rattle.mx_directory.specs.Directories.{after_block}
use Rattle.mx_recover.proofs.ReplayLaws.{was_taken, was_refused, places, block_taken, block_refused, blocks_end, same_damage}
use Rattle.mx_recover.proofs.replay.Recovered.take_blocks.Goals as goal

pub split_at-requires : goal.split_at-requires
split_at-requires c =
    let p = places c.args.bytes.now c.loop-from.place c.in-Rows.from c.in-Rows.to c.in-Rows.ensures in
    omega (arith, p.1, p.2)

pub split_at-requires-in-Rows : goal.split_at-requires-in-Rows
split_at-requires-in-Rows c =
    let p = places c.args.bytes.now c.loop-from.place c.in-Rows.from c.in-Rows.to c.in-Rows.ensures in
    let l = ap length c.split_at.ensures.back ∙ length-drop c.in-Rows.from c.args.bytes.now in
    omega (arith, p.1, p.2, l)

pub returns-then-not-branch-clause-damaged : goal.returns-then-not-branch-clause-damaged
returns-then-not-branch-clause-damaged c = λ before damage stands is.
    let now = c.loop-from.invariant before stands in
    let here = c.split_at-in-Rows.ensures.front ∙ ap (take (c.in-Rows.to - c.in-Rows.from)) c.split_at.ensures.back in
    let refused = was_refused _ _ c.in_ok-take_block.field-0 c.if-not-branch.true (c.in_ok-take_block.ensures now.0 now.1) in
    now.2 ∙ block_refused c.args.name.now c.args.bytes.now c.loop-from.place c.in-Rows.from c.in-Rows.to now.0 c.in-Rows.ensures
    (ap (λ rows. after_block rows now.0) (sym here) ∙ refused)
    ∙ ap (λ d. Err d) (same_damage _ _ damage c.in_ok-damage.ensures is)

pub loop-from-preserved : goal.loop-from-preserved
loop-from-preserved c = λ before stands.
    let now = c.loop-from.invariant before stands in
    let here = c.split_at-in-Rows.ensures.front ∙ ap (take (c.in-Rows.to - c.in-Rows.from)) c.split_at.ensures.back in
    let taken = was_taken _ _ c.in_ok-take_block.field-0 c.if-not-branch.false (c.in_ok-take_block.ensures now.0 now.1) in (
      taken.0,
      taken.2,
      now.2 ∙ block_taken c.args.name.now c.args.bytes.now c.loop-from.place c.in-Rows.from c.in-Rows.to now.0 c.in-Rows.ensures
          taken.0 (ap (λ rows. after_block rows now.0) (sym here) ∙ taken.1),
    )

pub returns : goal.returns
returns c = record {
  taken = λ before stands.
      let now = c.loop-from.invariant before stands in
      let end = blocks_end c.args.name.now c.args.bytes.now c.loop-from.place now.0 c.read_block.result c.read_block.ensures c.in_default.not-Rows in
      (now.0, now.2 ∙ end, now.1);
  damaged = λ before damage stands is. absurd cc;
  no_fault = λ is. absurd cc;
}
