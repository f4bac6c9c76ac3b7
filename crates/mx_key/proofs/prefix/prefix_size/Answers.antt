use Rattle.std.proofs.Common.{length, arith, ap, ◌∙◌}
use Rattle.std.proofs.lemmas.List.{length-drop}
use Rattle.mx_key.specs.Prefixes.{part_size}
use Rattle.mx_key.proofs.PrefixLaws.{one_part}
use Rattle.mx_key.proofs.prefix.prefix_size.Goals as goal

pub loop-left-preserved : goal.loop-left-preserved
loop-left-preserved c =
    let bytes = c.args.bytes.now in
    let size = c.loop-left.size in
    record {
      size = one_part c.loop-left.left size c.part_size-size.result bytes c.loop-left-test.true (c.part_size-size.ensures.size ∙ ap part_size c.split_at.ensures.back)
          ∙ c.loop-left.invariant.size;
      within = let rest = ap length c.split_at.ensures.back in let left = length-drop size bytes in omega (arith, c.part_size-size.ensures.within, rest, left, c.loop-left.invariant.within);
    }
