use Rattle.std.proofs.Common.{[], ◌∷◌, pos}
use Rattle.mx_key.specs.Keys.{Integer}
use Rattle.mx_slow.proofs.read_ranges.ReadRanges.push_rows.Goals as goal

pub returns : goal.returns
returns c = c.in_ok-push_key.ensures (Integer (pos c.args.space.0) ∷ []) c.in_ok-key.ensures.1 c.in_ok-key.ensures.0
