use Rattle.std.proofs.Common.{◌≡◌, ◌++◌, length, map, drop}
use Rattle.std.specs.List.{sum}
use Rattle.mx_bytes.specs.Pieces.{pieces}
use Rattle.mx_bytes.proofs.tuples.cut.Given as goal

abbrev pub invariant-loop-size : goal.invariant-loop-size
invariant-loop-size l =
    (map (λ slice. slice.now) l.slices.items ++ pieces (drop l.size-index l.sizes) l.rest ≡ pieces l.sizes l.bytes)
    × (sum (drop l.size-index l.sizes) ≡ length l.rest)
