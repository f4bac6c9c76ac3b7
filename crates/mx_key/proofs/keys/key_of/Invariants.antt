use Rattle.std.proofs.Common.{drop}
use Rattle.mx_key.specs.Parts.{key_of}
use Rattle.mx_key.proofs.MakingLaws.{IsSoFar}
use Rattle.mx_key.proofs.keys.key_of.Given as goal

abbrev pub invariant-loop-part : goal.invariant-loop-part
invariant-loop-part l =
    IsSoFar (key_of l.part-items l.fields) (key_of (drop l.part-index l.part-items) l.fields) l.key
