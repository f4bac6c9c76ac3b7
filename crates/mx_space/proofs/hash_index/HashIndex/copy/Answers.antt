use Rattle.std.proofs.Common.{sym, subst}
use Rattle.std.specs.Prelude.{nat_eq}
use Rattle.std.specs.List.{IsDistinct}
use Rattle.std.specs.Map.{keys_of}
use Rattle.mx_space.specs.HashIndexes.{AreFronted, ArePlaced}
use Rattle.mx_space.proofs.hash_index.HashIndex.copy.Goals as goal

pub invariant_of-result : goal.invariant_of-result
invariant_of-result c =
    let same = sym c.in_ok-copy_of_held.ensures in
    (subst (λ l. IsDistinct nat_eq (keys_of l)) same c.self.invariant.0, subst (ArePlaced c.self.inside.parts) same c.self.invariant.1, subst (AreFronted c.self.inside.parts) (sym c.in_ok-copy.ensures) c.self.invariant.2)
