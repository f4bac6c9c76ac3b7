use Rattle.std.proofs.Common.{sym, subst}
use Rattle.std.specs.Cmp.Lexicographic.{slice_cmp}
use Rattle.std.specs.List.Sorted.{IsStrictlySortedBy}
use Rattle.std.specs.Ordering.{nat_cmp}
use Rattle.mx_real.proofs.NameLaws.{once_each}
use Rattle.mx_real.proofs.open_folder.names_in_order.Goals as goal

pub returns : goal.returns
returns c =
    record { order = subst (IsStrictlySortedBy (slice_cmp nat_cmp)) (sym c.from_vec.ensures) (once_each _ _ c.in_ok-sort.ensures.sorted c.dedup.ensures.filtered) }
