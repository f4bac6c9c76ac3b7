-- Names of files in ascending order.
use Rattle.std.proofs.Common.{◌≡◌, List, [], ◌∷◌, map, String, string_bytes, sym, subst}
use Rattle.std.specs.Cmp.Lexicographic.{slice_cmp}
use Rattle.std.specs.List.{AllByRecursion}
use Rattle.std.specs.List.Retain.{DiffersFromLast, IsFiltered}
use Rattle.std.specs.List.Sorted.{IsSorted, IsStrictlySortedBy}
use Rattle.std.specs.Ordering.{nat_cmp}
use Rattle.std.specs.String.{string_cmp, string_cmp_total, string_eq}
use Rattle.std.specs.declared.cmp.Ordering.TheVariants.{Less}
use Rattle.std.proofs.lemmas.List.Filters.{dedup_is}
use Rattle.std.proofs.lemmas.List.Kept.{IsStrictlySortedBy-dedup}
use Rattle.std.proofs.lemmas.Map.Text.{is_eq-slice_cmp}

module _ {Y : Type 0} where
  below_as_bytes : (name : String Y) (names : List (String Y)) → AllByRecursion (λ other. string_cmp name other ≡ Less) names
      → AllByRecursion (λ other. slice_cmp nat_cmp (string_bytes name) other ≡ Less) (map string_bytes names)
  below_as_bytes name [] below = below
  below_as_bytes name (other ∷ names) below = (below.0, below_as_bytes name names below.1)

  as_bytes : (names : List (String Y)) → IsStrictlySortedBy string_cmp names → IsStrictlySortedBy (slice_cmp nat_cmp) (map string_bytes names)
  unfolding IsStrictlySortedBy
  as_bytes [] sorted = sorted
  as_bytes (name ∷ names) sorted = (below_as_bytes name names sorted.0, as_bytes names sorted.1)

  -- what a sort and a `dedup` leave
  pub once_each : (names kept : List (String Y)) → IsSorted string_cmp names → IsFiltered (DiffersFromLast string_eq) [] names kept
      → IsStrictlySortedBy (slice_cmp nat_cmp) (map string_bytes kept)
  once_each names kept sorted filtered =
      as_bytes kept (subst (IsStrictlySortedBy string_cmp) (sym (dedup_is string_eq names kept filtered))
      (IsStrictlySortedBy-dedup string_cmp_total (λ one other. sym (is_eq-slice_cmp (string_bytes one) (string_bytes other))) names sorted))
