-- The order of parts and that of keys are total, and only equal ones tie.
use Rattle.std.proofs.Common.{◌≡◌, ℕ, true, false, List, [], refl, ap, subst}
use Rattle.std.specs.Prelude.{ℤ, pos}
use Rattle.std.specs.declared.cmp.Ordering.{Ordering}
use Rattle.std.specs.declared.cmp.Ordering.TheVariants.{Less, Equal, Greater}
use Rattle.std.specs.Ordering.{nat_cmp, int_cmp, ordering_then, then_cmp, on}
use Rattle.std.specs.Cmp.{IsTotalOrder}
use Rattle.std.specs.Cmp.Lexicographic.{slice_cmp}
use Rattle.std.specs.FinMap.{IsAntisymmetric, int_cmp-IsAntisymmetric, nat_cmp-IsAntisymmetric, slice_cmp-IsAntisymmetric}
use Rattle.std.proofs.lemmas.Cmp.{on_total, then_total, nat_cmp_total, int_cmp_total, nat_list_cmp_total, lists_total}
use Rattle.mx_key.specs.Keys.{KeyPart, Boolean, Integer, Text, Binary, rank, part_cmp, key_cmp}

-- a part as its rank, its number and its bytes, which are compared in turn
abbrev number_in : KeyPart → ℤ
number_in (Boolean false) = pos 0
number_in (Boolean true) = pos 1
number_in (Integer number) = number
number_in (Text text) = pos 0
number_in (Binary content) = pos 0

abbrev bytes_in : KeyPart → List ℕ
bytes_in (Boolean truth) = []
bytes_in (Integer number) = []
bytes_in (Text text) = text
bytes_in (Binary content) = content

abbrev in_turn : KeyPart → KeyPart → Ordering
in_turn = then_cmp (on rank nat_cmp) (then_cmp (on number_in int_cmp) (on bytes_in (slice_cmp nat_cmp)))

then_Equal : (o : Ordering) → ordering_then o Equal ≡ o
then_Equal Less = refl
then_Equal Equal = refl
then_Equal Greater = refl

is_in_turn : (x y : KeyPart) → in_turn x y ≡ part_cmp x y
is_in_turn (Boolean false) (Boolean false) = refl
is_in_turn (Boolean false) (Boolean true) = refl
is_in_turn (Boolean true) (Boolean false) = refl
is_in_turn (Boolean true) (Boolean true) = refl
is_in_turn (Integer x) (Integer y) = then_Equal (int_cmp x y)
is_in_turn (Text x) (Text y) = refl
is_in_turn (Binary x) (Binary y) = refl
is_in_turn _ _ = refl

pub part_cmp_total : IsTotalOrder part_cmp
part_cmp_total =
    subst IsTotalOrder (λ i x y. is_in_turn x y i)
    (then_total (on_total rank nat_cmp_total) (then_total (on_total number_in int_cmp_total) (on_total bytes_in nat_list_cmp_total)))

pub key_cmp_total : IsTotalOrder key_cmp
key_cmp_total = lists_total part_cmp_total

pub part_cmp-IsAntisymmetric : IsAntisymmetric part_cmp
part_cmp-IsAntisymmetric (Boolean false) (Boolean false) tied = refl
part_cmp-IsAntisymmetric (Boolean false) (Boolean true) tied = absurd cc
part_cmp-IsAntisymmetric (Boolean true) (Boolean false) tied = absurd cc
part_cmp-IsAntisymmetric (Boolean true) (Boolean true) tied = refl
part_cmp-IsAntisymmetric (Integer x) (Integer y) tied = ap (λ (z : ℤ). Integer z) (int_cmp-IsAntisymmetric x y tied)
part_cmp-IsAntisymmetric (Text x) (Text y) tied = ap (λ (l : List ℕ). Text l) (slice_cmp-IsAntisymmetric nat_cmp-IsAntisymmetric x y tied)
part_cmp-IsAntisymmetric (Binary x) (Binary y) tied = ap (λ (l : List ℕ). Binary l) (slice_cmp-IsAntisymmetric nat_cmp-IsAntisymmetric x y tied)
part_cmp-IsAntisymmetric _ _ tied = absurd cc

pub key_cmp-IsAntisymmetric : IsAntisymmetric key_cmp
key_cmp-IsAntisymmetric = slice_cmp-IsAntisymmetric part_cmp-IsAntisymmetric
