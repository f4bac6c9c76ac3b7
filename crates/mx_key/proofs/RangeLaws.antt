-- The bytes of a range hold those of exactly the keys that lie in it.
use Rattle.std.proofs.Common.{◌≡◌, ℕ, Bool, true, false, cond, List, [], ◌∷◌, ◌++◌, refl, sym, ap, subst, ◌∙◌, append_assoc}
use Rattle.std.specs.Prelude.{not, ◌&&◌, ◌||◌}
use Rattle.std.specs.Ordering.{nat_cmp, ordering_then, ordering_reverse, is_eq, is_lt, is_gt}
use Rattle.std.specs.declared.cmp.Ordering.{Ordering}
use Rattle.std.specs.declared.cmp.Ordering.TheVariants.{Less, Equal, Greater}
use Rattle.std.specs.Cmp.Lexicographic.{slice_cmp}
use Rattle.std.proofs.lemmas.Cmp.{tied_itself, nat_cmp_total}
use Rattle.mx_key.specs.Keys.{Key, AreFit, part_cmp, key_cmp, is_key_prefix}
use Rattle.mx_key.specs.Ranges.{End, Inclusive, Exclusive, Open, Range, IsFitEnd, AreFitEnds, is_from, is_up_to, lies_in}
use Rattle.mx_key.specs.Comparable.{part_bytes, comparable_of, prefix_end, low_edge, high_edge, edges_of, is_within_low, is_within_high, holds}
use Rattle.mx_key.proofs.KeyLaws.{part_cmp_total, key_cmp-IsAntisymmetric}
use Rattle.mx_key.proofs.EncodingLaws.{codes_part, below_part, part_below_last, bytes_order}

-- a key is a prefix of itself
begins_itself : (key : Key) → is_key_prefix key key ≡ true
begins_itself [] = refl
begins_itself (p ∷ ps) = rw (tied_itself part_cmp_total p, begins_itself ps) refl

-- and so what ties with it
begins_tied : (key end : Key) → key_cmp key end ≡ Equal → is_key_prefix end key ≡ true
begins_tied key end tied = subst (λ (k : Key). is_key_prefix end k ≡ true) (sym (key_cmp-IsAntisymmetric key end tied)) (begins_itself end)

-- the order of the first parts decides, seen from either side
by_first : (o : Ordering) (b : Bool) (rest : Ordering)
    → ordering_then o (cond b Less rest) ≡ cond (is_eq (ordering_reverse o) && b) Less (ordering_then o rest)
by_first Less b rest = refl
by_first Equal b rest = refl
by_first Greater b rest = refl

-- a key's bytes are below a prefix's end where the key is below the prefix or has it
pub prefix_end_order : (key end : Key) → AreFit key → AreFit end → slice_cmp nat_cmp (comparable_of key) (prefix_end end) ≡ cond (is_key_prefix end key) Less (key_cmp key end)
prefix_end_order [] [] f g = refl
prefix_end_order (p ∷ ps) [] f g = part_below_last p (comparable_of ps)
prefix_end_order [] (q ∷ qs) f g =
    ap (slice_cmp nat_cmp []) (append_assoc (part_bytes q) (comparable_of qs) (255 ∷ [])) ∙ below_part q (prefix_end qs)
prefix_end_order (p ∷ ps) (q ∷ qs) f g =
    let codes = codes_part p q f.0 g.0 in
    ap (slice_cmp nat_cmp (part_bytes p ++ comparable_of ps)) (append_assoc (part_bytes q) (comparable_of qs) (255 ∷ []))
    ∙ codes.order (comparable_of ps) (prefix_end qs)
    ∙ ap (ordering_then (part_cmp p q)) (prefix_end_order ps qs f.1 g.1)
    ∙ by_first (part_cmp p q) (is_key_prefix qs ps) (key_cmp ps qs)
    ∙ ap (λ (o : Ordering). cond (is_eq o && is_key_prefix qs ps) Less (ordering_then (part_cmp p q) (key_cmp ps qs))) (sym (part_cmp_total.antisymm q p))

above_all_begun : (b : Bool) (o : Ordering) → is_gt (cond b Less o) ≡ (is_gt o && not b)
above_all_begun true Less = refl
above_all_begun true Equal = refl
above_all_begun true Greater = refl
above_all_begun false Less = refl
above_all_begun false Equal = refl
above_all_begun false Greater = refl

up_to_all_begun : (b : Bool) (o : Ordering) → (o ≡ Equal → b ≡ true) → is_lt (cond b Less o) ≡ (not (is_gt o) || b)
up_to_all_begun true Less tied = refl
up_to_all_begun true Equal tied = refl
up_to_all_begun true Greater tied = refl
up_to_all_begun false Less tied = refl
up_to_all_begun false Equal tied = let e = tied refl in absurd cc
up_to_all_begun false Greater tied = refl

low_holds : (end : End) (key : Key) → IsFitEnd end → AreFit key → is_within_low (low_edge end) (comparable_of key) ≡ is_from end key
low_holds (Inclusive end) key f g = ap (λ (o : Ordering). not (is_lt o)) (bytes_order key end g f)
low_holds (Exclusive end) key f g = ap is_gt (prefix_end_order key end g f) ∙ above_all_begun (is_key_prefix end key) (key_cmp key end)
low_holds Open key f g = refl

high_holds : (end : End) (key : Key) → IsFitEnd end → AreFit key → is_within_high (high_edge end) (comparable_of key) ≡ is_up_to end key
high_holds (Inclusive end) key f g =
    ap is_lt (prefix_end_order key end g f) ∙ up_to_all_begun (is_key_prefix end key) (key_cmp key end) (begins_tied key end)
high_holds (Exclusive end) key f g = ap is_lt (bytes_order key end g f)
high_holds Open key f g = refl

pub range_holds : (range : Range) (key : Key) → AreFitEnds range → AreFit key → holds (edges_of range) (comparable_of key) ≡ lies_in range key
range_holds range key f g = λ i. low_holds range.low key f.0 g i && high_holds range.high key f.1 g i

-- ---- the bounds of a map's range

-- bytes aren't above the same bytes with one more prefix_end
pub not_above_prefix_end : (xs : List ℕ) → is_gt (slice_cmp nat_cmp xs (xs ++ 255 ∷ [])) ≡ false
not_above_prefix_end [] = refl
not_above_prefix_end (x ∷ xs) = rw (tied_itself nat_cmp_total x) (not_above_prefix_end xs)
