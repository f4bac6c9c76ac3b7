-- The fields between neighbouring places.
use Rattle.std.proofs.Common.{◌≡◌, ℕ, zero, suc, ◌+◌, ◌-◌, ◌<◌, ◌≤◌, List, [], ◌∷◌, length, take, drop, get_or, Option, Some, None, refl, sym, ap, ◌∙◌, arith, min}
use Rattle.std.specs.List.{slice_get}
use Rattle.std.proofs.lemmas.List.{take_min, drop_min}
use Rattle.std.proofs.lemmas.Option.{slice_get_read}
use Rattle.mx_key.specs.Fields.{slices}

same_place : (x y : ℕ) → ◌≡◌ {A = Option ℕ} (Some x) (Some y) → x ≡ y
same_place x y e = cc

-- a field between its places
pub slice_between : (bytes places : List ℕ) (n from to : ℕ) → slice_get places n ≡ Some from → slice_get places (suc n) ≡ Some to
    → slice_get (slices bytes places) n ≡ Some (take (to - from) (drop from bytes))
slice_between bytes [] n from to f t = absurd cc
slice_between bytes (x ∷ []) n from to f t = absurd cc
slice_between bytes (x ∷ y ∷ places) zero from to f t =
    let first = same_place x from f in
    let second = same_place y to t in
    λ i. Some (take (second i - first i) (drop (first i) bytes))
slice_between bytes (x ∷ y ∷ places) (suc n) from to f t = slice_between bytes (y ∷ places) n from to f t

-- no field where one of its places is not there
pub no_slice : (bytes places : List ℕ) (n : ℕ) → length places ≤ n + 1 → slice_get (slices bytes places) n ≡ None
no_slice bytes [] n short = refl
no_slice bytes (x ∷ []) n short = refl
no_slice bytes (x ∷ y ∷ places) zero short = absurd (omega arith)
no_slice bytes (x ∷ y ∷ places) (suc n) short = no_slice bytes (y ∷ places) n (omega arith)

-- the place that indexing gave
pub place_read : (places : List ℕ) (n place : ℕ) → n < length places → place ≡ get_or places n place → slice_get places n ≡ Some place
place_read places n place within e = slice_get_read places (length places) n place refl within e

-- the bytes between two places, each cut to what is there
pub slice_read : (bytes places : List ℕ) (n from to : ℕ) → slice_get places n ≡ Some from → slice_get places (n + 1) ≡ Some to
    → (start size : ℕ) (rest field : List ℕ) → start ≡ min from (length bytes) → rest ≡ drop start bytes
    → size ≡ min (to - from) (length rest) → field ≡ take size rest → Some field ≡ slice_get (slices bytes places) n
slice_read bytes places n from to f t start size rest field s r z e =
    let next : slice_get places (suc n) ≡ Some to = ap (slice_get places) (one_more n) ∙ t in
    let whole : rest ≡ drop from bytes = r ∙ ap (λ (k : ℕ). drop k bytes) s ∙ drop_min from bytes in
    let part : field ≡ take (to - from) (drop from bytes) =
    e ∙ ap (λ (k : ℕ). take k rest) z ∙ take_min (to - from) rest ∙ ap (take (to - from)) whole in
    ap (λ (l : List ℕ). Some l) part ∙ sym (slice_between bytes places n from to f next)
  where
    one_more : (n : ℕ) → suc n ≡ n + 1
    one_more n = omega arith
