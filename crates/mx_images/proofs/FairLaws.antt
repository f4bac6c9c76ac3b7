-- What is read of a prefix of the bytes, and that a crash image may have no byte after the synced ones.
use Rattle.std.proofs.Common.{◌≡◌, ℕ, ◌+◌, ◌-◌, ◌≤◌, ◌<◌, List, [], length, take, drop, refl, sym, ap, ◌∙◌, arith, ◌⊎◌, inl, inr}
use Rattle.std.proofs.lemmas.Bool.{cases_lt}
use Rattle.std.proofs.lemmas.List.{append-nil, take_at, drop_all, drop-take, length-take, take-append-drop}
use Rattle.mx_msgpack.proofs.ReaderLaws.{all_from-append}
use Rattle.mx_outside.specs.Disks.{File}
use Rattle.mx_xlog.specs.Reading.{block_at, blocks_of}
use Rattle.mx_xlog.proofs.ReadingLaws.{block_at-Advances, block_at-IsStable}
use Rattle.mx_images.specs.Fair.{IsFairEnd}

-- the blocks that a prefix of the bytes begins with are a prefix of the blocks
pub front_of_blocks : (count : ℕ) (bytes : List ℕ) → (n : ℕ) × (blocks_of (take count bytes) ≡ take n (blocks_of bytes))
front_of_blocks count bytes =
    let front = take count bytes in
    let back = drop count bytes in
    let all = ap blocks_of (sym (take-append-drop count bytes))
    ∙ ap (λ (x : List (List ℕ) × List ℕ). x.0) (all_from-append block_at block_at-Advances block_at-IsStable front back) in
    (length (blocks_of front), sym (ap (take (length (blocks_of front))) all ∙ take_at (blocks_of front) _ (length (blocks_of front)) refl))

-- a prefix of what is after a place
drop_front : (size count : ℕ) (bytes : List ℕ) → drop size (take count bytes) ≡ take (count - size) (drop size bytes)
drop_front size count bytes = by_size (cases_lt count size)
  where
    by_size : (count < size) ⊎ (size ≤ count) → drop size (take count bytes) ≡ take (count - size) (drop size bytes)
    by_size (inl less) =
        let none : count - size ≡ 0 = omega arith in
        drop_all size (take count bytes) (omega (arith, length-take count bytes)) ∙ ap (λ n. take n (drop size bytes)) (sym none)
    by_size (inr enough) =
        let parts : count ≡ size + (count - size) = omega arith in
        ap (λ n. drop size (take n bytes)) parts ∙ drop-take size (count - size) bytes

-- the synced bytes alone are a crash image
pub fair_nothing : (file : File) → IsFairEnd file []
fair_nothing file head size is =
    let (n, front) = front_of_blocks (file.synced - size) (drop size file.bytes) in
    (n, ap (λ bytes. blocks_of (drop size bytes)) (append-nil (take file.synced file.bytes)) ∙ ap blocks_of (drop_front size file.synced file.bytes) ∙ front)
