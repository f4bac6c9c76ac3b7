-- A vclock with no component of the replica id 0 is whole as it is written, and is read again.
use Rattle.std.proofs.Common.{inl, ◌≡◌, ℕ, suc, ◌+◌, ◌<◌, ◌≤◌, List, [], ◌∷◌, ◌++◌, length, drop, Some, All, refl, sym, ap, ◌∙◌, subst, append_assoc, length-append, arith}
use Rattle.std.specs.Prelude.{⊤, pos, map, ◌==◌, replicate, slice_index, slice_set}
use Rattle.std.specs.List.{concat}
use Rattle.std.proofs.Math.Seq.{set-append_seam}
use Rattle.std.proofs.lemmas.Bool.{cond_both, eqb-true, lt-ltb}
use Rattle.std.proofs.lemmas.List.{length-map}
use Rattle.std.proofs.lemmas.List.Elements.{All-head, All-tail}
use Rattle.mx_msgpack.specs.Grammar.{Int}
use Rattle.mx_msgpack.specs.Spelling.{shortest_unsigned}
use Rattle.mx_msgpack.proofs.SpellingLaws.{shortest_spelled}
use Rattle.mx_vclock.specs.Vclocks.{replicas, max_lsn, IsVclock}
use Rattle.mx_vclock.specs.Spelling as clocks
use Rattle.mx_vclock.specs.Spelling.{clock_map}
use Rattle.mx_msgpack.specs.Maps.{Pair}
use Rattle.mx_request.specs.Values.{vclock_from, vclock_in}
use Rattle.mx_request.specs.Spelling.{Written, map_text}
use Rattle.mx_msgpack.proofs.InnerLaws.{IsInner}
use Rattle.mx_request.proofs.WriterLaws.{pairs_text}
use Rattle.mx_request.proofs.MapTextLaws.{AreWithin, as_read, pairs_again, map_shown, map_inner}
use Rattle.mx_request.proofs.ValueTextLaws.{number_read_again}

-- ---- a vclock's pairs as those of a map

abbrev written : ℕ × ℕ → Written
written pair = (pair.0, shortest_unsigned pair.1)

-- each is of a replica id
abbrev AreComponents : List (ℕ × ℕ) → Type 0
AreComponents [] = ⊤
AreComponents (pair ∷ others) = (pair.0 < replicas) × (pair.1 ≤ max_lsn) × AreComponents others

components_of : (id : ℕ) (lsns : List ℕ) → id + length lsns ≤ replicas → All (λ lsn. lsn ≤ max_lsn) lsns → AreComponents (clocks.components_from id lsns)
components_of id [] within bounded = tt
components_of id (lsn ∷ lsns) within bounded =
    let rest = components_of (suc id) lsns (omega arith) (All-tail (λ n. n ≤ max_lsn) lsn lsns bounded) in
    cond_both (lsn == 0) _ _ AreComponents (λ _. rest) (λ _. (omega arith, All-head (λ n. n ≤ max_lsn) lsn lsns bounded, rest))

-- no more than there are lsns
components_count : (id : ℕ) (lsns : List ℕ) → length (clocks.components_from id lsns) ≤ length lsns
components_count id [] = omega arith
components_count id (lsn ∷ lsns) =
    let rest = components_count (suc id) lsns in
    cond_both (lsn == 0) _ _ (λ (pairs : List (ℕ × ℕ)). length pairs ≤ suc (length lsns)) (λ _. omega arith) (λ _. omega arith)

one_byte : (number : ℕ) → number < 0x80 → shortest_unsigned number ≡ number ∷ []
unfolding shortest_unsigned
one_byte number low = rw (lt-ltb number 0x80 low) refl

components_text : (pairs : List (ℕ × ℕ)) → AreComponents pairs → concat (map clocks.component_bytes pairs) ≡ pairs_text (map written pairs)
components_text [] all = refl
components_text (pair ∷ others) (low, most, rest) = rw (one_byte pair.0 (omega arith), components_text others rest) refl

components_within : (room : ℕ) (pairs : List (ℕ × ℕ)) → AreComponents pairs → AreWithin room (map written pairs)
components_within room [] all = tt
components_within room (pair ∷ others) (low, most, rest) =
    (omega arith, (Int (pos pair.1), inl (pair.1, refl, shortest_spelled pair.1 (omega arith))), components_within room others rest)

-- ---- the lsns are read one after the other

-- a component is set where the earlier ones end
component_set : (earlier zeros : List ℕ) (id lsn : ℕ) (others : List Pair) → length earlier ≡ id → id < replicas → lsn ≤ max_lsn
    → vclock_from (earlier ++ 0 ∷ zeros) (as_read (written (id, lsn)) ∷ others) ≡ vclock_from (earlier ++ lsn ∷ zeros) others
component_set earlier zeros id lsn others len low most =
    let set : slice_set (earlier ++ 0 ∷ zeros) id lsn ≡ earlier ++ lsn ∷ zeros =
    ap (λ (i : ℕ). slice_set (earlier ++ 0 ∷ zeros) i lsn) (sym len) ∙ set-append_seam earlier 0 zeros lsn in
    rw (number_read_again max_lsn lsn most (omega arith), lt-ltb id replicas low, set) refl

lsns_again : (earlier lsns : List ℕ) (id : ℕ) → length earlier ≡ id → id + length lsns ≤ replicas → All (λ lsn. lsn ≤ max_lsn) lsns
    → vclock_from (earlier ++ replicate (length lsns) 0) (map as_read (map written (clocks.components_from id lsns))) ≡ Some (earlier ++ lsns)
lsns_again earlier [] id len within bounded = refl
lsns_again earlier (lsn ∷ lsns) id len within bounded =
    let zeros : List ℕ = replicate (length lsns) 0 in
    let others = clocks.components_from (suc id) lsns in
    let longer : length (earlier ++ lsn ∷ []) ≡ suc id = omega (arith, length-append earlier (lsn ∷ [])) in
    let rest = lsns_again (earlier ++ lsn ∷ []) lsns (suc id) longer (omega arith) (All-tail (λ n. n ≤ max_lsn) lsn lsns bounded) in
    let after : vclock_from (earlier ++ lsn ∷ zeros) (map as_read (map written others)) ≡ Some (earlier ++ lsn ∷ lsns) =
    ap (λ (l : List ℕ). vclock_from l (map as_read (map written others))) (sym (append_assoc earlier (lsn ∷ []) zeros)) ∙ rest
    ∙ ap (λ (l : List ℕ). Some l) (append_assoc earlier (lsn ∷ []) lsns) in
    cond_both (lsn == 0) _ _ (λ (pairs : List (ℕ × ℕ)). vclock_from (earlier ++ 0 ∷ zeros) (map as_read (map written pairs)) ≡ Some (earlier ++ lsn ∷ lsns))
    (λ t. ap (λ (n : ℕ). vclock_from (earlier ++ n ∷ zeros) (map as_read (map written others))) (sym (eqb-true lsn 0 t)) ∙ after)
    (λ _. component_set earlier zeros id lsn (map as_read (map written others)) len (omega arith) (All-head (λ n. n ≤ max_lsn) lsn lsns bounded) ∙ after)

-- ---- the whole

-- the pairs of a vclock that is written
abbrev components : List ℕ → List Written
components clock = map written (clocks.components_from 1 (drop 1 clock))

-- a vclock from its component of the replica id 1 on
record Parts (clock : List ℕ) : Type 0 where
  lsns : List ℕ
  parts : clock ≡ 0 ∷ lsns
  many : length lsns ≡ 31
  bounded : All (λ lsn. lsn ≤ max_lsn) lsns

parts_of : (clock : List ℕ) → IsVclock clock → slice_index clock 0 ≡ 0 → Parts clock
parts_of [] c e = let whole = c.whole in absurd (omega arith)
parts_of (first ∷ lsns) c e = record {
  lsns = lsns;
  parts = ap (λ (n : ℕ). n ∷ lsns) e;
  many = omega (arith, c.whole);
  bounded = All-tail (λ n. n ≤ max_lsn) first lsns c.bounded;
}

module _ (lsns : List ℕ) (many : length lsns ≡ 31) (bounded : All (λ lsn. lsn ≤ max_lsn) lsns) where
  each : AreComponents (clocks.components_from 1 lsns)
  each = components_of 1 lsns (omega arith) bounded

  count_is : length (components (0 ∷ lsns)) ≡ length (clocks.components_from 1 lsns)
  count_is = length-map (clocks.components_from 1 lsns) written

  text_is : clock_map (0 ∷ lsns) ≡ map_text (components (0 ∷ lsns))
  text_is = rw (count_is, components_text (clocks.components_from 1 lsns) each) refl

  parts_within : (room : ℕ) → AreWithin room (components (0 ∷ lsns))
  parts_within room = components_within room (clocks.components_from 1 lsns) each

  parts_few : length (components (0 ∷ lsns)) ≤ 31
  parts_few = let l = count_is in let m = components_count 1 lsns in omega arith

  parts_inner : IsInner (clock_map (0 ∷ lsns))
  parts_inner = subst IsInner (sym text_is) (map_inner (components (0 ∷ lsns)) (parts_within 62) (omega (arith, parts_few)))

  parts_again : vclock_in (clock_map (0 ∷ lsns)) ≡ Some (0 ∷ lsns)
  parts_again =
      let filled : replicate {A = ℕ} 31 0 ≡ replicate (length lsns) 0 = ap (λ (n : ℕ). replicate n 0) (sym many) in
      let shown = map_shown (components (0 ∷ lsns)) (parts_within 63) (omega (arith, parts_few)) in
      ap vclock_in text_is
      ∙ rw shown.1 refl
      ∙ ap (vclock_from (replicate replicas 0)) (pairs_again (components (0 ∷ lsns)) (parts_within 63))
      ∙ ap (λ (l : List ℕ). vclock_from (0 ∷ l) (map as_read (components (0 ∷ lsns)))) filled
      ∙ lsns_again (0 ∷ []) lsns 1 refl (omega arith) bounded

pub clock_inner : (clock : List ℕ) → IsVclock clock → slice_index clock 0 ≡ 0 → IsInner (clock_map clock)
clock_inner clock c e = let p = parts_of clock c e in rw p.parts (parts_inner p.lsns p.many p.bounded)

pub clock_read_again : (clock : List ℕ) → IsVclock clock → slice_index clock 0 ≡ 0 → vclock_in (clock_map clock) ≡ Some clock
clock_read_again clock c e = let p = parts_of clock c e in rw p.parts (parts_again p.lsns p.many p.bounded)
