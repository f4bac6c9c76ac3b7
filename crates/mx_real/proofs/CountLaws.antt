-- Links whose counts stay.
use Rattle.std.proofs.Common.{◌≡◌, ℕ, List, [], ◌∷◌, map, set, get_or, refl, sym, ap, ◌∙◌}
use Rattle.std.proofs.Math.Seq.{map-set_same}
use Rattle.mx_real.specs.declared.link.TcpLink.{TcpLink}
use Rattle.mx_real.specs.Waits.{counts_of, HaveSameCounts}

module _ {R : Type 0} where
  same_three : (one other : TcpLink R) → one.faults ≡ other.faults → one.read_waits ≡ other.read_waits → one.write_waits ≡ other.write_waits
      → counts_of one ≡ counts_of other
  same_three one other faults reads writes = cc

  -- one of them is put in the place of one with the same counts
  pub one_kept : (first links : List (TcpLink R)) (i : ℕ) (link d : TcpLink R) → HaveSameCounts first links
      → link.faults ≡ (get_or links i d).faults → link.read_waits ≡ (get_or links i d).read_waits → link.write_waits ≡ (get_or links i d).write_waits
      → HaveSameCounts first (set links i link)
  one_kept first links i link d same faults reads writes =
      map-set_same counts_of links i link d (same_three link (get_or links i d) faults reads writes) ∙ same

  by_counts : {B : Type 0} (f : ℕ × ℕ × ℕ → B) (links : List (TcpLink R)) → map (λ l. f (counts_of l)) links ≡ map f (map counts_of links)
  by_counts f [] = refl
  by_counts f (link ∷ links) = ap (λ rest. f (counts_of link) ∷ rest) (by_counts f links)

  -- what follows from the counts alone stays
  pub each_kept : {B : Type 0} (f : ℕ × ℕ × ℕ → B) (before now : List (TcpLink R)) → HaveSameCounts before now
      → map (λ l. f (counts_of l)) now ≡ map (λ l. f (counts_of l)) before
  each_kept f before now same = by_counts f now ∙ ap (map f) same ∙ sym (by_counts f before)
