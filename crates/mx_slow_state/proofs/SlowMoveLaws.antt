-- The spaces of a state, as the plain slow program takes them over.
use Rattle.std.proofs.lemmas.Bool.Decides.{nat_tests}
use Rattle.std.proofs.Common.{arith, ◌≡◌, ℕ, Bool, true, false, cond, List, [], ◌∷◌, ◌++◌, sym, ap, ◌∙◌, subst, append_assoc, nat_cmp}
use Rattle.std.specs.Prelude.{Option, Some, ◌==◌}
use Rattle.std.specs.BTreeMap.{is_at}
use Rattle.mx_space.specs.declared.spaces.SpaceEntry.{SpaceEntry}
use Rattle.mx_space.specs.Spaces.{space_under}
use Rattle.mx_slow_state.specs.declared.slow_state.SlowSpace.{SlowSpace}
use Rattle.mx_slow_state.specs.SlowSteps.{IsMoved, MovesSpace}

-- the last spaces were moved, and the others are still to come
pub record PartMoved (whole left : List SpaceEntry) (spaces : ℕ → Option SlowSpace) : Type 0 where
  pub moved : List SpaceEntry
  pub same : left ++ moved ≡ whole
  pub are : (q : ℕ) → IsMoved (space_under q moved) (spaces q)

-- one more was
pub one_moved : (whole left rest : List SpaceEntry) (entry : SpaceEntry) (space : SlowSpace) (was now : ℕ → Option SlowSpace) → left ≡ rest ++ entry ∷ []
    → MovesSpace entry.space space → ((q : ℕ) → now q ≡ cond (is_at (nat_cmp entry.id.0) q) (Some space) (was q)) → PartMoved whole left was → PartMoved whole rest now
one_moved whole left rest entry space was now next moves updates part = record {
  moved = entry ∷ part.moved;
  same = sym (append_assoc rest (entry ∷ []) part.moved) ∙ ap (λ l. l ++ part.moved) (sym next) ∙ part.same;
  are = λ q. subst (IsMoved (space_under q (entry ∷ part.moved))) (sym (updates q ∙ ap (λ b. cond b (Some space) (was q)) (tie_same entry.id.0 q))) (by_test q (entry.id.0 == q));
}
  where
    tie_same : (a b : ℕ) → is_at (nat_cmp a) b ≡ (a == b)
    tie_same a b = grind (arith, nat_tests)

    by_test : (q : ℕ) (b : Bool) → IsMoved (cond b (Some entry.space) (space_under q part.moved)) (cond b (Some space) (was q))
    by_test q true = moves
    by_test q false = part.are q
