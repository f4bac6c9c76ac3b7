use Rattle.std.proofs.Common.{arith, ◌⊎◌, inl, inr, ◌<◌, ◌≤◌, ◌-◌, ℕ, drop, sym, ap, ◌∙◌}
use Rattle.std.specs.List.{list_any}
use Rattle.mx_slow.specs.declared.slow.SlowCommit.{SlowCommit}
use Rattle.mx_slow.proofs.SlowStandingLaws.{none_behind, rest_behind}
use Rattle.mx_slow.proofs.slow.Slow.has_schema_commit_since.Goals as goal

pub returns-in-Some : goal.returns-in-Some
returns-in-Some c =
    let (low, whole, is, more) = c.in-Some.ensures.lookup.0 in
    c.has_schema_commit.ensures
    ∙ ap (list_any (λ (commit : SlowCommit). commit.is_schema))
    (is ∙ rest_behind c.as_slice.result.now (c.args.number - 1) low ∙ ap (drop (c.args.number - 1)) c.as_slice.ensures.value)

pub returns-in-None : goal.returns-in-None
returns-in-None c =
    ap (list_any (λ (commit : SlowCommit). commit.is_schema))
    (sym (ap (drop (c.args.number - 1)) (sym c.as_slice.ensures.value) ∙ none_behind (c.args.number - 1) c.as_slice.result.now (either _ _ c.in-None.ensures.lookup.0)))
  where
    either : (n m : ℕ) → (n < m) ⊎ (n < n) → n ≤ m
    either n m (inl past) = omega (arith, past)
    either n m (inr never) = omega (arith, never)
