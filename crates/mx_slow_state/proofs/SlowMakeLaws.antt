-- What the plain slow program makes of a write, where it is judged.
use Rattle.std.proofs.Common.{◌≡◌, ℕ, Option, Some, None, Result, Ok, refl, sym, ap, ◌∙◌, subst}
use Rattle.mx_base.specs.declared.ids.SpaceId.{SpaceId}
use Rattle.mx_base.specs.declared.refusal.Refusal.{Refusal}
use Rattle.mx_key.specs.Comparable.{comparable_of}
use Rattle.mx_key.specs.Keys.{Key, AreFit}
use Rattle.mx_schema.specs.declared.index_def.IndexDef.{IndexDef}
use Rattle.mx_schema.specs.declared.keyed.Keyed.{Keyed}
use Rattle.mx_schema.specs.Picks.{Indexed}
use Rattle.mx_schema.specs.State.{State, key_in}
use Rattle.mx_judge.specs.declared.made.Made as code
use Rattle.mx_write.specs.Judged.{Judged, ◌>>=◌}
use Rattle.mx_write.specs.Made.{Made}
use Rattle.mx_write.specs.Stages.{IsRefusedBy, refusal_of}
use Rattle.mx_judge.specs.Makes.{JudgesMade}
use Rattle.mx_write.specs.Writes.{Write}
use Rattle.mx_write.proofs.StageLaws.{goes_on, refused_here, stopped_so, went_on}
use Rattle.mx_judge.proofs.EntryStageLaws.{judged_by}
use Rattle.mx_slow_state.specs.SlowWrites.{IsEntry}
use Rattle.mx_slow_state.proofs.SlowSiteLaws.{refused_as}

module _ (before : State) (at space : SpaceId) (same : at ≡ space) (write : Write) (whole : Judged Made) where
  -- in the space that was asked for
  pub judged_at : (last : ℕ → Judged Made) (result : Result code.Made Refusal) → whole.outcome ≡ (last space.0).outcome → JudgesMade before at.0 write result (last at.0)
      → JudgesMade before space.0 write result whole
  judged_at last result reaches makes =
      judged_by before space.0 write result whole (last space.0) reaches (subst (λ (s : SpaceId). JudgesMade before s.0 write result (last s.0)) same makes)

  module _ (free : ℕ → Judged (Unit {0})) (last : ℕ → Judged Made) (reaches : whole.outcome ≡ (free space.0 >>= λ _. last space.0).outcome) where
    here : whole.outcome ≡ (free at.0 >>= λ _. last at.0).outcome
    here = reaches ∙ ap (λ (s : SpaceId). (free s.0 >>= λ _. last s.0).outcome) (sym same)

    -- another tuple has a key
    pub refused_duplicate : (why : Refusal) → Some why ≡ refusal_of (free at.0).outcome → IsRefusedBy why whole
    refused_duplicate why held = refused_as why whole (free at.0 >>= λ _. last at.0) here (refused_here (free at.0) (λ _. last at.0) why (stopped_so (free at.0) why held))

    -- none has
    pub judged_free : (result : Result code.Made Refusal) → None ≡ refusal_of (free at.0).outcome → JudgesMade before at.0 write result (last at.0)
        → JudgesMade before space.0 write result whole
    judged_free result none =
        judged_at last result (reaches ∙ goes_on (free space.0) (λ _. last space.0) tt (ap (λ (s : SpaceId). (free s.0).outcome) (sym same) ∙ went_on (free at.0) none))

-- ---- the tuple that was found

pub entry_there : (primary : IndexDef) (found : Option Keyed) (one : Keyed) (entry : Option Indexed) → found ≡ Some one → IsEntry primary found entry
    → (own : Key) × (entry ≡ Some (own, one.tuple)) × AreFit own × (one.key ≡ comparable_of own) × (key_in primary.key one.tuple ≡ Ok own)
entry_there primary found one entry is stands = by_entry entry (subst (λ f. IsEntry primary f entry) is stands)
  where
    by_entry : (entry : Option Indexed) → IsEntry primary (Some one) entry
        → (own : Key) × (entry ≡ Some (own, one.tuple)) × AreFit own × (one.key ≡ comparable_of own) × (key_in primary.key one.tuple ≡ Ok own)
    by_entry None stands = absurd stands
    by_entry (Some (own, tuple)) (fit, bytes, same, has) = (own, ap (λ t. Some (own, t)) (sym same), fit, bytes, ap (key_in primary.key) same ∙ has)

pub entry_missing : (primary : IndexDef) (found : Option Keyed) (entry : Option Indexed) → found ≡ None → IsEntry primary found entry → entry ≡ None
entry_missing primary found entry none stands = by_entry entry (subst (λ f. IsEntry primary f entry) none stands)
  where
    by_entry : (entry : Option Indexed) → IsEntry primary None entry → entry ≡ None
    by_entry None stands = refl
    by_entry (Some other) stands = absurd stands
