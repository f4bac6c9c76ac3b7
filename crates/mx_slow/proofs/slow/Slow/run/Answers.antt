use Rattle.std.proofs.Common.{◌≡◌, List, [], ◌∷◌, length, refl, subst}
use Rattle.mx_model.specs.declared.ids.Ids.{Ids}
use Rattle.mx_model.specs.Overlaps.{state_after_first, statements_in}
use Rattle.mx_model.specs.RunAlone.{run_alone}
use Rattle.mx_slow.specs.Slow.{RunStands}
use Rattle.mx_slow.proofs.SlowRunLaws.{begins_run, ends_run, goes_on}
use Rattle.mx_slow.proofs.slow.Slow.run.Goals as goal

none_left : {A : Type 0} (left : List A) → length left ≡ 0 → left ≡ []
none_left [] none = refl
none_left (one ∷ left) none = absurd cc

pub loop-step-init : goal.loop-step-init
loop-step-init c = λ streams all is within keep.
    let before = state_after_first streams.base.state streams.journal c.args.place in
    let ids = c.args.self.now.ids in
    begins_run c.new-run.result ids before c.args.steps.now all keep (c.new-run.ensures ids before (c.in_ok-copy.ensures before (c.state_at.ensures streams is within)))

pub loop-step-preserved : goal.loop-step-preserved
loop-step-preserved c = λ streams all is within keep.
    let before = state_after_first streams.base.state streams.journal c.args.place in
    goes_on c.loop-step.run c.step.new.self c.args.self.now.ids before c.loop-step.left.now c.in-Some.later.now c.in-Some.step.now all c.in-Some.ensures.cases.0
    (λ run statement stands is_statement. c.in_ok-step.ensures before run statement stands is_statement)
    (c.loop-step.invariant streams all is within keep)

pub returns : goal.returns
returns c = λ streams all is within keep.
    let before = state_after_first streams.base.state streams.journal c.args.place in
    subst (λ (ids : Ids). RunStands c.loop-step.run before (run_alone ids before (statements_in all))) is.ids
    (ends_run c.loop-step.run c.args.self.now.ids before c.loop-step.left.now all (none_left c.loop-step.left.now c.in_default.ensures.cases) (c.loop-step.invariant streams all is within keep))
