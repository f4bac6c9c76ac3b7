use Rattle.std.proofs.Common.{◌≡◌, ◌+◌, ℕ, List, length, ◌++◌, take, drop, Some, refl, sym, ap, ◌∙◌, subst}
use Rattle.std.proofs.lemmas.List.{drop-drop}
use Rattle.std.proofs.lemmas.Result.{err_from_is_err_and}
use mathlib.Core.List.{IsPrefix}
use Rattle.mx_images.specs.Changes.{KeepsOthers}
use Rattle.mx_images.proofs.MomentLaws.{steps_none}
use Rattle.mx_top.specs.Units.{unit_by}
use Rattle.mx_top.specs.UnitViews.{head_view}
use Rattle.mx_top.specs.Runs.{held}
use Rattle.mx_top.proofs.ConsumedLaws.{consumed_more}
use Rattle.mx_top.proofs.ProgressLaws.{ends_well, ends_stopped, ends_unanswered, ends_unwritten, same_unit, goes_on, moves}
use Rattle.mx_top.proofs.trace.step.Goals as goal

pub returns-in_err-head-clause-others : goal.returns-in_err-head-clause-others
returns-in_err-head-clause-others g c = steps_none KeepsOthers (g.D.Dir.states c.args.dir.now)

pub returns-in_default-clause-others : goal.returns-in_default-clause-others
returns-in_default-clause-others g c = steps_none KeepsOthers (g.D.Dir.states c.args.dir.now)

pub returns-in_err-head-clause-told : goal.returns-in_err-head-clause-told
returns-in_err-head-clause-told g c = λ bytes left units told read.
    let t = c.in_err-head.ensures.told left told in
    let p = err_from_is_err_and c.from_residual.result c.from_residual.ensures.1 in
    let now = consumed_more bytes c.args.intake.now left c.next_unit.new.intake t.0 c.args.place units read t.2 c.next_unit.ensures.longer in
    rw (p.1, p.2) (
      t.0,
      t.1,
      ends_stopped bytes c.next_unit.new.intake t.0 c.args.place c.args.node.now units
          (held (g.K.Sink.contents c.args.output.now) (g.K.Sink.passed c.args.output.now)) (g.D.Dir.states c.args.dir.now) c.in_err-head.field-0.0 now t.3,
    )

pub returns-in_default-clause-told : goal.returns-in_default-clause-told
returns-in_default-clause-told g c = λ bytes left units told read.
    let t = c.in_ok-head.ensures.told left told in
    let none = rw c.in_default.is at t.3 in
    let now = consumed_more bytes c.args.intake.now left c.next_unit.new.intake t.0 c.args.place units read t.2 c.next_unit.ensures.longer in (
      t.0,
      t.1,
      ends_well bytes c.next_unit.new.intake t.0 c.args.place c.args.node.now units
          (held (g.K.Sink.contents c.args.output.now) (g.K.Sink.passed c.args.output.now)) (g.D.Dir.states c.args.dir.now) now none,
    )

pub returns-in_err-answer_unit-clause-told : goal.returns-in_err-answer_unit-clause-told
returns-in_err-answer_unit-clause-told g c = λ bytes left units told read.
    let t = c.in_ok-head.ensures.told left told in
    let p = err_from_is_err_and c.from_residual-in_err-answer_unit.result c.from_residual-in_err-answer_unit.ensures.1 in
    let waiting = c.next_unit.new.intake in
    let size = c.in-Some.head.size in
    let found = rw c.in-Some.is at t.3 in
    let now = consumed_more bytes c.args.intake.now left waiting t.0 c.args.place units read t.2 c.next_unit.ensures.longer in
    let content : c.split_at-2.result.0.now ≡ take size (drop 9 waiting) =
    c.split_at-2.ensures.front ∙ ap (λ (l : List ℕ). take size l) (c.split_at.ensures.back ∙ ap (λ (l : List ℕ). drop 9 l) c.as_slice.ensures) in
    rw (p.1, p.2) (
      t.0,
      t.1,
      ends_unanswered bytes waiting t.0 (drop size (drop 9 waiting)) (unit_by (head_view c.in-Some.head) c.split_at-2.result.0.now) c.args.place
          c.args.node.now c.answer_unit.new.node units
          (held (g.K.Sink.contents c.args.output.now) (g.K.Sink.passed c.args.output.now)) (g.D.Dir.states c.args.dir.now) (g.D.Dir.states c.answer_unit.new.dir) c.in_err-answer_unit.field-0.0 now
          (same_unit c.args.place waiting (take size (drop 9 waiting)) c.split_at-2.result.0.now (drop size (drop 9 waiting))
          (drop size (drop 9 waiting)) (head_view c.in-Some.head) found content refl)
          c.in_err-answer_unit.ensures.stops (λ start history serves. c.in_err-answer_unit.ensures.breaks start units history serves),
    )

pub returns-in-Ok-clause-told : goal.returns-in-Ok-clause-told
returns-in-Ok-clause-told g c = λ bytes left units told read.
    let t = c.in_ok-head.ensures.told left told in
    let waiting = c.next_unit.new.intake in
    let size = c.in-Some.head.size in
    let found = rw c.in-Some.is at t.3 in
    let fits = rw c.in-Some.is at c.in_ok-head.ensures.whole in
    let now = consumed_more bytes c.args.intake.now left waiting t.0 c.args.place units read t.2 c.next_unit.ensures.longer in
    let content : c.split_at-2.result.0.now ≡ take size (drop 9 waiting) =
    c.split_at-2.ensures.front ∙ ap (λ (l : List ℕ). take size l) (c.split_at.ensures.back ∙ ap (λ (l : List ℕ). drop 9 l) c.as_slice.ensures) in
    let after : c.consume.new.self ≡ drop size (drop 9 waiting) = c.consume.ensures ∙ sym (drop-drop size 9 waiting) in
    let unit = unit_by (head_view c.in-Some.head) c.split_at-2.result.0.now in
    let here = same_unit c.args.place waiting (take size (drop 9 waiting)) c.split_at-2.result.0.now (drop size (drop 9 waiting))
    c.consume.new.self (head_view c.in-Some.head) found content after in
    let moved : (c.args.place + (9 + size)) + length c.consume.new.self ≡ c.args.place + length waiting =
    moves c.args.place size waiting c.consume.new.self c.consume.ensures fits.0 in (
      t.0,
      t.1,
      goes_on bytes waiting t.0 c.consume.new.self c.answer_unit.new.out.items unit
          c.args.place (c.args.place + (9 + size)) c.args.node.now c.answer_unit.new.node units (held (g.K.Sink.contents c.args.output.now) (g.K.Sink.passed c.args.output.now)) (held (g.K.Sink.contents c.deliver.new.output) (g.K.Sink.passed c.deliver.new.output))
          (g.D.Dir.states c.args.dir.now) (g.D.Dir.states c.answer_unit.new.dir) now here moved
          (λ start history serves. c.in_ok-answer_unit.ensures.took start units history serves)
          (λ before was. let d = c.in-Ok.ensures.told before was in d.1 ∙ ap (λ (l : List ℕ). Some (before ++ l)) (d.3 ∙ c.deref.ensures.value))
          c.in-Ok.ensures.passed,
    )

pub returns-in-Err-clause-told : goal.returns-in-Err-clause-told
returns-in-Err-clause-told g c = λ bytes left units told read.
    let t = c.in_ok-head.ensures.told left told in
    let waiting = c.next_unit.new.intake in
    let size = c.in-Some.head.size in
    let found = rw c.in-Some.is at t.3 in
    let now = consumed_more bytes c.args.intake.now left waiting t.0 c.args.place units read t.2 c.next_unit.ensures.longer in
    let content : c.split_at-2.result.0.now ≡ take size (drop 9 waiting) =
    c.split_at-2.ensures.front ∙ ap (λ (l : List ℕ). take size l) (c.split_at.ensures.back ∙ ap (λ (l : List ℕ). drop 9 l) c.as_slice.ensures) in (
      t.0,
      t.1,
      ends_unwritten bytes waiting t.0 (drop size (drop 9 waiting)) c.answer_unit.new.out.items
          (unit_by (head_view c.in-Some.head) c.split_at-2.result.0.now) c.args.place c.args.node.now c.answer_unit.new.node units
          (held (g.K.Sink.contents c.args.output.now) (g.K.Sink.passed c.args.output.now)) (held (g.K.Sink.contents c.deliver.new.output) (g.K.Sink.passed c.deliver.new.output))
          (g.D.Dir.states c.args.dir.now) (g.D.Dir.states c.answer_unit.new.dir) now
          (same_unit c.args.place waiting (take size (drop 9 waiting)) c.split_at-2.result.0.now (drop size (drop 9 waiting))
          (drop size (drop 9 waiting)) (head_view c.in-Some.head) found content refl)
          (λ start history serves. c.in_ok-answer_unit.ensures.took start units history serves)
          (λ before was. let d = c.in-Err.ensures.told before was in (d.0, d.1, subst (IsPrefix d.0) c.deref.ensures.value d.2)) c.deliver.ensures.passes,
    )
