use Rattle.std.proofs.Common.{◌≡◌, ◌+◌, ◌<◌, length, ◌++◌, Some, None, refl, sym, ap, ◌∙◌, arith}
use Rattle.std.proofs.lemmas.List.{length-append}
use Rattle.std.proofs.lemmas.Result.{err_from_is_err_and}
use Rattle.mx_top.specs.Units.{unit_head_at}
use Rattle.mx_top.specs.UnitViews.{head_view}
use Rattle.mx_top.proofs.UnitLaws.{append_longer, head_parts, head_rest, head_within}
use Rattle.mx_top.proofs.HeadLaws.{content_none, content_whole, content_headless, content_short, stops_reading, found_none, is_enough, not_enough}
use Rattle.mx_top.proofs.units.next_unit.Goals as goal

pub returns-in_default-clause-told : goal.returns-in_default-clause-told
returns-in_default-clause-told g c = λ left told.
    let t = c.in_ok-fill.ensures.told left told in
    let long = is_enough c.in_ok-fill.field-0 9 (length c.fill.new.self) c.if-not-branch.false c.in_ok-fill.ensures.enough.0 in
    let headless : unit_head_at c.args.place c.fill.new.self ≡ None = ap (unit_head_at c.args.place) (sym c.as_slice.ensures) ∙ sym c.in_default.ensures in
    let some : 0 < length (c.fill.new.self ++ t.0) = omega (arith, length-append c.fill.new.self t.0) in
    (t.0, t.1, t.2, (refl, content_headless c.args.place c.fill.new.self t.0 long headless, some))

pub returns-then-not-branch-2-clause-told : goal.returns-then-not-branch-2-clause-told
returns-then-not-branch-2-clause-told g c = λ left told.
    let t = c.in_ok-fill.ensures.told left told in
    let u = c.in_ok-fill-2.ensures.told t.0 t.1 in
    let its = head_view c.in-Some.head in
    let head : unit_head_at c.args.place c.fill.new.self ≡ Some (head_view c.in-Some.head, c.in-Some.field-0-1.now) = ap (unit_head_at c.args.place) (sym c.as_slice.ensures) ∙ sym c.in-Some.ensures in
    let few = not_enough c.in_ok-fill-2.field-0 (9 + c.in-Some.head.size) (length c.fill-2.new.self) c.if-not-branch-2.true c.in_ok-fill-2.ensures.enough.1 in
    let none = u.3 c.if-not-branch-2.true in
    let long = length-append c.fill-2.new.self u.0 in
    let nothing = ap length none in
    let short : length (c.fill-2.new.self ++ u.0) < 9 + c.in-Some.head.size = omega arith in
    let seen = head_rest c.args.place c.fill.new.self (its, c.in-Some.field-0-1.now) head in
    let nine = seen.1 in
    let same_long = ap length u.2 ∙ long in
    let was_long = length-append c.fill.new.self t.0 in
    let some : 0 < length (c.fill-2.new.self ++ u.0) = omega arith in
    (u.0, u.1, t.2 ∙ u.2, (refl, content_short c.args.place its c.fill.new.self t.0 (c.fill-2.new.self ++ u.0) c.in-Some.field-0-1.now head u.2 short, some))

pub returns-clause-told : goal.returns-clause-told
returns-clause-told g c = λ left told.
    let t = c.in_ok-fill.ensures.told left told in
    let u = c.in_ok-fill-2.ensures.told t.0 t.1 in
    let head : unit_head_at c.args.place c.fill.new.self ≡ Some (head_view c.in-Some.head, c.in-Some.field-0-1.now) = ap (unit_head_at c.args.place) (sym c.as_slice.ensures) ∙ sym c.in-Some.ensures in
    let enough = is_enough c.in_ok-fill-2.field-0 (9 + c.in-Some.head.size) (length c.fill-2.new.self) c.if-not-branch-2.false c.in_ok-fill-2.ensures.enough.0 in
    let on = append_longer c.fill.new.self t.0 c.fill-2.new.self u.0 u.2 c.fill-2.ensures.longer in
    (u.0, u.1, t.2 ∙ u.2, content_whole c.args.place (head_view c.in-Some.head) c.fill.new.self on.0 c.fill-2.new.self c.in-Some.field-0-1.now head (sym on.1) enough)

pub returns-in_err-fill-clause-told : goal.returns-in_err-fill-clause-told
returns-in_err-fill-clause-told g c = λ left told.
    let t = c.in_err-fill.ensures.told left told in
    let p = err_from_is_err_and c.from_residual.result c.from_residual.ensures.1 in
    rw (p.1, p.2) (
      t.0,
      t.1,
      t.2,
      stops_reading c.args.place c.fill.new.self t.0 c.in_err-fill.field-0.0 c.in_err-fill.ensures.stops
          (content_none c.args.place c.fill.new.self c.in_err-fill.ensures.short),
    )

pub returns-then-not-branch-clause-told : goal.returns-then-not-branch-clause-told
returns-then-not-branch-clause-told g c = λ left told.
    let t = c.in_ok-fill.ensures.told left told in
    let few = not_enough c.in_ok-fill.field-0 9 (length c.fill.new.self) c.if-not-branch.true c.in_ok-fill.ensures.enough.1 in
    (t.0, t.1, t.2, found_none _ _ _ c.no_head.result (c.no_head.ensures.told c.fill.new.self t.0 (sym c.len.ensures) few (t.3 c.if-not-branch.true)))

pub returns-in_err-fill-2-clause-told : goal.returns-in_err-fill-2-clause-told
returns-in_err-fill-2-clause-told g c = λ left told.
    let t = c.in_ok-fill.ensures.told left told in
    let u = c.in_err-fill-2.ensures.told t.0 t.1 in
    let p = err_from_is_err_and c.from_residual-in_err-fill-2.result c.from_residual-in_err-fill-2.ensures.1 in
    let head : unit_head_at c.args.place c.fill.new.self ≡ Some (head_view c.in-Some.head, c.in-Some.field-0-1.now) = ap (unit_head_at c.args.place) (sym c.as_slice.ensures) ∙ sym c.in-Some.ensures in
    let on = append_longer c.fill.new.self t.0 c.fill-2.new.self u.0 u.2 c.fill-2.ensures.longer in
    rw (p.1, p.2) (
      u.0,
      u.1,
      t.2 ∙ u.2,
      stops_reading c.args.place c.fill-2.new.self u.0 c.in_err-fill-2.field-0.0 c.in_err-fill-2.ensures.stops
          (content_short c.args.place (head_view c.in-Some.head) c.fill.new.self on.0 c.fill-2.new.self c.in-Some.field-0-1.now head (sym on.1) c.in_err-fill-2.ensures.short),
    )

pub returns-clause-whole : goal.returns-clause-whole
returns-clause-whole g c =
    let head : unit_head_at c.args.place c.fill.new.self ≡ Some (head_view c.in-Some.head, c.in-Some.field-0-1.now) = ap (unit_head_at c.args.place) (sym c.as_slice.ensures) ∙ sym c.in-Some.ensures in
    let seen = head_rest c.args.place c.fill.new.self (head_view c.in-Some.head, c.in-Some.field-0-1.now) head in
    (is_enough c.in_ok-fill-2.field-0 (9 + c.in-Some.head.size) (length c.fill-2.new.self) c.if-not-branch-2.false c.in_ok-fill-2.ensures.enough.0, seen.2)

pub returns-clause-connection : goal.returns-clause-connection
returns-clause-connection g c =
    let head : unit_head_at c.args.place c.fill.new.self ≡ Some (head_view c.in-Some.head, c.in-Some.field-0-1.now) = ap (unit_head_at c.args.place) (sym c.as_slice.ensures) ∙ sym c.in-Some.ensures in
    let parts = head_parts c.args.place c.fill.new.self (head_view c.in-Some.head, c.in-Some.field-0-1.now) head in
    (head_within c.args.place (head_view c.in-Some.head) parts.3).0
