use Rattle.std.proofs.Common.{◌+◌, List, length, ℕ, sym, ap, ◌∙◌, arith, min}
use Rattle.std.specs.List.{slice_get}
use Rattle.mx_key.proofs.SliceLaws.{no_slice, place_read, slice_read}
use Rattle.mx_key.proofs.fields.FieldSlices.field.Goals as goal

pub returns-in_err-from : goal.returns-in_err-from
returns-in_err-from c =
    rw c.from_residual.ensures
    (sym (no_slice c.self.inside.bytes.now c.self.inside.places.now c.args.n (omega (arith, c.in_err-from.ensures.lookup.3)))
    ∙ ap (λ (fields : List (List ℕ)). slice_get fields c.args.n) c.self.view_is)

pub returns-in_err-to : goal.returns-in_err-to
returns-in_err-to c =
    rw c.from_residual-in_err-to.ensures
    (sym (no_slice c.self.inside.bytes.now c.self.inside.places.now c.args.n (omega (arith, c.in_err-to.ensures.lookup.3)))
    ∙ ap (λ (fields : List (List ℕ)). slice_get fields c.args.n) c.self.view_is)

pub returns : goal.returns
returns c =
    let places = c.self.inside.places.now in
    let found = c.in_ok-from.ensures.lookup in
    let next = c.in_ok-to.ensures.lookup in
    slice_read c.self.inside.bytes.now places c.args.n c.in_ok-from.field-0.now c.in_ok-to.field-0.now
    (place_read places c.args.n c.in_ok-from.field-0.now found.3.0 found.1)
    (place_read places (c.args.n + 1) c.in_ok-to.field-0.now next.3.0 next.1)
    c.min.result c.min-2.result c.split_at.result.1.now c.split_at-2.result.0.now c.min.ensures c.split_at.ensures.back
    (c.min-2.ensures ∙ ap (λ (k : ℕ). min k (length c.split_at.result.1.now)) c.saturating_sub.ensures) c.split_at-2.ensures.front
    ∙ ap (λ (fields : List (List ℕ)). slice_get fields c.args.n) c.self.view_is
