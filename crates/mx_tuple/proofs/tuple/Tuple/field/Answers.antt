use Rattle.std.proofs.Common.{◌+◌, ap, ◌∙◌}
use Rattle.std.specs.List.{slice_get}
use Rattle.mx_tuple.specs.Fields.{TupleValue, tuple_of}
use Rattle.mx_tuple.proofs.FieldLaws.{place_read, none_from, none_to, part_read}
use Rattle.mx_tuple.proofs.tuple.Tuple.field.Goals as goal

pub returns-in_err-from : goal.returns-in_err-from
returns-in_err-from c =
    rw c.from_residual.ensures
    (none_from (tuple_of c.self.inside.bytes) c.self.inside.places.items c.self.invariant c.deref.result.now c.args.n c.deref.ensures.value c.in_err-from.ensures.lookup.3
    ∙ ap (λ (t : TupleValue). slice_get t.fields c.args.n) c.self.view_is)

pub returns-in_err-to : goal.returns-in_err-to
returns-in_err-to c =
    let found = c.in_ok-from.ensures.lookup in
    let from = place_read c.self.inside.places.items c.deref.result.now c.args.n c.in_ok-from.field-0.now c.deref.ensures.value found.3.0 found.1 in
    rw c.from_residual-in_err-to.ensures
    (none_to (tuple_of c.self.inside.bytes) c.self.inside.places.items c.self.invariant c.deref-2.result.now c.args.n c.in_ok-from.field-0.now from c.deref-2.ensures.value
    c.in_err-to.ensures.lookup.3
    ∙ ap (λ (t : TupleValue). slice_get t.fields c.args.n) c.self.view_is)

pub returns : goal.returns
returns c =
    let found = c.in_ok-from.ensures.lookup in
    let next = c.in_ok-to.ensures.lookup in
    let places = c.self.inside.places.items in
    part_read (tuple_of c.self.inside.bytes) places c.self.invariant c.args.n c.in_ok-from.field-0.now c.in_ok-to.field-0.now c.as_slice.result.now c.get-3.result
    (place_read places c.deref.result.now c.args.n c.in_ok-from.field-0.now c.deref.ensures.value found.3.0 found.1)
    (place_read places c.deref-2.result.now (c.args.n + 1) c.in_ok-to.field-0.now c.deref-2.ensures.value next.3.0 next.1)
    c.as_slice.ensures c.get-3.ensures.lookup
    ∙ ap (λ (t : TupleValue). slice_get t.fields c.args.n) c.self.view_is
