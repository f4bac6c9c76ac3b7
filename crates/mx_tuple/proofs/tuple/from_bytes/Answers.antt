use Rattle.std.proofs.Common.{List, ℕ, Some, ap, sym, subst, ◌∙◌}
use Rattle.mx_tuple.specs.Fields.{HasPlaces, tuple_of}
use Rattle.mx_tuple.proofs.FieldLaws.{items_within, tuple_made}
use Rattle.mx_tuple.proofs.tuple.from_bytes.Goals as goal

pub overflow_sub-start : goal.overflow_sub-start
overflow_sub-start c = items_within c.args.bytes.now c.in-Some.items.count c.in-Some.items.bytes.now (sym c.in-Some.ensures)

pub invariant_of-result : goal.invariant_of-result
invariant_of-result c =
    subst (λ (l : List ℕ). HasPlaces (tuple_of l) c.in_ok-places.places.items) (sym c.in_ok-bytes.ensures)
    (tuple_made c.args.bytes.now _ c.in-Some.items.count c.in-Some.items.bytes.now (sym c.in-Some.ensures) c.in_ok-places.ensures)

pub returns : goal.returns
returns c =
    let made = tuple_made c.args.bytes.now _ c.in-Some.items.count c.in-Some.items.bytes.now (sym c.in-Some.ensures) c.in_ok-places.ensures in
    (c.in_ok-bytes.ensures, made.items ∙ ap (λ (l : List ℕ). Some (tuple_of l).fields) (sym c.in_ok-bytes.ensures))
