use Rattle.std.proofs.Common.{length, ap, arith, ◌∙◌}
use Rattle.mx_tuple.specs.Fields.{TupleValue, tuple_of}
use Rattle.mx_tuple.proofs.FieldLaws.{counted}
use Rattle.mx_tuple.proofs.tuple.Tuple.count.Goals as goal

pub returns : goal.returns
returns c =
    counted (tuple_of c.self.inside.bytes) c.self.inside.places.items c.self.invariant c.try_from.result c.len.result c.saturating_sub.result c.unwrap_or.result
    (omega (arith, c.len.ensures, c.self.inside.places.ok.0)) c.saturating_sub.ensures c.try_from.ensures c.unwrap_or.ensures
    ∙ ap (λ (t : TupleValue). length t.fields) c.self.view_is
