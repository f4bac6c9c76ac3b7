use Rattle.mx_msgpack.proofs.ItemLaws.{items_spelled, items_each}
use Rattle.mx_tuple.proofs.laws.a_field_is_a_value.Goals as goal

pub returns : goal.returns
returns c = record {
  spelled = λ tuple items. items_spelled tuple.bytes tuple.fields items;
  each = λ tuple values items s. items_each tuple.bytes tuple.fields values items s;
}
