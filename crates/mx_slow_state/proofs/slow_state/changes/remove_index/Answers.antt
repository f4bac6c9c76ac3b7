use Rattle.std.proofs.Common.{sym, ap, ◌∙◌, nat_cmp}
use Rattle.std.specs.BTreeMap.{get_by}
use Rattle.mx_schema.specs.Catalogues.{schema_of}
use Rattle.mx_schema.specs.IndexRows.{index_in}
use Rattle.mx_schema.specs.State.{index_rows, without_tuple}
use Rattle.mx_write.proofs.DescriptionLaws.{this_index_dropped}
use Rattle.mx_write.proofs.EachSpaceLaws.{index_went}
use Rattle.mx_slow_state.proofs.SlowChangeLaws.{kept}
use Rattle.mx_slow_state.proofs.slow_state.changes.remove_index.Goals as goal

pub returns : goal.returns
returns c = λ before key keeps sound fit bytes changes stands.
    let row = c.args.row.now.tuple in
    let index = c.in-Some.index in
    let old = this_index_dropped before sound key row index changes stands (ap index_in (sym c.as_slice.ensures) ∙ sym c.in_ok-index.ensures ∙ c.in-Some.is) in
    index_went before key row index old (kept (λ q. get_by (nat_cmp q) c.drop_index.new.spaces)) sound
    (c.drop_index.ensures (schema_of before) (without_tuple before index_rows key) old.schema
    (c.take_from.ensures (schema_of before) before changes.schema key keeps changes.described fit bytes) old.there)
