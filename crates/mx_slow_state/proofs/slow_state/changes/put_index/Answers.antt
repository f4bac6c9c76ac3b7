use Rattle.std.proofs.Common.{sym, ap, ◌∙◌, nat_cmp}
use Rattle.std.specs.BTreeMap.{get_by}
use Rattle.mx_schema.specs.Catalogues.{schema_of}
use Rattle.mx_schema.specs.IndexRows.{index_in}
use Rattle.mx_schema.specs.SchemaChanges.{schema_with_index}
use Rattle.mx_schema.specs.State.{index_rows}
use Rattle.mx_write.proofs.DescriptionLaws.{this_index_added}
use Rattle.mx_write.proofs.EachSpaceLaws.{index_came, index_rows_there, index_taken_back, indexed_there, with_index}
use Rattle.mx_slow_state.proofs.SlowChangeLaws.{kept, put_under}
use Rattle.mx_slow_state.proofs.slow_state.changes.put_index.Goals as goal

pub returns-in-Ok : goal.returns-in-Ok
returns-in-Ok c = λ before key keeps sound fit bytes changes.
    let row = c.args.row.tuple in
    let index = c.in-Some.index in
    let new = this_index_added before sound key row index changes (ap index_in (sym c.as_slice.ensures) ∙ sym c.in_ok-index.ensures ∙ c.in-Some.is) in
    let added = c.in_ok-add_index.ensures.ok (schema_of before) before new.schema keeps new.there new.first in
    index_came before key row index new (kept (λ q. get_by (nat_cmp q) c.put_into.new.spaces)) sound
    (c.in-Ok.ensures.ok (with_index before key row index new) before changes.schema key added (index_rows_there before key row index new changes.schema changes.described)
    (put_under before index_rows key row changes) fit bytes)

pub returns-in-Err : goal.returns-in-Err
returns-in-Err c = λ before key keeps sound fit bytes changes.
    let row = c.args.row.tuple in
    let index = c.in-Some.index in
    let new = this_index_added before sound key row index changes (ap index_in (sym c.as_slice.ensures) ∙ sym c.in_ok-index.ensures ∙ c.in-Some.is) in
    let added = c.in_ok-add_index.ensures.ok (schema_of before) before new.schema keeps new.there new.first in
    index_taken_back before key row index new (kept (λ q. get_by (nat_cmp q) c.drop_index.new.spaces)) sound
    (c.drop_index.ensures (with_index before key row index new) before (schema_with_index index.def new.schema)
    (c.in-Err.ensures.err (with_index before key row index new) before added) (indexed_there before key row index new))
