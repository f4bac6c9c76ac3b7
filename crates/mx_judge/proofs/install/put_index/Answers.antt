use Rattle.std.proofs.Common.{Some, sym, ap, ◌∙◌}
use Rattle.mx_schema.specs.Catalogues.{schema_of}
use Rattle.mx_schema.specs.IndexRows.{index_in}
use Rattle.mx_schema.specs.SchemaChanges.{schema_with_index}
use Rattle.mx_schema.specs.State.{index_rows}
use Rattle.mx_write.proofs.DescriptionLaws.{this_index_added}
use Rattle.mx_write.proofs.EachSpaceLaws.{beside_primary, index_came, index_rows_there, index_taken_back, indexed_there, with_index}
use Rattle.mx_judge.proofs.InstallLaws.{held, held_after, held_before}
use Rattle.mx_judge.proofs.install.put_index.Goals as goal

pub returns-in-Err : goal.returns-in-Err
returns-in-Err c = λ before key holds fit bytes changes.
    held_before before c.args.state.now c.add_index.new.self holds (c.in-Err.ensures.err (schema_of before) before holds.spaces)

pub returns-in-Ok-put : goal.returns-in-Ok-put
returns-in-Ok-put c = λ before key holds fit bytes changes.
    let row = c.args.row.tuple in
    let index = c.in-Some.index in
    let new = this_index_added before holds.sound key row index changes (ap index_in (sym c.as_slice.ensures) ∙ sym c.in_ok-index.ensures ∙ c.in-Some.is) in
    let added = (c.in-Ok.ensures.builds (schema_of before) before new.schema holds.spaces new.there new.first (beside_primary before key row index new)).1 in
    held_after before c.args.state.now holds index_rows key fit (Some row) changes c.put.new.self
    (index_came before key row index new (held c.put.new.self) holds.sound
    (c.in-Ok-put.ensures.ok (with_index before key row index new) before changes.schema changes.primary key added
    (index_rows_there before key row index new changes.schema changes.described) changes.there changes.fits.own fit bytes))

pub returns-in-Err-put : goal.returns-in-Err-put
returns-in-Err-put c = λ before key holds fit bytes changes.
    let row = c.args.row.tuple in
    let index = c.in-Some.index in
    let new = this_index_added before holds.sound key row index changes (ap index_in (sym c.as_slice.ensures) ∙ sym c.in_ok-index.ensures ∙ c.in-Some.is) in
    let added = (c.in-Ok.ensures.builds (schema_of before) before new.schema holds.spaces new.there new.first (beside_primary before key row index new)).1 in
    held_before before c.args.state.now c.drop_index.new.self holds
    (index_taken_back before key row index new (held c.drop_index.new.self) holds.sound
    (c.drop_index.ensures.drops (with_index before key row index new) before (schema_with_index index.def new.schema)
    (c.in-Err-put.ensures.err (with_index before key row index new) before added)
    (indexed_there before key row index new)))
