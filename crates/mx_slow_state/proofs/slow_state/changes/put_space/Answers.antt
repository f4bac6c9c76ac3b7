use Rattle.std.proofs.Common.{sym, ap, ◌∙◌, nat_cmp}
use Rattle.std.specs.BTreeMap.{get_by}
use Rattle.mx_schema.specs.Catalogues.{schema_of}
use Rattle.mx_schema.specs.SpaceRows.{space_in}
use Rattle.mx_schema.specs.State.{space_rows}
use Rattle.mx_write.proofs.DescriptionLaws.{this_space_added}
use Rattle.mx_write.proofs.EachSpaceLaws.{space_came, space_rows_there, space_taken_back, with_space}
use Rattle.mx_slow_state.proofs.SlowChangeLaws.{kept, put_under}
use Rattle.mx_slow_state.proofs.slow_state.changes.put_space.Goals as goal

pub returns-in-Ok : goal.returns-in-Ok
returns-in-Ok c = λ before key keeps sound fit bytes changes.
    let row = c.args.row.tuple in
    let def = c.in-Some.def in
    let new = this_space_added before sound key row def changes (ap space_in (sym c.as_slice.ensures) ∙ sym c.in_ok-def.ensures ∙ c.in-Some.is) in
    let added = c.in_ok-add_space.ensures.ok (schema_of before) before keeps new.absent in
    space_came before key row def new (kept (λ q. get_by (nat_cmp q) c.put_into.new.spaces)) sound
    (c.in-Ok.ensures.ok (with_space before key row def new) before changes.schema key added (space_rows_there before key row def new changes.schema changes.described)
    (put_under before space_rows key row changes) fit bytes)

pub returns-in-Err : goal.returns-in-Err
returns-in-Err c = λ before key keeps sound fit bytes changes.
    let row = c.args.row.tuple in
    let def = c.in-Some.def in
    let new = this_space_added before sound key row def changes (ap space_in (sym c.as_slice.ensures) ∙ sym c.in_ok-def.ensures ∙ c.in-Some.is) in
    let added = c.in_ok-add_space.ensures.ok (schema_of before) before keeps new.absent in
    space_taken_back before key row def new (kept (λ q. get_by (nat_cmp q) c.drop_space.new.spaces))
    (c.drop_space.ensures (with_space before key row def new) before (c.in-Err.ensures.err (with_space before key row def new) before added) new.no_tuples)
