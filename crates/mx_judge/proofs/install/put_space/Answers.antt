use Rattle.std.proofs.Common.{Some, sym, ap, ◌∙◌}
use Rattle.mx_schema.specs.Catalogues.{schema_of}
use Rattle.mx_schema.specs.SpaceRows.{space_in}
use Rattle.mx_schema.specs.State.{space_rows}
use Rattle.mx_write.proofs.DescriptionLaws.{this_space_added}
use Rattle.mx_write.proofs.EachSpaceLaws.{space_came, space_rows_there, space_taken_back, with_space}
use Rattle.mx_judge.proofs.InstallLaws.{held, held_after, held_before}
use Rattle.mx_judge.proofs.install.put_space.Goals as goal

pub returns-in-Ok : goal.returns-in-Ok
returns-in-Ok c = λ before key holds fit bytes changes.
    let memory = c.args.state.now in
    let row = c.args.row.tuple in
    let def = c.in-Some.def in
    let new = this_space_added before holds.sound key row def changes (ap space_in (sym c.as_slice.ensures) ∙ sym c.in_ok-def.ensures ∙ c.in-Some.is) in
    let added = c.in_ok-add_space.ensures.ok (schema_of before) before holds.spaces new.absent in
    held_after before memory holds space_rows key fit (Some row) changes c.put.new.self
    (space_came before key row def new (held c.put.new.self) holds.sound
    (c.in-Ok.ensures.ok (with_space before key row def new) before changes.schema changes.primary key added
    (space_rows_there before key row def new changes.schema changes.described) changes.there changes.fits.own fit bytes))

pub returns-in-Err : goal.returns-in-Err
returns-in-Err c = λ before key holds fit bytes changes.
    let memory = c.args.state.now in
    let row = c.args.row.tuple in
    let def = c.in-Some.def in
    let new = this_space_added before holds.sound key row def changes (ap space_in (sym c.as_slice.ensures) ∙ sym c.in_ok-def.ensures ∙ c.in-Some.is) in
    let added = c.in_ok-add_space.ensures.ok (schema_of before) before holds.spaces new.absent in
    held_before before memory c.drop_space.new.self holds
    (space_taken_back before key row def new (held c.drop_space.new.self)
    (c.drop_space.ensures.drops (with_space before key row def new) before
    (c.in-Err.ensures.err (with_space before key row def new) before added) new.no_tuples))
