use Rattle.std.proofs.Common.{None, sym, ap, ◌∙◌}
use Rattle.mx_schema.specs.Catalogues.{schema_of}
use Rattle.mx_schema.specs.SpaceRows.{space_in}
use Rattle.mx_schema.specs.State.{space_rows, without_tuple}
use Rattle.mx_write.proofs.DescriptionLaws.{this_space_dropped}
use Rattle.mx_write.proofs.EachSpaceLaws.{no_tuples_left, space_went}
use Rattle.mx_judge.proofs.InstallLaws.{held, held_after}
use Rattle.mx_judge.proofs.install.remove_space.Goals as goal

pub returns : goal.returns
returns c = λ before key holds fit bytes changes stands.
    let row = c.args.row.now.tuple in
    let def = c.in-Some.def in
    let old = this_space_dropped before holds.sound key row def changes stands (ap space_in (sym c.as_slice.ensures) ∙ sym c.in_ok-def.ensures ∙ c.in-Some.is) in
    held_after before c.args.state.now holds space_rows key fit None changes c.drop_space.new.self
    (space_went before key row def old (held c.drop_space.new.self)
    (c.drop_space.ensures.drops (schema_of before) (without_tuple before space_rows key)
    (c.in_ok-remove.ensures.ok (schema_of before) before changes.schema changes.primary key holds.spaces changes.described changes.there fit bytes)
    (no_tuples_left before key row def old holds.sound)))
