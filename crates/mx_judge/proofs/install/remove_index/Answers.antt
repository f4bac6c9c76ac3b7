use Rattle.std.proofs.Common.{None, sym, ap, ◌∙◌}
use Rattle.mx_schema.specs.Catalogues.{schema_of}
use Rattle.mx_schema.specs.IndexRows.{index_in}
use Rattle.mx_schema.specs.State.{index_rows, without_tuple}
use Rattle.mx_write.proofs.DescriptionLaws.{this_index_dropped}
use Rattle.mx_write.proofs.EachSpaceLaws.{index_went}
use Rattle.mx_judge.proofs.InstallLaws.{held, held_after}
use Rattle.mx_judge.proofs.install.remove_index.Goals as goal

pub returns : goal.returns
returns c = λ before key holds fit bytes changes stands.
    let row = c.args.row.now.tuple in
    let index = c.in-Some.index in
    let old = this_index_dropped before holds.sound key row index changes stands (ap index_in (sym c.as_slice.ensures) ∙ sym c.in_ok-index.ensures ∙ c.in-Some.is) in
    held_after before c.args.state.now holds index_rows key fit None changes c.drop_index.new.self
    (index_went before key row index old (held c.drop_index.new.self) holds.sound
    (c.drop_index.ensures.drops (schema_of before) (without_tuple before index_rows key) old.schema
    (c.in_ok-remove.ensures.ok (schema_of before) before changes.schema changes.primary key holds.spaces changes.described changes.there fit bytes) old.there))
