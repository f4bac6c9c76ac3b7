use Rattle.std.proofs.Common.{sym, ap, ◌∙◌, nat_cmp}
use Rattle.std.specs.BTreeMap.{get_by}
use Rattle.mx_schema.specs.Catalogues.{schema_of}
use Rattle.mx_schema.specs.SpaceRows.{space_in}
use Rattle.mx_schema.specs.State.{space_rows, without_tuple}
use Rattle.mx_write.proofs.DescriptionLaws.{this_space_dropped}
use Rattle.mx_write.proofs.EachSpaceLaws.{no_tuples_left, space_went}
use Rattle.mx_slow_state.proofs.SlowChangeLaws.{kept}
use Rattle.mx_slow_state.proofs.slow_state.changes.remove_space.Goals as goal

pub returns : goal.returns
returns c = λ before key keeps sound fit bytes changes stands.
    let row = c.args.row.now.tuple in
    let def = c.in-Some.def in
    let old = this_space_dropped before sound key row def changes stands (ap space_in (sym c.as_slice.ensures) ∙ sym c.in_ok-def.ensures ∙ c.in-Some.is) in
    space_went before key row def old (kept (λ q. get_by (nat_cmp q) c.drop_space.new.spaces))
    (c.drop_space.ensures (schema_of before) (without_tuple before space_rows key)
    (c.take_from.ensures (schema_of before) before changes.schema key keeps changes.described fit bytes) (no_tuples_left before key row def old sound))
