use Rattle.std.proofs.Common.{◌∙◌, ◌-◌, ◌^◌, Some, ap, arith, refl, sym}
use Rattle.mx_msgpack.specs.Items.{values_from}
use Rattle.mx_msgpack.proofs.ItemLaws.{values_count}
use Rattle.mx_schema.specs.SpaceRows.{entries_among, entry_in}
use Rattle.mx_schema.proofs.GatherLaws.{gathered, gathered_all, gathered_count, taken_whole}
use Rattle.mx_schema.proofs.format_row.entries_among.Goals as goal

pub loop-left-preserved : goal.loop-left-preserved
loop-left-preserved c =
    rw c.in_ok-push.ensures.items
    (gathered entry_in entries_among (λ spelling others. refl) c.loop-left.left c.loop-left.rest.now c.parted.result.0.now c.parted.result.1.now c.loop-left.entries.items _ _
    c.loop-left-test.true c.parted.ensures.first c.parted.ensures.after (ap Some c.in_ok-owned.ensures ∙ c.in-Some.ensures) c.loop-left.invariant)

pub returns : goal.returns
returns c =
    let count = c.args.array.count in
    let bytes = c.args.array.bytes.now in
    let items = c.loop-left.entries.items in
    let all = gathered_all entries_among c.loop-left.left c.loop-left.rest.now items _ refl c.loop-left-test.false c.loop-left.invariant in
    let many = gathered_count entry_in entries_among (λ spelling others. refl) refl (values_from count bytes) items (sym all) ∙ values_count count bytes in
    taken_whole c.from_vec.result items (2 ^ 32 - 1) c.from_vec.ensures (omega arith) ∙ all
