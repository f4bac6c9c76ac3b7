use Rattle.std.proofs.Common.{sym, ◌∙◌}
use Rattle.mx_recover.proofs.ReplayLaws.{schema_row_found, still_no_schema_row}
use Rattle.mx_recover.proofs.replay.has_schema_row.Goals as goal

pub returns-then-is_schema_row : goal.returns-then-is_schema_row
returns-then-is_schema_row c =
    sym (schema_row_found c.args.rows.now c.loop-row.row-index _ c.loop-row-test.true (sym c.is_schema_row.ensures ∙ c.if-is_schema_row.true))

pub loop-row-preserved : goal.loop-row-preserved
loop-row-preserved c =
    still_no_schema_row c.args.rows.now c.loop-row.row-index _ c.loop-row-test.true c.loop-row.invariant (sym c.is_schema_row.ensures ∙ c.if-is_schema_row.false)
