use Rattle.std.proofs.Common.{◌+◌, ap, arith}
use Rattle.mx_recover.proofs.AppliedLaws.{applied_on, stopped_at, row_at_place}
use Rattle.mx_recover.proofs.apply.apply_tx.Goals as goal

pub apply_row-requires : goal.apply_row-requires
apply_row-requires c = record { row = row_at_place c.args.rows.now c.loop-row.row-index _ c.loop-row-test.true c.requires.rows }

pub returns-in-Err : goal.returns-in-Err
returns-in-Err c = λ before holds.
    stopped_at c.args.rows.now c.loop-row.row-index _ c.loop-row-test.true before c.loop-row.state c.apply_row.new.state
    (c.loop-row.invariant.applied before holds) c.loop-row.place c.in-Err.refusal c.fault_at.result c.loop-row.invariant.place
    (λ now. c.in-Err.ensures _ now) c.fault_at.ensures

pub loop-row-preserved : goal.loop-row-preserved
loop-row-preserved c = record {
  applied = λ before holds.
      applied_on c.args.rows.now c.loop-row.row-index _ c.loop-row-test.true before c.loop-row.state c.apply_row.new.state
      (c.loop-row.invariant.applied before holds) (c.loop-row.row-index + 1) (omega arith) (λ now. c.in_default.ensures _ now);
  place = ap (λ place. place + 1) c.loop-row.invariant.place;
}
