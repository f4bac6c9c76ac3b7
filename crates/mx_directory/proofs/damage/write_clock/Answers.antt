use Rattle.std.proofs.Common.{rules, ◌++◌}
use Rattle.std.specs.Prelude.{codes, decimal}
use Rattle.std.proofs.Output.{has_written_append, has_written_of_eq}
use Rattle.mx_directory.proofs.DamageLaws.{begins_none, begins_skipped, begins_shown, begins_all}
use Rattle.mx_directory.proofs.damage.write_clock.Goals as goal
use Rattle.mx_directory.proofs.damage.write_clock.Goals.{then-lsn-ne0+in_ok-write-2, else-lsn-ne0}

pub loop-id-init : goal.loop-id-init
loop-id-init g c = record {
  utf8 = search rules;
  written = λ plain. (codes "{", search rules, begins_none c.args.clock.now);
}

pub loop-id-preserved : goal.loop-id-preserved
loop-id-preserved g c =
    elim c.if-lsn-ne0.branch [
      | then-lsn-ne0+in_ok-write-2 w ↦ record {
        utf8 = rw w.between-is (search rules);
        written = λ plain. rw (w.f-is, w.between-is) (
            let so_far = c.loop-id.invariant.written plain in (
              so_far.0 ++ (c.loop-id.between.now ++ (decimal c.loop-id.id-counter ++ (codes ": " ++ decimal c.get-lsn.result))),
              has_written_append _ _ _ _ _ _ so_far.1 (search rules),
              begins_shown so_far.0 c.loop-id.between.now c.args.clock.now c.loop-id.id-counter c.get-lsn.result c.loop-id-test.true c.get-lsn.ensures so_far.2 w.if-lsn-ne0.true,
            )
            );
      }
      | else-lsn-ne0 w ↦ record {
        utf8 = rw w.between-is c.loop-id.invariant.utf8;
        written = λ plain. rw (w.f-is, w.between-is) (
            let so_far = c.loop-id.invariant.written plain in
            (so_far.0, so_far.1, begins_skipped so_far.0 c.loop-id.between.now c.args.clock.now c.loop-id.id-counter c.get-lsn.result c.loop-id-test.true c.get-lsn.ensures so_far.2 w.if-lsn-ne0.false)
            );
      }
    ]

pub returns : goal.returns
returns g c = λ plain ok.
    let so_far = c.loop-id.invariant.written plain in
    has_written_of_eq _ _ _ _ _ (begins_all so_far.0 c.loop-id.between.now c.args.clock.now c.loop-id.id-counter c.loop-id-test.false so_far.2)
    (has_written_append _ _ _ _ _ _ so_far.1 (c.write-2.ensures.writes so_far.1.plain ok))
