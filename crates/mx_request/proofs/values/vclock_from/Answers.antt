use Rattle.std.proofs.Common.{◌∙◌, sym}
use Rattle.mx_request.proofs.ValueLaws.{clock_turn}
use Rattle.mx_request.proofs.values.vclock_from.Goals as goal

pub loop-left-preserved : goal.loop-left-preserved
loop-left-preserved c =
    clock_turn c.loop-left.clock c.set.new.self _ c.loop-left.left c.in_ok-id.id c.in_ok-lsn.lsn c.loop-left.rest.now c.first_pair.result.1.now c.first_pair.result.0.value.now c.loop-left-test.true
    (rw c.in_ok-id.was at c.first_pair.ensures) (sym c.in_ok-lsn.was ∙ c.number_to.ensures.value) c.if-id-ge-REPLICAS.false c.set.ensures c.loop-left.invariant
