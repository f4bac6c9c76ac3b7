use Rattle.std.proofs.Common.{sym, ◌∙◌, arith, true≢false}
use Rattle.std.specs.Prelude.{codes}
use Rattle.std.proofs.lemmas.List.{append_cancel_left}
use Rattle.mx_xlog.specs.Lines.{TellsReplica}
use Rattle.mx_xlog.proofs.ValueLaws.{one_more}
use Rattle.mx_xlog.proofs.lines.replica_in.Goals as goal
use Rattle.mx_xlog.proofs.lines.replica_in.Goals.{else-id-ne1-via-then-id-ne1+else-spells, else-id-ne1-via-else-id-ne1}

pub loop-id-init : goal.loop-id-init
loop-id-init c = λ id below told. omega arith

pub loop-id-preserved : goal.loop-id-preserved
loop-id-preserved c = one_more (λ id. TellsReplica id c.args.line.now) c.loop-id.id c.loop-id.invariant (elim c.else-id-ne1.branch [
  | else-id-ne1-via-then-id-ne1+else-spells w ↦ λ told.
      true≢false (sym (w.spells.ensures.1 (append_cancel_left (codes "Replica: ") _ _ (sym c.in_ok-text.ensures ∙ told.is))) ∙ w.if-spells.false)
  | else-id-ne1-via-else-id-ne1 w ↦ λ told. told.other w.if-id-ne1.false
])

pub returns : goal.returns
returns c = λ id told. c.loop-id.invariant id (omega (arith, told.below)) told
