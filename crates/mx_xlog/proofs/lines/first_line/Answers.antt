use Rattle.std.proofs.Common.{◌≡◌, ◌+◌, suc, take, subst, ◌∙◌, arith}
use Rattle.std.proofs.lemmas.List.{take_all}
use Rattle.mx_xlog.specs.Lines.{IsLine}
use Rattle.mx_xlog.proofs.LineLaws.{line_longer, around_newline, no_newline}
use Rattle.mx_xlog.proofs.lines.first_line.Goals as goal

pub loop-at-init : goal.loop-at-init
loop-at-init c = tt

pub returns-then-byte-eq10 : goal.returns-then-byte-eq10
returns-then-byte-eq10 c =
    let bytes = c.args.bytes.now in
    let next : c.loop-at.at + 1 ≡ suc c.loop-at.at = omega arith in (
      rw c.split_at.ensures.front c.loop-at.invariant,
      rw (c.split_at.ensures.front, c.split_at-then-byte-eq10.ensures.back, next) (around_newline bytes c.loop-at.at c.loop-at-test.true c.if-byte-eq10.true),
    )

pub loop-at-preserved : goal.loop-at-preserved
loop-at-preserved c =
    let next : suc c.loop-at.at ≡ c.loop-at.at + 1 = omega arith in
    subst (λ n. IsLine (take n c.args.bytes.now)) next (line_longer c.args.bytes.now c.loop-at.at c.loop-at-test.true c.if-byte-eq10.false c.loop-at.invariant)

pub returns : goal.returns
returns c = λ line rest is.
    no_newline line rest (subst IsLine (take_all c.loop-at.at c.args.bytes.now (omega arith) ∙ is) c.loop-at.invariant)
