use Rattle.std.proofs.Common.{sym, ◌∙◌}
use Rattle.std.proofs.lemmas.Fmt.{decimal_digit}
use Rattle.mx_xlog.proofs.ValueLaws.{compared, two_digits}
use Rattle.mx_xlog.proofs.lines.spells.Goals as goal

pub returns-then-id-lt10 : goal.returns-then-id-lt10
returns-then-id-lt10 c =
    compared c.eq.result c.args.text.now c.as_slice.result.now _ c.eq.ensures (c.as_slice.ensures ∙ sym (decimal_digit c.args.id c.if-id-lt10.true))

pub returns-else-id-lt10 : goal.returns-else-id-lt10
returns-else-id-lt10 c =
    compared c.eq-else-id-lt10.result c.args.text.now c.as_slice-else-id-lt10.result.now _ c.eq-else-id-lt10.ensures
    (c.as_slice-else-id-lt10.ensures ∙ two_digits c.args.id c.if-id-lt10.false c.requires)
