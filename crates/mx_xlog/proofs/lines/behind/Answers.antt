use Rattle.mx_xlog.proofs.LineLaws.{no_prefix}
use Rattle.mx_xlog.proofs.lines.behind.Goals as goal

pub returns-then-not-starts_with : goal.returns-then-not-starts_with
returns-then-not-starts_with c = no_prefix c.args.line.now c.args.prefix.now c.if-not-starts_with.ensures.value
