use Rattle.std.proofs.Common.{[], sym, subst}
use Rattle.std.specs.List.{AllZip}
use Rattle.mx_slow.specs.Slow.{KeepCommits, KeepsTransaction}
use Rattle.mx_slow.proofs.slow.Slow.new.Goals as goal

pub returns : goal.returns
returns c = λ base holds clock ids. record {
  ids = ids;
  clock = clock;
  first = c.in_ok-new.ensures base.state holds;
  commits = subst (λ l. KeepCommits base.state l []) (sym c.new-2.ensures.items) tt;
  transactions = subst (λ l. AllZip KeepsTransaction l []) (sym c.new-3.ensures.items) tt;
}
