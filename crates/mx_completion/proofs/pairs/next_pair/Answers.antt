use Rattle.std.proofs.Common.{sym, subst}
use Rattle.mx_completion.specs.Completions.{IsValueSpelling}
use Rattle.mx_completion.proofs.CutPairLaws.{ends_in, key_never}
use Rattle.mx_completion.proofs.pairs.next_pair.Goals as goal

pub next_value-requires : goal.next_value-requires
next_value-requires c = let p = rw c.in-Whole.is at c.value_completion.ensures.completes in subst (IsValueSpelling 63) (sym c.split_at.ensures.front) p.stands.1

pub returns-in-Missing : goal.returns-in-Missing
returns-in-Missing c = (ends_in c.args.bytes.now c.in-Missing.least (rw c.in-Missing.is at c.value_completion.ensures.completes), c.any_key.ensures)

pub returns-in-Impossible : goal.returns-in-Impossible
returns-in-Impossible c = key_never c.args.bytes.now (rw c.in-Impossible.is at c.value_completion.ensures.completes)
