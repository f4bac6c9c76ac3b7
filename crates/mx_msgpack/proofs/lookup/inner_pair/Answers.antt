use Rattle.std.proofs.Common.{sym}
use Rattle.mx_msgpack.proofs.PassLaws.{no_key, no_value, pair_after, pair_parts}
use Rattle.mx_msgpack.proofs.lookup.inner_pair.Goals as goal

pub returns-clause-pair : goal.returns-clause-pair
returns-clause-pair c =
    pair_parts c.args.bytes.now c.in_ok-key.behind.now c.in_ok-rest.rest.now c.in_ok-key.key c.split_at.result.0.now c.split_at.result.1.now
    c.in_ok-key.ensures.key (sym c.in_ok-key.ensures.after) (sym c.in_ok-rest.ensures.exact) c.split_at.ensures.front c.split_at.ensures.back

pub returns-clause-after : goal.returns-clause-after
returns-clause-after c =
    pair_after c.args.bytes.now c.in_ok-key.behind.now c.in_ok-rest.rest.now c.split_at.result.1.now (sym c.in_ok-key.ensures.after) (sym c.in_ok-rest.ensures.exact)
    c.split_at.ensures.back

pub returns-in_err-key-clause-after : goal.returns-in_err-key-clause-after
returns-in_err-key-clause-after c = rw c.from_residual.ensures (no_key c.args.bytes.now (sym c.in_err-key.ensures.after))

pub returns-in_err-rest-clause-after : goal.returns-in_err-rest-clause-after
returns-in_err-rest-clause-after c =
    rw c.from_residual-in_err-rest.ensures (no_value c.args.bytes.now c.in_ok-key.behind.now (sym c.in_ok-key.ensures.after) (sym c.in_err-rest.ensures.exact))
